-- A finding of a round that passes has the status that the round's lines say, and no other.
use Rattle.std.proofs.Common.{◌≡◌, ℕ, ◌<◌, true, List, take, Some, slice_get, ⊎_elim, refl, sym, ap, subst, ◌∙◌, arith}
use Rattle.std.specs.List.{Contains}
use Rattle.std.proofs.lemmas.Bool.{cases_order}
use Rattle.std.proofs.lemmas.List.Elements.{All-contains}
use Rattle.std.proofs.lemmas.Option.{same_Some}
use Rattle.tfpg_base.specs.Hypothesis.{Hypothesis}
use Rattle.tfpg_base.proofs.lemmas.lists.Cuts.{slice_get-take}
use Rattle.tfpg_base.proofs.lemmas.lists.Elements.{Contains-at, slice_get-contains, slice_get-same_length}
use Rattle.tfpg_graph.proofs.lemmas.reach.Reaches.{reach_is_one}
use Rattle.tfpg_evidence.specs.declared.finding.Finding.{Finding}
use Rattle.tfpg_evidence.specs.declared.finding.Status.{Status}
use Rattle.tfpg_evidence.specs.declared.finding.Status.TheVariants.{Ranked, Covered, Rejected, Open}
use Rattle.tfpg_evidence.specs.RoundOf.{is_ranked, is_rejected, is_open}
use Rattle.tfpg_hyp.specs.Views.{IsReachOf}
use Rattle.tfpg_hyp.specs.Ranking.{cost_of, robustness_of, IsRankedBefore}
use Rattle.tfpg_hyp.specs.declared.place.Place.{Place}
use Rattle.tfpg_report.specs.declared.read_round.NamedSet.{NamedSet}
use Rattle.tfpg_report.specs.declared.read_round.RankedLine.{RankedLine}
use Rattle.tfpg_report.specs.declared.read_round.ReadRound.{ReadRound}
use Rattle.tfpg_report.specs.ReadRounds.{hypothesis_ranked, hypothesis_named}
use Rattle.tfpg_check.specs.Judging.{RoundBasis, IsNumberOf, IsClosedByRound, IsRankedLine, IsOpenLine, HasRankedPartIn, MayBeOpen, key_read}
use Rattle.tfpg_check.specs.Passing.{RankedPasses, RoundPasses}
use Rattle.tfpg_check.proofs.lemmas.passing.ReadFindings.{Reached, HasRead, HasRankedPartIn-from, IsReadFinding, AreReadFindings, closed_not_partial, status_read}

-- no key is ranked before itself
not_before_itself : (key : Place) → IsRankedBefore key key → ⊥
not_before_itself key before =
    ⊎_elim (λ less. omega (arith, less)) (λ same. ⊎_elim (λ more. omega (arith, more)) (λ as_robust. (let less = as_robust.1 in omega (arith, less))) same.1) before

module _ (basis : RoundBasis) (line : ℕ) (read : ReadRound) (passes : RoundPasses basis line read) where
  -- what passes of a ranked line
  pub ranked_passes : (r : RankedLine) (stands : Contains read.ranked r) → RankedPasses basis read (take stands.0 read.ranked) r
  ranked_passes r stands = passes.ranked stands.0 r (slice_get-contains read.ranked r stands)

  -- and of an open one
  pub open_passes : (named : NamedSet) (stands : Contains read.unsettled named) → MayBeOpen basis read (take stands.0 read.unsettled) named
  open_passes named stands = passes.unsettled stands.0 named (slice_get-contains read.unsettled named stands)

  -- ---- the hypothesis of a number, by its lines

  module _ (number : ℕ) (hypothesis : Hypothesis) (at : IsNumberOf basis number hypothesis) where
    -- the ranked line of the number names it
    pub ranked_names : (r : RankedLine) → Contains read.ranked r → r.number ≡ number → hypothesis_ranked r ≡ hypothesis
    ranked_names r stands numbered =
        same_Some (hypothesis_ranked r) hypothesis (sym (ranked_passes r stands).may.listed ∙ ap (slice_get basis.hypotheses) numbered ∙ at)

    -- so does the open one
    pub open_names : (named : NamedSet) → Contains read.unsettled named → named.number ≡ number → hypothesis_named named ≡ hypothesis
    open_names named stands numbered =
        same_Some (hypothesis_named named) hypothesis (sym (open_passes named stands).listed ∙ ap (slice_get basis.hypotheses) numbered ∙ at)

    -- a ranked one is not closed,
    ranked_not_closed : IsRankedLine read number → IsClosedByRound basis read number → ⊥
    ranked_not_closed ranked closed = (ranked_passes ranked.0 ranked.1).may.not_closed (subst (IsClosedByRound basis read) (sym ranked.2) closed)

    -- and has no ranked proper part
    pub ranked_alone : IsRankedLine read number → HasRankedPartIn basis read hypothesis → ⊥
    ranked_alone ranked part =
        (ranked_passes ranked.0 ranked.1).may.no_part (subst (HasRankedPartIn basis read) (sym (ranked_names ranked.0 ranked.1 ranked.2)) part)

    -- nor is an open one closed,
    open_not_closed : IsOpenLine read number → IsClosedByRound basis read number → ⊥
    open_not_closed unsettled closed = (open_passes unsettled.0 unsettled.1).not_closed (subst (IsClosedByRound basis read) (sym unsettled.2) closed)

    -- ranked,
    open_not_ranked : IsOpenLine read number → IsRankedLine read number → ⊥
    open_not_ranked unsettled ranked = (open_passes unsettled.0 unsettled.1).not_ranked (subst (IsRankedLine read) (sym unsettled.2) ranked)

    -- or has a ranked proper part
    pub open_alone : IsOpenLine read number → HasRankedPartIn basis read hypothesis → ⊥
    open_alone unsettled part =
        (open_passes unsettled.0 unsettled.1).no_part (subst (HasRankedPartIn basis read) (sym (open_names unsettled.0 unsettled.1 unsettled.2)) part)

    -- ---- its finding

    module _ (finding : Finding) (is : IsReadFinding basis read number hypothesis finding) where
      abbrev Own : Reached
      Own = record { number = number; hypothesis = hypothesis; reach = is.reach }

      -- a refutation closes its tree
      closed_by : (status : Status) → HasRead basis read Own status → is_rejected status ≡ true → IsClosedByRound basis read number
      closed_by Rejected has rejected = record { hypothesis = hypothesis; listed = at; reach = is.reach; reach_is = is.reach_is; refutation = has }
      closed_by (Ranked trace cost alarmed monitored) has rejected = cc
      closed_by (Covered by) has rejected = cc
      closed_by Open has rejected = cc

      rejected_by : (status : Status) → HasRead basis read Own status → IsClosedByRound basis read number → is_rejected status ≡ true
      rejected_by Rejected has closed = refl
      rejected_by (Ranked trace cost alarmed monitored) has closed = absurd (closed_not_partial basis read Own at is.reach_is closed has.0)
      rejected_by (Covered by) has closed = absurd (closed_not_partial basis read Own at is.reach_is closed has.0)
      rejected_by Open has closed = absurd (closed_not_partial basis read Own at is.reach_is closed has.0)

      -- It rejects exactly where the tree is closed.
      pub rejected_exactly : (is_rejected finding.status ≡ true → IsClosedByRound basis read number) × (IsClosedByRound basis read number → is_rejected finding.status ≡ true)
      rejected_exactly = (closed_by finding.status is.has, rejected_by finding.status is.has)

      line_by : (status : Status) → HasRead basis read Own status → is_ranked status ≡ true → IsRankedLine read number
      line_by (Ranked trace cost alarmed monitored) has ranked = (has.1.0, has.1.1, has.1.2)
      line_by (Covered by) has ranked = cc
      line_by Rejected has ranked = cc
      line_by Open has ranked = cc

      ranked_by : (status : Status) → HasRead basis read Own status → IsRankedLine read number → is_ranked status ≡ true
      ranked_by (Ranked trace cost alarmed monitored) has ranked = refl
      ranked_by (Covered by) has ranked = absurd (ranked_alone ranked (HasRankedPartIn-from basis read hypothesis by has.2.part))
      ranked_by Rejected has ranked = absurd (ranked_not_closed ranked (closed_by Rejected has refl))
      ranked_by Open has ranked = absurd (open_not_ranked has.1 ranked)

      -- It ranks exactly where there is a ranked line.
      pub ranked_exactly : (is_ranked finding.status ≡ true → IsRankedLine read number) × (IsRankedLine read number → is_ranked finding.status ≡ true)
      ranked_exactly = (line_by finding.status is.has, ranked_by finding.status is.has)

      open_line_by : (status : Status) → HasRead basis read Own status → is_open status ≡ true → IsOpenLine read number
      open_line_by Open has opened = has.1
      open_line_by (Ranked trace cost alarmed monitored) has opened = cc
      open_line_by (Covered by) has opened = cc
      open_line_by Rejected has opened = cc

      open_by : (status : Status) → HasRead basis read Own status → IsOpenLine read number → is_open status ≡ true
      open_by Open has unsettled = refl
      open_by (Ranked trace cost alarmed monitored) has unsettled = absurd (open_not_ranked unsettled (has.1.0, has.1.1, has.1.2))
      open_by (Covered by) has unsettled = absurd (open_alone unsettled (HasRankedPartIn-from basis read hypothesis by has.2.part))
      open_by Rejected has unsettled = absurd (open_not_closed unsettled (closed_by Rejected has refl))

      -- It is open exactly where there is an open line.
      pub open_exactly : (is_open finding.status ≡ true → IsOpenLine read number) × (IsOpenLine read number → is_open finding.status ≡ true)
      open_exactly = (open_line_by finding.status is.has, open_by finding.status is.has)

  -- ---- one line of a number

  -- the key of a ranked line is that of the hypothesis of its number
  key_of_line : (r : RankedLine) (stands : Contains read.ranked r) (number : ℕ) (hypothesis : Hypothesis) (reach : List ℕ) → IsNumberOf basis number hypothesis → r.number ≡ number
      → IsReachOf basis.graph hypothesis reach
      → key_read r ≡ record { cost = cost_of basis.graph hypothesis; robust = robustness_of basis.graph basis.log reach hypothesis.doubts; number = number }
  key_of_line r stands number hypothesis reach at numbered is =
      let may = (ranked_passes r stands).may in
      let names : hypothesis_ranked r ≡ hypothesis = ranked_names number hypothesis at r stands numbered in
      let same_reach : may.reach ≡ reach =
      reach_is_one basis.graph hypothesis.set may.reach (subst (λ (h : Hypothesis). IsReachOf basis.graph h may.reach) names may.reach_is) reach is in
      λ i. record {
        cost = (may.cost ∙ ap (cost_of basis.graph) names) i;
        robust = (sym may.robust ∙ (λ j. robustness_of basis.graph basis.log (same_reach j) (names j).doubts)) i;
        number = numbered i;
      }

  same_key : (one other : RankedLine) → Contains read.ranked one → Contains read.ranked other → one.number ≡ other.number → key_read one ≡ key_read other
  same_key one other stands also same =
      let may = (ranked_passes other also).may in
      key_of_line one stands other.number (hypothesis_ranked other) may.reach may.listed same may.reach_is
      ∙ sym (key_of_line other also other.number (hypothesis_ranked other) may.reach may.listed refl may.reach_is)

  -- no two lines have one number
  pub not_twice : (i j : ℕ) (one other : RankedLine) → i < j → slice_get read.ranked i ≡ Some one → slice_get read.ranked j ≡ Some other → one.number ≡ other.number → ⊥
  not_twice i j one other before at also same =
      let in_order : IsRankedBefore (key_read one) (key_read other) =
      All-contains (λ (earlier : RankedLine). IsRankedBefore (key_read earlier) (key_read other)) (take j read.ranked) one (passes.ranked j other also).may.in_order
      (Contains-at (take j read.ranked) i one (slice_get-take j read.ranked i before ∙ at)) in
      not_before_itself (key_read other)
      (subst (λ (key : Place). IsRankedBefore key (key_read other)) (same_key one other (Contains-at read.ranked i one at) (Contains-at read.ranked j other also) same) in_order)

  -- Of a number there is one ranked line.
  pub one_line : (one other : RankedLine) → Contains read.ranked one → Contains read.ranked other → one.number ≡ other.number → one ≡ other
  one_line one other stands also same =
      let at = slice_get-contains read.ranked one stands in
      let at_other = slice_get-contains read.ranked other also in
      ⊎_elim (λ here. same_Some one other (sym at ∙ ap (slice_get read.ranked) here ∙ at_other))
      (λ apart. ⊎_elim (λ less. absurd (not_twice stands.0 also.0 one other less at at_other same)) (λ more. absurd (not_twice also.0 stands.0 other one more at_other at (sym same))) apart)
      (cases_order stands.0 also.0)

  -- ---- the findings

  module _ (findings : List Finding) (are : AreReadFindings basis read findings) where
    -- the finding of a hypothesis of the table
    pub finding_there : (number : ℕ) (hypothesis : Hypothesis) → IsNumberOf basis number hypothesis
        → (finding : Finding) × (slice_get findings number ≡ Some finding) × IsReadFinding basis read number hypothesis finding
    finding_there number hypothesis at =
        let found = slice_get-same_length findings basis.hypotheses number hypothesis (sym are.as_many) at in
        (found.0, found.1, are.each number hypothesis found.0 at found.1)

    -- the hypothesis of a finding
    pub hypothesis_there : (number : ℕ) (finding : Finding) → slice_get findings number ≡ Some finding
        → (hypothesis : Hypothesis) × IsNumberOf basis number hypothesis × IsReadFinding basis read number hypothesis finding
    hypothesis_there number finding at =
        let listed = slice_get-same_length basis.hypotheses findings number finding are.as_many at in
        (listed.0, listed.1, are.each number listed.0 finding listed.1 at)

    status_by : (r : RankedLine) (stands : Contains read.ranked r) (own : Reached) (status : Status) → own.number ≡ r.number → HasRead basis read own status → is_ranked status ≡ true → status ≡ status_read r
    status_by r stands own (Ranked trace cost alarmed monitored) numbered has ranked =
        has.1.3 ∙ ap status_read (one_line has.1.0 r has.1.1 stands (has.1.2 ∙ numbered))
    status_by r stands own (Covered by) numbered has ranked = cc
    status_by r stands own Rejected numbered has ranked = cc
    status_by r stands own Open numbered has ranked = cc

    -- The finding of the number of a ranked line is on its hypothesis, and has its status.
    pub ranked_finding : (r : RankedLine) (stands : Contains read.ranked r)
        → (finding : Finding) × (slice_get findings r.number ≡ Some finding) × IsReadFinding basis read r.number (hypothesis_ranked r) finding × (finding.status ≡ status_read r)
    ranked_finding r stands =
        let found = finding_there r.number (hypothesis_ranked r) (ranked_passes r stands).may.listed in
        let ranked = (ranked_exactly r.number (hypothesis_ranked r) (ranked_passes r stands).may.listed found.0 found.2).1 (r, stands, refl) in
        (found.0, found.1, found.2, status_by r stands (record { number = r.number; hypothesis = hypothesis_ranked r; reach = found.2.reach }) found.0.status refl found.2.has ranked)
