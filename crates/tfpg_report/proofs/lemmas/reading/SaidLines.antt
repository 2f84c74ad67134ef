-- A line without a set that was read has the words that it was read from.
use Rattle.std.proofs.lemmas.Bool.Decides.{nat_tests}
use Rattle.std.proofs.lemmas.Option.{same_Some}
use Rattle.std.proofs.Common.{◌≡◌, ℕ, ◌<◌, ◌≤◌, ◌==◌, Bool, true, false, cond, List, [], ◌∷◌, ◌++◌, length, Option, Some, None, codes, refl, ap, sym, subst, ◌∙◌, arith}
use Rattle.std.specs.Prelude.{decimal}
use Rattle.std.specs.Str.{bytes_eq}
use Rattle.tfpg_base.specs.declared.limits.TheConstants.{MAX_BUDGET, MAX_DOUBT, MAX_K, MAX_LINE_NUMBER, MAX_PANEL_NUMBER, MAX_TIME}
use Rattle.tfpg_base.proofs.lemmas.lists.SameBytes.{bytes_eq-true}
use Rattle.tfpg_graph.specs.Graph.{Tfpg, name_word}
use Rattle.tfpg_log.specs.declared.refusal.Refusal.{Refusal}
use Rattle.tfpg_log.specs.declared.refusal.Refusal.TheVariants as refusal
use Rattle.tfpg_evidence.specs.declared.clause_name.ClauseName.{ClauseName}
use Rattle.tfpg_evidence.specs.declared.clause_name.ClauseName.TheVariants as clause
use Rattle.tfpg_evidence.specs.declared.reason.Reason.{Reason}
use Rattle.tfpg_evidence.specs.declared.reason.Reason.TheVariants as reason
use Rattle.tfpg_log.specs.declared.refused_line.RefusedLine.{RefusedLine}
use Rattle.tfpg_log.specs.declared.refused_line.RefusedLine.TheVariants as refused
use Rattle.tfpg_report.specs.declared.report_line.ReportLine.{ReportLine}
use Rattle.tfpg_report.specs.declared.report_line.ReportLine.TheVariants as says
use Rattle.tfpg_report.specs.LineWords.{cause_words, clause_words, edge_words, reason_words}
use Rattle.tfpg_report.specs.ReportLines.{IsCauseWithin, IsLineWithin, IsNameWithin, IsReasonWithin, Has32Bits, line_words}
use Rattle.tfpg_report.specs.inside.FirstWords.{edge_first, if_last, node_first, number_first, small_first, number_after, small_after}
use Rattle.tfpg_report.specs.inside.LinesRead.{at_in, block_line_in, cause_in, cause_named, clause_in, counts_in, cycle_in, edge_clause_in, event_reason_in, head_in, hyp_in, loss_in, new_head_in, node_clause_in, node_reason_in, old_head_in, panel_in, pick_in, plain_line_in, quiet_in, reason_in, refusal_named, refused_in, round_in, span_and_horizon, split_in, step_line_in, time_back_in, unreached_in, why_in}
use Rattle.tfpg_report.specs.inside.WordsRead.{HasWords}
use Rattle.tfpg_report.proofs.lemmas.reading.FirstWords.{edge_first-is, if_last-is, made_of, node_first-is, number_after-is, number_first-is, small_after-is, small_first-is, went_on}

-- ---- one step after another

-- a test that decides what is read next
module _ {X : Type 0} (word keyword : List ℕ) (one other : Option X) (read : X) where
  pub either_word : (P : Type 0) → (if_word : word ≡ keyword → one ≡ Some read → P) → (other ≡ Some read → P) → cond (bytes_eq word keyword) one other ≡ Some read → P
  either_word P if_word if_other e = by (bytes_eq word keyword) refl e
    where
      by : (b : Bool) → bytes_eq word keyword ≡ b → cond b one other ≡ Some read → P
      by true is same = if_word (bytes_eq-true word keyword is) same
      by false is same = if_other same

-- ---- causes

-- a refusal that one word names
record IsNamed (name : List ℕ) (why : Refusal) : Type 0 where
  alone : cause_words (refused.Offer why) ≡ name ∷ []
  within : IsCauseWithin (refused.Offer why)

refusal_named-is : (name : List ℕ) (why : Refusal) → refusal_named name ≡ Some why → IsNamed name why
refusal_named-is name why =
    either_word name (codes "BadLine") _ _ why (IsNamed name why) (one refusal.BadLine (codes "BadLine") refl tt)
    (either_word name (codes "BadNumber") _ _ why (IsNamed name why) (one refusal.BadNumber (codes "BadNumber") refl tt)
    (either_word name (codes "TimeTooLarge") _ _ why (IsNamed name why) (one refusal.TimeTooLarge (codes "TimeTooLarge") refl tt)
    (either_word name (codes "UnknownName") _ _ why (IsNamed name why) (one refusal.UnknownName (codes "UnknownName") refl tt)
    (either_word name (codes "NotMonitored") _ _ why (IsNamed name why) (one refusal.NotMonitored (codes "NotMonitored") refl tt)
    (either_word name (codes "NotAMode") _ _ why (IsNamed name why) (one refusal.NotAMode (codes "NotAMode") refl tt)
    (either_word name (codes "LogFull") _ _ why (IsNamed name why) (one refusal.LogFull (codes "LogFull") refl tt)
    (either_word name (codes "ModesFull") _ _ why (IsNamed name why) (one refusal.ModesFull (codes "ModesFull") refl tt) (λ e. absurd cc))))))))
  where
    one : (is : Refusal) (word : List ℕ) → cause_words (refused.Offer is) ≡ word ∷ [] → IsCauseWithin (refused.Offer is) → name ≡ word → Some is ≡ Some why → IsNamed name why
    one is word alone within same e = subst (IsNamed name) (same_Some is why e) (record { alone = alone ∙ ap (λ (w : List ℕ). w ∷ []) (sym same); within = within })

-- The words are those for a cause.
record HasCause (words : List (List ℕ)) (cause : RefusedLine) : Type 0 where
  words_are : words ≡ cause_words cause
  within : IsCauseWithin cause

cause_named-is : (name : List ℕ) (cause : RefusedLine) → cause_named name ≡ Some cause → HasCause (name ∷ []) cause
cause_named-is name cause =
    either_word name (codes "TooLong") _ _ cause (HasCause (name ∷ []) cause)
    (λ same e. subst (HasCause (name ∷ [])) (same_Some refused.TooLong cause e) (record { words_are = ap (λ (w : List ℕ). w ∷ []) same; within = tt }))
    (λ e.
    let why = made_of refused.Offer (refusal_named name) cause e in
    let named = refusal_named-is name why.0 why.1.0 in
    subst (HasCause (name ∷ [])) why.1.1 (record { words_are = sym named.alone; within = named.within }))

time_back-is : (words : List (List ℕ)) (cause : RefusedLine) → time_back_in words ≡ Some cause → HasCause (codes "TimeBack" ∷ words) cause
time_back-is words cause e =
    let last = went_on _ (number_first MAX_TIME words) cause e in
    let time = number_first-is MAX_TIME words last.0 (omega arith) last.1.0 in
    let end = if_last-is last.0.1 (refused.Offer (refusal.TimeBack last.0.0)) cause last.1.1 in
    subst (HasCause (codes "TimeBack" ∷ words)) end.1 (record {
      words_are = ap (λ (ws : List (List ℕ)). codes "TimeBack" ∷ ws) (time.words_are ∙ ap (λ (ws : List (List ℕ)). decimal last.0.0 ∷ ws) end.0);
      within = time.is;
    })

cause-is : (words : List (List ℕ)) (cause : RefusedLine) → cause_in words ≡ Some cause → HasCause words cause
cause-is [] cause e = absurd cc
cause-is (name ∷ words) cause e =
    either_word name (codes "TimeBack") (time_back_in words) _ cause (HasCause (name ∷ words) cause)
    (λ same later. subst (λ (n : List ℕ). HasCause (n ∷ words) cause) (sym same) (time_back-is words cause later))
    (λ later.
    let named = went_on _ (cause_named name) cause later in
    let end = if_last-is words named.0 cause named.1.1 in
    subst (λ (ws : List (List ℕ)). HasCause (name ∷ ws) cause) (sym end.0) (subst (HasCause (name ∷ [])) end.1 (cause_named-is name named.0 named.1.0))) e

-- ---- clauses

-- The words are those for the name of a clause.
record HasClause (graph : Tfpg) (words : List (List ℕ)) (name : ClauseName) : Type 0 where
  words_are : words ≡ clause_words graph name
  within : IsNameWithin graph name

-- a span and a horizon
record HasUntil (words : List (List ℕ)) (until : ℕ × ℕ) : Type 0 where
  words_are : words ≡ decimal until.0 ∷ decimal until.1 ∷ []
  span : Has32Bits until.0
  horizon : until.1 ≤ MAX_TIME

until-is : (words : List (List ℕ)) (until : ℕ × ℕ) → span_and_horizon words ≡ Some until → HasUntil words until
until-is words until e =
    let span = went_on _ (small_first words) until e in
    let first = small_first-is words span.0 span.1.0 in
    let horizon = went_on _ (number_first MAX_TIME span.0.1) until span.1.1 in
    let second = number_first-is MAX_TIME span.0.1 horizon.0 (omega arith) horizon.1.0 in
    let end = if_last-is horizon.0.1 (span.0.0, horizon.0.0) until horizon.1.1 in
    subst (HasUntil words) end.1 (record {
      words_are = first.words_are ∙ ap (λ (ws : List (List ℕ)). decimal span.0.0 ∷ ws) (second.words_are ∙ ap (λ (ws : List (List ℕ)). decimal horizon.0.0 ∷ ws) end.0);
      span = first.is;
      horizon = second.is;
    })

module _ (graph : Tfpg) where
  -- a clause of a node
  node_clause-is : (keyword : List ℕ) (named : ℕ → ℕ → ℕ → ClauseName) → ((node span horizon : ℕ) → clause_words graph (named node span horizon) ≡ keyword ∷ name_word graph node ∷ decimal span ∷ decimal horizon ∷ [])
      → ((node span horizon : ℕ) → node < length graph.nodes → Has32Bits span → horizon ≤ MAX_TIME → IsNameWithin graph (named node span horizon))
      → (words : List (List ℕ)) (name : ClauseName) → node_clause_in named graph words ≡ Some name → HasClause graph (keyword ∷ words) name
  node_clause-is keyword named spelled all words name e =
      let node = went_on _ (node_first graph words) name e in
      let first = node_first-is graph words node.0 node.1.0 in
      let until = made_of _ (span_and_horizon node.0.1) name node.1.1 in
      let rest = until-is node.0.1 until.0 until.1.0 in
      subst (HasClause graph (keyword ∷ words)) until.1.1 (record {
        words_are = ap (λ (ws : List (List ℕ)). keyword ∷ ws) (first.words_are ∙ ap (λ (ws : List (List ℕ)). name_word graph node.0.0 ∷ ws) rest.words_are)
            ∙ sym (spelled node.0.0 until.0.0 until.0.1);
        within = all node.0.0 until.0.0 until.0.1 first.is rest.span rest.horizon;
      })

  -- and of an edge
  edge_clause-is : (keyword : List ℕ) (named : ℕ → ℕ → ℕ → ClauseName) → ((edge span horizon : ℕ) → clause_words graph (named edge span horizon) ≡ keyword ∷ edge_words graph edge ++ decimal span ∷ decimal horizon ∷ [])
      → ((edge span horizon : ℕ) → edge < length graph.edges → Has32Bits span → horizon ≤ MAX_TIME → IsNameWithin graph (named edge span horizon))
      → (words : List (List ℕ)) (name : ClauseName) → edge_clause_in named graph words ≡ Some name → HasClause graph (keyword ∷ words) name
  edge_clause-is keyword named spelled all words name e =
      let edge = went_on _ (edge_first graph words) name e in
      let first = edge_first-is graph words edge.0 edge.1.0 in
      let until = made_of _ (span_and_horizon edge.0.1) name edge.1.1 in
      let rest = until-is edge.0.1 until.0 until.1.0 in
      subst (HasClause graph (keyword ∷ words)) until.1.1 (record {
        words_are = ap (λ (ws : List (List ℕ)). keyword ∷ ws) (first.words_are ∙ ap (λ (ws : List (List ℕ)). edge_words graph edge.0.0 ++ ws) rest.words_are)
            ∙ sym (spelled edge.0.0 until.0.0 until.0.1);
        within = all edge.0.0 until.0.0 until.0.1 first.is rest.span rest.horizon;
      })

  clause-is : (words : List (List ℕ)) (name : ClauseName) → clause_in graph words ≡ Some name → HasClause graph words name
  clause-is [] name e = absurd cc
  clause-is (kind ∷ words) name e =
      either_word kind (codes "ormay") _ _ name (HasClause graph (kind ∷ words) name)
      (λ same later. at (codes "ormay") same (node_clause-is (codes "ormay") clause.OrMay (λ n s h. refl) (λ n s h node span horizon. (node, span, horizon)) words name later))
      (either_word kind (codes "andmay") _ _ name (HasClause graph (kind ∷ words) name)
      (λ same later. at (codes "andmay") same (edge_clause-is (codes "andmay") clause.AndMay (λ n s h. refl) (λ n s h edge span horizon. (edge, span, horizon)) words name later))
      (either_word kind (codes "ormust") _ _ name (HasClause graph (kind ∷ words) name)
      (λ same later. at (codes "ormust") same (edge_clause-is (codes "ormust") clause.OrMust (λ n s h. refl) (λ n s h edge span horizon. (edge, span, horizon)) words name later))
      (either_word kind (codes "andmust") _ _ name (HasClause graph (kind ∷ words) name)
      (λ same later. at (codes "andmust") same (node_clause-is (codes "andmust") clause.AndMust (λ n s h. refl) (λ n s h node span horizon. (node, span, horizon)) words name later))
      (λ none. absurd cc)))) e
    where
      at : (keyword : List ℕ) → kind ≡ keyword → HasClause graph (keyword ∷ words) name → HasClause graph (kind ∷ words) name
      at keyword same has = subst (λ (k : List ℕ). HasClause graph (k ∷ words) name) (sym same) has

  -- ---- reasons

  -- The words are those for a reason.
  record HasReason (words : List (List ℕ)) (why : Reason) : Type 0 where
    words_are : words ≡ reason_words graph why
    within : IsReasonWithin graph why

  node_reason-is : (keyword : List ℕ) (named : ℕ → Reason) → ((node : ℕ) → reason_words graph (named node) ≡ keyword ∷ name_word graph node ∷ [])
      → ((node : ℕ) → node < length graph.nodes → IsReasonWithin graph (named node)) → (words : List (List ℕ)) (why : Reason) → node_reason_in named graph words ≡ Some why → HasReason (keyword ∷ words) why
  node_reason-is keyword named spelled all words why e =
      let node = went_on _ (node_first graph words) why e in
      let first = node_first-is graph words node.0 node.1.0 in
      let end = if_last-is node.0.1 (named node.0.0) why node.1.1 in
      subst (HasReason (keyword ∷ words)) end.1 (record {
        words_are = ap (λ (ws : List (List ℕ)). keyword ∷ ws) (first.words_are ∙ ap (λ (ws : List (List ℕ)). name_word graph node.0.0 ∷ ws) end.0) ∙ sym (spelled node.0.0);
        within = all node.0.0 first.is;
      })

  event_reason-is : (keyword : List ℕ) (named : ℕ → Reason) → ((event : ℕ) → reason_words graph (named event) ≡ keyword ∷ decimal event ∷ [])
      → ((event : ℕ) → Has32Bits event → IsReasonWithin graph (named event)) → (words : List (List ℕ)) (why : Reason) → event_reason_in named words ≡ Some why → HasReason (keyword ∷ words) why
  event_reason-is keyword named spelled all words why e =
      let event = went_on _ (small_first words) why e in
      let first = small_first-is words event.0 event.1.0 in
      let end = if_last-is event.0.1 (named event.0.0) why event.1.1 in
      subst (HasReason (keyword ∷ words)) end.1 (record {
        words_are = ap (λ (ws : List (List ℕ)). keyword ∷ ws) (first.words_are ∙ ap (λ (ws : List (List ℕ)). decimal event.0.0 ∷ ws) end.0) ∙ sym (spelled event.0.0);
        within = all event.0.0 first.is;
      })

  pick-is : (words : List (List ℕ)) (why : Reason) → pick_in words ≡ Some why → HasReason (codes "pick" ∷ words) why
  pick-is words why e =
      let split = went_on _ (number_first MAX_LINE_NUMBER words) why e in
      let first = number_first-is MAX_LINE_NUMBER words split.0 (omega arith) split.1.0 in
      let constraint = went_on _ (small_first split.0.1) why split.1.1 in
      let second = small_first-is split.0.1 constraint.0 constraint.1.0 in
      let end = if_last-is constraint.0.1 (reason.Pick split.0.0 constraint.0.0) why constraint.1.1 in
      subst (HasReason (codes "pick" ∷ words)) end.1 (record {
        words_are = ap (λ (ws : List (List ℕ)). codes "pick" ∷ ws)
            (first.words_are ∙ ap (λ (ws : List (List ℕ)). decimal split.0.0 ∷ ws) (second.words_are ∙ ap (λ (ws : List (List ℕ)). decimal constraint.0.0 ∷ ws) end.0));
        within = (first.is, second.is);
      })

  quiet-is : (words : List (List ℕ)) (why : Reason) → quiet_in graph words ≡ Some why → HasReason (codes "quiet" ∷ words) why
  quiet-is words why e =
      let event = went_on _ (small_first words) why e in
      let first = small_first-is words event.0 event.1.0 in
      let node = went_on _ (node_first graph event.0.1) why event.1.1 in
      let second = node_first-is graph event.0.1 node.0 node.1.0 in
      let end = if_last-is node.0.1 (reason.Quiet event.0.0 node.0.0) why node.1.1 in
      subst (HasReason (codes "quiet" ∷ words)) end.1 (record {
        words_are = ap (λ (ws : List (List ℕ)). codes "quiet" ∷ ws)
            (first.words_are ∙ ap (λ (ws : List (List ℕ)). decimal event.0.0 ∷ ws) (second.words_are ∙ ap (λ (ws : List (List ℕ)). name_word graph node.0.0 ∷ ws) end.0));
        within = (first.is, second.is);
      })

  unreached-is : (words : List (List ℕ)) (why : Reason) → unreached_in graph words ≡ Some why → HasReason (codes "unreached" ∷ words) why
  unreached-is words why e =
      let node = went_on _ (node_first graph words) why e in
      let first = node_first-is graph words node.0 node.1.0 in
      let horizon = went_on _ (number_first MAX_TIME node.0.1) why node.1.1 in
      let second = number_first-is MAX_TIME node.0.1 horizon.0 (omega arith) horizon.1.0 in
      let end = if_last-is horizon.0.1 (reason.Unreached node.0.0 horizon.0.0) why horizon.1.1 in
      subst (HasReason (codes "unreached" ∷ words)) end.1 (record {
        words_are = ap (λ (ws : List (List ℕ)). codes "unreached" ∷ ws)
            (first.words_are ∙ ap (λ (ws : List (List ℕ)). name_word graph node.0.0 ∷ ws) (second.words_are ∙ ap (λ (ws : List (List ℕ)). decimal horizon.0.0 ∷ ws) end.0));
        within = (first.is, second.is);
      })

  reason-is : (words : List (List ℕ)) (why : Reason) → reason_in graph words ≡ Some why → HasReason words why
  reason-is [] why e = absurd cc
  reason-is (kind ∷ words) why e =
      either_word kind (codes "from") _ _ why (HasReason (kind ∷ words) why)
      (λ same later. at (codes "from") same (event_reason-is (codes "from") reason.From (λ n. refl) (λ n event. event) words why later))
      (either_word kind (codes "upto") _ _ why (HasReason (kind ∷ words) why)
      (λ same later. at (codes "upto") same (event_reason-is (codes "upto") reason.Upto (λ n. refl) (λ n event. event) words why later))
      (either_word kind (codes "pick") _ _ why (HasReason (kind ∷ words) why) (λ same later. at (codes "pick") same (pick-is words why later))
      (either_word kind (codes "quiet") _ _ why (HasReason (kind ∷ words) why) (λ same later. at (codes "quiet") same (quiet-is words why later))
      (either_word kind (codes "unreached") _ _ why (HasReason (kind ∷ words) why) (λ same later. at (codes "unreached") same (unreached-is words why later))
      (either_word kind (codes "zero") _ _ why (HasReason (kind ∷ words) why)
      (λ same later. at (codes "zero") same (node_reason-is (codes "zero") reason.Zero (λ n. refl) (λ n node. node) words why later))
      (either_word kind (codes "top") _ _ why (HasReason (kind ∷ words) why)
      (λ same later. at (codes "top") same (node_reason-is (codes "top") reason.Top (λ n. refl) (λ n node. node) words why later))
      (λ none. absurd cc))))))) e
    where
      at : (keyword : List ℕ) → kind ≡ keyword → HasReason (keyword ∷ words) why → HasReason (kind ∷ words) why
      at keyword same has = subst (λ (k : List ℕ). HasReason (k ∷ words) why) (sym same) has

-- ---- lines

module _ (graph : Tfpg) where
  -- a line that was made of what was read
  made : (words : List (List ℕ)) (line read : ReportLine) → line ≡ read → words ≡ line_words graph line → IsLineWithin graph line → HasWords graph words read
  made words line read same words_are within = subst (HasWords graph words) same (record { words_are = words_are; within = within })

  -- the words after the number that they begin with
  onto : (number : ℕ) (words others : List (List ℕ)) → words ≡ others → decimal number ∷ words ≡ decimal number ∷ others
  onto number words others same = ap (λ (ws : List (List ℕ)). decimal number ∷ ws) same

  -- and after a word and a number
  onto_both : (word : List ℕ) (number : ℕ) (words others : List (List ℕ)) → words ≡ others → word ∷ decimal number ∷ words ≡ word ∷ decimal number ∷ others
  onto_both word number words others same = ap (λ (ws : List (List ℕ)). word ∷ decimal number ∷ ws) same

  -- ---- those that begin or end a block

  round-is : (words : List (List ℕ)) (line : ReportLine) → round_in words ≡ Some line → HasWords graph (codes "round" ∷ words) line
  round-is words line e =
      let number = went_on _ (small_first words) line e in
      let first = small_first-is words number.0 number.1.0 in
      let at = went_on _ (number_first MAX_LINE_NUMBER number.0.1) line number.1.1 in
      let second = number_first-is MAX_LINE_NUMBER number.0.1 at.0 (omega arith) at.1.0 in
      let now = went_on _ (number_first MAX_TIME at.0.1) line at.1.1 in
      let third = number_first-is MAX_TIME at.0.1 now.0 (omega arith) now.1.0 in
      let said = says.Round number.0.0 at.0.0 now.0.0 in
      let end = if_last-is now.0.1 said line now.1.1 in
      made (codes "round" ∷ words) said line end.1
      (ap (λ (ws : List (List ℕ)). codes "round" ∷ ws)
      (first.words_are ∙ onto number.0.0 number.0.1 _ (second.words_are ∙ onto at.0.0 at.0.1 _ (third.words_are ∙ onto now.0.0 now.0.1 _ end.0))))
      (first.is, second.is, third.is)

  counts-is : (words : List (List ℕ)) (line : ReportLine) → counts_in words ≡ Some line → HasWords graph (codes "counts" ∷ words) line
  counts-is words line e =
      let ranked = went_on _ (small_after (codes "ranked") words) line e in
      let first = small_after-is (codes "ranked") words ranked.0 ranked.1.0 in
      let covered = went_on _ (small_after (codes "covered") ranked.0.1) line ranked.1.1 in
      let second = small_after-is (codes "covered") ranked.0.1 covered.0 covered.1.0 in
      let rejected = went_on _ (small_after (codes "rejected") covered.0.1) line covered.1.1 in
      let third = small_after-is (codes "rejected") covered.0.1 rejected.0 rejected.1.0 in
      let unsettled = went_on _ (small_after (codes "open") rejected.0.1) line rejected.1.1 in
      let fourth = small_after-is (codes "open") rejected.0.1 unsettled.0 unsettled.1.0 in
      let said = says.Counts (record { ranked = ranked.0.0; covered = covered.0.0; rejected = rejected.0.0; unsettled = unsettled.0.0 }) in
      let end = if_last-is unsettled.0.1 said line unsettled.1.1 in
      made (codes "counts" ∷ words) said line end.1
      (ap (λ (ws : List (List ℕ)). codes "counts" ∷ ws)
      (first.words_are
      ∙ onto_both (codes "ranked") ranked.0.0 ranked.0.1 _
      (second.words_are
      ∙ onto_both (codes "covered") covered.0.0 covered.0.1 _
      (third.words_are
      ∙ onto_both (codes "rejected") rejected.0.0 rejected.0.1 _
      (fourth.words_are ∙ onto_both (codes "open") unsettled.0.0 unsettled.0.1 _ end.0)))))
      (first.is, second.is, third.is, fourth.is)

  -- whether memory ran out for a panel
  loss-is : (words : List (List ℕ)) (memory : Bool) → loss_in words ≡ Some memory → words ≡ cond memory (codes "memory") (codes "lost") ∷ []
  loss-is [] memory e = absurd cc
  loss-is (word ∷ words) memory e =
      either_word word (codes "lost") _ _ memory (word ∷ words ≡ cond memory (codes "memory") (codes "lost") ∷ []) (one (codes "lost") false refl)
      (either_word word (codes "memory") _ _ memory (word ∷ words ≡ cond memory (codes "memory") (codes "lost") ∷ []) (one (codes "memory") true refl) (λ none. absurd cc)) e
    where
      one : (keyword : List ℕ) (said : Bool) → cond said (codes "memory") (codes "lost") ≡ keyword → word ≡ keyword → if_last words said ≡ Some memory
          → word ∷ words ≡ cond memory (codes "memory") (codes "lost") ∷ []
      one keyword said is same later =
          let end = if_last-is words said memory later in
          (λ i. same i ∷ end.0 i) ∙ ap (λ (w : List ℕ). w ∷ []) (sym is ∙ ap (λ (b : Bool). cond b (codes "memory") (codes "lost")) end.1)

  panel-is : (words : List (List ℕ)) (line : ReportLine) → panel_in words ≡ Some line → HasWords graph (codes "panel" ∷ words) line
  panel-is words line e =
      let panel = went_on _ (number_first MAX_PANEL_NUMBER words) line e in
      let first = number_first-is MAX_PANEL_NUMBER words panel.0 (omega arith) panel.1.0 in
      let loss = made_of (says.Panel panel.0.0) (loss_in panel.0.1) line panel.1.1 in
      made (codes "panel" ∷ words) (says.Panel panel.0.0 loss.0) line loss.1.1
      (ap (λ (ws : List (List ℕ)). codes "panel" ∷ ws) (first.words_are ∙ onto panel.0.0 panel.0.1 _ (loss-is panel.0.1 loss.0 loss.1.0))) first.is

  refused-is : (words : List (List ℕ)) (line : ReportLine) → refused_in words ≡ Some line → HasWords graph (codes "refused" ∷ words) line
  refused-is words line e =
      let at = went_on _ (number_first MAX_LINE_NUMBER words) line e in
      let first = number_first-is MAX_LINE_NUMBER words at.0 (omega arith) at.1.0 in
      let cause = made_of (says.Refused at.0.0) (cause_in at.0.1) line at.1.1 in
      let rest = cause-is at.0.1 cause.0 cause.1.0 in
      made (codes "refused" ∷ words) (says.Refused at.0.0 cause.0) line cause.1.1
      (ap (λ (ws : List (List ℕ)). codes "refused" ∷ ws) (first.words_are ∙ onto at.0.0 at.0.1 _ rest.words_are)) (first.is, rest.within)

  -- a budget that is there
  budget-is : (words : List (List ℕ)) (budget : ℕ) (said line : ReportLine) → cond (budget == 0) None (if_last words said) ≡ Some line → (1 ≤ budget) × ((words ≡ []) × (said ≡ line))
  budget-is words budget said line e = by (budget == 0) refl e
    where
      by : (b : Bool) → (budget == 0) ≡ b → cond b None (if_last words said) ≡ Some line → (1 ≤ budget) × ((words ≡ []) × (said ≡ line))
      by true is same = absurd cc
      by false is same = (grind (arith, nat_tests), if_last-is words said line same)

  new_head-is : (words : List (List ℕ)) (line : ReportLine) → new_head_in words ≡ Some line → HasWords graph (codes "report" ∷ codes "2" ∷ words) line
  new_head-is words line e =
      let k = went_on _ (number_after (codes "k") MAX_K words) line e in
      let first = number_after-is (codes "k") MAX_K words k.0 (omega arith) k.1.0 in
      let doubt = went_on _ (number_after (codes "doubt") MAX_DOUBT k.0.1) line k.1.1 in
      let second = number_after-is (codes "doubt") MAX_DOUBT k.0.1 doubt.0 (omega arith) doubt.1.0 in
      let budget = went_on _ (number_after (codes "budget") MAX_BUDGET doubt.0.1) line doubt.1.1 in
      let third = number_after-is (codes "budget") MAX_BUDGET doubt.0.1 budget.0 (omega arith) budget.1.0 in
      let said = says.Head (record { k = k.0.0; doubt = doubt.0.0; budget = budget.0.0 }) in
      let end = budget-is budget.0.1 budget.0.0 said line budget.1.1 in
      made (codes "report" ∷ codes "2" ∷ words) said line end.1.1
      (ap (λ (ws : List (List ℕ)). codes "report" ∷ codes "2" ∷ ws)
      (first.words_are
      ∙ onto_both (codes "k") k.0.0 k.0.1 _
      (second.words_are
      ∙ onto_both (codes "doubt") doubt.0.0 doubt.0.1 _
      (third.words_are ∙ onto_both (codes "budget") budget.0.0 budget.0.1 _ end.1.0))))
      (record { few_members = first.is; few_doubts = second.is; some_splits = end.0; few_splits = third.is })

  old_head-is : (words : List (List ℕ)) (line : ReportLine) → old_head_in words ≡ Some line → HasWords graph (codes "report" ∷ codes "1" ∷ words) line
  old_head-is words line e =
      let k = went_on _ (number_after (codes "k") MAX_K words) line e in
      let first = number_after-is (codes "k") MAX_K words k.0 (omega arith) k.1.0 in
      let budget = went_on _ (number_after (codes "budget") MAX_BUDGET k.0.1) line k.1.1 in
      let third = number_after-is (codes "budget") MAX_BUDGET k.0.1 budget.0 (omega arith) budget.1.0 in
      let said = says.OldHead k.0.0 budget.0.0 in
      let end = budget-is budget.0.1 budget.0.0 said line budget.1.1 in
      made (codes "report" ∷ codes "1" ∷ words) said line end.1.1
      (ap (λ (ws : List (List ℕ)). codes "report" ∷ codes "1" ∷ ws)
      (first.words_are
      ∙ onto_both (codes "k") k.0.0 k.0.1 _
      (third.words_are ∙ onto_both (codes "budget") budget.0.0 budget.0.1 _ end.1.0)))
      (record { few_members = first.is; few_doubts = omega arith; some_splits = end.0; few_splits = third.is })

  -- with the keyword that was tested
  at_keyword : (keyword word : List ℕ) (words : List (List ℕ)) (line : ReportLine) → word ≡ keyword → HasWords graph (keyword ∷ words) line → HasWords graph (word ∷ words) line
  at_keyword keyword word words line same has = subst (λ (w : List ℕ). HasWords graph (w ∷ words) line) (sym same) has

  head-is : (words : List (List ℕ)) (line : ReportLine) → head_in words ≡ Some line → HasWords graph (codes "report" ∷ words) line
  head-is [] line e = absurd cc
  head-is (version ∷ words) line e =
      either_word version (codes "2") _ _ line (HasWords graph (codes "report" ∷ version ∷ words) line) (λ same later. of (codes "2") same (new_head-is words line later))
      (either_word version (codes "1") _ _ line (HasWords graph (codes "report" ∷ version ∷ words) line) (λ same later. of (codes "1") same (old_head-is words line later)) (λ none. absurd cc)) e
    where
      of : (word : List ℕ) → version ≡ word → HasWords graph (codes "report" ∷ word ∷ words) line → HasWords graph (codes "report" ∷ version ∷ words) line
      of word same has = subst (λ (w : List ℕ). HasWords graph (codes "report" ∷ w ∷ words) line) (sym same) has

  block_line-is : (keyword : List ℕ) (words : List (List ℕ)) (line : ReportLine) → block_line_in keyword words ≡ Some line → HasWords graph (keyword ∷ words) line
  block_line-is keyword words line =
      either_word keyword (codes "refused") _ _ line (HasWords graph (keyword ∷ words) line) (λ same e. at_keyword _ keyword words line same (refused-is words line e))
      (either_word keyword (codes "round") _ _ line (HasWords graph (keyword ∷ words) line) (λ same e. at_keyword _ keyword words line same (round-is words line e))
      (either_word keyword (codes "counts") _ _ line (HasWords graph (keyword ∷ words) line) (λ same e. at_keyword _ keyword words line same (counts-is words line e))
      (either_word keyword (codes "panel") _ _ line (HasWords graph (keyword ∷ words) line) (λ same e. at_keyword _ keyword words line same (panel-is words line e))
      (either_word keyword (codes "report") _ _ line (HasWords graph (keyword ∷ words) line) (λ same e. at_keyword _ keyword words line same (head-is words line e))
      (λ none. absurd cc)))))

  -- ---- the others

  hyp-is : (words : List (List ℕ)) (line : ReportLine) → hyp_in words ≡ Some line → HasWords graph (codes "hyp" ∷ words) line
  hyp-is words line e =
      let number = went_on _ (small_first words) line e in
      let first = small_first-is words number.0 number.1.0 in
      let end = if_last-is number.0.1 (says.Hyp number.0.0) line number.1.1 in
      made (codes "hyp" ∷ words) (says.Hyp number.0.0) line end.1 (ap (λ (ws : List (List ℕ)). codes "hyp" ∷ ws) (first.words_are ∙ onto number.0.0 number.0.1 _ end.0)) first.is

  cycle-is : (words : List (List ℕ)) (line : ReportLine) → cycle_in words ≡ Some line → HasWords graph (codes "cycle" ∷ words) line
  cycle-is words line e =
      let count = went_on _ (small_first words) line e in
      let first = small_first-is words count.0 count.1.0 in
      let end = if_last-is count.0.1 (says.Cycle count.0.0) line count.1.1 in
      made (codes "cycle" ∷ words) (says.Cycle count.0.0) line end.1 (ap (λ (ws : List (List ℕ)). codes "cycle" ∷ ws) (first.words_are ∙ onto count.0.0 count.0.1 _ end.0)) first.is

  again-is : (words : List (List ℕ)) (line : ReportLine) → if_last words says.Again ≡ Some line → HasWords graph (codes "again" ∷ words) line
  again-is words line e =
      let end = if_last-is words says.Again line e in
      made (codes "again" ∷ words) says.Again line end.1 (ap (λ (ws : List (List ℕ)). codes "again" ∷ ws) end.0) tt

  split-is : (words : List (List ℕ)) (line : ReportLine) → split_in graph words ≡ Some line → HasWords graph (codes "split" ∷ words) line
  split-is words line e =
      let name = made_of says.Split (clause_in graph words) line e in
      let has = clause-is graph words name.0 name.1.0 in
      made (codes "split" ∷ words) (says.Split name.0) line name.1.1 (ap (λ (ws : List (List ℕ)). codes "split" ∷ ws) has.words_are) has.within

  why-is : (words : List (List ℕ)) (line : ReportLine) → why_in graph words ≡ Some line → HasWords graph (codes "why" ∷ words) line
  why-is words line e =
      let why = made_of says.Why (reason_in graph words) line e in
      let has = reason-is graph words why.0 why.1.0 in
      made (codes "why" ∷ words) (says.Why why.0) line why.1.1 (ap (λ (ws : List (List ℕ)). codes "why" ∷ ws) has.words_are) has.within

  at-is : (words : List (List ℕ)) (line : ReportLine) → at_in graph words ≡ Some line → HasWords graph (codes "at" ∷ words) line
  at-is words line e =
      let node = went_on _ (node_first graph words) line e in
      let first = node_first-is graph words node.0 node.1.0 in
      let time = went_on _ (number_first MAX_TIME node.0.1) line node.1.1 in
      let second = number_first-is MAX_TIME node.0.1 time.0 (omega arith) time.1.0 in
      let said = says.At (record { node = node.0.0; time = time.0.0 }) in
      let end = if_last-is time.0.1 said line time.1.1 in
      made (codes "at" ∷ words) said line end.1
      (ap (λ (ws : List (List ℕ)). codes "at" ∷ ws)
      (first.words_are ∙ ap (λ (ws : List (List ℕ)). name_word graph node.0.0 ∷ ws) (second.words_are ∙ onto time.0.0 time.0.1 _ end.0)))
      (first.is, second.is)

  step_line-is : (keyword : List ℕ) (words : List (List ℕ)) (line : ReportLine) → step_line_in graph keyword words ≡ Some line → HasWords graph (keyword ∷ words) line
  step_line-is keyword words line =
      either_word keyword (codes "why") _ _ line (HasWords graph (keyword ∷ words) line) (λ same e. at_keyword _ keyword words line same (why-is words line e))
      (either_word keyword (codes "cycle") _ _ line (HasWords graph (keyword ∷ words) line) (λ same e. at_keyword _ keyword words line same (cycle-is words line e))
      (either_word keyword (codes "split") _ _ line (HasWords graph (keyword ∷ words) line) (λ same e. at_keyword _ keyword words line same (split-is words line e))
      (either_word keyword (codes "again") _ _ line (HasWords graph (keyword ∷ words) line) (λ same e. at_keyword _ keyword words line same (again-is words line e))
      (either_word keyword (codes "hyp") _ _ line (HasWords graph (keyword ∷ words) line) (λ same e. at_keyword _ keyword words line same (hyp-is words line e))
      (block_line-is keyword words line)))))

  -- A line without a set that was read has these words.
  pub plain_line-is : (keyword : List ℕ) (words : List (List ℕ)) (line : ReportLine) → plain_line_in graph keyword words ≡ Some line → HasWords graph (keyword ∷ words) line
  plain_line-is keyword words line =
      either_word keyword (codes "at") _ _ line (HasWords graph (keyword ∷ words) line) (λ same e. at_keyword _ keyword words line same (at-is words line e))
      (step_line-is keyword words line)
