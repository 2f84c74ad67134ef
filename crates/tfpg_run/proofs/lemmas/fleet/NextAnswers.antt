-- The answers with one answer more.
use Rattle.std.proofs.Common.{◌≡◌, ◌≢◌, ℕ, ◌+◌, ◌<◌, ◌==◌, Bool, true, false, cond, List, [], ◌∷◌, ◌++◌, length, set, Option, Some, None, Ok, refl, sym, ap, subst, subst₂, ◌∙◌, arith, replicate, get_or, length-append}
use Rattle.std.specs.Prelude.{◌-◌, All, codes, decimal, flat_map, option_map, slice_get}
use Rattle.std.specs.Option.{option_map_or}
use Rattle.std.specs.Bool.{then_some}
use Rattle.std.proofs.lemmas.Bool.{eqb-true, eq-eqb, false≢true, lt-ltb}
use Rattle.tfpg_base.specs.TextLine.{text_line}
use Rattle.tfpg_base.specs.Lines.{is_too_long}
use Rattle.tfpg_base.specs.declared.limits.TheConstants.{LONGEST_LINE}
use Rattle.std.proofs.lemmas.List.{append-nil, length-replicate, length-set, map-append}
use Rattle.std.proofs.lemmas.List.Elements.{All-replicate}
use Rattle.std.proofs.lemmas.Option.{same_Some, slice_get_within}
use Rattle.tfpg_base.specs.Choice.{last_of}
use Rattle.tfpg_base.proofs.lemmas.lists.Elements.{All-at}
use Rattle.tfpg_base.proofs.lemmas.lists.Valued.{filter_map-push_none, filter_map-push_some}
use Rattle.tfpg_base.proofs.lemmas.lists.Written.{slice_get-set_other, slice_get-set_same, slice_get-push_at}
use Rattle.tfpg_base.specs.declared.terms.Terms.{Terms}
use Rattle.tfpg_graph.specs.Graph.{Tfpg, failures}
use Rattle.tfpg_graph.specs.Valid.{IsValid}
use Rattle.tfpg_evidence.specs.declared.round.Round.{Round}
use Rattle.tfpg_engine.specs.EngineState.{CountsCalls}
use Rattle.tfpg_engine.specs.declared.told.Told.{Told}
use Rattle.tfpg_engine.specs.declared.told.Told.TheVariants as told
use Rattle.tfpg_fleet.specs.declared.fleet_told.FleetTold.{FleetTold}
use Rattle.tfpg_fleet.specs.declared.fleet_told.FleetTold.TheVariants.{Stray, Of}
use Rattle.tfpg_fleet.specs.Belonging.{addressee, belongs, lines_for, vehicle_line}
use Rattle.tfpg_fleet.specs.FleetState.{FleetBrings, FleetCounts, FleetRepresents, FleetState, IsToldTo, names_of, rounds_after, rounds_with}
use Rattle.tfpg_fleet.proofs.lemmas.FleetTells.{represents_stray}
use Rattle.tfpg_fleet.proofs.lemmas.LinesFor.{lines-other, lines-own, lines-stray}
use Rattle.tfpg_report.specs.Blocks.{Block}
use Rattle.tfpg_check.specs.Report.{IsBlock, progress_of, rounds_of}
use Rattle.tfpg_run.specs.declared.fleet.watch.Watch.{Watch}
use Rattle.tfpg_diagnose.specs.RightReport.{BlockSays}
use Rattle.tfpg_diagnose.specs.TellsPanels.{losses_in}
use Rattle.tfpg_run.specs.fleet.Answers.{Answer, OwnBlock, StrayLine, block_for, blocks_for, naming_text, vehicle_of}
use Rattle.tfpg_run.specs.fleet.Counting.{is_in, ranks}
use Rattle.tfpg_run.specs.fleet.FleetOutput.{FleetProblem, rounds_for}
use Rattle.tfpg_run.specs.inside.fleet.UnderWay.{Answers, AreOwnBlocks, HasAnswered, IsKept, KeepsLast, answer_turn, told_text}
use Rattle.tfpg_diagnose.proofs.lemmas.NextBlocks.{AreBlocks-none, AreBlocks-push, RoundsSay-none, RoundsSay-push}
use Rattle.tfpg_diagnose.proofs.lemmas.ToldBlocks.{flat_map-push}
use Rattle.tfpg_run.proofs.lemmas.fleet.OwnBlocks.{RoundLaws, own_block, own_number, own_within, its_line}
use Rattle.tfpg_run.proofs.lemmas.fleet.FleetCalls.{answers_within-own, answers_within-stray}

-- the last of a list with one item more
last_pushed : {X : Type 0} (xs : List X) (x : X) → last_of (xs ++ x ∷ []) ≡ Some x
last_pushed xs x = slice_get-push_at xs x (length (xs ++ x ∷ []) - 1) (omega (arith, length-append xs (x ∷ [])))

-- ---- a stray line

-- a line that is too long is stray
pub long_stray : (names : List (List ℕ)) (line : List ℕ) → LONGEST_LINE < length line → belongs names line ≡ None
long_stray names line lt = let long : is_too_long line ≡ true = lt-ltb _ _ lt in rw long refl

module _ (fleet : FleetProblem) (lines : List (List ℕ)) (answers : List Answer) (watch later : Watch) (so_far : HasAnswered fleet lines answers watch) (text : List ℕ) where
  stray_blocks : (number : ℕ) → blocks_for number (answers ++ StrayLine ∷ []) ≡ blocks_for number answers
  stray_blocks number = filter_map-push_none (block_for number) answers StrayLine refl

  stray_rounds : (number : ℕ) → rounds_for number answers ≡ rounds_for number (answers ++ StrayLine ∷ [])
  stray_rounds number = ap (flat_map rounds_of) (sym (stray_blocks number))

  module _ (none : belongs fleet.names text ≡ None) (same_fleet : later.fleet ≡ watch.fleet) (same_ranked : later.ranked.items ≡ watch.ranked.items) where
    pub answered_stray : HasAnswered fleet (lines ++ text ∷ []) (answers ++ StrayLine ∷ []) later
    answered_stray = record {
      addressed = map-append vehicle_of answers (StrayLine ∷ [])
          ∙ (λ i. so_far.addressed i ++ sym (ap (option_map (λ found. found.vehicle)) none) i ∷ [])
          ∙ sym (map-append (addressee fleet.names) lines (text ∷ []));
      blocks = λ number.
          subst₂ (AreOwnBlocks fleet.graph fleet.terms) (sym (lines-stray fleet.names text none lines number)) (sym (stray_blocks number)) (so_far.blocks number);
      names = ap names_of same_fleet ∙ so_far.names;
      represents = subst (FleetRepresents fleet.graph fleet.terms later.fleet (lines ++ text ∷ [])) (λ i number. stray_rounds number i)
          (subst (λ (f : FleetState). FleetRepresents fleet.graph fleet.terms f (lines ++ text ∷ []) (λ number. rounds_for number answers)) (sym same_fleet)
          (represents_stray watch.fleet text (subst (λ (names : List (List ℕ)). belongs names text ≡ None) (sym so_far.names) none) fleet.graph fleet.terms lines (λ number. rounds_for number answers) so_far.represents));
      one_each = ap length same_ranked ∙ so_far.one_each;
      kept = λ number set at. subst (λ (rounds : List Round). IsKept fleet.graph rounds set) (stray_rounds number)
          (so_far.kept number set (sym (ap (λ (sets : List (List ℕ)). slice_get sets number) same_ranked) ∙ at));
    }

-- ---- what a line brings

-- a stray line
pub brings_stray : (text : List ℕ) (old new : FleetState) (t : FleetTold) → t ≡ Stray → FleetBrings text old new (Ok t) → (belongs (names_of old) text ≡ None) × (new ≡ old)
brings_stray text old new t is brings = subst (λ (x : FleetTold). FleetBrings text old new (Ok x)) is brings

-- a line of a vehicle
pub brings_of : (text : List ℕ) (old new : FleetState) (t : FleetTold) (number line : ℕ) (answer : Told) → t ≡ Of number line answer → FleetBrings text old new (Ok t) → IsToldTo text old new number line answer
brings_of text old new t number line answer is brings = subst (λ (x : FleetTold). FleetBrings text old new (Ok x)) is brings

-- the calls of a stray line
pub counts_stray : (old new : FleetState) (t : FleetTold) (start finish : ℕ) → t ≡ Stray → FleetCounts old new (Ok t) start finish → finish ≡ start
counts_stray old new t start finish is counts = subst (λ (x : FleetTold). FleetCounts old new (Ok x) start finish) is counts

-- those of a line of a vehicle
pub counts_of : (old new : FleetState) (t : FleetTold) (number line : ℕ) (answer : Told) (start finish : ℕ) → t ≡ Of number line answer → FleetCounts old new (Ok t) start finish
    → FleetCounts old new (Ok (Of number line answer)) start finish
counts_of old new t number line answer start finish is counts = subst (λ (x : FleetTold). FleetCounts old new (Ok x) start finish) is counts

-- ---- the line of a vehicle

-- the blocks of a vehicle with one more
own_blocks-push : (graph : Tfpg) (terms : Terms) (lines : List (List ℕ)) (blocks : List Block) (own : List ℕ) (block : Block) (line : ℕ) → AreOwnBlocks graph terms lines blocks
    → line ≡ 1 + length lines → IsBlock graph terms (progress_of graph lines blocks) line own block → BlockSays graph terms (progress_of graph lines blocks) own block → losses_in block ≡ []
    → AreOwnBlocks graph terms (lines ++ own ∷ []) (blocks ++ block ∷ [])
own_blocks-push graph terms lines blocks own block line so_far at is says none = record {
  are = AreBlocks-push graph terms lines blocks own block line so_far.are at is;
  say = RoundsSay-push graph terms lines blocks own block so_far.are.one_each so_far.say says;
  none_lost = flat_map-push losses_in blocks block [] none ∙ append-nil (flat_map losses_in blocks) ∙ so_far.none_lost;
}

-- what is kept after a vehicle was told of its line
kept_told : (graph : Tfpg) (rounds : List Round) (answer : Told) (before after : List ℕ) → KeepsLast answer (length (failures graph)) before after → IsKept graph rounds before
    → IsKept graph (rounds_with rounds answer) after
kept_told graph rounds (told.Refused refusal) before after same kept = subst (IsKept graph rounds) (sym same) kept
kept_told graph rounds (told.Round round) before after keeps kept = λ position within.
    keeps position within ∙ ap (λ (last : Option Round). option_map_or (ranks position) last false) (sym (last_pushed rounds round))

module _ (laws : RoundLaws) (fleet : FleetProblem) (valid : IsValid fleet.graph) (lines : List (List ℕ)) (answers : List Answer) (watch later : Watch)
    (so_far : HasAnswered fleet lines answers watch) (text : List ℕ) (number line : ℕ) (answer : Told) (is : IsToldTo text watch.fleet later.fleet number line answer) where
  abbrev own : List ℕ
  own = is.own

  abbrev block : Block
  block = (own_block laws fleet valid lines answers watch so_far text later.fleet number line answer is).has.block

  abbrev more : List Answer
  more = answers ++ OwnBlock number block ∷ []

  for_it : belongs fleet.names text ≡ Some (vehicle_line number own)
  for_it = its_line laws fleet valid lines answers watch so_far text later.fleet number line answer is

  -- its own blocks have this one more
  its_blocks : (other : ℕ) → (number == other) ≡ true → blocks_for other more ≡ blocks_for other answers ++ block ∷ []
  its_blocks other same = filter_map-push_some (block_for other) answers (OwnBlock number block) block (ap (λ (b : Bool). then_some b block) same)

  -- those of the others stay
  other_blocks : (other : ℕ) → (number == other) ≡ false → blocks_for other more ≡ blocks_for other answers
  other_blocks other apart = filter_map-push_none (block_for other) answers (OwnBlock number block) (ap (λ (b : Bool). then_some b block) apart)

  blocks_now : (other : ℕ) (same : Bool) → (number == other) ≡ same → AreOwnBlocks fleet.graph fleet.terms (lines_for fleet.names other (lines ++ text ∷ [])) (blocks_for other more)
  blocks_now other true same =
      let its = own_block laws fleet valid lines answers watch so_far text later.fleet number line answer is in
      subst₂ (AreOwnBlocks fleet.graph fleet.terms) (sym (lines-own fleet.names text number own for_it lines other same)) (sym (its_blocks other same))
      (subst (λ (n : ℕ). AreOwnBlocks fleet.graph fleet.terms (lines_for fleet.names n lines ++ own ∷ []) (blocks_for n answers ++ block ∷ [])) (eqb-true number other same)
      (own_blocks-push fleet.graph fleet.terms (lines_for fleet.names number lines) (blocks_for number answers) own block line (so_far.blocks number)
      (own_number laws fleet valid lines answers watch so_far text later.fleet number line answer is) its.has.is_block its.has.says its.none_lost))
  blocks_now other false apart =
      subst₂ (AreOwnBlocks fleet.graph fleet.terms) (sym (lines-other fleet.names text number own for_it lines other apart)) (sym (other_blocks other apart)) (so_far.blocks other)

  -- the rounds of each vehicle
  rounds_now : (other : ℕ) (same : Bool) → (number == other) ≡ same
      → cond (number == other) (rounds_with (rounds_for other answers) answer) (rounds_for other answers) ≡ rounds_for other more
  rounds_now other true same =
      let its = own_block laws fleet valid lines answers watch so_far text later.fleet number line answer is in
      ap (λ (b : Bool). cond b (rounds_with (rounds_for other answers) answer) (rounds_for other answers)) same
      ∙ its.rounds (rounds_for other answers)
      ∙ sym (ap (flat_map rounds_of) (its_blocks other same) ∙ flat_map-push rounds_of (blocks_for other answers) block (rounds_of block) refl)
  rounds_now other false apart =
      ap (λ (b : Bool). cond b (rounds_with (rounds_for other answers) answer) (rounds_for other answers)) apart
      ∙ sym (ap (flat_map rounds_of) (other_blocks other apart))

  module _ (old new : List ℕ) (at : slice_get watch.ranked.items number ≡ Some old) (keeps : KeepsLast answer (length (failures fleet.graph)) old new)
      (ranked_is : later.ranked.items ≡ set watch.ranked.items number new) where
    kept_now : (other : ℕ) (members : List ℕ) → slice_get (set watch.ranked.items number new) other ≡ Some members → (same : Bool) → (number == other) ≡ same
        → IsKept fleet.graph (cond (number == other) (rounds_with (rounds_for other answers) answer) (rounds_for other answers)) members
    kept_now other members there true same =
        let here : number ≡ other = eqb-true number other same in
        let members_are : new ≡ members = same_Some new members
        (sym (slice_get-set_same watch.ranked.items number new (slice_get_within watch.ranked.items number old at)) ∙ ap (slice_get (set watch.ranked.items number new)) here ∙ there) in
        subst (IsKept fleet.graph (cond (number == other) (rounds_with (rounds_for other answers) answer) (rounds_for other answers))) members_are
        (subst (λ (b : Bool). IsKept fleet.graph (cond b (rounds_with (rounds_for other answers) answer) (rounds_for other answers)) new) (sym same)
        (kept_told fleet.graph (rounds_for other answers) answer old new keeps
        (so_far.kept other old (sym (ap (slice_get watch.ranked.items) here) ∙ at))))
    kept_now other members there false apart =
        let differ : other ≢ number = λ e. false≢true (sym apart ∙ eq-eqb number other (sym e)) in
        subst (λ (b : Bool). IsKept fleet.graph (cond b (rounds_with (rounds_for other answers) answer) (rounds_for other answers)) members) (sym apart)
        (so_far.kept other members (sym (slice_get-set_other watch.ranked.items number other new differ) ∙ there))

    module _ (named : names_of later.fleet ≡ names_of watch.fleet)
        (represents : FleetRepresents fleet.graph fleet.terms later.fleet (lines ++ text ∷ []) (rounds_after (λ n. rounds_for n answers) (Ok (Of number line answer)))) where
      pub answered_own : HasAnswered fleet (lines ++ text ∷ []) more later
      answered_own = record {
        addressed = map-append vehicle_of answers (OwnBlock number block ∷ [])
            ∙ (λ i. so_far.addressed i ++ sym (ap (option_map (λ found. found.vehicle)) for_it) i ∷ [])
            ∙ sym (map-append (addressee fleet.names) lines (text ∷ []));
        blocks = λ other. blocks_now other (number == other) refl;
        names = named ∙ so_far.names;
        represents = subst (FleetRepresents fleet.graph fleet.terms later.fleet (lines ++ text ∷ [])) (λ i other. rounds_now other (number == other) refl i) represents;
        one_each = ap length ranked_is ∙ length-set watch.ranked.items number new ∙ so_far.one_each;
        kept = λ other members there. subst (λ (rounds : List Round). IsKept fleet.graph rounds members) (rounds_now other (number == other) refl)
            (kept_now other members (sym (ap (λ (sets : List (List ℕ)). slice_get sets other) ranked_is) ∙ there) (number == other) refl);
      }

      -- with its text
      pub answers_own : (place : ℕ) (bytes : List ℕ) (start finish : ℕ) → bytes ≡ naming_text (get_or fleet.names number []) ++ told_text fleet.graph line answer
          → CountsCalls is.after.engine (rounds_for number answers) (Ok answer) start finish → Answers fleet (answer_turn lines answers text place start finish) bytes later
      answers_own place bytes start finish is_text counts =
          let its = own_block laws fleet valid lines answers watch so_far text later.fleet number line answer is in
          record {
            answer = OwnBlock number block;
            answered = answered_own;
            within = λ first so_far_within. answers_within-own fleet lines answers text number own block for_it
                (own_within laws fleet valid lines answers watch so_far text later.fleet number line answer is) (so_far.blocks number).are.one_each
                first start finish so_far_within (its.within start finish counts);
            text = is_text ∙ ap (λ (t : List ℕ). naming_text (get_or fleet.names number []) ++ t) its.has.text;
          }

-- the answer to a stray line, with its text
pub answers_stray : (fleet : FleetProblem) (lines : List (List ℕ)) (answers : List Answer) (watch later : Watch) (text : List ℕ) (place : ℕ) (bytes : List ℕ) (start finish : ℕ) → HasAnswered fleet lines answers watch
    → belongs fleet.names text ≡ None → later.fleet ≡ watch.fleet → later.ranked.items ≡ watch.ranked.items → finish ≡ start → bytes ≡ text_line (codes "stray" ∷ decimal place ∷ [])
    → Answers fleet (answer_turn lines answers text place start finish) bytes later
answers_stray fleet lines answers watch later text place bytes start finish so_far none same_fleet same_ranked uncounted is = record {
  answer = StrayLine;
  answered = answered_stray fleet lines answers watch later so_far text none same_fleet same_ranked;
  within = λ first. answers_within-stray fleet lines answers text first start finish none uncounted;
  text = is;
}

-- ---- no line

-- no line has no block
pub no_own_blocks : (graph : Tfpg) (terms : Terms) → AreOwnBlocks graph terms [] []
no_own_blocks graph terms = record { are = AreBlocks-none graph terms; say = RoundsSay-none graph terms; none_lost = refl }

-- a new fleet has answered no line
pub answered_none : (fleet : FleetProblem) (watch : Watch) (count : ℕ) → names_of watch.fleet ≡ fleet.names → FleetRepresents fleet.graph fleet.terms watch.fleet [] (λ number. [])
    → watch.ranked.items ≡ replicate count [] → count ≡ length fleet.names → HasAnswered fleet [] [] watch
answered_none fleet watch count named represents empty counted = record {
  addressed = refl;
  blocks = λ number. no_own_blocks fleet.graph fleet.terms;
  names = named;
  represents = represents;
  one_each = ap length empty ∙ length-replicate count [] ∙ counted;
  kept = λ number members at position within.
      let none : members ≡ [] = All-at (λ (s : List ℕ). s ≡ []) watch.ranked.items number members
      (subst (All (λ (s : List ℕ). s ≡ [])) (sym empty) (All-replicate (λ (s : List ℕ). s ≡ []) count [] refl)) at in
      ap (is_in position) none;
}
