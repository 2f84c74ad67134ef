-- What telling a vehicle its line comes to for the whole fleet.
use Rattle.std.proofs.Common.{◌≡◌, ℕ, ◌+◌, false, true, Bool, cond, All, get_or, take, ◌<◌, List, [], ◌∷◌, ◌++◌, length, map, set, Some, None, refl, sym, ap, subst, ◌∙◌, arith, length-append}
use Rattle.std.specs.Prelude.{◌==◌, ◌≢◌, ◌↔◌, slice_get, is_none, Result, Ok, Err}
use Rattle.std.proofs.lemmas.Bool.{eq-eqb, eqb-true, false≢true}
use Rattle.std.proofs.lemmas.List.{set-get_or, map-append, take_more}
use Rattle.tfpg_base.proofs.lemmas.lists.Elements.{All-at}
use Rattle.std.proofs.lemmas.Option.{slice_get_within, get_or_from_slice_get}
use Rattle.std.proofs.Math.Seq.{map-set_same}
use Rattle.tfpg_base.proofs.lemmas.lists.Written.{slice_get-set_other, slice_get-set_same}
use Rattle.tfpg_base.specs.declared.terms.Terms.{Terms}
use Rattle.tfpg_base.specs.Lines.{is_too_long}
use Rattle.tfpg_graph.specs.Graph.{Tfpg}
use Rattle.tfpg_log.specs.Log.{Logbook, with_event}
use Rattle.tfpg_log.specs.Accepted.{reply_to}
use Rattle.tfpg_log.specs.declared.refusal.Refusal.{Refusal}
use Rattle.std.proofs.lemmas.Option.{same_Some}
use Rattle.tfpg_log.specs.LogOfLines.{log_of_lines, log_after, log_after_reply}
use Rattle.tfpg_evidence.specs.declared.round.Round.{Round}
use Rattle.tfpg_engine.specs.declared.told.Told.{Told}
use Rattle.tfpg_engine.specs.declared.told.Told.TheVariants as told
use Rattle.tfpg_engine.specs.declared.told.EventFault.{EventFault}
use Rattle.tfpg_engine.specs.declared.told.EventFault.TheVariants.{NoMemory, Ended}
use Rattle.tfpg_base.proofs.lemmas.lists.Choices.{same_Err}
use Rattle.tfpg_engine.specs.EngineState.{CountsCalls, EngineRepresents, EngineState}
use Rattle.tfpg_fleet.specs.declared.fleet_told.FleetTold.{FleetTold}
use Rattle.tfpg_fleet.specs.declared.fleet_told.FleetTold.TheVariants.{Stray, Of}
use Rattle.tfpg_fleet.specs.Belonging.{IsFor, VehicleLine, belongs, lines_for, vehicle_line}
use Rattle.tfpg_hyp.specs.Rounds.{IsRound, HasNoneOpen}
use Rattle.tfpg_search.specs.Enough.{IsEnough}
use Rattle.tfpg_engine.specs.Earned.{AreEarned}
use Rattle.tfpg_log.specs.declared.event.Offered.TheVariants as offered
use Rattle.tfpg_fleet.specs.Alone.{IsRoundOfLines}
use Rattle.tfpg_fleet.specs.FleetState.{FleetBrings, FleetCounts, FleetRepresents, FleetState, IsForEnded, IsNew, IsVehicleTold, IsToldTo, Refuses, RefusesFor, VehicleRepresents, VehicleState, has_ended, names_of, rounds_after, rounds_with}
use Rattle.tfpg_fleet.proofs.lemmas.LinesFor.{is_for, lines-other, lines-own, lines-stray, only_for, own_short}

-- how logs of lines grow
abbrev pub LogsGrow : Type 0
LogsGrow = (graph : Tfpg) (lines : List (List ℕ)) (line : List ℕ) → log_of_lines graph (lines ++ line ∷ []) ≡ log_after graph (log_of_lines graph lines) line

-- ---- a vehicle

module _ (grows : LogsGrow) (graph : Tfpg) (terms : Terms) (own : List ℕ) (short : is_too_long own ≡ false) (lines : List (List ℕ)) (rounds : List Round) where
  -- the log with one more line that is not too long
  log_with : (reply : Logbook) → log_after_reply (log_of_lines graph lines) (reply_to graph (log_of_lines graph lines) own) ≡ reply → log_of_lines graph (lines ++ own ∷ []) ≡ reply
  log_with reply is = grows graph lines own ∙ rw short is

  module _ (before after : VehicleState) (line : ℕ) (represents : VehicleRepresents graph terms before lines rounds) where
    next_line : before.next ≡ Some line → after.next ≡ Some (line + 1) → after.next ≡ Some (length (lines ++ own ∷ []) + 1)
    next_line now next =
        let same : Some line ≡ Some (length lines + 1) = sym now ∙ represents.next_is in
        let number : line ≡ length lines + 1 = cc in
        next ∙ ap Some (omega (arith, number, length-append lines (own ∷ [])))

    -- a vehicle that was told its line represents its lines and its rounds
    pub told_represents : (told : Told) → IsVehicleTold own before after line told → VehicleRepresents graph terms after (lines ++ own ∷ []) (rounds_with rounds told)
    told_represents (told.Refused refusal) is = (
        let brings = is.brings rounds represents.represents in
        let reply = ap (λ (g : Tfpg). reply_to g (log_of_lines graph lines) own) (sym represents.graph_is) ∙ ap (λ (l : Logbook). reply_to before.engine.graph l own) (sym represents.log_is) ∙ brings.0 in
        record {
          graph_is = is.graph ∙ represents.graph_is;
          terms_is = is.terms ∙ represents.terms_is;
          log_is = ap (λ (e : EngineState). e.log) brings.1 ∙ represents.log_is ∙ sym (log_with (log_of_lines graph lines) (ap (log_after_reply (log_of_lines graph lines)) reply));
          next_is = next_line is.line_is is.next_is;
          represents = subst (λ (e : EngineState). EngineRepresents e rounds) (sym brings.1) represents.represents;
        })
    told_represents (told.Round round) is = (
        let brings = is.brings rounds represents.represents in
        let reply = ap (λ (g : Tfpg). reply_to g (log_of_lines graph lines) own) (sym represents.graph_is) ∙ ap (λ (l : Logbook). reply_to before.engine.graph l own) (sym represents.log_is) ∙ brings.accepted in
        record {
          graph_is = is.graph ∙ represents.graph_is;
          terms_is = is.terms ∙ represents.terms_is;
          log_is = brings.log ∙ ap (λ (l : Logbook). with_event l brings.event) represents.log_is ∙ sym (log_with (with_event (log_of_lines graph lines) brings.event) (ap (log_after_reply (log_of_lines graph lines)) reply));
          next_is = next_line is.line_is is.next_is;
          represents = brings.represents;
        })

-- ---- the fleet

-- a vehicle that has ended has no next line
ended-some : (vehicle : VehicleState) (line : ℕ) → vehicle.next ≡ Some line → has_ended vehicle ≡ false
ended-some vehicle line is = ap is_none is

module _ (old : FleetState) (text own : List ℕ) (number : ℕ) (before after : VehicleState) (there : slice_get old.vehicles number ≡ Some before)
    (own_is : belongs (names_of old) text ≡ Some (vehicle_line number own)) where
  abbrev now : FleetState
  now = record { vehicles = set old.vehicles number after }

  pub still_there : slice_get now.vehicles number ≡ Some after
  still_there = slice_get-set_same old.vehicles number after (slice_get_within old.vehicles number before there)

  -- the other vehicles are as they were
  pub others : (other : ℕ) → (IsFor (names_of old) other text → ⊥) → slice_get now.vehicles other ≡ slice_get old.vehicles other
  others other not_for =
      slice_get-set_other old.vehicles number other after (λ same. not_for (is_for (names_of old) text number own own_is ∙ ap Some (sym same)))

  -- the line belongs to a vehicle that had ended exactly where this one had
  pub for_ended : has_ended before ≡ true → IsForEnded old text
  for_ended ended = record { number = number; is_for = is_for (names_of old) text number own own_is; vehicle = before; there = there; ended = ended }

  pub ended_before : IsForEnded old text → has_ended before ≡ true
  ended_before is =
      let same = only_for (names_of old) text number own own_is is.number is.is_for in
      let both : Some before ≡ Some is.vehicle = sym there ∙ ap (slice_get old.vehicles) same ∙ is.there in
      let it : before ≡ is.vehicle = cc in
      ap has_ended it ∙ is.ended

  module _ (named : after.name ≡ before.name) where
    -- the names stay
    pub same_names : names_of now ≡ names_of old
    same_names =
        map-set_same (λ (vehicle : VehicleState). vehicle.name) old.vehicles number after before
        (named ∙ sym (ap (λ (vehicle : VehicleState). vehicle.name) (get_or_from_slice_get old.vehicles number before before there)))

    -- where the vehicle has ended now, the line belongs to one that has
    pub for_ended_now : has_ended after ≡ true → IsForEnded now text
    for_ended_now ended = record {
      number = number;
      is_for = subst (λ names. IsFor names number text) (sym same_names) (is_for (names_of old) text number own own_is);
      vehicle = after;
      there = still_there;
      ended = ended;
    }

    module _ (graph : Tfpg) (terms : Terms) (stream : List (List ℕ)) (rounds : ℕ → List Round) (represented : FleetRepresents graph terms old stream rounds) where
      -- a vehicle that is not told the line represents what it did
      other_represents : (other : ℕ) (vehicle : VehicleState) → (number == other) ≡ false → slice_get now.vehicles other ≡ Some vehicle → has_ended vehicle ≡ false
          → VehicleRepresents graph terms vehicle (lines_for (names_of now) other (stream ++ text ∷ [])) (rounds other)
      other_represents other vehicle differs at running =
          let apart : other ≢ number = λ same. false≢true (sym differs ∙ eq-eqb number other (sym same)) in
          subst (λ lines. VehicleRepresents graph terms vehicle lines (rounds other))
          (sym (ap (λ names. lines_for names other (stream ++ text ∷ [])) same_names ∙ lines-other (names_of old) text number own own_is stream other differs))
          (represented.each other vehicle (sym (slice_get-set_other old.vehicles number other after apart) ∙ at) running)

      -- where the vehicle has ended, the others represent what they did
      pub represents_ended : has_ended after ≡ true → FleetRepresents graph terms now (stream ++ text ∷ []) rounds
      represents_ended ended = record { each = λ other vehicle at running. by other vehicle at running (number == other) refl }
        where
          by : (other : ℕ) (vehicle : VehicleState) → slice_get now.vehicles other ≡ Some vehicle → has_ended vehicle ≡ false → (same : Bool) → (number == other) ≡ same
              → VehicleRepresents graph terms vehicle (lines_for (names_of now) other (stream ++ text ∷ [])) (rounds other)
          by other vehicle at running false is = other_represents other vehicle is at running
          by other vehicle at running true is =
              let both : Some after ≡ Some vehicle = sym still_there ∙ ap (slice_get now.vehicles) (eqb-true number other is) ∙ at in
              let it : after ≡ vehicle = cc in
              absurd (false≢true (sym running ∙ ap has_ended (sym it) ∙ ended))

      -- where it was told its line, it represents that too
      pub represents_told : LogsGrow → (line : ℕ) (told : Told) → IsVehicleTold own before after line told
          → FleetRepresents graph terms now (stream ++ text ∷ []) (rounds_after rounds (Ok (Of number line told)))
      represents_told grows line told is = record { each = λ other vehicle at running. by other vehicle at running (number == other) refl }
        where
          by : (other : ℕ) (vehicle : VehicleState) → slice_get now.vehicles other ≡ Some vehicle → has_ended vehicle ≡ false → (same : Bool) → (number == other) ≡ same
              → VehicleRepresents graph terms vehicle (lines_for (names_of now) other (stream ++ text ∷ [])) (cond (number == other) (rounds_with (rounds other) told) (rounds other))
          by other vehicle at running false differs =
              subst (VehicleRepresents graph terms vehicle (lines_for (names_of now) other (stream ++ text ∷ []))) (ap (λ b. cond b (rounds_with (rounds other) told) (rounds other)) (sym differs))
              (other_represents other vehicle differs at running)
          by other vehicle at running true same =
              let number_is : number ≡ other = eqb-true number other same in
              let both : Some after ≡ Some vehicle = sym still_there ∙ ap (slice_get now.vehicles) number_is ∙ at in
              let it : after ≡ vehicle = cc in
              let was = represented.each other before (sym (ap (slice_get old.vehicles) number_is) ∙ there) (ended-some before line is.line_is) in
              let now_is = told_represents grows graph terms own (own_short (names_of old) text number own own_is) (lines_for (names_of old) other stream) (rounds other) before after line was told is in
              subst (λ lines. VehicleRepresents graph terms vehicle lines (cond (number == other) (rounds_with (rounds other) told) (rounds other)))
              (sym (ap (λ names. lines_for names other (stream ++ text ∷ [])) same_names ∙ lines-own (names_of old) text number own own_is stream other same))
              (subst (λ (v : VehicleState). VehicleRepresents graph terms v (lines_for (names_of old) other stream ++ own ∷ []) (cond (number == other) (rounds_with (rounds other) told) (rounds other))) it
              (subst (VehicleRepresents graph terms after (lines_for (names_of old) other stream ++ own ∷ [])) (ap (λ b. cond b (rounds_with (rounds other) told) (rounds other)) (sym same)) now_is))

-- a stray line changes nothing
pub represents_stray : (old : FleetState) (text : List ℕ) → belongs (names_of old) text ≡ None → (graph : Tfpg) (terms : Terms) (stream : List (List ℕ)) (rounds : ℕ → List Round)
    → FleetRepresents graph terms old stream rounds → FleetRepresents graph terms old (stream ++ text ∷ []) rounds
represents_stray old text none graph terms stream rounds represented = record {
  each = λ number vehicle at running. subst (λ lines. VehicleRepresents graph terms vehicle lines (rounds number)) (sym (lines-stray (names_of old) text none stream number)) (represented.each number vehicle at running);
}

-- ---- what a vehicle was told, by its own lines

-- what an engine says of a round that it brings
abbrev RoundSays : List Round → ℕ → Round → Tfpg → Terms → Logbook → Type 0
RoundSays rounds line round graph terms log =
    IsRound graph terms rounds log line round × AreEarned graph log terms rounds round × (IsEnough graph log terms.budget → HasNoneOpen round)

module _ (grows : LogsGrow) (graph : Tfpg) (terms : Terms) (old new : FleetState) (stream : List (List ℕ)) (rounds : ℕ → List Round) (text : List ℕ) (number line : ℕ) where
  abbrev lines : List (List ℕ)
  lines = lines_for (names_of old) number stream

  module _ (answer : Told) (represented : FleetRepresents graph terms old stream rounds) (is : IsToldTo text old new number line answer) where
    own_before : VehicleRepresents graph terms is.before lines (rounds number)
    own_before = represented.each number is.before is.there (ended-some is.before line is.taken.line_is)

    own_lines : lines_for (names_of old) number (stream ++ text ∷ []) ≡ lines ++ is.own ∷ []
    own_lines = lines-own (names_of old) text number is.own is.is_for stream number (eq-eqb number number refl)

    own_after : VehicleRepresents graph terms is.after (lines ++ is.own ∷ []) (rounds_with (rounds number) answer)
    own_after = told_represents grows graph terms is.own (own_short (names_of old) text number is.own is.is_for) lines (rounds number) is.before is.after line own_before answer is.taken

    -- its line is numbered among its own
    own_number : line ≡ length (lines_for (names_of old) number (stream ++ text ∷ []))
    own_number =
        let same : Some line ≡ Some (length lines + 1) = sym is.taken.line_is ∙ own_before.next_is in
        let number_is : line ≡ length lines + 1 = cc in
        omega (arith, number_is, length-append lines (is.own ∷ []), ap length own_lines)

  -- its round is one of its own lines
  pub own_round : (round : Round) → FleetRepresents graph terms old stream rounds → IsToldTo text old new number line (told.Round round)
      → IsRoundOfLines graph terms (lines_for (names_of old) number (stream ++ text ∷ [])) (rounds number) line round
  own_round round represented is =
      let before = own_before (told.Round round) represented is in
      let brings = is.taken.brings (rounds number) before.represents in
      let log_is = (own_after (told.Round round) represented is).log_is ∙ ap (log_of_lines graph) (sym (own_lines (told.Round round) represented is)) in
      let says =
      subst (RoundSays (rounds number) line round graph terms) log_is
      (subst (λ (t : Terms). RoundSays (rounds number) line round graph t is.after.engine.log) before.terms_is
      (subst (λ (g : Tfpg). RoundSays (rounds number) line round g is.before.engine.terms is.after.engine.log) before.graph_is (brings.round_is, brings.earned, brings.none_open))) in
      record { number = own_number (told.Round round) represented is; is = says.0; earned = says.1; none_open = says.2 }

  -- and its refusal is that of their log
  pub own_refusal : (refusal : Refusal) → FleetRepresents graph terms old stream rounds → (is : IsToldTo text old new number line (told.Refused refusal))
      → (line ≡ length (lines_for (names_of old) number (stream ++ text ∷ []))) × (reply_to graph (log_of_lines graph lines) is.own ≡ offered.Refused refusal)
  own_refusal refusal represented is =
      let before = own_before (told.Refused refusal) represented is in
      let brings = is.taken.brings (rounds number) before.represents in (
        own_number (told.Refused refusal) represented is,
        (λ i. reply_to (sym before.graph_is i) (sym before.log_is i) is.own) ∙ brings.0,
      )

-- ---- the clauses of one line

-- answers that are equal have one line, and bring one thing
pub same_answer : {E : Type 0} (line other : ℕ) (one two : Told) → ◌≡◌ {A = Result (ℕ × Told) E} (Ok (line, one)) (Ok (other, two)) → (line ≡ other) × (one ≡ two)
same_answer line other one two same =
    let pair : ◌≡◌ {A = ℕ × Told} (line, one) (other, two) = cc in
    (ap (λ (p : ℕ × Told). p.0) pair, ap (λ (p : ℕ × Told). p.1) pair)

-- what a line of the stream comes to
pub record Comes (text : List ℕ) (old new : FleetState) (result : Result FleetTold EventFault) (start end : ℕ) : Type 0 where
  pub brings : FleetBrings text old new result
  pub stray : (result ≡ Ok Stray) ↔ (belongs (names_of old) text ≡ None)
  pub refused : (number line : ℕ) (refusal : Refusal) → RefusesFor text old number line refusal → result ≡ Ok (Of number line (told.Refused refusal))
  pub others : (number : ℕ) → (IsFor (names_of old) number text → ⊥) → slice_get new.vehicles number ≡ slice_get old.vehicles number
  pub ended : (result ≡ Err Ended) ↔ IsForEnded old text
  pub work : FleetCounts old new result start end
  pub names : names_of new ≡ names_of old
  pub represents : (graph : Tfpg) (terms : Terms) (stream : List (List ℕ)) (rounds : ℕ → List Round) → FleetRepresents graph terms old stream rounds
      → FleetRepresents graph terms new (stream ++ text ∷ []) (rounds_after rounds result)

module _ (vehicles : List VehicleState) (text own : List ℕ) (number : ℕ) (before after : VehicleState) (there : slice_get vehicles number ≡ Some before)
    (own_is : belongs (map (λ (vehicle : VehicleState). vehicle.name) vehicles) text ≡ Some (vehicle_line number own)) (named : after.name ≡ before.name) (start end : ℕ) where
  abbrev was : FleetState
  was = record { vehicles = vehicles }

  abbrev is_now : FleetState
  is_now = now was text own number before after there own_is

  -- a line of the fleet that is refused is the own line of this vehicle
  refused_here : (place line : ℕ) (refusal : Refusal) → RefusesFor text was place line refusal → Refuses own before line refusal × (number ≡ place)
  refused_here place line refusal is =
      let both : Some (vehicle_line number own) ≡ Some (vehicle_line place is.own) = sym own_is ∙ is.is_for in
      let one : vehicle_line number own ≡ vehicle_line place is.own = same_Some (vehicle_line number own) (vehicle_line place is.own) both in
      let place_is : number ≡ place = ap (λ (found : VehicleLine). found.vehicle) one in
      let own_same : own ≡ is.own = ap (λ (found : VehicleLine). found.text) one in
      let vehicles_same : Some before ≡ Some is.vehicle = sym there ∙ ap (slice_get vehicles) place_is ∙ is.there in
      let vehicle_same : before ≡ is.vehicle = same_Some before is.vehicle vehicles_same in (
        subst (λ (v : VehicleState). Refuses own v line refusal) (sym vehicle_same) (subst (λ text. Refuses text is.vehicle line refusal) (sym own_same) is.refuses),
        place_is,
      )

  -- the vehicle could not be told its line
  pub fails : (result : Result FleetTold EventFault) (fault : EventFault) → result ≡ Err fault → (fault ≡ Ended → has_ended before ≡ true) → (has_ended before ≡ true → fault ≡ Ended)
      → (fault ≡ Ended → after ≡ before) → has_ended after ≡ true → ((line : ℕ) (refusal : Refusal) → Refuses own before line refusal → ⊥)
      → Comes text was is_now result start end
  fails result fault failed ended_was was_ended same ended_now never = subst (λ r. Comes text was is_now r start end) (sym failed) (record {
    brings = by fault ended_was same;
    stray = (λ is. absurd cc, λ none. absurd cc);
    refused = λ place line refusal is. absurd (never line refusal (refused_here place line refusal is).0);
    others = others was text own number before after there own_is;
    ended = (
      λ is. for_ended was text own number before after there own_is (ended_was (same_Err fault Ended is)),
      λ is. ap Err (was_ended (ended_before was text own number before after there own_is is)),
    );
    work = tt;
    names = same_names was text own number before after there own_is named;
    represents = λ graph terms stream rounds represented.
        represents_ended was text own number before after there own_is named graph terms stream rounds represented ended_now;
  })
    where
      by : (fault : EventFault) → (fault ≡ Ended → has_ended before ≡ true) → (fault ≡ Ended → after ≡ before) → FleetBrings text was is_now (Err fault)
      by NoMemory ended_was same = for_ended_now was text own number before after there own_is named ended_now
      by Ended ended_was same = (
        for_ended was text own number before after there own_is (ended_was refl),
        ap (λ (vs : List VehicleState). record { vehicles = vs })
            (ap (set vehicles number) (same refl ∙ sym (get_or_from_slice_get vehicles number before before there)) ∙ set-get_or vehicles number before),
      )

  -- the calls are counted as those of its engine
  counts : (line : ℕ) (told : Told) → ((rounds : List Round) → EngineRepresents before.engine rounds → CountsCalls after.engine rounds (Ok told) start end)
      → FleetCounts was is_now (Ok (Of number line told)) start end
  counts line told counted one other rounds at still represented =
      let both : Some before ≡ Some one = sym there ∙ at in
      let first : before ≡ one = cc in
      let now_both : Some after ≡ Some other = sym (still_there was text own number before after there own_is) ∙ still in
      let second : after ≡ other = cc in
      subst (λ (v : VehicleState). CountsCalls v.engine rounds (Ok told) start end) second
      (counted rounds (subst (λ (v : VehicleState). EngineRepresents v.engine rounds) (sym first) represented))

  -- the vehicle was told its line
  pub tells : LogsGrow → (line : ℕ) (answer : Told) → IsVehicleTold own before after line answer
      → ((rounds : List Round) → EngineRepresents before.engine rounds → CountsCalls after.engine rounds (Ok answer) start end)
      → ((next : ℕ) (refusal : Refusal) → Refuses own before next refusal → (line ≡ next) × (answer ≡ told.Refused refusal)) → Comes text was is_now (Ok (Of number line answer)) start end
  tells grows line answer is counted refused = record {
    brings = record {
      own = own;
      is_for = own_is;
      before = before;
      after = after;
      there = there;
      still_there = still_there was text own number before after there own_is;
      taken = is;
    };
    stray = (λ same. absurd cc, λ none. absurd cc);
    refused = λ place next refusal its.
        let here = refused_here place next refusal its in
        let same = refused next refusal here.0 in
        λ i. Ok (Of (here.1 i) (same.0 i) (same.1 i));
    others = others was text own number before after there own_is;
    ended = (
      λ failed. absurd cc,
      λ ended. absurd (false≢true (sym (ended-some before line is.line_is) ∙ ended_before was text own number before after there own_is ended)),
    );
    work = counts line answer counted;
    names = same_names was text own number before after there own_is named;
    represents = λ graph terms stream rounds represented.
        represents_told was text own number before after there own_is named graph terms stream rounds represented grows line answer is;
  }

-- ---- a new fleet

-- new vehicles represent no lines
pub represents_new : (graph : Tfpg) (terms : Terms) (vehicles : List VehicleState) → All (IsNew graph terms) vehicles → FleetRepresents graph terms (record { vehicles = vehicles }) [] (λ number. [])
represents_new graph terms vehicles new = record { each = λ number vehicle at running. All-at (IsNew graph terms) vehicles number vehicle new at }

-- the names of the vehicles with one more
pub names-push : (names : List (List ℕ)) (index : ℕ) (name : List ℕ) (vehicles : List VehicleState) (vehicle : VehicleState) → index < length names → name ≡ get_or names index name
    → vehicle.name ≡ name → map (λ (v : VehicleState). v.name) vehicles ≡ take index names → map (λ (v : VehicleState). v.name) (vehicles ++ vehicle ∷ []) ≡ take (index + 1) names
names-push names index name vehicles vehicle within is named before =
    map-append (λ (v : VehicleState). v.name) vehicles (vehicle ∷ []) ∙ (λ i. before i ++ (named ∙ is) i ∷ []) ∙ sym (take_more names index name within)
