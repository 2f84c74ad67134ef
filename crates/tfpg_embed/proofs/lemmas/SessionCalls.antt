-- The answers of the calls of a session.
use Rattle.std.proofs.Common.{◌≡◌, ◌⊎◌, ℕ, ◌++◌, ◌∷◌, [], List, length, Option, Some, None, Result, Ok, Err, refl, sym, ap, subst, subst₂, ◌∙◌, inl, inr, ⊎_elim}
use Rattle.std.specs.Prelude.{◌↔◌, IsSome, is_ok}
use Rattle.std.specs.Option.{option_map_or}
use Rattle.std.proofs.lemmas.Bool.{false≢true}
use Rattle.tfpg_base.specs.declared.terms.Terms.{Terms}
use Rattle.tfpg_graph.specs.Graph.{Tfpg}
use Rattle.tfpg_evidence.specs.declared.round.Round.{Round}
use Rattle.tfpg_engine.specs.EngineState.{EngineState, EngineRepresents, calls_of_engine}
use Rattle.tfpg_engine.specs.declared.told.EventFault.{EventFault}
use Rattle.tfpg_engine.specs.declared.told.EventFault.TheVariants as event
use Rattle.tfpg_diagnose.specs.declared.texts.fault.OpenFault.{OpenFault}
use Rattle.tfpg_diagnose.specs.declared.texts.fault.OpenFault.TheVariants as opening
use Rattle.tfpg_diagnose.specs.texts.Opening.{CanOpen, IsOpenFault}
use Rattle.tfpg_diagnose.specs.texts.Sessions.{CountsBlock, SessionRepresents, latest_text}
use Rattle.tfpg_embed.specs.declared.answer.TfpgAnswer.{TfpgAnswer}
use Rattle.tfpg_embed.specs.declared.session.open_session.OpenSession.{OpenSession}
use Rattle.tfpg_embed.specs.declared.status.TheConstants.{DONE, ENDED}
use Rattle.tfpg_embed.specs.Answers.{answer_of_event_fault, answer_of_open_fault, answer_of_text, answer_with, counted}
use Rattle.tfpg_embed.specs.EventLines.{line_of_event}
use Rattle.tfpg_embed.specs.Rooms.{room_after}
use Rattle.tfpg_embed.specs.Events.{AnswersEvent, event_line_for}
use Rattle.tfpg_embed.specs.Sessions.{AnswersBlock, AnswersLine, AnswersOpen, IsNewlyOpen, KeepsNoText, open_text}

-- a value is no error
pub ok_is_no_error : {T E : Type 0} (value : T) (error : E) → Ok value ≡ Err error → ⊥
ok_is_no_error value error same = false≢true (sym (ap is_ok same))

-- the error, if it is one
abbrev error_or : {T E : Type 0} → E → Result T E → E
error_or other (Ok value) = other
error_or other (Err error) = error

-- equal errors at one type are equal at another
same_error : {T U E : Type 0} (error other : E) → ◌≡◌ {A = Result T E} (Err error) (Err other) → ◌≡◌ {A = Result U E} (Err error) (Err other)
same_error error other same = ap Err (ap (error_or error) same)

-- what is Ok is no fault
pub ok_refuses : {T E : Type 0} (value : T) (why memory : E) → (◌≡◌ {A = Result T E} (Ok value) (Err why)) ⊎ (◌≡◌ {A = Result T E} (Ok value) (Err memory)) → ⊥
ok_refuses value why memory either = ⊎_elim (ok_is_no_error value why) (ok_is_no_error value memory) either

-- a fault that is one of two is one of two
pub err_refuses : {T E : Type 0} (fault why memory : E) → (◌≡◌ {A = Result T E} (Err fault) (Err why)) ⊎ (◌≡◌ {A = Result T E} (Err fault) (Err memory)) → (fault ≡ why) ⊎ (fault ≡ memory)
err_refuses fault why memory either = ⊎_elim (λ same. inl (ap (error_or fault) same)) (λ same. inr (ap (error_or fault) same)) either

module _ (line : List ℕ) (old new : Option OpenSession) (answer : TfpgAnswer) where
  -- a line that has a block
  pub line_taken : {T : Type 0} (before after : OpenSession) (value : T) (count : ℕ) → Some before ≡ old → new ≡ Some after
      → ((graph : Tfpg) (terms : Terms) (lines : List (List ℕ)) (bytes : List ℕ) → SessionRepresents graph terms lines bytes before.session
      → SessionRepresents graph terms (lines ++ line ∷ []) (bytes ++ open_text after) after.session)
      → ((rounds : List Round) → EngineRepresents before.session.engine rounds
      → CountsBlock before.session.engine rounds line (open_text after) (calls_of_engine before.session.engine) (calls_of_engine after.session.engine))
      → count ≡ length (open_text after) → (◌≡◌ {A = Result T EventFault} (Ok value) (Err event.Ended)) ↔ (before.session.next ≡ None)
      → answer ≡ counted DONE count → AnswersLine line old new answer
  line_taken before after value count had has block within counts ended answer_is =
      subst₂ (λ (o n : Option OpenSession). AnswersLine line o n answer) had (sym has) (record {
        made = Ok (open_text after);
        block = block;
        work = λ engine rounds same represents.
            subst (λ (e : EngineState). CountsBlock e rounds line (open_text after) (calls_of_engine before.session.engine) (calls_of_engine after.session.engine)) same
            (within rounds (subst (λ (e : EngineState). EngineRepresents e rounds) (sym same) represents));
        text = refl;
        ended = (λ same. absurd (ok_is_no_error (open_text after) event.Ended same), λ none. absurd (ok_is_no_error value event.Ended (ended.1 none)));
        closed = tt;
        answer_is = answer_is ∙ ap (counted DONE) counts;
      })

  -- a line that has none
  pub line_refused : {T : Type 0} (before : OpenSession) (fault : EventFault) → Some before ≡ old → new ≡ None
      → (◌≡◌ {A = Result T EventFault} (Err fault) (Err event.Ended)) ↔ (before.session.next ≡ None)
      → answer ≡ answer_of_event_fault fault → AnswersLine line old new answer
  line_refused before fault had has ended answer_is =
      subst₂ (λ (o n : Option OpenSession). AnswersLine line o n answer) had (sym has) (record {
        made = Err fault;
        block = λ graph terms lines bytes represents. tt;
        work = λ engine rounds same represents. tt;
        text = tt;
        ended = (λ same. ended.0 (same_error fault event.Ended same), λ none. same_error fault event.Ended (ended.1 none));
        closed = refl;
        answer_is = answer_is;
      })

  -- a line that is given to a closed handle
  pub line_too_late : None ≡ old → new ≡ None → answer ≡ answer_with ENDED → AnswersLine line old new answer
  line_too_late had has answer_is =
      subst₂ (λ (o n : Option OpenSession). AnswersLine line o n answer) had (sym has) (record {
        made = Err event.Ended;
        block = λ graph terms lines bytes represents. tt;
        work = λ engine rounds same represents. tt;
        text = tt;
        ended = (λ same. tt, λ none. refl);
        closed = refl;
        answer_is = answer_is;
      })

-- what comes of the line of an event for the session that the handle held
pub event_answered : (time kind index : ℕ) (old new : Option OpenSession) (answer : TfpgAnswer) (before : OpenSession) → Some before ≡ old
    → AnswersEvent (line_of_event before.session.engine.graph time kind index) old new answer → AnswersEvent (event_line_for old time kind index) old new answer
event_answered time kind index old new answer before had answers =
    subst (λ (o : Option OpenSession). AnswersEvent (event_line_for o time kind index) old new answer) had answers

-- the answer of an event without a block says nothing of a count
pub uncounted : (fault : EventFault) → answer_of_event_fault fault ≡ record (answer_of_event_fault fault) { count = 0 }
uncounted event.NoMemory = refl
uncounted event.Ended = refl

module _ (graph : List ℕ) (terms : Terms) (new : Option OpenSession) (answer : TfpgAnswer) where
  -- a session that is opened
  pub opened : (made : OpenSession) (count : ℕ) → new ≡ Some made → IsNewlyOpen graph terms made → count ≡ length (open_text made)
      → ((why : OpenFault) → (why ≡ opening.NoMemory → ⊥) → IsOpenFault graph terms why → ⊥)
      → answer ≡ counted DONE count → AnswersOpen graph terms new answer
  opened made count has is counts none answer_is =
      subst (λ (n : Option OpenSession). AnswersOpen graph terms n answer) (sym has) (record {
        made = Ok (open_text made);
        opened = (refl, is);
        fault = tt;
        closed = tt;
        completes = λ can. tt;
        refuses = λ why real stands. absurd (none why real stands);
        answer_is = answer_is ∙ ap (counted DONE) counts;
      })

  -- one that is not
  pub not_opened : (fault : OpenFault) → new ≡ None → IsOpenFault graph terms fault → (CanOpen graph terms → fault ≡ opening.NoMemory)
      → ((why : OpenFault) → (why ≡ opening.NoMemory → ⊥) → IsOpenFault graph terms why → (fault ≡ why) ⊎ (fault ≡ opening.NoMemory))
      → answer ≡ answer_of_open_fault fault → AnswersOpen graph terms new answer
  not_opened fault has is completes refuses answer_is = record {
    made = Err fault;
    opened = tt;
    fault = is;
    closed = has;
    completes = completes;
    refuses = λ why real stands. ⊎_elim (λ same. inl (ap Err same)) (λ none. inr (ap Err none)) (refuses why real stands);
    answer_is = answer_is;
  }

module _ (one : OpenSession) (old new : List ℕ) (answer : TfpgAnswer) where
  -- the text was put into the room
  pub text_put : (text : List ℕ) → open_text one ≡ text → (KeepsNoText one × (one.session.next ≡ None) → ⊥) → answer ≡ answer_of_text text (length old) → new ≡ room_after text old
      → AnswersBlock (Some one) old new answer
  text_put text is has answer_is room_is = record {
    made = Ok text;
    text = is;
    kept = λ keeps. refl;
    ended = (λ same. absurd (ok_is_no_error text event.Ended same), λ none. absurd (has none));
    answer_is = answer_is;
    room_is = room_is;
  }

  -- it was not made
  pub text_not_made : {T : Type 0} (fault : EventFault) → KeepsNoText one → (◌≡◌ {A = Result T EventFault} (Err fault) (Err event.Ended)) ↔ (one.session.next ≡ None)
      → answer ≡ answer_of_event_fault fault → new ≡ old → AnswersBlock (Some one) old new answer
  text_not_made fault none ended answer_is room_is = record {
    made = Err fault;
    text = tt;
    kept = λ keeps. absurd (false≢true (subst IsSome none keeps));
    ended = (λ same. (none, ended.0 (same_error fault event.Ended same)), λ has. same_error fault event.Ended (ended.1 has.1));
    answer_is = answer_is;
    room_is = room_is;
  }

-- the text of a closed handle
pub closed_block : (room : List ℕ) (answer : TfpgAnswer) → answer ≡ answer_with ENDED → AnswersBlock None room room answer
closed_block room answer answer_is = record {
  made = Err event.Ended;
  text = tt;
  kept = λ keeps. absurd keeps;
  ended = (λ same. tt, λ none. refl);
  answer_is = answer_is;
  room_is = refl;
}

-- where none is kept the text is that of what came last
pub unkept_text : (one : OpenSession) → KeepsNoText one → open_text one ≡ latest_text one.session
unkept_text one none = λ i. option_map_or (λ kept. kept.items) (none i) (latest_text one.session)
