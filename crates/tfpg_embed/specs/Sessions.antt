-- What the calls of a session come to.
use Rattle.std.specs.Prelude.{◌≡◌, ◌≢◌, ◌⊎◌, ◌↔◌, ℕ, ◌++◌, ◌∷◌, [], List, length, Option, Some, None, Result, Err, IfErr, IfOk, IsOk, IsOkUnless, IsSome, IsSomeAnd, OnErr}
use Rattle.std.specs.Option.{option_map_or}
use Rattle.tfpg_base.specs.declared.terms.Terms.{Terms}
use Rattle.tfpg_graph.specs.Graph.{Tfpg}
use Rattle.tfpg_evidence.specs.declared.round.Round.{Round}
use Rattle.tfpg_engine.specs.EngineState.{EngineState, EngineRepresents, calls_of_engine}
use Rattle.tfpg_engine.specs.declared.told.EventFault.{EventFault}
use Rattle.tfpg_engine.specs.declared.told.EventFault.TheVariants as event
use Rattle.tfpg_report.specs.Blocks.{head_text}
use Rattle.tfpg_diagnose.specs.declared.texts.fault.OpenFault.{OpenFault}
use Rattle.tfpg_diagnose.specs.declared.texts.fault.OpenFault.TheVariants as opening
use Rattle.tfpg_diagnose.specs.texts.Opening.{CanOpen, IsOpenFault}
use Rattle.tfpg_diagnose.specs.texts.Sessions.{CountsBlock, IsNewSession, SessionRepresents, latest_text}
use Rattle.tfpg_embed.specs.declared.answer.TfpgAnswer.{TfpgAnswer}
use Rattle.tfpg_embed.specs.declared.session.open_session.OpenSession.{OpenSession}
use Rattle.tfpg_embed.specs.declared.status.TheConstants.{DONE}
use Rattle.tfpg_embed.specs.Answers.{answer_of, answer_of_event_fault, answer_of_open_fault, answer_of_text, counted}
use Rattle.tfpg_embed.specs.Rooms.{room_after_made}

-- the text of an open session: the one that it keeps, or else that of what came last in it
abbrev pub open_text : OpenSession → List ℕ
open_text one = option_map_or (λ kept. kept.items) one.text (latest_text one.session)

-- It keeps its text: none has to be made when it is asked for.
abbrev pub KeepsText : OpenSession → Type 0
KeepsText one = IsSome one.text

-- It keeps none.
abbrev pub KeepsNoText : OpenSession → Type 0
KeepsNoText one = one.text ≡ None

-- The session is of the graph that the text spells, took no line, and its text, which it keeps, is the first line of a report.
pub record IsNewlyOpen (graph : List ℕ) (terms : Terms) (open_session : OpenSession) : Type 0 where
  pub new : IsNewSession graph terms open_session.session
  pub text_is : open_text open_session ≡ head_text terms
  pub keeps : KeepsText open_session

-- What a handle holds is an open session with this text.
abbrev pub HoldsText : Option OpenSession → List ℕ → Type 0
HoldsText held text = IsSomeAnd held (λ one. open_text one ≡ text)

-- What a handle holds is a session that represents these lines and bytes.
abbrev pub HoldsReport : Tfpg → Terms → List (List ℕ) → List ℕ → Option OpenSession → Type 0
HoldsReport graph terms lines bytes held = IsSomeAnd held (λ one. SessionRepresents graph terms lines bytes one.session)

-- It holds no session, or one that has ended.
abbrev pub HasEnded : Option OpenSession → Type 0
HasEnded None = Unit {0}
HasEnded (Some one) = one.session.next ≡ None

-- What a handle holds is a session with this engine.
abbrev pub HoldsEngine : EngineState → Option OpenSession → Type 0
HoldsEngine engine held = IsSomeAnd held (λ one. one.session.engine ≡ engine)

-- how many counted calls the engine made of the session that a handle holds
abbrev pub calls_of : Option OpenSession → ℕ
calls_of None = 0
calls_of (Some one) = calls_of_engine one.session.engine

-- Opening was tried. The handle then holds a new session, whose text is the first line of the report; or it is closed, with the cause.
-- Where nothing stands in its way there is a session, and where a fault does, it is that fault; or memory ran out. The answer says which.
pub record AnswersOpen (graph : List ℕ) (terms : Terms) (new : Option OpenSession) (answer : TfpgAnswer) : Type 0 where
  pub made : Result (List ℕ) OpenFault
  pub opened : IfOk made (λ text. HoldsText new text × IsSomeAnd new (IsNewlyOpen graph terms))
  pub fault : IfErr made (IsOpenFault graph terms)
  pub closed : OnErr made (new ≡ None)
  pub completes : CanOpen graph terms → IsOkUnless made opening.NoMemory
  pub refuses : (why : OpenFault) → why ≢ opening.NoMemory → IsOpenFault graph terms why → (made ≡ Err why) ⊎ (made ≡ Err opening.NoMemory)
  pub answer_is : answer ≡ answer_of (λ text. counted DONE (length text)) answer_of_open_fault made

-- A line was given to what the handle held. Its block is then the text: the lines so far with this one, and the bytes so far with this block,
-- are represented, and the block kept within its limit of counted calls. Or there is no block: the session had ended, and exactly then the
-- answer says so; or memory ran out. The handle is then closed.
pub record AnswersLine (line : List ℕ) (old new : Option OpenSession) (answer : TfpgAnswer) : Type 0 where
  pub made : Result (List ℕ) EventFault
  pub block : (graph : Tfpg) (terms : Terms) (lines : List (List ℕ)) (bytes : List ℕ) → HoldsReport graph terms lines bytes old
      → IfOk made (λ block. HoldsReport graph terms (lines ++ line ∷ []) (bytes ++ block) new)
  pub work : (engine : EngineState) (rounds : List Round) → HoldsEngine engine old → EngineRepresents engine rounds
      → IfOk made (λ block. CountsBlock engine rounds line block (calls_of old) (calls_of new))
  pub text : IfOk made (HoldsText new)
  pub ended : (made ≡ Err event.Ended) ↔ HasEnded old
  pub closed : OnErr made (new ≡ None)
  pub answer_is : answer ≡ answer_of (λ block. counted DONE (length block)) answer_of_event_fault made

-- What a handle holds is an open session that keeps its text.
abbrev pub HoldsKept : Option OpenSession → Type 0
HoldsKept held = IsSomeAnd held KeepsText

-- It holds no session, or one that has ended and keeps no text.
abbrev pub HasNoText : Option OpenSession → Type 0
HasNoText None = Unit {0}
HasNoText (Some one) = KeepsNoText one × (one.session.next ≡ None)

-- The text of what a handle holds was asked for, with this room, and put into it if it fits. Or there is none: none can be, and exactly then
-- the answer says that the session is closed; or memory ran out, though not where the text is kept. The room is then as it was.
pub record AnswersBlock (held : Option OpenSession) (old new : List ℕ) (answer : TfpgAnswer) : Type 0 where
  pub made : Result (List ℕ) EventFault
  pub text : IfOk made (HoldsText held)
  pub kept : HoldsKept held → IsOk made
  pub ended : (made ≡ Err event.Ended) ↔ HasNoText held
  pub answer_is : answer ≡ answer_of (λ text. answer_of_text text (length old)) answer_of_event_fault made
  pub room_is : new ≡ room_after_made made old
