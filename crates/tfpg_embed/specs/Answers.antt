-- What calls answer, as C sees it.
use Rattle.std.specs.Prelude.{ℕ, ◌%◌, ◌/◌, ◌^◌, List, length, nat_le, if◌then◌else◌, Result, Ok, Err}
use Rattle.tfpg_graph.specs.declared.cause.GraphFault.{GraphFault}
use Rattle.tfpg_engine.specs.declared.told.EventFault.{EventFault}
use Rattle.tfpg_engine.specs.declared.told.EventFault.TheVariants as event
use Rattle.tfpg_diagnose.specs.declared.texts.fault.OpenFault.{OpenFault}
use Rattle.tfpg_diagnose.specs.declared.texts.fault.OpenFault.TheVariants as opening
use Rattle.tfpg_diagnose.specs.declared.texts.fault.ReportFault.{ReportFault}
use Rattle.tfpg_diagnose.specs.declared.texts.fault.ReportFault.TheVariants as reporting
use Rattle.tfpg_diagnose.specs.declared.texts.fault.CheckTextsFault.{CheckTextsFault}
use Rattle.tfpg_diagnose.specs.declared.texts.fault.CheckTextsFault.TheVariants as checking
use Rattle.tfpg_graph.specs.declared.cause.GraphCause.TheVariants as graph
use Rattle.tfpg_answers.specs.declared.predict.probing.ProbeFault.{ProbeFault}
use Rattle.tfpg_answers.specs.declared.predict.probing.ProbeFault.TheVariants as probing
use Rattle.tfpg_answers.specs.declared.texts.fault.AskTextsFault.{AskTextsFault}
use Rattle.tfpg_answers.specs.declared.texts.fault.AskTextsFault.TheVariants as asking
use Rattle.tfpg_answers.specs.declared.texts.fault.PredictTextsFault.{PredictTextsFault}
use Rattle.tfpg_answers.specs.declared.texts.fault.PredictTextsFault.TheVariants as predicting
use Rattle.tfpg_answers.specs.declared.texts.fault.ExplainTextsFault.{ExplainTextsFault}
use Rattle.tfpg_answers.specs.declared.texts.fault.ExplainTextsFault.TheVariants as explaining
use Rattle.tfpg_embed.specs.declared.answer.TfpgAnswer.{TfpgAnswer}
use Rattle.tfpg_embed.specs.declared.status.TheConstants.{DONE, NOT_ACCEPTED, OUT_OF_RANGE, BAD_GRAPH, TOO_MANY_HYPOTHESES, TOO_MUCH_INPUT, NO_MEMORY, ROOM_TOO_SMALL, ENDED, NO_SUCH, BAD_MAP, FULL_GRAPH}
use Rattle.tfpg_embed.specs.Causes.{check_cause_number, graph_cause_number}

-- the answer with this status and count
abbrev pub counted : ℕ → ℕ → TfpgAnswer
counted status count = record { status = status; cause = 0; line = 0; count = count; count_high = 0 }

-- the answer with this status alone
abbrev pub answer_with : ℕ → TfpgAnswer
answer_with status = counted status 0

-- the answer with this status, for what is refused with a cause at a line
abbrev pub refused : ℕ → ℕ → ℕ → TfpgAnswer
refused status cause line = record { status = status; cause = cause; line = line; count = 0; count_high = 0 }

-- the answer for a graph that has this fault
abbrev pub graph_refused : GraphFault → TfpgAnswer
graph_refused fault = refused BAD_GRAPH (graph_cause_number fault.cause) fault.line

-- the answer for so many hypotheses, whose number is `count + 2^64 * count_high`
abbrev pub too_many : ℕ → TfpgAnswer
too_many hypotheses = record { status = TOO_MANY_HYPOTHESES; cause = 0; line = 0; count = hypotheses % 2 ^ 64; count_high = hypotheses / 2 ^ 64 }

-- the answer for a text that is put into a room of so many bytes
abbrev pub answer_of_text : List ℕ → ℕ → TfpgAnswer
answer_of_text text room = counted (if nat_le (length text) room then DONE else ROOM_TOO_SMALL) (length text)

-- ---- where it is not done

-- no session is opened
abbrev pub answer_of_open_fault : OpenFault → TfpgAnswer
answer_of_open_fault opening.OutOfRange = answer_with OUT_OF_RANGE
answer_of_open_fault (opening.Graph fault) = graph_refused fault
answer_of_open_fault (opening.TooManyHypotheses count) = too_many count
answer_of_open_fault opening.NoMemory = answer_with NO_MEMORY

-- there is no report
abbrev pub answer_of_report_fault : ReportFault → TfpgAnswer
answer_of_report_fault reporting.OutOfRange = answer_with OUT_OF_RANGE
answer_of_report_fault (reporting.Graph fault) = graph_refused fault
answer_of_report_fault (reporting.TooManyHypotheses count) = too_many count
answer_of_report_fault reporting.TooMuchInput = answer_with TOO_MUCH_INPUT
answer_of_report_fault reporting.NoMemory = answer_with NO_MEMORY

-- a report is not accepted
abbrev pub answer_of_check_fault : CheckTextsFault → TfpgAnswer
answer_of_check_fault (checking.Graph fault) = graph_refused fault
answer_of_check_fault (checking.NotAccepted line cause) = refused NOT_ACCEPTED (check_cause_number cause) line
answer_of_check_fault (checking.TooManyHypotheses count) = too_many count
answer_of_check_fault checking.TooMuchInput = answer_with TOO_MUCH_INPUT
answer_of_check_fault checking.NoMemory = answer_with NO_MEMORY

-- there are no questions
abbrev pub answer_of_ask_fault : AskTextsFault → TfpgAnswer
answer_of_ask_fault asking.OutOfRange = answer_with OUT_OF_RANGE
answer_of_ask_fault asking.TooMuchInput = answer_with TOO_MUCH_INPUT
answer_of_ask_fault (asking.Graph fault) = graph_refused fault
answer_of_ask_fault (asking.TooManyHypotheses count) = too_many count
answer_of_ask_fault asking.NoMemory = answer_with NO_MEMORY

-- a node takes no probe: with one the graph would have one node or one edge too many, or it has no such node
abbrev pub answer_of_probe_fault : ProbeFault → TfpgAnswer
answer_of_probe_fault probing.TooManyNodes = refused FULL_GRAPH (graph_cause_number graph.TooManyNodes) 0
answer_of_probe_fault probing.TooManyEdges = refused FULL_GRAPH (graph_cause_number graph.TooManyEdges) 0
answer_of_probe_fault probing.UnknownNode = answer_with NO_SUCH

-- there are no forecasts
abbrev pub answer_of_predict_fault : PredictTextsFault → TfpgAnswer
answer_of_predict_fault predicting.OutOfRange = answer_with OUT_OF_RANGE
answer_of_predict_fault predicting.TooMuchInput = answer_with TOO_MUCH_INPUT
answer_of_predict_fault (predicting.Graph fault) = graph_refused fault
answer_of_predict_fault (predicting.Probe fault) = answer_of_probe_fault fault
answer_of_predict_fault (predicting.TooManyHypotheses count) = too_many count
answer_of_predict_fault predicting.NoMemory = answer_with NO_MEMORY

-- there is no verdict
abbrev pub answer_of_explain_fault : ExplainTextsFault → TfpgAnswer
answer_of_explain_fault explaining.TooMuchInput = answer_with TOO_MUCH_INPUT
answer_of_explain_fault (explaining.Graph fault) = graph_refused fault
answer_of_explain_fault (explaining.BadMap line) = refused BAD_MAP 0 line
answer_of_explain_fault explaining.NoMemory = answer_with NO_MEMORY

-- a line has no block
abbrev pub answer_of_event_fault : EventFault → TfpgAnswer
answer_of_event_fault event.NoMemory = answer_with NO_MEMORY
answer_of_event_fault event.Ended = answer_with ENDED

-- the answer of a call, by what there is to say where it is done, and where it is not
abbrev pub answer_of : {T E : Type 0} → (T → TfpgAnswer) → (E → TfpgAnswer) → Result T E → TfpgAnswer
answer_of done not_done (Ok value) = done value
answer_of done not_done (Err fault) = not_done fault
