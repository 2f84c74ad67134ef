-- How the faults of the layers below become those of calls over texts.
use Rattle.tfpg_graph.specs.declared.cause.GraphRefusal.{GraphRefusal}
use Rattle.tfpg_graph.specs.declared.cause.GraphRefusal.TheVariants as refusal
use Rattle.tfpg_hyp.specs.declared.table.TableFault.{TableFault}
use Rattle.tfpg_hyp.specs.declared.table.TableFault.TheVariants as table
use Rattle.tfpg_answers.specs.declared.texts.fault.AskTextsFault.{AskTextsFault}
use Rattle.tfpg_answers.specs.declared.texts.fault.AskTextsFault.TheVariants as asking
use Rattle.tfpg_answers.specs.declared.texts.fault.PredictTextsFault.{PredictTextsFault}
use Rattle.tfpg_answers.specs.declared.texts.fault.PredictTextsFault.TheVariants as predicting
use Rattle.tfpg_answers.specs.declared.texts.fault.ExplainTextsFault.{ExplainTextsFault}
use Rattle.tfpg_answers.specs.declared.texts.fault.ExplainTextsFault.TheVariants as explaining

-- why there are no questions where there is no graph
abbrev pub ask_fault_of_refusal : GraphRefusal → AskTextsFault
ask_fault_of_refusal (refusal.Fault fault) = asking.Graph fault
ask_fault_of_refusal refusal.NoMemory = asking.NoMemory

-- and where there is no table of hypotheses
abbrev pub ask_fault_of_table : TableFault → AskTextsFault
ask_fault_of_table (table.TooMany count) = asking.TooManyHypotheses count
ask_fault_of_table table.NoMemory = asking.NoMemory

-- why there are no forecasts where there is no graph
abbrev pub predict_fault_of_refusal : GraphRefusal → PredictTextsFault
predict_fault_of_refusal (refusal.Fault fault) = predicting.Graph fault
predict_fault_of_refusal refusal.NoMemory = predicting.NoMemory

-- and where there is no table of hypotheses
abbrev pub predict_fault_of_table : TableFault → PredictTextsFault
predict_fault_of_table (table.TooMany count) = predicting.TooManyHypotheses count
predict_fault_of_table table.NoMemory = predicting.NoMemory

-- why there is no verdict where there is no graph
abbrev pub explain_fault_of_refusal : GraphRefusal → ExplainTextsFault
explain_fault_of_refusal (refusal.Fault fault) = explaining.Graph fault
explain_fault_of_refusal refusal.NoMemory = explaining.NoMemory
