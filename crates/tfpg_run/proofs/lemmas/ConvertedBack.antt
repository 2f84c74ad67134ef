-- A graph that is converted to JSON and back is the same graph.
use Rattle.std.proofs.Common.{◌≡◌, ℕ, Bool, true, false, List, [], ◌++◌, Option, Some, IfSome, Result, Ok, Err, sym, ap, subst, ◌∙◌, inl, inr}
use Rattle.std.proofs.lemmas.Option.{same_Some}
use Rattle.tfpg_base.specs.Outside.{SinkState, Puts, file_of}
use Rattle.tfpg_graph.specs.Graph.{Tfpg}
use Rattle.tfpg_graph.specs.Text.{Spells, canonical_text}
use Rattle.tfpg_graph.specs.Valid.{IsValid}
use Rattle.tfpg_graph.proofs.lemmas.reading.faults.NoFault.{Spells-clean}
use Rattle.tfpg_json.specs.GraphData.{graph_json}
use Rattle.tfpg_json.specs.GraphText.{SpellsAsJson}
use Rattle.tfpg_run.specs.declared.end.End.TheVariants.{Done}
use Rattle.tfpg_streams.specs.declared.fault.OutputFault.{OutputFault}
use Rattle.tfpg_streams.specs.declared.fault.OutputFault.TheVariants as output
use Rattle.tfpg_run.specs.EndsOf.{EndsBy, end_of_output_fault, end_of_result}
use Rattle.tfpg_run.specs.Fetch.{GivesGraph, WorksByGraph}
use Rattle.tfpg_streams.specs.Outputs.{TextEnds, WritesText}
use Rattle.tfpg_run.specs.World.{World}
use Rattle.tfpg_run.specs.convert.Converting.{ConvertEnds, SpellsFrom, converted_text}
use Rattle.tfpg_run.proofs.lemmas.Completing.{gives_is}
use Rattle.tfpg_run.proofs.lemmas.Stops.{fetch_not_done}

-- a graph text spells at most one valid graph
one_graph : (text : List ℕ) (graph other : Tfpg) → Spells text graph → IsValid graph → Spells text other → IsValid other → graph ≡ other
one_graph text graph other spells valid spells_other valid_other =
    sym (Spells-clean text graph spells valid).1 ∙ (Spells-clean text other spells_other valid_other).1

-- and so does JSON
one_json_graph : (text : List ℕ) (graph other : Tfpg) → SpellsAsJson text graph → IsValid graph → SpellsAsJson text other → IsValid other → graph ≡ other
one_json_graph text graph other spells valid spells_other valid_other =
    let joined = sym spells_other.1 ∙ spells.1 in
    let same : spells_other.0 ≡ spells.0 = cc in
    one_graph spells.0 graph other spells.2 valid (subst (λ (lines : List ℕ). Spells lines other) same spells_other.2) valid_other

-- work that is done wrote its text
text_is_written : (IsRight : List ℕ → Type 0) (before now : SinkState) (result : Result (Unit {0}) OutputFault) → TextEnds IsRight before now result
    → Done ≡ end_of_result end_of_output_fault result → WritesText IsRight before now
text_is_written IsRight before now (Ok done) is e = is
text_is_written IsRight before now (Err output.WriteFault) is e = cc
text_is_written IsRight before now (Err output.NoMemory) is e = cc

-- what an empty output holds then
held_is : (before now : SinkState) (bytes : List ℕ) → before.holds ≡ Some [] → Puts before now bytes → now.holds ≡ Some bytes
held_is before now bytes empty puts = subst (λ (holds : Option (List ℕ)). IfSome holds (λ held. now.holds ≡ Some (held ++ bytes))) empty puts

-- a graph that was converted, and what the output holds
pub record Converted (json : Bool) (name : List ℕ) (before now : World) : Type 0 where
  pub file : WorksByGraph (SpellsFrom json) name
      (λ graph. EndsBy (TextEnds (λ text. text ≡ converted_text json graph) before.output now.output) end_of_output_fault) before now Done
  pub holds : now.output.holds ≡ Some (converted_text json file.graph)

converted_by : (json : Bool) (name : List ℕ) (before now : World) → ConvertEnds json name before now Done → before.output.holds ≡ Some [] → Converted json name before now
converted_by json name before now (inl lacks) empty = absurd (fetch_not_done lacks.fault (sym lacks.end_is))
converted_by json name before now (inr file) empty =
    let writes = text_is_written (λ text. text ≡ converted_text json file.graph) before.output now.output file.works.result file.works.works file.works.end_is in
    record { file = file; holds = held_is before.output now.output writes.text empty writes.writes ∙ ap Some writes.right }

module _ (read_back : (graph : Tfpg) → IsValid graph → SpellsAsJson (graph_json graph) graph) where
  pub converted_back : (name json_name written : List ℕ) (before now later end : World) (files : List (List ℕ × List ℕ)) → ConvertEnds false name before now Done
      → before.output.holds ≡ Some [] → now.output.holds ≡ Some written → later.shelf.files ≡ Some files → file_of files json_name ≡ Some written
      → ConvertEnds true json_name later end Done → later.output.holds ≡ Some []
      → (graph : Tfpg) × GivesGraph before.shelf name graph × (end.output.holds ≡ Some (canonical_text graph))
  converted_back name json_name written before now later end files does empty holds known is again empty_again =
      let first = converted_by false name before now does empty in
      let second = converted_by true json_name later end again empty_again in
      let graph = first.file.graph in
      let gives = second.file.gives in
      let text_is : gives.text ≡ graph_json graph =
      same_Some _ _ (sym (gives_is later.shelf files known json_name gives.text gives.file.gives) ∙ is) ∙ same_Some _ _ (sym holds ∙ first.holds) in
      let same = one_json_graph gives.text graph second.file.graph (subst (λ (text : List ℕ). SpellsAsJson text graph) (sym text_is) (read_back graph first.file.gives.valid)) first.file.gives.valid gives.spells gives.valid in
      (graph, first.file.gives, second.holds ∙ ap (λ (g : Tfpg). Some (canonical_text g)) (sym same))
