-- What each line of a stream of many vehicles is answered by.
use Rattle.std.specs.Prelude.{ℕ, ◌+◌, ◌==◌, List, [], ◌∷◌, ◌++◌, flat_map, Option, Some, None, codes, decimal, slice_index_or}
use Rattle.std.specs.Bool.{then_some}
use Rattle.std.specs.List.{filter_map}
use Rattle.tfpg_base.specs.declared.terms.Terms.{Terms}
use Rattle.tfpg_base.specs.TextLine.{text_line}
use Rattle.tfpg_graph.specs.Graph.{Tfpg}
use Rattle.tfpg_report.specs.Blocks.{Block, block_text, head_text}

-- The answer to a line: it is stray; or it has this block, of the vehicle of this number.
pub data Answer : Type 0 where
  StrayLine : Answer
  OwnBlock : (vehicle : ℕ) (block : Block) → Answer

-- the vehicle that an answer is of
abbrev pub vehicle_of : Answer → Option ℕ
vehicle_of StrayLine = None
vehicle_of (OwnBlock vehicle block) = Some vehicle

-- the block of an answer, where it is of the vehicle of this number
abbrev pub block_for : ℕ → Answer → Option Block
block_for number StrayLine = None
block_for number (OwnBlock vehicle block) = then_some (vehicle == number) block

-- the blocks of the vehicle of this number, in order
abbrev pub blocks_for : ℕ → List Answer → List Block
blocks_for number answers = filter_map (block_for number) answers

-- the line that names a vehicle
abbrev pub naming_text : List ℕ → List ℕ
naming_text name = text_line (codes "vehicle" ∷ name ∷ [])

-- the text of the answer to the line of this number in the stream: the number where it is stray
abbrev pub answer_text : Tfpg → List (List ℕ) → ℕ → Answer → List ℕ
answer_text graph names number StrayLine = text_line (codes "stray" ∷ decimal number ∷ [])
answer_text graph names number (OwnBlock vehicle block) =
    naming_text (slice_index_or names vehicle []) ++ block_text graph block

-- the text of answers, the first of which is to the line of this number
abbrev pub answers_text : Tfpg → List (List ℕ) → ℕ → List Answer → List ℕ
answers_text graph names number [] = []
answers_text graph names number (answer ∷ others) =
    answer_text graph names number answer ++ answers_text graph names (number + 1) others

-- what stands before the answers: each vehicle's name, with the first line of a report
abbrev pub opening_text : List (List ℕ) → Terms → List ℕ
opening_text names terms = flat_map (λ name. naming_text name ++ head_text terms) names
