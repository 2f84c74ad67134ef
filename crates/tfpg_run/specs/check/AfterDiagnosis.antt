-- The world of a check of what a diagnosis wrote.
use Rattle.std.specs.Prelude.{◌≡◌, ℕ, ◌≤◌, List, ◌++◌, length, Some}
use Rattle.tfpg_base.specs.declared.limits.TheConstants.{MAX_BYTES, LONGEST_FILE}
use Rattle.tfpg_base.specs.Lines.{lines_of}
use Rattle.tfpg_base.specs.Outside.{file_of}
use Rattle.tfpg_run.specs.World.{World}

-- What a run began with is known, and so is what it has written.
pub record IsKnownRun (before now : World) : Type 0 where
  pub files : List (List ℕ × List ℕ)
  pub files_are : before.shelf.files ≡ Some files
  pub input : List ℕ
  pub input_is : before.input.left ≡ Some input
  pub held : List ℕ
  pub held_is : before.output.holds ≡ Some held
  pub written : List ℕ
  pub written_is : now.output.holds ≡ Some (held ++ written)

-- The later world is for a check of what a diagnosis wrote, by the graph file and the log file of these names, and its contents are known.
-- The graph file has the bytes of the one that was diagnosed. The log file has the lines of the input that was diagnosed, and at most
-- 2^24 bytes. The input is what the diagnosis wrote, at most 2^32 bytes.
pub record FollowsDiagnosis (diagnosed graph log : List ℕ) (before now later : World) : Type 0 where
  pub run : IsKnownRun before now
  pub files : List (List ℕ × List ℕ)
  pub files_are : later.shelf.files ≡ Some files
  pub same_graph : file_of files graph ≡ file_of run.files diagnosed
  pub log_text : List ℕ
  pub log_is : file_of files log ≡ Some log_text
  pub log_small : length log_text ≤ LONGEST_FILE
  pub same_lines : lines_of log_text ≡ lines_of run.input
  pub input_is : later.input.left ≡ Some run.written
  pub few : length run.written ≤ MAX_BYTES
