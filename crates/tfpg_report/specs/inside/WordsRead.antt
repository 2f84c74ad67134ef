-- What is read of the words of a line.
use Rattle.std.specs.Prelude.{◌≡◌, ℕ, List, [], ◌∷◌, Option, None, Result, Ok, Err}
use Rattle.tfpg_base.specs.Hypothesis.{Hypothesis}
use Rattle.tfpg_graph.specs.Graph.{Tfpg}
use Rattle.tfpg_report.specs.ReportLines.{IsLineWithin, Has32Bits, line_words}
use Rattle.tfpg_report.specs.LineWords.{numbered_set_words}
use Rattle.tfpg_report.specs.SetText.{IsHypothesisOf}
use Rattle.tfpg_report.specs.inside.LinesRead.{plain_line_in}
use Rattle.tfpg_report.specs.declared.report_line.ReportLine.{ReportLine}
use Rattle.tfpg_report.specs.declared.reading.read_line.LineRefusal.{LineRefusal}
use Rattle.tfpg_report.specs.declared.reading.read_line.LineRefusal.TheVariants.{NotALine, NoMemory}

-- The line is written with these words, and its names and numbers are within their limits.
pub record HasWords (graph : Tfpg) (words : List (List ℕ)) (line : ReportLine) : Type 0 where
  pub words_are : words ≡ line_words graph line
  pub within : IsLineWithin graph line

-- the line without a set that has these words
abbrev pub plain_words_in : Tfpg → List (List ℕ) → Option ReportLine
plain_words_in graph [] = None
plain_words_in graph (keyword ∷ words) = plain_line_in graph keyword words

-- A line that was read has these words. If none was, no line has them, or memory ran out.
abbrev pub AreWordsRead : Tfpg → List (List ℕ) → Result ReportLine LineRefusal → Type 0
AreWordsRead graph words (Ok line) = HasWords graph words line
AreWordsRead graph words (Err NotALine) = (line : ReportLine) → HasWords graph words line → ⊥
AreWordsRead graph words (Err NoMemory) = Unit {0}

-- The words are those for the number and the set of a hypothesis.
pub record HasNumbered (graph : Tfpg) (words : List (List ℕ)) (number : ℕ) (hypothesis : Hypothesis) : Type 0 where
  pub words_are : words ≡ numbered_set_words graph number hypothesis
  pub small : Has32Bits number
  pub of_graph : IsHypothesisOf graph hypothesis

-- A number and a set that were read have these words. If none were, none have them, or memory ran out.
abbrev pub AreNumberedRead : Tfpg → List (List ℕ) → Result (ℕ × Hypothesis) LineRefusal → Type 0
AreNumberedRead graph words (Ok read) = HasNumbered graph words read.0 read.1
AreNumberedRead graph words (Err NotALine) = (number : ℕ) (hypothesis : Hypothesis) → HasNumbered graph words number hypothesis → ⊥
AreNumberedRead graph words (Err NoMemory) = Unit {0}
