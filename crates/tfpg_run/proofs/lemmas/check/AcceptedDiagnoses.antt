-- What a diagnosis has written that is done can be checked, and is accepted.
use Rattle.std.proofs.Common.{◌≡◌, ℕ, List, ◌++◌, Some, IfSome, Result, Ok, Err, inl, inr, refl, sym, ap, subst, subst₂, ◌∙◌}
use Rattle.std.proofs.lemmas.List.{append_cancel_left}
use Rattle.std.proofs.lemmas.Option.{same_Some}
use Rattle.tfpg_base.specs.declared.terms.Terms.{Terms}
use Rattle.tfpg_base.specs.Lines.{lines_of}
use Rattle.tfpg_base.specs.Outside.{Gives, IsAtEnd, Puts, ShelfState, SinkState, Takes, file_of}
use Rattle.tfpg_graph.specs.Graph.{Tfpg}
use Rattle.tfpg_check.specs.Report.{IsReport}
use Rattle.tfpg_words.specs.declared.usage_cause.UsageCause.{UsageCause}
use Rattle.tfpg_words.specs.Meaning.{Meaning, Check, Diagnose}
use Rattle.tfpg_run.specs.declared.end.End.{End}
use Rattle.tfpg_run.specs.declared.end.End.TheVariants.{Done, NoMemory, TooManyHypotheses}
use Rattle.tfpg_streams.specs.declared.fault.StreamFault.{StreamFault}
use Rattle.tfpg_run.specs.Completeness.{CanBeDone}
use Rattle.tfpg_run.specs.EndsOf.{end_of_result, end_of_stream_fault}
use Rattle.tfpg_run.specs.Fetch.{GivesGraph}
use Rattle.tfpg_run.specs.Run.{RunEnds}
use Rattle.tfpg_run.specs.World.{World, watched_of}
use Rattle.tfpg_run.specs.check.AfterDiagnosis.{FollowsDiagnosis}
use Rattle.tfpg_diagnose.specs.Diagnosing.{Diagnoses}
use Rattle.tfpg_run.specs.diagnose.Diagnosing.{DiagnosisEnds}
use Rattle.tfpg_diagnose.specs.RightReport.{IsRightReport}
use Rattle.tfpg_diagnose.specs.TellsPanels.{desks}
use Rattle.tfpg_streams.proofs.lemmas.InputLines.{all_taken}
use Rattle.tfpg_run.proofs.lemmas.Completing.{gives_is}
use Rattle.tfpg_run.proofs.lemmas.Stops.{fetch_not_done, stream_not_done}

-- ---- what a diagnosis has done

-- A diagnosis took all of the input, and wrote the report of its lines.
record WroteReport (terms : Terms) (name : List ℕ) (before now : World) : Type 0 where
  graph : Tfpg
  gives : GivesGraph before.shelf name graph
  taken : List ℕ
  takes : Takes before.input now.input taken
  at_end : IsAtEnd now.input
  written : List ℕ
  writes : Puts before.output now.output written
  right : IsRightReport graph terms (desks before.desk now.desk) (lines_of taken) written

wrote_report : (terms : Terms) (name : List ℕ) (before now : World) → RunEnds (Ok (Diagnose terms name)) before now Done → WroteReport terms name before now
wrote_report terms name before now (inl (inl lacks)) = absurd (fetch_not_done lacks.fault (sym lacks.end_is))
wrote_report terms name before now (inl (inr file)) = of_works file.works
  where
    by : (result : Result (Unit {0}) StreamFault) → Diagnoses file.graph terms (watched_of before) (watched_of now) result → Done ≡ end_of_result end_of_stream_fault result
        → WroteReport terms name before now
    by (Ok done) works is = record {
      graph = file.graph;
      gives = file.gives;
      taken = works.taken;
      takes = works.takes;
      at_end = works.ends.at_end;
      written = works.written;
      writes = works.writes;
      right = works.ends.right;
    }
    by (Err fault) works is = absurd (stream_not_done fault (sym is))

    of_works : DiagnosisEnds terms before now file.graph Done → WroteReport terms name before now
    of_works (inl many) = let is : Done ≡ TooManyHypotheses many.fault = many.end_is in absurd cc
    of_works (inr few) = by few.1.result few.1.works few.1.end_is
wrote_report terms name before now (inr none) = let is : Done ≡ NoMemory = none.1 in absurd cc

-- ---- what is known is what was taken, written and spelled

-- what was appended to what was held was written
all_written : (before now : SinkState) (held appended written : List ℕ) → before.holds ≡ Some held → now.holds ≡ Some (held ++ appended) → Puts before now written → written ≡ appended
all_written before now held appended written holds is puts =
    let own : now.holds ≡ Some (held ++ written) = subst (λ (h : _). IfSome h (λ (had : List ℕ). now.holds ≡ Some (had ++ written))) holds puts in
    append_cancel_left held written appended (same_Some (held ++ written) (held ++ appended) (sym own ∙ is))

-- a file that is there is given
is_given : (shelf : ShelfState) (files : List (List ℕ × List ℕ)) (name text : List ℕ) → shelf.files ≡ Some files → file_of files name ≡ Some text → Gives shelf name text
is_given shelf files name text known is = subst (λ (fs : _). IfSome fs (λ (them : List (List ℕ × List ℕ)). file_of them name ≡ Some text)) (sym known) is

-- ---- the check

module _ (terms : Terms) (diagnosed graph log : List ℕ) (before now later : World)
    (ends : RunEnds (Ok (Diagnose terms diagnosed)) before now Done)
    (follows : FollowsDiagnosis diagnosed graph log before now later) where
  wrote : WroteReport terms diagnosed before now
  wrote = wrote_report terms diagnosed before now ends

  -- the graph file is there, and spells the graph that was diagnosed
  gives_graph : GivesGraph later.shelf graph wrote.graph
  gives_graph = record {
    text = wrote.gives.text;
    file = record {
      gives = is_given later.shelf follows.files graph wrote.gives.text follows.files_are
          (follows.same_graph ∙ gives_is before.shelf follows.run.files follows.run.files_are diagnosed wrote.gives.text wrote.gives.file.gives);
      small = wrote.gives.file.small;
    };
    spells = wrote.gives.spells;
    valid = wrote.gives.valid;
  }

  -- the log file has the lines that were taken
  same_lines : lines_of wrote.taken ≡ lines_of follows.log_text
  same_lines = ap lines_of (sym (all_taken before.input now.input follows.run.input wrote.taken follows.run.input_is wrote.takes wrote.at_end)) ∙ sym follows.same_lines

  same_bytes : wrote.written ≡ follows.run.written
  same_bytes = all_written before.output now.output follows.run.held follows.run.written wrote.written follows.run.held_is follows.run.written_is wrote.writes

  -- What was written can be checked.
  pub can_check : CanBeDone (Check graph log) later
  can_check = record {
    files = follows.files;
    known = follows.files_are;
    graph = wrote.graph;
    text = follows.log_text;
    gives = record {
      of_graph = gives_graph;
      file = record { gives = is_given later.shelf follows.files log follows.log_text follows.files_are follows.log_is; small = follows.log_small };
    };
    hold = (
      record { known = follows.run.written; left = follows.input_is; few = follows.few },
      (
        terms,
        wrote.right.blocks,
        record {
          bytes = follows.run.written;
          report = subst₂ (λ (lines : List (List ℕ)) (bytes : List ℕ). IsReport wrote.graph terms lines wrote.right.blocks bytes) same_lines same_bytes wrote.right.report;
          lines_are = inl refl;
        },
      ),
    );
  }
