use Rattle.std.proofs.Common.{List, ℕ, ◌++◌, Contains, ap, subst, ◌∙◌}
use Rattle.tfpg_evidence.specs.declared.finding.Finding.{Finding}
use Rattle.tfpg_run.specs.generate.Summary.{drawn_text, rounds_text, truth_text}
use Rattle.tfpg_run.proofs.generate.summary.summary_text.Goals as goal

pub returns : goal.returns
returns c =
    let finding = c.finding_on-finding.result.now in
    record {
      has = record {
        finding = finding;
        there = subst (λ (findings : List Finding). Contains findings finding) c.as_slice.ensures c.finding_on-finding.ensures.there;
        on_set = c.finding_on-finding.ensures.hypothesis ∙ c.believing.ensures;
      };
      text_is = c.in_ok-append_truth.ensures
          ∙ ap (λ (t : List ℕ). t ++ truth_text c.args.graph.now c.args.set finding.status)
          (c.in_ok-append_rounds.ensures
          ∙ ap (λ (t : List ℕ). t ++ rounds_text c.args.rounds c.args.last.now.counts)
          (c.in_ok-append_drawn.ensures ∙ ap (λ (t : List ℕ). t ++ drawn_text c.args.number c.args.size c.args.graph.now c.args.rounds) c.new-text.ensures.items));
    }
