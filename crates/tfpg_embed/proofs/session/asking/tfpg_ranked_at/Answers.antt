use Rattle.std.proofs.Common.{Option, Some, ap, subst, ◌∙◌, arith, refl}
use Rattle.std.specs.Prelude.{IsSomeAnd}
use Rattle.tfpg_diagnose.specs.texts.Latest.{ranked_at}
use Rattle.tfpg_diagnose.specs.texts.Sessions.{SessionState}
use Rattle.tfpg_embed.specs.declared.answer.TfpgAnswer.{TfpgAnswer}
use Rattle.tfpg_embed.specs.declared.session.open_session.OpenSession.{OpenSession}
use Rattle.tfpg_embed.specs.Ranking.{HasNumbersOf, LeavesRanked}
use Rattle.tfpg_embed.proofs.session.asking.tfpg_ranked_at.Goals as goal

pub returns-in-Some-clause-ranked : goal.returns-in-Some-clause-ranked
returns-in-Some-clause-ranked c =
    subst (λ (held : Option OpenSession). LeavesRanked held c.args.rank c.args.ranked.now c.put_ranked-answer.new.ranked c.put_ranked-answer.result) (ap Some c.deref.ensures ∙ c.in-Some.ensures.taken)
    (record {
      done = λ is. subst (λ (s : SessionState). IsSomeAnd (ranked_at s.latest.round c.args.rank) (λ finding. HasNumbersOf finding c.put_ranked-answer.new.ranked)) c.session.ensures (c.put_ranked-answer.ensures.done is);
      kept = c.put_ranked-answer.ensures.kept;
    })

pub returns-in-None-clause-ranked : goal.returns-in-None-clause-ranked
returns-in-None-clause-ranked c = record {
  done = λ is. absurd (omega (arith, ap (λ (a : TfpgAnswer). a.status) c.plain.ensures, is));
  kept = λ other. refl;
}
