use Rattle.tfpg_hyp.proofs.lemmas.IgnoredMore.{explains_ignoring, whole_fits}
use Rattle.tfpg_hyp.proofs.laws.larger_hypotheses.a_larger_hypothesis_fits_as_well.Goals as goal

pub returns : goal.returns
returns c = record {
  explains = λ graph log set few many trace fewer explains. explains_ignoring graph trace few many fewer log set explains;
  fits = whole_fits;
}
