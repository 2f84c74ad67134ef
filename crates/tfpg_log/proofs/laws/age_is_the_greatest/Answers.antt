use Rattle.tfpg_log.proofs.lemmas.ages.Ages.{has_age, has_lesser, age_since_start, has_greatest, one_age, grows}
use Rattle.tfpg_log.proofs.laws.age_is_the_greatest.Goals as goal

pub returns : goal.returns
returns c = record {
  begins = has_age;
  lesser = has_lesser;
  bounded = age_since_start;
  found = has_greatest;
  only_one = one_age;
  grows = grows;
}
