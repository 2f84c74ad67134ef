use Rattle.tfpg_log.proofs.lemmas.ages.WindowAges.{at_least, exactly, only_there, age, stays}
use Rattle.tfpg_log.proofs.laws.window_laws.age_is_the_time_in_the_window.Goals as goal

pub returns : goal.returns
returns c = record {
  at_least = at_least;
  exactly = exactly;
  only_there = only_there;
  age = age;
  stays = stays;
}
