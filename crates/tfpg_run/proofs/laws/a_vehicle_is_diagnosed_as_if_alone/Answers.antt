use Rattle.std.proofs.Common.{◌+◌, take}
use Rattle.std.specs.Prelude.{flat_map}
use Rattle.tfpg_check.specs.Report.{rounds_of}
use Rattle.tfpg_check.proofs.lemmas.RoundsOfReports.{round_there}
use Rattle.tfpg_fleet.specs.Belonging.{lines_for}
use Rattle.tfpg_run.specs.fleet.Answers.{blocks_for}
use Rattle.tfpg_run.proofs.laws.a_vehicle_is_diagnosed_as_if_alone.Goals as goal

pub returns : goal.returns
returns c = λ fleet alone stream answers number blocks valid same_k same_doubt are its_are index round other own its.
    let lines = lines_for fleet.names number stream in
    c.rounds_of_the_same_lines_find_the_same.ensures fleet.graph fleet.terms alone (take (index + 1) lines) round other valid same_k same_doubt
    (record {
      rounds = flat_map rounds_of (take index (blocks_for number answers));
      line = index + 1;
      is = round_there fleet.graph fleet.terms lines (blocks_for number answers) (are.reports number).are_blocks index round own.0 own.1;
      none_open = own.2;
    })
    (record {
      rounds = flat_map rounds_of (take index blocks);
      line = index + 1;
      is = round_there fleet.graph alone lines blocks its_are index other its.0 its.1;
      none_open = its.2;
    })
