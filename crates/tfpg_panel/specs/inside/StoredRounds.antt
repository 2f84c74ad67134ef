-- How the toolchain's logic tells lists of rounds apart, where no code holds them.
use base.Stored.{Coded}
use Rattle.std.specs.Prelude.{List}
use Rattle.std.specs.Coded.{coded_list}
use Rattle.tfpg_evidence.specs.contracts.round.Round.{the_row}

-- by the rounds
abbrev pub stored_rounds : Coded (List the_row.Denot)
stored_rounds = coded_list the_row.coded
