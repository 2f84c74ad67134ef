-- What the code reads of a line, seen as the definition of statements says it.
use Rattle.std.specs.Prelude.{ℕ, List}
use Rattle.tfpg_log.specs.declared.log_line.LogStatement.{LogStatement as StatementRead}
use Rattle.tfpg_log.specs.declared.log_line.LogStatement.TheVariants as code
use Rattle.tfpg_log.specs.declared.log_line.LogLine.{LogLine}
use Rattle.tfpg_log.specs.LogStatements.{LogStatement, Alarm, Silent, Sweep, Tick, Mode}

-- what a line says after its time, with its name as bytes
abbrev pub log_statement_seen : StatementRead → LogStatement
log_statement_seen (code.Alarm name) = Alarm name.now
log_statement_seen (code.Silent name) = Silent name.now
log_statement_seen code.Sweep = Sweep
log_statement_seen code.Tick = Tick
log_statement_seen (code.Mode name) = Mode name.now

-- a line as the word for its time and what it says
abbrev pub log_line_seen : LogLine → List ℕ × LogStatement
log_line_seen line = (line.time.now, log_statement_seen line.statement)
