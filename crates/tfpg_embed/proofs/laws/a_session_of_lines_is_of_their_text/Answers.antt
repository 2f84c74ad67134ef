use Rattle.tfpg_base.proofs.lemmas.LinesOf.{lines_again}
use Rattle.tfpg_embed.proofs.lemmas.TextOfLines.{report_of_lines}
use Rattle.tfpg_embed.proofs.laws.a_session_of_lines_is_of_their_text.Goals as goal

pub returns : goal.returns
returns c = record { lines = lines_again; report = report_of_lines }
