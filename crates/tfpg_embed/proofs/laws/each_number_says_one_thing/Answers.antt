use Rattle.std.proofs.Common.{refl}
use Rattle.tfpg_embed.proofs.lemmas.OneCause.{one_check_cause, one_graph_cause, one_refusal}
use Rattle.tfpg_embed.proofs.laws.each_number_says_one_thing.Goals as goal

pub returns : goal.returns
returns c = record { statuses = refl; name_kinds = refl; event_kinds = refl; graph_causes = one_graph_cause; report_causes = one_check_cause; refusals = one_refusal }
