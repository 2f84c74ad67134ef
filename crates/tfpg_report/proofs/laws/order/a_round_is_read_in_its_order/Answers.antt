-- The lines of a round and of losses, section by section.
use Rattle.std.proofs.Common.{Some, ◌∙◌, ap}
use Rattle.tfpg_report.proofs.lemmas.laws.ReadInOrder.{round_leads, all_losses_arrive}
use Rattle.tfpg_report.proofs.laws.order.a_round_is_read_in_its_order.Goals as goal

pub returns : goal.returns
returns c = record {
  round = round_leads;
  losses = λ losses rising.
      let arrives = all_losses_arrive losses rising in
      (arrives.there.0, arrives.leads ∙ ap Some arrives.there.1);
}
