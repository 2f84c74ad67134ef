-- A block leads from where one may begin to where another one may.
use Rattle.tfpg_report.specs.declared.stand.Stand.TheVariants as stand
use Rattle.tfpg_report.specs.Stands.{may_begin_block}
use Rattle.tfpg_report.proofs.lemmas.laws.ReadInOrder.{let_be, block_arrives}
use Rattle.tfpg_report.proofs.laws.order.a_block_is_read_in_its_order.Goals as goal

pub returns : goal.returns
returns c = record {
  refused = λ line cause at may. let_be (may_begin_block at) stand.Block may;
  block = λ block at order may.
      let arrives = block_arrives block at order may in
      (arrives.to, arrives.leads, arrives.there);
}
