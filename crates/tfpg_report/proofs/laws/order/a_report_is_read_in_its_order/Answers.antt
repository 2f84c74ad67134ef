-- Block by block, after the first line.
use Rattle.tfpg_report.proofs.lemmas.laws.ReadInOrder.{report_arrives}
use Rattle.tfpg_report.proofs.lemmas.block_reader.WholeBlocks.{comes_by}
use Rattle.tfpg_report.specs.declared.stand.Stand.TheVariants as stand
use Rattle.tfpg_report.proofs.laws.order.a_report_is_read_in_its_order.Goals as goal

pub returns : goal.returns
returns c = record {
  report = λ terms head blocks is_head order.
      let arrives = report_arrives terms head blocks is_head order in
      (arrives.to, arrives.leads, arrives.there);
  front = λ front back after whole.
      let parts = comes_by stand.Nothing front back after whole in
      (parts.between, parts.front_leads, parts.back_leads);
}
