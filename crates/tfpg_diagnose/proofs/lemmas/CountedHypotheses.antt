-- What making an engine says of the number of hypotheses.
use Rattle.std.proofs.Common.{◌≡◌, ℕ, ◌<◌, ◌≤◌, Result, Ok, Err, sym, ap, subst₂}
use Rattle.std.specs.Prelude.{◌↔◌}
use Rattle.tfpg_base.specs.declared.terms.Terms.{Terms}
use Rattle.tfpg_base.specs.Terms.{AreReportTerms}
use Rattle.tfpg_graph.specs.Graph.{Tfpg}
use Rattle.tfpg_check.specs.Report.{HasReports}
use Rattle.tfpg_hyp.specs.Hypotheses.{HasHypotheses}
use Rattle.tfpg_hyp.specs.declared.limits.TheConstants.{MAX_HYPOTHESES}
use Rattle.tfpg_hyp.specs.declared.table.TableFault.{TableFault}
use Rattle.tfpg_hyp.specs.declared.table.TableFault.TheVariants.{TooMany, NoMemory}
use Rattle.tfpg_base.proofs.lemmas.lists.Sequences.{not_above}

-- what the result of `Engine::new` says of the number of hypotheses
abbrev pub CountsHypotheses : {X : Type 0} → Tfpg → Terms → Result X TableFault → Type 0
CountsHypotheses graph terms result = (count : ℕ) → (result ≡ Err (TooMany count)) ↔ ((MAX_HYPOTHESES < count) × HasHypotheses graph terms count)

-- what is made of the engine says the same of their number
pub counted_when_made : {X Y : Type 0} (graph : Tfpg) (terms : Terms) (engine : X) (made : Y) → CountsHypotheses graph terms (Ok engine) → CountsHypotheses graph terms (Ok made)
counted_when_made graph terms engine made exact count = (λ is. cc, λ many. let is = (exact count).1 many in cc)

-- and so does the same fault
pub counted_when_not : {X Y : Type 0} (graph : Tfpg) (terms : Terms) (fault : TableFault) → CountsHypotheses {X = X} graph terms (Err fault) → CountsHypotheses {X = Y} graph terms (Err fault)
counted_when_not graph terms fault exact count =
    (λ is. (exact count).0 (let same : fault ≡ TooMany count = cc in ap Err same), λ many. let is = (exact count).1 many in let same : fault ≡ TooMany count = cc in ap Err same)

-- where there is an engine, they are not too many
pub not_too_many : {X : Type 0} (graph : Tfpg) (terms : Terms) (engine : X) → CountsHypotheses graph terms (Ok engine) → (count : ℕ) → HasHypotheses graph terms count → count ≤ MAX_HYPOTHESES
not_too_many graph terms engine exact count counted = not_above count MAX_HYPOTHESES (λ many. let is = (exact count).1 (many, counted) in cc)

-- so there are reports, where the terms are within their limits
pub has_reports : {X : Type 0} (graph : Tfpg) (terms : Terms) (engine : X) (g : Tfpg) (other : Terms) → CountsHypotheses graph terms (Ok engine) → g ≡ graph → other ≡ terms → AreReportTerms terms → HasReports g other
has_reports graph terms engine g other exact e f within =
    subst₂ HasReports (sym e) (sym f) (record { within = within; few_hypotheses = not_too_many graph terms engine exact })

-- nor where memory ran out
pub without_memory : {X : Type 0} (graph : Tfpg) (terms : Terms) → CountsHypotheses {X = X} graph terms (Err NoMemory) → (count : ℕ) → HasHypotheses graph terms count → count ≤ MAX_HYPOTHESES
without_memory graph terms exact count counted = not_above count MAX_HYPOTHESES (λ many. let is = (exact count).1 (many, counted) in cc)
