-- Clauses and the propagation rules.
pub mod MayClauses
pub mod MustClauses
pub mod LastDue
pub mod RulesMet
