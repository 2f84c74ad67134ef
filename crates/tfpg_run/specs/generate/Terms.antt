-- The terms on which `generate` diagnoses.
use Rattle.tfpg_base.specs.declared.terms.Terms.{Terms}
use Rattle.tfpg_run.specs.declared.limits.TheConstants.{GENERATED_K, GENERATED_BUDGET}

-- the terms on which a generated case is diagnosed
abbrev pub generated_terms : Terms
generated_terms = record { k = GENERATED_K; doubt = 0; budget = GENERATED_BUDGET }
