use Rattle.tfpg_evidence_tests.proofs.predict.take_step.Goals as goal

pub take-requires-clause-of : goal.take-requires-clause-of
take-requires-clause-of c = c.requires

pub take-requires-clause-spare : goal.take-requires-clause-spare
take-requires-clause-spare c = c.in_ok-reserve.ensures.ok
