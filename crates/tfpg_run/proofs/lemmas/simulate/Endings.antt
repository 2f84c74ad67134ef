-- How a simulation ends, of a script that was lent.
use Rattle.std.proofs.Common.{◌≡◌, ℕ, List, Ok, Err, refl, subst, inl, inr}
use Rattle.tfpg_graph.specs.Graph.{Tfpg}
use Rattle.tfpg_sim.specs.declared.fault.SimFault.{SimFault}
use Rattle.tfpg_sim.specs.declared.fault.SimFault.TheVariants as sim
use Rattle.tfpg_sim.specs.ScriptFaults.{IsSimFault}
use Rattle.tfpg_streams.specs.declared.fault.OutputFault.TheVariants.{WriteFault, NoMemory}
use Rattle.tfpg_streams.specs.Writing.{Cuts, Writes}
use Rattle.tfpg_run.specs.declared.end.End.TheVariants as ends
use Rattle.tfpg_run.specs.World.{World, watched_of}
use Rattle.tfpg_run.specs.inside.Faults.{end_of_sim_fault}
use Rattle.tfpg_run.specs.simulate.Simulating.{SimulationEnds}
use Rattle.tfpg_run.proofs.lemmas.Written.{cut_text, whole_text}

module _ (IsRight : Tfpg → List ℕ → List ℕ → Type 0) (before now : World) (graph : Tfpg) (script lent : List ℕ) (same : lent ≡ script) where
  -- the script is at fault, or memory ran out
  pub not_simulated : watched_of now ≡ watched_of before → now.output ≡ before.output → (fault : SimFault) → IsSimFault graph lent fault
      → SimulationEnds IsRight before now graph script (end_of_sim_fault fault)
  not_simulated untouched unwritten (sim.BadScript line) is =
      inl (record { fault = line; is_fault = subst (λ (text : List ℕ). IsSimFault graph text (sim.BadScript line)) same is; end_is = refl; untouched = untouched })
  not_simulated untouched unwritten sim.NoMemory is = inr (record { result = Err NoMemory; works = unwritten; end_is = refl })

  module _ (text piece : List ℕ) (right : IsRight graph lent text) (is_piece : piece ≡ text) where
    right_text : IsRight graph script text
    right_text = subst (λ (s : List ℕ). IsRight graph s text) same right

    -- its text was written
    pub simulation_written : Writes piece before.output now.output (Ok tt) → SimulationEnds IsRight before now graph script ends.Done
    simulation_written writes = inr (record { result = Ok tt; works = whole_text (IsRight graph script) before.output now.output text piece right_text is_piece writes; end_is = refl })

    -- the output failed
    pub simulation_cut : Cuts piece before.output now.output → SimulationEnds IsRight before now graph script ends.WriteFault
    simulation_cut cuts = inr (record { result = Err WriteFault; works = cut_text (IsRight graph script) before.output now.output text piece right_text is_piece cuts; end_is = refl })
