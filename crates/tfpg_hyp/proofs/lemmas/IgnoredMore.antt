-- What a log shows, one that ignores more monitors shows too. So a hypothesis with more members fits where one with fewer does.
use Rattle.std.proofs.Common.{ℕ, List, IsTrue, inl, inr, ⊎_elim}
use Rattle.std.specs.Prelude.{Contains}
use Rattle.std.proofs.lemmas.List.Elements.{All-contains, All-weaker}
use Rattle.tfpg_base.specs.declared.activation.Activation.{Activation}
use Rattle.tfpg_base.specs.Set.{IsSubset}
use Rattle.tfpg_base.specs.Hypothesis.{Hypothesis}
use Rattle.tfpg_graph.specs.declared.edge.Edge.{Edge}
use Rattle.tfpg_graph.specs.Graph.{Tfpg, edges_into}
use Rattle.tfpg_graph.specs.Reach.{is_among}
use Rattle.tfpg_graph.proofs.lemmas.reach.Reaches.{among-from_Contains, Contains-from_among}
use Rattle.tfpg_log.specs.declared.event.Event.{Event}
use Rattle.tfpg_log.specs.declared.event.Event.TheVariants.{Alarm, Silent, Sweep, Tick, Mode}
use Rattle.tfpg_log.specs.Log.{Logbook, ignoring, first_events}
use Rattle.tfpg_log.specs.Rules.{HasAge, IsDue, KeepsMay, KeepsMust, KeepsRules}
use Rattle.tfpg_log.specs.Explains.{ShowsAlarm, ShowsSilence, Shows, Explains}
use Rattle.tfpg_log.proofs.lemmas.causes.LargerSets.{larger_explains}
use Rattle.tfpg_hyp.specs.Views.{log_for, HypothesisFits}

-- ---- the rules do not see what is ignored

module _ (graph : Tfpg) (log : Logbook) (trace : List Activation) (few many : List ℕ) where
  same_age : (edge : Edge) (instant age : ℕ) → HasAge (ignoring log few) trace edge instant age → HasAge (ignoring log many) trace edge instant age
  same_age edge instant age has = record { start = has.start; source = has.source; since = has.since; active_since = has.active_since }

  same_may : (node instant : ℕ) → KeepsMay graph (ignoring log few) trace node instant → KeepsMay graph (ignoring log many) trace node instant
  same_may node instant keeps = record {
    or_node = λ is at. (let arrives = keeps.or_node is at in (arrives.0, arrives.1, same_age arrives.0 instant arrives.0.tmin arrives.2));
    and_node = λ is at. All-weaker (λ (e : Edge). HasAge (ignoring log few) trace e instant e.tmin) (λ (e : Edge). HasAge (ignoring log many) trace e instant e.tmin)
        (λ e has. same_age e instant e.tmin has) (edges_into graph node) (keeps.and_node is at);
  }

  same_due : (edge : Edge) (instant : ℕ) → IsDue (ignoring log few) trace edge instant → IsDue (ignoring log many) trace edge instant
  same_due edge instant due = (due.0, due.1, same_age edge instant due.0 due.2)

module _ (graph : Tfpg) (log : Logbook) (trace : List Activation) (few many : List ℕ) where
  same_must : (node instant : ℕ) → KeepsMust graph (ignoring log few) trace node instant → KeepsMust graph (ignoring log many) trace node instant
  same_must node instant keeps = record {
    or_node = λ is edge into due. keeps.or_node is edge into (same_due graph log trace many few edge instant due);
    and_node = λ is due. keeps.and_node is
        (All-weaker (λ (e : Edge). IsDue (ignoring log many) trace e instant) (λ (e : Edge). IsDue (ignoring log few) trace e instant)
        (λ e own. same_due graph log trace many few e instant own) (edges_into graph node) due);
  }

  same_rules : KeepsRules graph (ignoring log few) trace → KeepsRules graph (ignoring log many) trace
  same_rules keeps node within = record {
    may = λ instant by. same_may graph log trace few many node instant ((keeps node within).may instant by);
    must = λ instant by. same_must node instant ((keeps node within).must instant by);
  }

-- ---- what is shown

module _ (graph : Tfpg) (trace : List Activation) (few many : List ℕ) (fewer : IsSubset few many) where
  -- a node that the one log ignores, the other ignores too
  ignores : (node : ℕ) → IsTrue (is_among few node) → IsTrue (is_among many node)
  ignores node is = among-from_Contains many node (All-contains (Contains many) few node fewer (Contains-from_among few node is))

  module _ (before : Logbook) where
    shows_alarm : (node time : ℕ) → ShowsAlarm graph (ignoring before few) trace node time → ShowsAlarm graph (ignoring before many) trace node time
    shows_alarm node time shown = (shown.0, ⊎_elim (λ ignored. inl (ignores node ignored)) (λ active. inr active) shown.1)

    shows_silence : (node time : ℕ) → ShowsSilence graph (ignoring before few) trace node time → ShowsSilence graph (ignoring before many) trace node time
    shows_silence node time shown = ⊎_elim (λ ignored. inl (ignores node ignored)) (λ quiet. inr quiet) shown

    -- What a trace shows of an event, it shows where more is ignored.
    shows_more : (event : Event) → Shows graph (ignoring before few) trace event → Shows graph (ignoring before many) trace event
    shows_more (Alarm time node) shown = shows_alarm node time shown
    shows_more (Silent time node) shown = shows_silence node time shown
    shows_more (Sweep time) shown = λ node monitored none. shows_silence node time (shown node monitored none)
    shows_more (Tick time) shown = tt
    shows_more (Mode time mode) shown = tt

  -- A trace that explains a log explains it where more is ignored.
  pub explains_ignoring : (log : Logbook) (set : List ℕ) → Explains graph (ignoring log few) set trace → Explains graph (ignoring log many) set trace
  explains_ignoring log set explains = record {
    trace_of = explains.trace_of;
    by_now = explains.by_now;
    from_set = explains.from_set;
    rules = same_rules graph log trace few many explains.rules;
    shows = λ index event at. shows_more (first_events log index) event (explains.shows index event at);
  }

-- ---- hypotheses

module _ (graph : Tfpg) (log : Logbook) (part whole : Hypothesis) where
  -- A trace that explains what a part of a hypothesis sees of a log explains what the hypothesis sees of it.
  pub whole_explains : (trace : List Activation) → IsSubset part.set whole.set → IsSubset part.doubts whole.doubts
      → Explains graph (log_for log part) part.set trace → Explains graph (log_for log whole) whole.set trace
  whole_explains trace larger more explains =
      explains_ignoring graph trace part.doubts whole.doubts more log whole.set (larger_explains graph (log_for log part) part.set whole.set trace larger explains)

  -- So it fits where a part of it fits.
  pub whole_fits : IsSubset part.set whole.set → IsSubset part.doubts whole.doubts → HypothesisFits graph log part → HypothesisFits graph log whole
  whole_fits larger more fits = (fits.0, whole_explains fits.0 larger more fits.1)
