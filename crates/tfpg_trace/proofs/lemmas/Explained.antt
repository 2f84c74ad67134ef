-- A trace without a fault explains the log from the set, and a trace with one does not.
use Rattle.std.proofs.Common.{◌≡◌, ℕ, ◌<◌, ◌≤◌, ◌&&◌, nat_eq, List, length, All, Some, refl, subst, arith}
use Rattle.std.specs.Prelude.{IsTrue, is_none, is_some}
use Rattle.std.proofs.lemmas.Bool.{eqb-true, and_parts, not-true}
use Rattle.std.proofs.lemmas.List.Elements.{All-contains}
use Rattle.std.proofs.lemmas.Option.{cond_some}
use Rattle.tfpg_base.specs.declared.activation.Activation.{Activation}
use Rattle.tfpg_base.specs.Trace.{IsRisingByNode}
use Rattle.tfpg_base.proofs.lemmas.lists.Elements.{All-from_members}
use Rattle.tfpg_base.proofs.lemmas.lists.Sequences.{not_above}
use Rattle.tfpg_base.proofs.lemmas.TraceTimes.{activation_there, time_there}
use Rattle.tfpg_graph.specs.Graph.{Tfpg, is_kind_at, is_failure, is_monitored}
use Rattle.tfpg_log.specs.declared.event.Event.{Event}
use Rattle.tfpg_log.specs.declared.event.Event.TheVariants.{Alarm, Silent, Sweep, Tick, Mode}
use Rattle.tfpg_log.specs.Log.{Logbook, now_of, first_events, alarm_of, silence_time}
use Rattle.tfpg_log.specs.Explains.{IsMember, ShowsSilence, Shows, ShowsAll, Explains}
use Rattle.tfpg_trace.specs.declared.verdict.Verdict.{Verdict}
use Rattle.tfpg_trace.specs.declared.verdict.Verdict.TheVariants as verdict
use Rattle.tfpg_trace.specs.FirstFault.{IsFaultlessBefore, IsVerdict}
use Rattle.tfpg_trace.proofs.lemmas.Decided.{member_or_not}

-- an event that is shown is shown of each node of which it is a silence
pub shows_quiet : (graph : Tfpg) (before : Logbook) (trace : List Activation) (event : Event) (node time : ℕ)
    → Shows graph before trace event
    → silence_time graph before event node ≡ Some time → ShowsSilence graph before trace node time
shows_quiet graph before trace (Alarm own alarmed) node time shows is = cc
shows_quiet graph before trace (Silent own silent) node time shows is =
    let told = cond_some (nat_eq silent node) own time is in
    subst (λ t. ShowsSilence graph before trace node t) told.1
    (subst (λ n. ShowsSilence graph before trace n own) (eqb-true silent node told.0) shows)
shows_quiet graph before trace (Sweep own) node time shows is =
    let told = cond_some (is_monitored graph node && is_none (alarm_of before node)) own time is in
    let both = and_parts (is_monitored graph node) (is_none (alarm_of before node)) told.0 in
    subst (λ t. ShowsSilence graph before trace node t) told.1 (shows node both.0 (not-true (is_some (alarm_of before node)) both.1))
shows_quiet graph before trace (Tick own) node time shows is = cc
shows_quiet graph before trace (Mode own mode) node time shows is = cc

module _ (graph : Tfpg) (log : Logbook) (set : List ℕ) (trace : List Activation) where
  -- no fault
  pub explained : IsRisingByNode trace → All (λ activation. activation.node < length graph.nodes) trace
      → IsFaultlessBefore graph log set trace (length graph.nodes)
      → ShowsAll graph log trace → Explains graph log set trace
  explained rising nodes faultless shows = record {
    trace_of = (rising, nodes);
    by_now = All-from_members (λ activation. activation.time ≤ now_of log) trace
        (λ activation member.
        not_above activation.time (now_of log)
        (λ late.
        faultless.on_time activation.node activation.time (All-contains (λ a. a.node < length graph.nodes) trace activation nodes member)
        (record { at = time_there trace rising activation member; late = late })));
    from_set =
        All-from_members (λ activation. IsTrue (is_kind_at is_failure graph activation.node) → IsMember graph set activation.node) trace
        (λ activation member failure.
        member_or_not graph set activation.node failure
        (λ outside.
        faultless.from_set activation.node activation.time (All-contains (λ a. a.node < length graph.nodes) trace activation nodes member)
        (record { at = time_there trace rising activation member; failure = failure; outside = outside })));
    rules = faultless.rules;
    shows = shows;
  }

  -- each fault excludes it
  pub only_yes : (said : Verdict) → IsVerdict graph log set trace said → Explains graph log set trace → said ≡ verdict.Yes
  only_yes verdict.Yes fault explains = refl
  only_yes (verdict.Late node time) fault explains =
      let by_now =
      All-contains (λ a. a.time ≤ now_of log) trace (record { node = node; time = time }) explains.by_now
      (activation_there trace node time fault.has.at) in
      absurd (omega (arith, by_now, fault.has.late))
  only_yes (verdict.Stranger node time) fault explains =
      absurd
      (fault.1.has.outside
      (All-contains (λ a. IsTrue (is_kind_at is_failure graph a.node) → IsMember graph set a.node) trace
      (record { node = node; time = time }) explains.from_set
      (activation_there trace node time fault.1.has.at) fault.1.has.failure))
  only_yes (verdict.May node time) fault explains =
      absurd (fault.2.broken ((explains.rules node fault.0).may time fault.2.by_now))
  only_yes (verdict.Must node time) fault explains =
      absurd (fault.3.broken ((explains.rules node fault.0).must time fault.3.by_now))
  only_yes (verdict.Alarm node time) fault explains = absurd (fault.2 (explains.shows fault.0 (Alarm time node) fault.1.at))
  only_yes (verdict.Silence node time) fault explains =
      absurd
      (fault.3.not_shown
      (shows_quiet graph (first_events log fault.0) trace fault.1 node time (explains.shows fault.0 fault.1 fault.2.at) fault.3.silent))
