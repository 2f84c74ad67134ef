-- A trace has at most one verdict.
use Rattle.std.proofs.Common.{◌≡◌, ℕ, List, Some, sym, ap, subst, ◌∙◌}
use Rattle.std.proofs.lemmas.Option.{same_Some}
use Rattle.tfpg_base.proofs.lemmas.lists.Sequences.{same_from_neither}
use Rattle.tfpg_base.specs.declared.activation.Activation.{Activation}
use Rattle.tfpg_base.specs.Trace.{time_of}
use Rattle.tfpg_graph.specs.Graph.{Tfpg}
use Rattle.tfpg_log.specs.declared.event.Event.TheVariants.{Alarm}
use Rattle.tfpg_log.specs.Log.{Logbook, first_events, silence_time}
use Rattle.tfpg_log.specs.Explains.{Shows, ShowsSilence}
use Rattle.tfpg_log.proofs.lemmas.events.SilenceTimes.{silence_time_is}
use Rattle.tfpg_trace.specs.declared.verdict.Verdict.{Verdict}
use Rattle.tfpg_trace.specs.declared.verdict.Verdict.TheVariants as verdict
use Rattle.tfpg_trace.specs.Broken.{BreaksMay, FirstBreaksMust}
use Rattle.tfpg_trace.specs.FirstFault.{IsVerdict}
use Rattle.tfpg_trace.proofs.lemmas.FirstEventsShown.{shown_before}
use Rattle.tfpg_trace.proofs.lemmas.Explained.{only_yes, shows_quiet}

module _ (graph : Tfpg) (log : Logbook) (set : List ℕ) (trace : List Activation) where
  first_late : (node time : ℕ) → IsVerdict graph log set trace (verdict.Late node time) → (said : Verdict)
      → IsVerdict graph log set trace said → said ≡ verdict.Late node time
  first_late node time fault verdict.Yes explains =
      let yes = only_yes graph log set trace (verdict.Late node time) fault explains in absurd cc
  first_late node time fault (verdict.Late other later) also =
      let same : node ≡ other =
      same_from_neither node other (λ lt. also.first node time lt fault.has) (λ lt. fault.first other later lt also.has) in
      let at : time ≡ later = same_Some time later (sym fault.has.at ∙ subst (λ n. time_of trace n ≡ Some later) (sym same) also.has.at) in
      ap (λ n. verdict.Late n later) (sym same) ∙ ap (verdict.Late node) (sym at)
  first_late node time fault (verdict.Stranger other later) also = absurd (also.0 node time fault.in_range fault.has)
  first_late node time fault (verdict.May other later) also = absurd (also.1.on_time node time fault.in_range fault.has)
  first_late node time fault (verdict.Must other later) also = absurd (also.1.on_time node time fault.in_range fault.has)
  first_late node time fault (verdict.Alarm other later) also = absurd (also.1.nodes.on_time node time fault.in_range fault.has)
  first_late node time fault (verdict.Silence other later) also = absurd (also.2.nodes.on_time node time fault.in_range fault.has)

  first_stranger : (node time : ℕ) → IsVerdict graph log set trace (verdict.Stranger node time) → (said : Verdict)
      → IsVerdict graph log set trace said
      → said ≡ verdict.Stranger node time
  first_stranger node time fault verdict.Yes explains =
      let yes = only_yes graph log set trace (verdict.Stranger node time) fault explains in absurd cc
  first_stranger node time fault (verdict.Late other later) also = sym (first_late other later also (verdict.Stranger node time) fault)
  first_stranger node time fault (verdict.Stranger other later) also =
      let same : node ≡ other =
      same_from_neither node other (λ lt. also.1.first node time lt fault.1.has) (λ lt. fault.1.first other later lt also.1.has) in
      let at : time ≡ later =
      same_Some time later (sym fault.1.has.at ∙ subst (λ n. time_of trace n ≡ Some later) (sym same) also.1.has.at) in
      ap (λ n. verdict.Stranger n later) (sym same) ∙ ap (verdict.Stranger node) (sym at)
  first_stranger node time fault (verdict.May other later) also = absurd (also.1.from_set node time fault.1.in_range fault.1.has)
  first_stranger node time fault (verdict.Must other later) also = absurd (also.1.from_set node time fault.1.in_range fault.1.has)
  first_stranger node time fault (verdict.Alarm other later) also = absurd (also.1.nodes.from_set node time fault.1.in_range fault.1.has)
  first_stranger node time fault (verdict.Silence other later) also = absurd (also.2.nodes.from_set node time fault.1.in_range fault.1.has)

  first_may : (node time : ℕ) → IsVerdict graph log set trace (verdict.May node time) → (said : Verdict)
      → IsVerdict graph log set trace said → said ≡ verdict.May node time
  first_may node time fault verdict.Yes explains =
      let yes = only_yes graph log set trace (verdict.May node time) fault explains in absurd cc
  first_may node time fault (verdict.Late other later) also = sym (first_late other later also (verdict.May node time) fault)
  first_may node time fault (verdict.Stranger other later) also = sym (first_stranger other later also (verdict.May node time) fault)
  first_may node time fault (verdict.May other later) also =
      let same : node ≡ other =
      same_from_neither node other (λ lt. fault.2.broken ((also.1.rules node lt).may time fault.2.by_now))
      (λ lt. also.2.broken ((fault.1.rules other lt).may later also.2.by_now)) in
      let at : time ≡ later = same_Some time later (sym fault.2.at ∙ subst (λ n. time_of trace n ≡ Some later) (sym same) also.2.at) in
      ap (λ n. verdict.May n later) (sym same) ∙ ap (verdict.May node) (sym at)
  first_may node time fault (verdict.Must other later) also =
      let same : node ≡ other =
      same_from_neither node other (λ lt. fault.2.broken ((also.1.rules node lt).may time fault.2.by_now))
      (λ lt. also.3.broken ((fault.1.rules other lt).must later also.3.by_now)) in
      absurd (also.2 time (subst (λ n. BreaksMay graph log trace n time) same fault.2))
  first_may node time fault (verdict.Alarm other later) also =
      absurd (fault.2.broken ((also.1.nodes.rules node fault.0).may time fault.2.by_now))
  first_may node time fault (verdict.Silence other later) also =
      absurd (fault.2.broken ((also.2.nodes.rules node fault.0).may time fault.2.by_now))

  first_must : (node time : ℕ) → IsVerdict graph log set trace (verdict.Must node time) → (said : Verdict)
      → IsVerdict graph log set trace said → said ≡ verdict.Must node time
  first_must node time fault verdict.Yes explains =
      let yes = only_yes graph log set trace (verdict.Must node time) fault explains in absurd cc
  first_must node time fault (verdict.Late other later) also = sym (first_late other later also (verdict.Must node time) fault)
  first_must node time fault (verdict.Stranger other later) also = sym (first_stranger other later also (verdict.Must node time) fault)
  first_must node time fault (verdict.May other later) also = sym (first_may other later also (verdict.Must node time) fault)
  first_must node time fault (verdict.Must other later) also =
      let same : node ≡ other =
      same_from_neither node other (λ lt. fault.3.broken ((also.1.rules node lt).must time fault.3.by_now))
      (λ lt. also.3.broken ((fault.1.rules other lt).must later also.3.by_now)) in
      let breaks : FirstBreaksMust graph log trace node later = subst (λ n. FirstBreaksMust graph log trace n later) (sym same) also.3 in
      let at : time ≡ later =
      same_from_neither time later (λ lt. fault.3.broken (breaks.first time lt)) (λ lt. breaks.broken (fault.3.first later lt)) in
      ap (λ n. verdict.Must n later) (sym same) ∙ ap (verdict.Must node) (sym at)
  first_must node time fault (verdict.Alarm other later) also =
      absurd (fault.3.broken ((also.1.nodes.rules node fault.0).must time fault.3.by_now))
  first_must node time fault (verdict.Silence other later) also =
      absurd (fault.3.broken ((also.2.nodes.rules node fault.0).must time fault.3.by_now))

  -- an event of which a silence is not shown is not shown
  not_shown : (node time : ℕ) (fault : IsVerdict graph log set trace (verdict.Silence node time))
      → Shows graph (first_events log fault.0) trace fault.1 → ⊥
  not_shown node time fault shows =
      fault.3.not_shown (shows_quiet graph (first_events log fault.0) trace fault.1 node time shows fault.3.silent)

  first_alarm : (node time : ℕ) → IsVerdict graph log set trace (verdict.Alarm node time) → (said : Verdict)
      → IsVerdict graph log set trace said → said ≡ verdict.Alarm node time
  first_alarm node time fault verdict.Yes explains =
      let yes = only_yes graph log set trace (verdict.Alarm node time) fault explains in absurd cc
  first_alarm node time fault (verdict.Late other later) also = sym (first_late other later also (verdict.Alarm node time) fault)
  first_alarm node time fault (verdict.Stranger other later) also = sym (first_stranger other later also (verdict.Alarm node time) fault)
  first_alarm node time fault (verdict.May other later) also = sym (first_may other later also (verdict.Alarm node time) fault)
  first_alarm node time fault (verdict.Must other later) also = sym (first_must other later also (verdict.Alarm node time) fault)
  first_alarm node time fault (verdict.Alarm other later) also =
      let same : fault.0 ≡ also.0 =
      same_from_neither fault.0 also.0
      (λ lt. fault.2 (shown_before graph log trace also.0 also.1.before fault.0 (Alarm time node) lt fault.1.at))
      (λ lt. also.2 (shown_before graph log trace fault.0 fault.1.before also.0 (Alarm later other) lt also.1.at)) in
      let event : Alarm later other ≡ Alarm time node = cc (same, fault.1.at, also.1.at) in
      cc
  first_alarm node time fault (verdict.Silence other later) also =
      let same : fault.0 ≡ also.0 =
      same_from_neither fault.0 also.0
      (λ lt. fault.2 (shown_before graph log trace also.0 also.2.before fault.0 (Alarm time node) lt fault.1.at))
      (λ lt. not_shown other later also (shown_before graph log trace fault.0 fault.1.before also.0 also.1 lt also.2.at)) in
      let event : also.1 ≡ Alarm time node = cc (same, fault.1.at, also.2.at) in
      let silent : silence_time graph (first_events log also.0) (Alarm time node) other ≡ Some later =
      ap (λ e. silence_time graph (first_events log also.0) e other) (sym event) ∙ also.3.silent in
      absurd cc

  first_silence : (node time : ℕ) → IsVerdict graph log set trace (verdict.Silence node time) → (said : Verdict)
      → IsVerdict graph log set trace said
      → said ≡ verdict.Silence node time
  first_silence node time fault verdict.Yes explains =
      let yes = only_yes graph log set trace (verdict.Silence node time) fault explains in absurd cc
  first_silence node time fault (verdict.Late other later) also = sym (first_late other later also (verdict.Silence node time) fault)
  first_silence node time fault (verdict.Stranger other later) also =
      sym (first_stranger other later also (verdict.Silence node time) fault)
  first_silence node time fault (verdict.May other later) also = sym (first_may other later also (verdict.Silence node time) fault)
  first_silence node time fault (verdict.Must other later) also = sym (first_must other later also (verdict.Silence node time) fault)
  first_silence node time fault (verdict.Alarm other later) also = sym (first_alarm other later also (verdict.Silence node time) fault)
  first_silence node time fault (verdict.Silence other later) also =
      let same : fault.0 ≡ also.0 =
      same_from_neither fault.0 also.0
      (λ lt. not_shown node time fault (shown_before graph log trace also.0 also.2.before fault.0 fault.1 lt fault.2.at))
      (λ lt. not_shown other later also (shown_before graph log trace fault.0 fault.2.before also.0 also.1 lt also.2.at)) in
      let event : fault.1 ≡ also.1 = cc (same, fault.2.at, also.2.at) in
      let silent : silence_time graph (first_events log fault.0) fault.1 other ≡ Some later =
      ap (λ p. silence_time graph (first_events log p) fault.1 other) same
      ∙ ap (λ e. silence_time graph (first_events log also.0) e other) event ∙ also.3.silent in
      let said : silence_time graph (first_events log also.0) also.1 node ≡ Some time =
      ap (λ p. silence_time graph (first_events log p) also.1 node) (sym same)
      ∙ ap (λ e. silence_time graph (first_events log fault.0) e node) (sym event) ∙ fault.3.silent in
      let at : time ≡ later =
      silence_time_is graph (first_events log fault.0) fault.1 node time fault.3.silent
      ∙ sym (silence_time_is graph (first_events log fault.0) fault.1 other later silent) in
      let node_is : node ≡ other =
      same_from_neither node other
      (λ lt. fault.3.not_shown (subst (ShowsSilence graph log trace node) (sym at) (also.3.first node lt (said ∙ ap Some at))))
      (λ lt. also.3.not_shown (subst (ShowsSilence graph log trace other) at (fault.3.first other lt (silent ∙ ap Some (sym at))))) in
      ap (λ n. verdict.Silence n later) (sym node_is) ∙ ap (verdict.Silence node) (sym at)

  -- What is said of a trace is the only thing that is said of it.
  pub one_verdict : (said other : Verdict) → IsVerdict graph log set trace said → IsVerdict graph log set trace other → said ≡ other
  one_verdict verdict.Yes other is also = sym (only_yes graph log set trace other also is)
  one_verdict (verdict.Late node time) other is also = sym (first_late node time is other also)
  one_verdict (verdict.Stranger node time) other is also = sym (first_stranger node time is other also)
  one_verdict (verdict.May node time) other is also = sym (first_may node time is other also)
  one_verdict (verdict.Must node time) other is also = sym (first_must node time is other also)
  one_verdict (verdict.Alarm node time) other is also = sym (first_alarm node time is other also)
  one_verdict (verdict.Silence node time) other is also = sym (first_silence node time is other also)
