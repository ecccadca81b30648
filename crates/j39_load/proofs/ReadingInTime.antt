-- What was received last of a flow that meets a need is young, and reads as it was written.
use Rattle.std.proofs.Common.{◌≡◌, ℕ, ◌+◌, ◌*◌, ◌<◌, ◌≤◌, Bool, List, [], ◌∷◌, ◌++◌, length, get_or, All, Option, Some, None}
use Rattle.std.proofs.Common.{sym, ap, ◌∙◌, subst, inl, inr, arith, option_map}
use Rattle.std.proofs.lemmas.Option.{get_or_from_slice_get, slice_get_cases, slice_get_within, same_Some, slice_get-map}
use Rattle.std.specs.List.{HoldsAt, slice_get}
use Rattle.j39_signal.specs.Bits.{all_ones, raw_of}
use Rattle.j39_signal.specs.Laid.{Chain, IsBlank, KeepsWrites, Write, last_payload}
use Rattle.j39_signal.specs.declared.signal_parts.SignalParts.{SignalParts}
use Rattle.j39_signal.specs.Places.{IsInside, WidthFits}
use Rattle.j39_signal.specs.State.{IsRawOf, state_of}
use Rattle.j39_signal.specs.declared.selector.Selector.{Selector}
use Rattle.j39_signal.specs.declared.state.State.TheVariants.{Value}
use Rattle.j39_signal.proofs.Writes.{blank_ones, keeps_writes, ones_read, value_read}
use Rattle.j39_findings.specs.Findings.{Clean}
use Rattle.j39_network.specs.Records.{signals_in}
use Rattle.j39_network.specs.SoundSignals.{IsBlankOf, ReadsBack, ReadsLastGiven, unset_state}
use Rattle.j39_findings.proofs.CleanLaws.{lays_out_each}
use Rattle.j39_findings.proofs.LastWrites.{reads_last}
use Rattle.j39_network.specs.declared.plan.Plan.{Plan}
use Rattle.j39_network.specs.declared.plan.group_plan.GroupPlan.{GroupPlan}
use Rattle.j39_network.specs.declared.plan.need_plan.NeedPlan.{NeedPlan}
use Rattle.j39_network.specs.declared.plan.timing.Timing.{Timing}
use Rattle.j39_network.specs.declared.plan.unit_plan.UnitPlan.{UnitPlan}
use Rattle.j39_load.specs.declared.waits.delay.Delay.{Delay}
use Rattle.j39_load.specs.declared.frames.flow_frames.FlowFrames.{FlowFrames}
use Rattle.j39_load.specs.declared.frames.messages.Messages.TheVariants.{Short}
use Rattle.j39_load.specs.Asked.{asked_of, frames_asked}
use Rattle.j39_load.specs.Damage.{damage_frames}
use Rattle.j39_load.specs.FreshNeeds.{IsNeedFresh}
use Rattle.j39_load.specs.LoadFindings.{AreLoadFindings}
use Rattle.j39_load.specs.PlannedFrames.{AreFramesOfPlan, IsBounded, planned_at, traffic_of}
use Rattle.j39_load.specs.ReadInTime.{AreNeedsRead, AreReadYoung, AreWritten, CarryWritten, IsNeedRead, ReadAsWritten, signals_of_bytes}
use Rattle.j39_load.specs.FlowLoads.{load_of_flow}
use Rattle.j39_timing.specs.Waits.{IsSpaced}
use Rattle.j39_load.proofs.UnaskedFlows.{unasked_spaced}
use Rattle.j39_load.proofs.AgeLaws.{fresh_where_checked}
use Rattle.j39_load.proofs.PositivePeriods.{ArePaced, of_loads}
use Rattle.j39_load.proofs.StreamsBefore.{own_read, with_damage}
use Rattle.j39_timing.proofs.Newest.{newest_in_any_order, newest_in_order}
use Rattle.j39_timing.specs.FrameStreams.{Origins}
use Rattle.j39_timing.specs.FreshFrames.{ComeOneByOne, IsNewestFresh}
use Rattle.j39_timing.specs.TimedFrames.{Schedule}
use Rattle.j39_timing.specs.Traffic.{IsSingle, IsStreamInTime, Traffic, delay_of}

-- ---- what is read

reads_back : (s : SignalParts) → WidthFits s → ReadsBack s
reads_back s fits = record { values = value_read s; given_up = ones_read s fits }

module _ (plan : Plan) (clean : Clean plan) (g : ℕ) (group : GroupPlan) (at : slice_get plan.groups.items g ≡ Some group) where
  below : g < length plan.groups.items
  below = slice_get_within plan.groups.items g group at

  here : get_or plan.groups.items g group ≡ group
  here = get_or_from_slice_get plan.groups.items g group group at

  module _ (bytes : List ℕ) (w : AreWritten group bytes) where
    abbrev signals : List SignalParts
    signals = signals_in group (length w.start)

    of_length : IsBlankOf (get_or plan.groups.items g group) w.start
    of_length = subst (λ (x : GroupPlan). IsBlankOf x w.start) (sym here) w.blank

    pub keeps : KeepsWrites w.start signals
    keeps = subst (λ (x : GroupPlan). KeepsWrites w.start (signals_in x (length w.start))) here
        (keeps_writes w.start _ (lays_out_each plan clean g group below (length w.start) of_length.length))

    widths : All WidthFits signals
    widths = subst (λ (x : GroupPlan). All WidthFits (signals_in x (length w.start))) here
        (lays_out_each plan clean g group below (length w.start) of_length.length).widths

    last_given : ReadsLastGiven w.start signals
    last_given = reads_last w.start signals keeps (λ k d in_message. reads_back (get_or signals k d) (widths k d in_message))

    pub same_length : length bytes ≡ length w.start
    same_length = ap length (sym w.last) ∙ (keeps w.writes w.chain).same_length

    -- what holds of the payload after the last write holds of the bytes
    in_bytes : (P : List ℕ → SignalParts → Type 0) (place : ℕ) → HoldsAt (P (last_payload w.start w.writes)) signals place
        → HoldsAt (P bytes) (signals_of_bytes group bytes) place
    in_bytes P place is = subst (λ (n : ℕ). HoldsAt (P bytes) (signals_in group n) place) (sym same_length)
        (subst (λ (b : List ℕ). HoldsAt (P b) signals place) w.last is)

    inside : (place : ℕ) → place < length (signals_of_bytes group bytes) → place < length signals
    inside place less = subst (λ (n : ℕ). place < length (signals_in group n)) same_length less

    -- a signal of a blank payload without a selector
    blank_unset : group.when ≡ None → (place : ℕ) → place < length signals → HoldsAt (λ s. state_of s (raw_of w.start s) ≡ unset_state s) signals place
    blank_unset none place less d =
        let laid = lays_out_each plan clean g group below (length w.start) of_length.length in
        let ends = subst (λ (x : GroupPlan). All (IsInside (length w.start)) (signals_in x (length w.start))) here laid.inside in
        let blank : IsBlank None w.start = subst (λ (x : Option Selector). IsBlank x w.start) none w.blank.blank in
        ap (state_of (get_or signals place d)) (blank_ones w.start (get_or signals place d) blank (ends place d less))
        ∙ ones_read (get_or signals place d) (widths place d less)

    -- the chain, by one of its writes
    chain_by : (earlier later : List Write) (x : Write) → w.writes ≡ earlier ++ x ∷ later → Chain signals w.start (earlier ++ x ∷ later)
    chain_by earlier later x split = subst (Chain signals w.start) split w.chain

    pub read_as_written : ReadAsWritten group bytes w
    read_as_written = record {
      given = λ earlier later x split alone value.
          in_bytes (λ b s. IsRawOf s value x.raw → state_of s (raw_of b s) ≡ Value value) x.place
          (subst (λ (ws : List Write). HoldsAt (λ s. IsRawOf s value x.raw → state_of s (raw_of (last_payload w.start ws) s) ≡ Value value) signals x.place)
          (sym split)
          (last_given.given earlier later x (chain_by earlier later x split) alone value));
      given_up = λ earlier later x split alone.
          in_bytes (λ b s. x.raw ≡ all_ones s → state_of s (raw_of b s) ≡ unset_state s) x.place
          (subst (λ (ws : List Write). HoldsAt (λ s. x.raw ≡ all_ones s → state_of s (raw_of (last_payload w.start ws) s) ≡ unset_state s) signals x.place)
          (sym split)
          (last_given.given_up earlier later x (chain_by earlier later x split) alone));
      never_given = λ place less alone.
          in_bytes (λ b s. state_of s (raw_of b s) ≡ state_of s (raw_of w.start s)) place
          (last_given.never_given w.writes place w.chain alone (inside place less));
      unset = λ none place less alone.
          in_bytes (λ b s. state_of s (raw_of b s) ≡ unset_state s) place
          (λ d. last_given.never_given w.writes place w.chain alone (inside place less) d ∙ blank_unset none place (inside place less) d);
    }

-- ---- how old it is

module _ (plan : Plan) (timing : Timing) (stays : UnitPlan → Bool) (flow bits : ℕ) (bound : IsBounded timing (asked_of timing plan stays) flow bits) where
  abbrev asked : List (Option FlowFrames)
  asked = frames_asked (asked_of timing plan stays)

  abbrev traffic : Traffic
  traffic = traffic_of (asked ++ damage_frames timing)

  placed : planned_at (asked ++ damage_frames timing) flow ≡ bound.frames
  placed = with_damage timing asked flow bound.frames
      (own_read (asked_of timing plan stays).flows (asked_of timing plan stays).units (asked_of timing plan stays).requests flow bound.load bound.frames
      bound.its bound.short)

  paced : ArePaced bound.load.limit (Short bound.frames)
  paced = subst (ArePaced bound.load.limit) bound.short (of_loads timing plan stays flow bound.load bound.its).messages

  module _ (s : Schedule) (planned : ℕ → Bool) (of : Origins) (known : AreFramesOfPlan timing asked s planned of flow)
      (in_time : IsStreamInTime s planned of flow bound.frames.stream bound.wait) (spaced : IsSpaced bound.frames.stream) where
    come : ComeOneByOne s planned of traffic.count traffic.stream flow bound.wait
    come = record {
      of_streams = known.of_streams;
      single = subst (λ (f : FlowFrames). IsSingle f.stream) (sym placed) (paced.1, spaced);
      in_time = subst (λ (f : FlowFrames). IsStreamInTime s planned of flow f.stream bound.wait) (sym placed) in_time;
      within_period = subst (λ (f : FlowFrames). delay_of f.stream bound.wait ≤ f.stream.period) (sym placed)
          (let sum = bound.sum in
          let inside = bound.inside in
          let limited = paced.2 in
          omega (arith, sum, inside, limited));
    }

    -- what is reported of the stream at the flow's place is reported of the flow
    of_flow : (pause from to : ℕ)
        → (to + ((traffic.stream flow).jitter + bound.wait) < s.now
        → IsNewestFresh s planned of flow (pause + delay_of (traffic.stream flow) bound.wait) (from + delay_of (traffic.stream flow) bound.wait)
        (to + delay_of (traffic.stream flow) bound.wait))
        → to + (bound.frames.stream.jitter + bound.wait) < s.now → IsNewestFresh s planned of flow (pause + bits) (from + bits) (to + bits)
    of_flow pause from to stated =
        subst (λ (b : ℕ). to + (bound.frames.stream.jitter + bound.wait) < s.now → IsNewestFresh s planned of flow (pause + b) (from + b) (to + b))
        (sym bound.sum)
        (subst (λ (f : FlowFrames). to + (f.stream.jitter + bound.wait) < s.now
        → IsNewestFresh s planned of flow (pause + delay_of f.stream bound.wait) (from + delay_of f.stream bound.wait)
        (to + delay_of f.stream bound.wait)) placed stated)

-- ---- needs

-- the newest frame is young, and reads as it was written
both : (plan : Plan) → Clean plan → (g : ℕ) (group : GroupPlan) → slice_get plan.groups.items g ≡ Some group
    → (s : Schedule) (planned : ℕ → Bool) (of : Origins)
    (flow : ℕ) (bytes : ℕ → List ℕ) (written : CarryWritten s planned of flow group bytes) (age from to : ℕ)
    → IsNewestFresh s planned of flow age from to → AreReadYoung s planned of flow group bytes written age from to
both plan clean g group at s planned of flow bytes written age from to fresh t low high =
    let (some, young) = fresh t low high in (
      some,
      λ p newest. record {
        young = young p newest;
        read = read_as_written plan clean g group at (bytes p) (written p newest.has_ended.its);
      },
    )

module _ (plan : Plan) (timing : Timing) (clean : Clean plan) (stays : UnitPlan → Bool) (delays : List (Option Delay)) (need : NeedPlan) (within : ℕ)
    (fresh : IsNeedFresh plan timing (asked_of timing plan stays) delays need (1000 * within)) where
  group_below : fresh.flow.group < length plan.groups.items
  group_below =
      let here : get_or plan.flows.items fresh.place fresh.flow ≡ fresh.flow =
      get_or_from_slice_get plan.flows.items fresh.place fresh.flow fresh.flow fresh.its in
      rw here at (plan.flow_groups fresh.place fresh.flow (slice_get_within plan.flows.items fresh.place fresh.flow fresh.its))

  its_group : (group : GroupPlan) × (slice_get plan.groups.items fresh.flow.group ≡ Some group)
  its_group = elim ((slice_get_cases plan.groups.items fresh.flow.group).1) [
    | inl (group, inside, at, read) ↦ (group, at)
    | inr (past, none) ↦ absurd (let below = group_below in omega (arith, past, below))
  ]

  -- its flow isn't sent as an answer
  its_spaced : IsSpaced fresh.bounded.frames.stream
  its_spaced = unasked_spaced timing plan stays fresh.flow fresh.bounded.load fresh.bounded.frames fresh.bounded.short fresh.unasked
      (same_Some _ (Some fresh.bounded.load)
      (sym (slice_get-map (load_of_flow timing plan stays) plan.flows.items fresh.place ∙ ap (option_map (load_of_flow timing plan stays)) fresh.its)
      ∙ fresh.bounded.its))

  need_read : IsNeedRead plan timing (asked_of timing plan stays) delays need within
  need_read =
      let (group, at) = its_group in
      record {
        fresh = fresh;
        group = group;
        of = at;
        in_any_order = λ silent s controllers planned of legal known bytes written from to coming seen.
            both plan clean fresh.flow.group group at s planned of fresh.place bytes written (silent + fresh.bits)
            (from + fresh.bits) (to + fresh.bits)
            (of_flow plan timing stays fresh.place fresh.bits fresh.bounded s planned of known.known
            (fresh.bounded.in_any_order s controllers planned of legal known) its_spaced
            silent from to
            (newest_in_any_order s controllers planned of _ _ fresh.place fresh.bounded.wait silent from to legal
            (come plan timing stays fresh.place fresh.bits fresh.bounded s planned of known.known
            (fresh.bounded.in_any_order s controllers planned of legal known)
            its_spaced) coming)
            seen);
        in_order = λ silent ordered s planned of legal known bytes written from to coming seen.
            both plan clean fresh.flow.group group at s planned of fresh.place bytes written (silent + fresh.bits)
            (from + fresh.bits) (to + fresh.bits)
            (of_flow plan timing stays fresh.place fresh.bits fresh.bounded s planned of known
            (fresh.bounded.bounds ordered s planned of legal known) its_spaced
            silent from to
            (newest_in_order s planned of _ _ fresh.place fresh.bounded.wait silent from to legal
            (come plan timing stays fresh.place fresh.bits fresh.bounded s planned of known
            (fresh.bounded.bounds ordered s planned of legal known) its_spaced) coming)
            seen);
      }

pub read_where_checked : (plan : Plan) (timing : Timing) → Clean plan → AreLoadFindings plan (Some timing) [] → AreNeedsRead plan timing
read_where_checked plan timing clean found =
    let (stays, delays, asks, each) = fresh_where_checked plan timing clean found in
    (stays, delays, asks, λ n need within at asked. need_read plan timing clean stays delays need within (each n need within at asked))
