-- Each flow has a delay, whatever is asked of a bus: every wait that it is told by is the least of a bounded search, or none.
use Rattle.std.proofs.Common.{◌≡◌, ◌⊎◌, ℕ, ◌+◌, ◌≤◌, Bool, true, false, leb, List, length, get_or, Option, Some, None, refl, sym, ◌∙◌, inl, inr, arith}
use Rattle.std.proofs.lemmas.Bool.{cases_Bool, le-leb, leb-false, leb-true, true≢false}
use Rattle.std.proofs.lemmas.Option.{slice_get-get_or}
use Rattle.std.specs.Bool.{MatchBool}
use Rattle.std.specs.List.{slice_get}
use Rattle.j39_network.specs.declared.plan.timing.Timing.{Timing}
use Rattle.j39_load.specs.declared.frames.broadcast.Broadcast.{Broadcast}
use Rattle.j39_load.specs.declared.frames.flow_frames.FlowFrames.{FlowFrames}
use Rattle.j39_load.specs.declared.frames.messages.Messages.{Messages}
use Rattle.j39_load.specs.declared.frames.messages.Messages.TheVariants.{Short, ToAll, ToOne}
use Rattle.j39_load.specs.declared.loads.flow_load.FlowLoad.{FlowLoad}
use Rattle.j39_load.specs.declared.loads.unit_load.UnitLoad.{UnitLoad}
use Rattle.j39_load.specs.declared.waits.delay.Delay.{Delay}
use Rattle.j39_load.specs.declared.waits.delay.Delay.TheVariants.{Beyond, Late, Long, Whole, Within}
use Rattle.j39_load.specs.declared.waits.turn.Turn.{Turn}
use Rattle.j39_load.specs.declared.waits.whole_time.WholeTime.{WholeTime}
use Rattle.j39_load.specs.AnyQueues.{Buffering, IsWaitWith, keep_order, may_be_passed}
use Rattle.j39_load.specs.Asked.{Asked, frames_asked}
use Rattle.j39_load.specs.Delays.{AreFlowDelays, HasDelay, HasDelayBy, HasNoneWithin, IsDelayOf, IsDelayWithin, IsFrameDelay, IsInTime, IsShortDelay}
use Rattle.j39_load.specs.Delays.{IsTurnBy, IsWaitIn, IsWaitOf, IsWholeTime, announcements_place, any_delay, blocking_of, known_turn, packets_place}
use Rattle.j39_load.specs.Delays.{streams_before}
use Rattle.j39_load.specs.Delays.{whole_time}
use Rattle.j39_load.specs.Demands.{demands_of}
use Rattle.j39_timing.specs.Traffic.{delay_of}
use Rattle.j39_part_laws.proofs.LeastNumbers.{IsLeast, least_or_none, listed}
use Rattle.j39_part_laws.proofs.WaitsExist.{has_room, none_shorter, room, some_buffering, some_wait}

module _ (timing : Timing) (all : List (Option FlowFrames)) (i : ℕ) (frames : FlowFrames) where
  -- ---- flows whose messages go in one frame

  abbrev fits : ℕ → Bool
  fits = has_room (demands_of all) (blocking_of timing frames) (streams_before timing i frames all)

  fitting : (most w : ℕ) → IsInTime timing all i frames most w → fits w ≡ true
  fitting most w its = le-leb _ w its.demand_fits

  -- the least wait that has room is in time, or none is
  some_within : (most : ℕ) → ((bits : ℕ) × IsDelayWithin timing all i frames most bits) ⊎ HasNoneWithin timing all i frames most
  some_within most = elim (least_or_none fits (most + 1)) [
    | inr none ↦ inr (λ w its. let below = its.within in absurd (true≢false (sym (fitting most w its) ∙ none w (omega (arith, below)))))
    | inl found ↦ by_least found.0 found.2
  ]
    where
      in_time : (n : ℕ) → IsLeast fits n → delay_of frames.stream n ≤ most → IsDelayWithin timing all i frames most (delay_of frames.stream n)
      in_time n least inside = (
        n,
        record {
          demand_fits = room (demands_of all) (blocking_of timing frames) (streams_before timing i frames all) n least.holds;
          within = inside;
        },
        none_shorter (demands_of all) (blocking_of timing frames) (streams_before timing i frames all) n least.first,
        refl,
      )

      by_least : (n : ℕ) → IsLeast fits n → ((bits : ℕ) × IsDelayWithin timing all i frames most bits) ⊎ HasNoneWithin timing all i frames most
      by_least n least = elim (cases_Bool (leb (delay_of frames.stream n) most)) [
        | inl inside ↦ inl (delay_of frames.stream n, in_time n least (leb-true (delay_of frames.stream n) most inside))
        | inr above ↦ inr (λ w its. elim (cases_Bool (leb n w)) [
          | inl longer ↦
              let more = leb-false (delay_of frames.stream n) most above in
              let later = leb-true n w longer in
              let below = its.within in
              absurd (omega (arith, more, later, below))
          | inr shorter ↦ absurd (true≢false (sym (fitting most w its) ∙ least.first w (leb-false n w shorter)))
        ])
      ]

  some_short_delay : (limit : ℕ) → (delay : Delay) × IsShortDelay timing all i frames limit delay
  some_short_delay limit = elim (some_within limit) [
    | inl within ↦ (Within within.0, within.1)
    | inr none ↦ elim (some_within frames.stream.period) [
      | inl beyond ↦ (Beyond beyond.0, (none, beyond.1))
      | inr late ↦ (Late, (none, late))
    ]
  ]

  some_wait_of : (wait : Option ℕ) × IsWaitOf timing all i frames wait
  some_wait_of =
      let found = some_wait (demands_of all) (blocking_of timing frames) (streams_before timing i frames all) timing in
      (found.0, as_wait found.0 found.1)
    where
      as_wait : (wait : Option ℕ)
          → IsWaitWith timing (demands_of all) (streams_before timing i frames all) (blocking_of timing frames) wait
          → IsWaitOf timing all i frames wait
      as_wait (Some wait) is = is
      as_wait None is = is

module _ (timing : Timing) (asked : Asked) (buffering : Buffering) where
  some_frame_delay : (flow : ℕ) (frames : FlowFrames) (limit : ℕ) → (delay : Delay) × IsFrameDelay timing buffering flow frames limit delay
  some_frame_delay flow frames limit = go (keep_order frames) (may_be_passed buffering frames.greatest_ident)
    where
      go : (b c : Bool) → (delay : Delay) × MatchBool b
          (MatchBool c (delay ≡ Late) (IsShortDelay timing buffering.frames flow frames limit delay))
          (delay ≡ any_delay frames limit (get_or buffering.waits flow None))
      go true true = (Late, refl)
      go true false = some_short_delay timing buffering.frames flow frames limit
      go false c = (any_delay frames limit (get_or buffering.waits flow None), refl)

  -- ---- long messages to all

  some_wait_in : (i : ℕ) (frames : FlowFrames) → (wait : Option ℕ) × IsWaitIn timing buffering i frames wait
  some_wait_in i frames = go (keep_order frames) (may_be_passed buffering frames.greatest_ident)
    where
      go : (b c : Bool) → (wait : Option ℕ) × MatchBool b
          (MatchBool c (wait ≡ None) (IsWaitOf timing buffering.frames i frames wait)) (wait ≡ get_or buffering.waits i None)
      go true true = (None, refl)
      go true false = some_wait_of timing buffering.frames i frames
      go false c = (get_or buffering.waits i None, refl)

  some_turn_by : (u : ℕ) (load : Option UnitLoad) → (turn : Option Turn) × IsTurnBy timing asked buffering u load turn
  some_turn_by u None = (None, refl)
  some_turn_by u (Some load) =
      let announced = some_wait_in (announcements_place asked u) load.announcements in
      let sent = some_wait_in (packets_place asked u) load.packets in
      (known_turn timing load announced.0 sent.0, (announced.0, sent.0, announced.1, sent.1, refl))

  some_whole_time : (broadcast : Broadcast) → (whole : WholeTime) × IsWholeTime timing asked buffering broadcast whole
  some_whole_time broadcast =
      let turn = some_turn_by broadcast.sender (get_or asked.units broadcast.sender None) in
      (whole_time broadcast turn.0, (turn.0, turn.1, refl))

  -- ---- each flow

  some_delay_of : (flow : ℕ) (messages : Messages) (limit : ℕ) → (delay : Delay) × IsDelayOf timing asked buffering flow messages limit delay
  some_delay_of flow (Short frames) limit = some_frame_delay flow frames limit
  some_delay_of flow (ToOne frames) limit = (Long frames.stream.frames, refl)
  some_delay_of flow (ToAll broadcast) limit = let whole = some_whole_time broadcast in (Whole whole.0, whole.1)

  some_delay_by : (flow : ℕ) (o : Option FlowLoad) → slice_get asked.flows flow ≡ Some o → (delay : Option Delay) × HasDelayBy timing asked buffering flow delay
  some_delay_by flow None its = (None, its)
  some_delay_by flow (Some load) its = let found = some_delay_of flow load.messages load.limit in (Some found.0, (load, its, found.1))

pub some_delays : (timing : Timing) (asked : Asked) → (delays : List (Option Delay)) × AreFlowDelays timing asked delays
some_delays timing asked =
    let buffering = some_buffering timing asked.unplanned_end (frames_asked asked) in
    let found = listed None (length asked.flows) (λ flow delay. HasDelay timing asked flow delay) (λ flow below.
    let one = some_delay_by timing asked buffering.0 flow (get_or asked.flows flow None) (slice_get-get_or asked.flows flow None below) in
    (one.0, (buffering.0, buffering.1, one.1))) in
    let size = found.1 in
    (found.0, record { count = size; each = λ flow below. found.2 flow (omega (arith, size, below)) })
