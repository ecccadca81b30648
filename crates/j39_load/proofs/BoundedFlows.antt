-- The delays of a plan's flows bound the waits of their frames, since a wait that has room for the streams before has room for the traffic.
use Rattle.std.proofs.Common.{◌≡◌, ℕ, ◌<◌, ◌≤◌, Bool, true, false, leb, if◌then◌else◌, List, [], ◌++◌, length, get_or, unwrap_or, All, IfSome, Option, Some}
use Rattle.std.proofs.Common.{None}
use Rattle.std.proofs.Common.{refl, sym, ap, ◌∙◌, subst, inl, inr, arith}
use Rattle.std.proofs.lemmas.Bool.{cases_lt, leb-false, leb-true, true≢false}
use Rattle.std.proofs.lemmas.Option.{same_Some, none-some, slice_get_within, slice_get-get_or, get_or_from_slice_get}
use Rattle.std.specs.Bool.{MatchBool}
use Rattle.std.specs.List.{slice_get}
use Rattle.j39_network.specs.declared.plan.Plan.{Plan}
use Rattle.j39_network.specs.declared.plan.timing.Timing.{Timing}
use Rattle.j39_network.specs.declared.plan.unit_plan.UnitPlan.{UnitPlan}
use Rattle.j39_load.specs.declared.waits.delay.Delay.{Delay}
use Rattle.j39_load.specs.declared.waits.delay.Delay.TheVariants.{Within, Beyond, Late, Long, Whole}
use Rattle.j39_load.specs.declared.frames.flow_frames.FlowFrames.{FlowFrames}
use Rattle.j39_load.specs.declared.loads.flow_load.FlowLoad.{FlowLoad}
use Rattle.j39_load.specs.declared.frames.messages.Messages.{Messages}
use Rattle.j39_load.specs.declared.frames.messages.Messages.TheVariants.{Short, ToAll, ToOne}
use Rattle.j39_load.specs.declared.waits.whole_time.WholeTime.{WholeTime}
use Rattle.j39_load.specs.AnyQueues.{IsBuffering, Buffering, keep_order, may_be_passed}
use Rattle.j39_load.specs.Asked.{Asked, asked_of, frames_asked, total_load}
use Rattle.j39_load.specs.Damage.{damage_frames}
use Rattle.j39_load.specs.Delays.{HasDelay, IsDelay, IsDelayOf, IsDelayWithin, IsFrameDelay, IsShortDelay, IsWaitIn, IsWaitOf, any_delay, judged, need_of}
use Rattle.j39_load.specs.LoadFindings.{AsksOfBus, lateness, load_findings, overload, without_period}
use Rattle.j39_load.specs.FlowLoads.{loads_of}
use Rattle.j39_load.specs.LineLists.{lines_of_each}
use Rattle.j39_load.specs.PlannedFrames.{AreAllOrdered, AreDelaysBounds, AreFramesInAnyOrder, AreFramesOfPlan, AreLateDelaysBounds, AreShortFlowsBounded}
use Rattle.j39_load.specs.PlannedFrames.{ComeInAnyOrder, IsBounded, IsBoundedBeyond, IsInTimeInAnyOrder, IsInTimeOnEveryBus, no_frames, planned_at}
use Rattle.j39_load.proofs.AnyTraffic.{asked_bound, ordered_bound, ordered_sent}
use Rattle.j39_load.proofs.QueueGroupFrames.{any_in_time, any_sent, wait_of_queue_group}
use Rattle.j39_load.proofs.PositivePeriods.{ArePaced, HasPeriod, of_loads, all_paced}
use Rattle.j39_load.proofs.Sending.{IsSent, all_sent}
use Rattle.j39_load.proofs.StreamsBefore.{get_or_inside, none_of_two, own_read, stated_nothing}
use Rattle.j39_timing.specs.AnyOrder.{Controllers, IsLegalInAnyOrder}
use Rattle.j39_timing.specs.Messages.{AreSentWithin}
use Rattle.j39_timing.specs.TimedFrames.{Schedule, IsLegal}
use Rattle.j39_timing.specs.FrameStreams.{Origins}
use Rattle.j39_timing.specs.Traffic.{IsStreamInTime, delay_of}
use Rattle.j39_timing.specs.Waits.{IsSpaced, askers_want}
use Rattle.j39_timing.specs.declared.wants.Want.{Want}
use Rattle.std.specs.Option.{is_some}

-- ---- buses on which every unit keeps order

-- all units do
abbrev pub all_in_order : Controllers
all_in_order = record { unit = λ p. 0; keeps_order = λ u. true }

pub legal_in_order : (s : Schedule) → IsLegal s → IsLegalInAnyOrder s all_in_order
legal_in_order s legal = record {
  positive = legal.positive;
  queued_first = legal.queued_first;
  alone = legal.alone;
  never_idle = legal.never_idle;
  in_order = λ p q in_p in_q seen waits. (p, (in_p, refl, (omega (arith, waits.0), waits.1), λ is. refl), legal.in_order p q in_p in_q seen waits);
}

pub known_in_order : (timing : Timing) (ends : ℕ) (all : List (Option FlowFrames)) → AreAllOrdered all → (s : Schedule) (planned : ℕ → Bool) (of : Origins)
    (i : ℕ)
    → AreFramesOfPlan timing all s planned of i → AreFramesInAnyOrder timing ends all s all_in_order planned of i
known_in_order timing ends all ordered s planned of i known = record {
  known = known;
  of_unit = λ p in_p is un. absurd (true≢false un);
  to_last = λ p in_p is un. absurd (true≢false (sym (ordered (of.source p)) ∙ un));
  queue_groups = λ j level goes un is_level. absurd (true≢false (sym (ordered j) ∙ un));
}

pub in_order : (timing : Timing) (ends : ℕ) (all : List (Option FlowFrames)) → AreAllOrdered all → (i : ℕ) (frames : FlowFrames) (wait : ℕ)
    → IsInTimeInAnyOrder timing ends all i frames wait → IsInTimeOnEveryBus timing all i frames wait
in_order timing ends all ordered i frames wait bounds s planned of legal known =
    bounds s all_in_order planned of (legal_in_order s legal) (known_in_order timing ends all ordered s planned of i known)

-- ---- bounds

pub within_late : (bits : ℕ) → Within bits ≡ Late → ⊥
within_late bits is = cc

within_beyond : (bits more : ℕ) → Within bits ≡ Beyond more → ⊥
within_beyond bits more is = cc

beyond_late : (bits : ℕ) → Beyond bits ≡ Late → ⊥
beyond_late bits is = cc

-- where a time is judged to be within its limit it is
pub judged_within : (frames : FlowFrames) (limit time bits : ℕ) → Within bits ≡ judged frames limit time → (bits ≡ time) × (bits ≤ limit)
judged_within frames limit time bits stated = go (leb time limit) refl stated
  where
    same_bits : (a b : ℕ) → Within a ≡ Within b → a ≡ b
    same_bits a b e = cc

    later : (fits : Bool) → Within bits ≡ (if fits then Beyond time else Late) → ⊥
    later true stated = within_beyond bits time stated
    later false stated = within_late bits stated

    go : (fits : Bool) → leb time limit ≡ fits → Within bits ≡ (if fits then Within time else (if leb time frames.stream.period then Beyond time else Late))
        → (bits ≡ time) × (bits ≤ limit)
    go false fits stated = absurd (later (leb time frames.stream.period) stated)
    go true fits stated =
        let same = same_bits bits time stated in
        let inside = leb-true time limit fits in
        (same, omega (arith, same, inside))

-- and where it is judged to be beyond it, it is within the period
judged_beyond : (frames : FlowFrames) (limit time bits : ℕ) → Beyond bits ≡ judged frames limit time
    → (bits ≡ time) × (limit < bits) × (bits ≤ frames.stream.period)
judged_beyond frames limit time bits stated = go (leb time limit) refl stated
  where
    same_bits : (a b : ℕ) → Beyond a ≡ Beyond b → a ≡ b
    same_bits a b e = cc

    later : (fits : Bool) → leb time frames.stream.period ≡ fits → limit < time → Beyond bits ≡ (if fits then Beyond time else Late)
        → (bits ≡ time) × (limit < bits) × (bits ≤ frames.stream.period)
    later false fits above stated = absurd (beyond_late bits stated)
    later true fits above stated =
        let same = same_bits bits time stated in
        let inside = leb-true time frames.stream.period fits in
        (same, omega (arith, same, above), omega (arith, same, inside))

    go : (fits : Bool) → leb time limit ≡ fits → Beyond bits ≡ (if fits then Within time else (if leb time frames.stream.period then Beyond time else Late))
        → (bits ≡ time) × (limit < bits) × (bits ≤ frames.stream.period)
    go true fits stated = absurd (within_beyond time bits (sym stated))
    go false fits stated = later (leb time frames.stream.period) refl (leb-false time limit fits) stated

module _ (timing : Timing) (ends : ℕ) (asked : List (Option FlowFrames)) (paced : All HasPeriod (asked ++ damage_frames timing))
    (sent : All (λ (f : Option FlowFrames). IfSome f IsSent) asked) (buffering : Buffering) (is : IsBuffering timing ends asked buffering) (flow : ℕ)
    (frames : FlowFrames)
    (at : get_or asked flow None ≡ Some frames) (limit bits : ℕ) where
  its_sent : IsSent frames
  its_sent = subst (λ (o : Option FlowFrames). IfSome o IsSent) at (sent flow None (get_or_inside asked flow frames at))

  abbrev Bound : Type 0
  Bound = (wait : ℕ) × (bits ≡ delay_of frames.stream wait) × (bits ≤ limit) × IsInTimeInAnyOrder timing ends asked flow frames wait

  abbrev BoundBeyond : Type 0
  BoundBeyond = (wait : ℕ) × (bits ≡ delay_of frames.stream wait) × (limit < bits) × (bits ≤ frames.stream.period)
      × IsInTimeInAnyOrder timing ends asked flow frames wait

  -- whether others ask for them or not
  by_askers : keep_order frames ≡ true → may_be_passed buffering frames.greatest_ident ≡ false → (wait : ℕ)
      → need_of timing buffering.frames flow frames wait ≤ wait → (s : Schedule) (controllers : Controllers) (planned : ℕ → Bool) (of : Origins)
      → IsLegalInAnyOrder s controllers → AreFramesInAnyOrder timing ends asked s controllers planned of flow → frames.stream.frames ≡ 1
      → delay_of frames.stream wait ≤ frames.stream.period → (askers : Option Want) → askers_want frames.stream ≡ askers
      → IsStreamInTime s planned of flow frames.stream wait
  by_askers ordered passed wait fits s controllers planned of legal known single within None none =
      ordered_bound timing ends asked paced sent buffering is flow frames at ordered passed wait fits s controllers planned of legal known (single, none) within
  by_askers ordered passed wait fits s controllers planned of legal known single within (Some want) some =
      asked_bound timing ends asked paced sent buffering is flow frames at ordered passed wait fits s controllers planned of legal known
      (ap (λ (o : Option Want). is_some o) some) (its_sent.short)

  -- of a unit that keeps order, of a delay within some bits that are no more than the period
  by_delay : keep_order frames ≡ true → may_be_passed buffering frames.greatest_ident ≡ false → (most : ℕ)
      → IsDelayWithin timing buffering.frames flow frames most bits → frames.stream.frames ≡ 1 → most ≤ frames.stream.period
      → (wait : ℕ) × (bits ≡ delay_of frames.stream wait) × (bits ≤ most) × IsInTimeInAnyOrder timing ends asked flow frames wait
  by_delay ordered passed most (wait, inside, least, sum) single limited =
      let within = inside.within in (
        wait,
        sum,
        omega (arith, within, sum),
        λ s controllers planned of legal known.
            by_askers ordered passed wait inside.demand_fits s controllers planned of legal known single (omega (arith, within, limited))
            (askers_want frames.stream) refl,
      )

  ordered_frames : keep_order frames ≡ true → (passed : Bool) → may_be_passed buffering frames.greatest_ident ≡ passed
      → MatchBool passed (Within bits ≡ Late) (IsShortDelay timing buffering.frames flow frames limit (Within bits))
      → frames.stream.frames ≡ 1 → limit ≤ frames.stream.period → Bound
  ordered_frames ordered true passed stated single limited = absurd (within_late bits stated)
  ordered_frames ordered false passed stated single limited = by_delay ordered passed limit stated single limited

  ordered_beyond : keep_order frames ≡ true → (passed : Bool) → may_be_passed buffering frames.greatest_ident ≡ passed
      → MatchBool passed (Beyond bits ≡ Late) (IsShortDelay timing buffering.frames flow frames limit (Beyond bits))
      → frames.stream.frames ≡ 1 → BoundBeyond
  ordered_beyond ordered true passed stated single = absurd (beyond_late bits stated)
  ordered_beyond ordered false passed stated single =
      let (wait, sum, inside, bounds) = by_delay ordered passed frames.stream.period stated.1 single (omega arith) in
      let above : limit < bits = elim (cases_lt limit bits) [
        | inl above ↦ above
        | inr below ↦
            let least = stated.1.3 in
            absurd (stated.0 stated.1.0 (record { demand_fits = stated.1.1.demand_fits; within = omega (arith, below, least) }))
      ] in
      (wait, sum, above, inside, bounds)

  -- of one that keeps none
  by_wait : keep_order frames ≡ false → (w : ℕ) → get_or buffering.waits flow None ≡ Some w → IsInTimeInAnyOrder timing ends asked flow frames w
  by_wait kept w known_wait s controllers planned of legal known =
      any_in_time timing ends asked paced sent s controllers planned of legal flow known flow frames at kept (inl refl) w
      (wait_of_queue_group timing ends asked paced sent buffering.waits is.bounded flow frames at kept w known_wait)

  unordered_frames : keep_order frames ≡ false → (wait : Option ℕ) → get_or buffering.waits flow None ≡ wait → Within bits ≡ any_delay frames limit wait → Bound
  unordered_frames kept None known_wait stated = absurd (within_late bits stated)
  unordered_frames kept (Some w) known_wait stated =
      let (sum, inside) = judged_within frames limit (delay_of frames.stream w) bits stated in
      (w, sum, inside, by_wait kept w known_wait)

  unordered_beyond : keep_order frames ≡ false → (wait : Option ℕ) → get_or buffering.waits flow None ≡ wait → Beyond bits ≡ any_delay frames limit wait
      → BoundBeyond
  unordered_beyond kept None known_wait stated = absurd (beyond_late bits stated)
  unordered_beyond kept (Some w) known_wait stated =
      let (sum, above, inside) = judged_beyond frames limit (delay_of frames.stream w) bits stated in
      (w, sum, above, inside, by_wait kept w known_wait)

  pub frames_bounded : IsFrameDelay timing buffering flow frames limit (Within bits) → frames.stream.frames ≡ 1 → limit ≤ frames.stream.period → Bound
  frames_bounded delayed single limited = go (keep_order frames) refl delayed
    where
      go : (keeps : Bool) → keep_order frames ≡ keeps
          → MatchBool keeps
          (MatchBool (may_be_passed buffering frames.greatest_ident) (Within bits ≡ Late)
          (IsShortDelay timing buffering.frames flow frames limit (Within bits)))
          (Within bits ≡ any_delay frames limit (get_or buffering.waits flow None)) → Bound
      go true keeps stated = ordered_frames keeps (may_be_passed buffering frames.greatest_ident) refl stated single limited
      go false keeps stated = unordered_frames keeps (get_or buffering.waits flow None) refl stated

  pub frames_beyond : IsFrameDelay timing buffering flow frames limit (Beyond bits) → frames.stream.frames ≡ 1 → BoundBeyond
  frames_beyond delayed single = go (keep_order frames) refl delayed
    where
      go : (keeps : Bool) → keep_order frames ≡ keeps
          → MatchBool keeps
          (MatchBool (may_be_passed buffering frames.greatest_ident) (Beyond bits ≡ Late)
          (IsShortDelay timing buffering.frames flow frames limit (Beyond bits)))
          (Beyond bits ≡ any_delay frames limit (get_or buffering.waits flow None)) → BoundBeyond
      go true keeps stated = ordered_beyond keeps (may_be_passed buffering frames.greatest_ident) refl stated single
      go false keeps stated = unordered_beyond keeps (get_or buffering.waits flow None) refl stated

whole_within : (whole : WholeTime) (bits : ℕ) → Whole whole ≡ Within bits → ⊥
whole_within whole bits is = cc

whole_beyond : (whole : WholeTime) (bits : ℕ) → Whole whole ≡ Beyond bits → ⊥
whole_beyond whole bits is = cc

whole_late : (whole : WholeTime) → Whole whole ≡ Late → ⊥
whole_late whole is = cc

long_within : (count bits : ℕ) → Long count ≡ Within bits → ⊥
long_within count bits is = cc

long_beyond : (count bits : ℕ) → Long count ≡ Beyond bits → ⊥
long_beyond count bits is = cc

long_late : (count : ℕ) → Long count ≡ Late → ⊥
long_late count is = cc

-- the delay of frames of single messages is a bound, or none is reported
never_stated : (timing : Timing) (buffering : Buffering) (flow : ℕ) (frames : FlowFrames) (limit : ℕ) (delay : Delay) → ((bits : ℕ) → delay ≡ Within bits → ⊥)
    → ((bits : ℕ) → delay ≡ Beyond bits → ⊥) → (delay ≡ Late → ⊥) → (IsShortDelay timing buffering.frames flow frames limit delay → ⊥)
    → IsFrameDelay timing buffering flow frames limit delay → ⊥
never_stated timing buffering flow frames limit delay bound beyond none short stated = go (keep_order frames)
    (may_be_passed buffering frames.greatest_ident) stated
  where
    late : (wait : Option ℕ) → delay ≡ any_delay frames limit wait → ⊥
    late None is = none is
    late (Some w) is = by (leb (delay_of frames.stream w) limit) (leb (delay_of frames.stream w) frames.stream.period) is
      where
        by : (fits later : Bool) → delay ≡ (if fits then Within (delay_of frames.stream w) else (if later then Beyond (delay_of frames.stream w) else Late)) → ⊥
        by true later is = bound (delay_of frames.stream w) is
        by false true is = beyond (delay_of frames.stream w) is
        by false false is = none is

    go : (keeps passed : Bool) → MatchBool keeps (MatchBool passed (delay ≡ Late) (IsShortDelay timing buffering.frames flow frames limit delay))
        (delay ≡ any_delay frames limit (get_or buffering.waits flow None)) → ⊥
    go true true is = none is
    go true false is = short is
    go false passed is = late (get_or buffering.waits flow None) is

pub never_whole : (timing : Timing) (buffering : Buffering) (flow : ℕ) (frames : FlowFrames) (limit : ℕ) (whole : WholeTime)
    → IsFrameDelay timing buffering flow frames limit (Whole whole) → ⊥
never_whole timing buffering flow frames limit whole =
    never_stated timing buffering flow frames limit (Whole whole) (whole_within whole) (whole_beyond whole) (whole_late whole) (λ short. short)

pub never_long : (timing : Timing) (buffering : Buffering) (flow : ℕ) (frames : FlowFrames) (limit count : ℕ)
    → IsFrameDelay timing buffering flow frames limit (Long count) → ⊥
never_long timing buffering flow frames limit count =
    never_stated timing buffering flow frames limit (Long count) (long_within count) (long_beyond count) (long_late count) (λ short. short)

-- frames of a unit's broadcasts, for which a wait is reported
module _ (timing : Timing) (ends : ℕ) (asked : List (Option FlowFrames)) (paced : All HasPeriod (asked ++ damage_frames timing))
    (sent : All (λ (f : Option FlowFrames). IfSome f IsSent) asked) (buffering : Buffering) (is : IsBuffering timing ends asked buffering) (place : ℕ)
    (frames : FlowFrames)
    (at : get_or asked place None ≡ Some frames) (wait : ℕ) (s : Schedule) (controllers : Controllers) (planned : ℕ → Bool) (of : Origins)
    (legal : IsLegalInAnyOrder s controllers) (turn : ComeInAnyOrder timing ends asked s controllers planned of place)
    (single : (frames.twin_ident ≡ None) × IsSpaced frames.stream) where
  here : planned_at asked place ≡ frames
  here = ap (λ (o : Option FlowFrames). unwrap_or o no_frames) at

  ordered_turn : keep_order frames ≡ true → (passed : Bool) → may_be_passed buffering frames.greatest_ident ≡ passed
      → MatchBool passed (Some wait ≡ None) (IsWaitOf timing buffering.frames place frames (Some wait)) → AreSentWithin s planned of place frames.stream wait
  ordered_turn ordered true passed stated = absurd (none-some wait (sym stated))
  ordered_turn ordered false passed stated =
      let keeps : keep_order (planned_at asked place) ≡ true = subst (λ (f : FlowFrames). keep_order f ≡ true) (sym here) ordered in
      ordered_sent timing ends asked paced sent buffering is place frames at ordered passed wait stated.1 s controllers planned of legal turn.known single.1 single.0
      (turn.behind keeps) (turn.steady keeps)

  unordered_turn : keep_order frames ≡ false → Some wait ≡ get_or buffering.waits place None → AreSentWithin s planned of place frames.stream wait
  unordered_turn kept stated =
      any_sent timing ends asked paced sent s controllers planned of legal place turn.known place frames at kept (inl refl) wait
      (wait_of_queue_group timing ends asked paced sent buffering.waits is.bounded place frames at kept wait (sym stated))

  pub sent_in_any_order : IsWaitIn timing buffering place frames (Some wait) → AreSentWithin s planned of place frames.stream wait
  sent_in_any_order stated = go (keep_order frames) refl stated
    where
      go : (keeps : Bool) → keep_order frames ≡ keeps
          → MatchBool keeps
          (MatchBool (may_be_passed buffering frames.greatest_ident) (Some wait ≡ None) (IsWaitOf timing buffering.frames place frames (Some wait)))
          (Some wait ≡ get_or buffering.waits place None) → AreSentWithin s planned of place frames.stream wait
      go true keeps stated = ordered_turn keeps (may_be_passed buffering frames.greatest_ident) refl stated
      go false keeps stated = unordered_turn keeps stated

module _ (plan : Plan) (timing : Timing) (stays : UnitPlan → Bool) (delays : List (Option Delay)) (asks : AsksOfBus plan timing stays delays) where
  abbrev asked : Asked
  asked = asked_of timing plan stays

  pub delay_at : (flow : ℕ) (delay : Option Delay) → slice_get delays flow ≡ Some delay → HasDelay timing asked flow delay
  delay_at flow delay at =
      subst (HasDelay timing asked flow) (get_or_from_slice_get delays flow delay None at)
      (asks.waits.each flow (slice_get_within delays flow delay at))

  -- what is reported of a flow by its messages
  pub stated_of : (flow : ℕ) (load : FlowLoad) (messages : Messages) (delay : Delay) → slice_get asked.flows flow ≡ Some (Some load)
      → load.messages ≡ messages → slice_get delays flow ≡ Some (Some delay)
      → (buffering : Buffering) × IsBuffering timing asked.unplanned_end (frames_asked asked) buffering
      × IsDelayOf timing asked buffering flow messages load.limit delay
  stated_of flow load messages delay its is at =
      let (buffering, buffering_delays, has) = delay_at flow (Some delay) at in
      let same : has.0 ≡ load = same_Some _ _ (same_Some _ _ (sym has.1 ∙ its)) in
      let by_load : IsDelay timing asked buffering flow load delay = subst (λ (l : FlowLoad). IsDelay timing asked buffering flow l delay) same has.2 in
      (buffering, buffering_delays, subst (λ (m : Messages). IsDelayOf timing asked buffering flow m load.limit delay) is by_load)

  of_short : (buffering : Buffering) → IsBuffering timing asked.unplanned_end (frames_asked asked) buffering
      → (flow : ℕ) (load : FlowLoad) (frames : FlowFrames) (bits : ℕ)
      → slice_get asked.flows flow ≡ Some (Some load)
      → load.messages ≡ Short frames → IsFrameDelay timing buffering flow frames load.limit (Within bits) → IsBounded timing asked flow bits
  of_short buffering buffering_delays flow load frames bits its short delayed =
      let known : ArePaced load.limit (Short frames) = subst (ArePaced load.limit) short (of_loads timing plan stays flow load its).messages in
      let at = own_read asked.flows asked.units asked.requests flow load frames its short in
      let bound = frames_bounded timing asked.unplanned_end (frames_asked asked) (all_paced timing plan stays)
      (all_sent timing plan stays) buffering buffering_delays flow frames at
      load.limit bits delayed known.1 known.2 in
      record {
        load = load;
        its = its;
        frames = frames;
        short = short;
        wait = bound.0;
        sum = bound.1;
        inside = bound.2;
        buffering = buffering;
        is = buffering_delays;
        delayed = delayed;
        in_any_order = bound.3;
        bounds = λ ordered. in_order timing asked.unplanned_end (frames_asked asked) ordered flow frames bound.0 bound.3;
      }

  of_messages : (buffering : Buffering) → IsBuffering timing asked.unplanned_end (frames_asked asked) buffering
      → (flow : ℕ) (load : FlowLoad) (messages : Messages) (bits : ℕ)
      → slice_get asked.flows flow ≡ Some (Some load)
      → load.messages ≡ messages → IsDelayOf timing asked buffering flow messages load.limit (Within bits) → IsBounded timing asked flow bits
  of_messages buffering buffering_delays flow load (Short frames) bits its is stated = of_short buffering buffering_delays flow load frames bits its is stated
  of_messages buffering buffering_delays flow load (ToOne frames) bits its is stated = absurd stated
  of_messages buffering buffering_delays flow load (ToAll broadcast) bits its is stated = absurd stated

  beyond_short : (buffering : Buffering) → IsBuffering timing asked.unplanned_end (frames_asked asked) buffering
      → (flow : ℕ) (load : FlowLoad) (messages : Messages) (bits : ℕ)
      → slice_get asked.flows flow ≡ Some (Some load)
      → load.messages ≡ messages → IsDelayOf timing asked buffering flow messages load.limit (Beyond bits) → IsBoundedBeyond timing asked flow bits
  beyond_short buffering buffering_delays flow load (Short frames) bits its short delayed =
      let known : ArePaced load.limit (Short frames) = subst (ArePaced load.limit) short (of_loads timing plan stays flow load its).messages in
      let at = own_read asked.flows asked.units asked.requests flow load frames its short in
      let bound = frames_beyond timing asked.unplanned_end (frames_asked asked) (all_paced timing plan stays)
      (all_sent timing plan stays) buffering buffering_delays flow frames at
      load.limit bits delayed known.1 in
      record {
        load = load;
        its = its;
        frames = frames;
        short = short;
        wait = bound.0;
        sum = bound.1;
        beyond = bound.2;
        inside = bound.3;
        in_any_order = bound.4;
        bounds = λ ordered. in_order timing asked.unplanned_end (frames_asked asked) ordered flow frames bound.0 bound.4;
      }
  beyond_short buffering buffering_delays flow load (ToOne frames) bits its is stated = absurd stated
  beyond_short buffering buffering_delays flow load (ToAll broadcast) bits its is stated = absurd stated

  pub bounded_beyond : AreLateDelaysBounds timing asked delays
  bounded_beyond flow bits at =
      let (buffering, buffering_delays, (load, its, is)) = delay_at flow (Some (Beyond bits)) at in
      beyond_short buffering buffering_delays flow load load.messages bits its refl is

  pub bounded : AreDelaysBounds timing asked delays
  bounded flow bits at =
      let (buffering, buffering_delays, (load, its, is)) = delay_at flow (Some (Within bits)) at in
      of_messages buffering buffering_delays flow load load.messages bits its refl is

-- where nothing is found each flow has a period, and none is late
pub nothing_found : (timing : Timing) (load : ℕ) (delays : List (Option Delay)) → load_findings timing load delays ≡ []
    → (lines_of_each without_period 0 delays ≡ []) × (lines_of_each lateness 0 delays ≡ [])
nothing_found timing load delays none =
    let two = none_of_two (lines_of_each without_period 0 delays) (overload timing load ++ lines_of_each lateness 0 delays) none in
    (two.0, (none_of_two (overload timing load) (lines_of_each lateness 0 delays) two.1).1)

pub short_bounded : (plan : Plan) (timing : Timing) (stays : UnitPlan → Bool) (delays : List (Option Delay)) → AsksOfBus plan timing stays delays
    → load_findings timing (total_load timing (asked_of timing plan stays)) delays ≡ [] → AreShortFlowsBounded timing (asked_of timing plan stays) delays
short_bounded plan timing stays delays asks none flow load frames its short =
    let (paced, on_time) = nothing_found timing (total_load timing (asked_of timing plan stays)) delays none in
    let count = asks.waits.count in
    let below = slice_get_within (loads_of timing plan stays) flow (Some load) its in
    go paced on_time (get_or delays flow None) (slice_get-get_or delays flow None (omega (arith, count, below)))
  where
    go : lines_of_each without_period 0 delays ≡ [] → lines_of_each lateness 0 delays ≡ [] → (delay : Option Delay) → slice_get delays flow ≡ Some delay
        → (bits : ℕ) × (slice_get delays flow ≡ Some (Some (Within bits))) × IsBounded timing (asked_of timing plan stays) flow bits
    go paced on_time None at = absurd (let stated = stated_nothing without_period 0 delays paced flow None at in
        let some : 1 ≡ 0 = ap length stated in omega arith)
    go paced on_time (Some (Within bits)) at = (bits, at, bounded plan timing stays delays asks flow bits at)
    go paced on_time (Some (Beyond bits)) at = absurd (let stated = stated_nothing lateness 0 delays on_time flow (Some (Beyond bits)) at in
        let some : 1 ≡ 0 = ap length stated in omega arith)
    go paced on_time (Some Late) at = absurd (let stated = stated_nothing lateness 0 delays on_time flow (Some Late) at in
        let some : 1 ≡ 0 = ap length stated in omega arith)
    go paced on_time (Some (Long count)) at = absurd (let stated = stated_of plan timing stays delays asks flow load (Short frames) (Long count) its short at in
        never_long timing stated.0 flow frames load.limit count stated.2)
    go paced on_time (Some (Whole whole)) at = absurd (let stated = stated_of plan timing stays delays asks flow load (Short frames)
        (Whole whole) its short at in
        never_whole timing stated.0 flow frames load.limit whole stated.2)
