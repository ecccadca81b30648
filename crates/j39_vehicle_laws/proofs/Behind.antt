-- How long behind its release a message ends, from one direct forward to the next.
use Rattle.std.proofs.Common.{◌≡◌, ℕ, zero, suc, ◌+◌, ◌*◌, ◌<◌, ◌≤◌, true, Option, Some, None, sym, ap, ◌∙◌, subst, inl, inr, arith}
use Rattle.std.proofs.lemmas.Bool.{cases_lt}
use Rattle.std.proofs.lemmas.Option.{none-some, same_Some}
use Rattle.std.specs.Option.{option_and_then, option_map_or}
use Rattle.j39_vehicle.specs.declared.vehicle.Vehicle.{Vehicle}
use Rattle.j39_vehicle.specs.declared.vehicle.forward.Forward.{Forward}
use Rattle.j39_vehicle_findings.specs.declared.point.FlowAt.{FlowAt}
use Rattle.j39_vehicle_laws.proofs.Clocks.{before_in_time, bits_in_order, in_time_order}
use Rattle.j39_vehicle_laws.specs.Gateways.{HasBegun, IsIts, end_time, queue_time, time_of}
use Rattle.j39_timing.specs.Traffic.{delay_of}
use Rattle.j39_vehicle_times.specs.declared.bus_delays.Delays.{Delays}
use Rattle.j39_vehicle_times.specs.Times.{behind_by, behind_release, delay_at, direct_feeder, first_input_at, own, queued_behind, sum_known}
use Rattle.j39_vehicle_times.specs.Times.{within_of}
use Rattle.j39_vehicle_times.specs.BusDelays.{AreDelays}
use Rattle.j39_vehicle_times.proofs.DecidingTimes.{and_then_some}
use Rattle.j39_vehicle_laws.specs.Prompt.{IsSentDirectly, IsSentOn}
use Rattle.j39_vehicle_laws.specs.Seen.{SeenBuses, clock_on, frames_at, longest_bit, of_us}
use Rattle.j39_vehicle_laws.specs.YoungValues.{IsSeenVehicle}
use Rattle.j39_vehicle_laws.proofs.Feeders.{IsFeederAt, feeder_is}
use Rattle.j39_vehicle_laws.proofs.OneFlow.{IsOneFlow, none_ask, one_flow, own_of_release, own_parts}
use Rattle.j39_vehicle_laws.proofs.Parts.{some_cases, sum_some}

-- ---- the parts of what is known

-- of what a direct forward feeds, where the source is known for so many steps
pub record IsFed (v : Vehicle) (delays : Delays) (steps : ℕ) (n : Forward) (at : FlowAt) (time : ℕ) : Type 0 where
  pub source : FlowAt
  pub source_is : first_input_at v n ≡ Some source
  pub before : ℕ
  pub before_is : behind_by v delays steps source ≡ Some before
  pub within : ℕ
  pub promised : within_of n ≡ Some within
  pub own_time : ℕ
  pub own_is : own v delays at ≡ Some own_time
  pub sum : time ≡ before + (within + own_time)

pub unfed_release : (v : Vehicle) (delays : Delays) (steps : ℕ) (at : FlowAt) (time : ℕ) → direct_feeder v at ≡ None → behind_by v delays steps at ≡ Some time
    → behind_release v delays at ≡ Some time
unfolding behind_by
unfed_release v delays zero at time none is =
    subst (λ (o : Option Forward). option_map_or (λ n. None) o (behind_release v delays at) ≡ Some time) none is
unfed_release v delays (suc steps) at time none is =
    subst (λ (o : Option Forward). option_map_or (λ n. sum_known (queued_behind v n (behind_by v delays steps)) (own v delays at)) o
    (behind_release v delays at) ≡ Some time) none is

pub fed_never : (v : Vehicle) (delays : Delays) (at : FlowAt) (time : ℕ) (n : Forward) → direct_feeder v at ≡ Some n → behind_by v delays zero at ≡ Some time
    → ⊥
unfolding behind_by
fed_never v delays at time n feeder is =
    none-some time (subst (λ (o : Option Forward). option_map_or (λ n. None) o (behind_release v delays at) ≡ Some time) feeder is)

pub fed_parts : (v : Vehicle) (delays : Delays) (steps : ℕ) (at : FlowAt) (time : ℕ) (n : Forward) → direct_feeder v at ≡ Some n
    → behind_by v delays (suc steps) at ≡ Some time
    → IsFed v delays steps n at time
unfolding behind_by
fed_parts v delays steps at time n feeder is =
    let here : sum_known (queued_behind v n (behind_by v delays steps)) (own v delays at) ≡ Some time =
    subst (λ (o : Option Forward). option_map_or (λ n. sum_known (queued_behind v n (behind_by v delays steps)) (own v delays at)) o
    (behind_release v delays at) ≡ Some time) feeder is in
    let (until, own_time, of_queued, owns, more) = sum_some (queued_behind v n (behind_by v delays steps)) (own v delays at) time here in
    let (before, within, of_source, promised, sum) = sum_some (option_and_then (behind_by v delays steps) (first_input_at v n)) (within_of n) until of_queued in
    let (source, source_is, known) = and_then_some (behind_by v delays steps) (first_input_at v n) before of_source in
    record {
      source = source;
      source_is = source_is;
      before = before;
      before_is = known;
      within = within;
      promised = promised;
      own_time = own_time;
      own_is = owns;
      sum = omega (arith, sum, more);
    }

-- what no direct forward feeds isn't sent on
pub not_sent_on : (v : Vehicle) (delays : Delays) (at : FlowAt) → direct_feeder v at ≡ None → ¬ IsSentOn v delays at
not_sent_on v delays at none (from, is) =
    let (bits, stated, rest) = and_then_some (λ (bits : ℕ). option_and_then (first_input_at v) (direct_feeder v at)) (delay_at delays at) from is in
    let (n, feeder, input) = and_then_some (first_input_at v) (direct_feeder v at) from rest in
    none-some n (sym none ∙ feeder)

-- ---- messages of one flow

pub record IsBehind (v : Vehicle) (delays : Delays) (seen : SeenBuses) (by : ℕ) (at : FlowAt) (time : ℕ) : Type 0 where
  pub own_time : ℕ
  pub one : IsOneFlow v delays seen at own_time
  -- a message is queued from its release on, which is in the bit that its bus has for it
  pub first : (q : ℕ) → IsIts (frames_at v seen at) q → (seen at.bus).release q ≤ queue_time (frames_at v seen at) q
  pub low : (q : ℕ) → IsIts (frames_at v seen at) q → time_of (clock_on v seen at.bus) ((seen at.bus).of.since q) ≤ (seen at.bus).release q
  pub high : (q : ℕ) → IsIts (frames_at v seen at) q → (seen at.bus).release q < time_of (clock_on v seen at.bus) ((seen at.bus).of.since q + 1)
  -- it begins where there is time for it, and ends in time
  pub begun : (q : ℕ) → IsIts (frames_at v seen at) q → (seen at.bus).release q + of_us time ≤ by → HasBegun (frames_at v seen at) q
  pub ended : (q : ℕ) → HasBegun (frames_at v seen at) q → end_time (frames_at v seen at) q ≤ (seen at.bus).release q + of_us time

-- sums over a gateway: the message x of the input ends, the one of the output is queued, and ends
in_all : (last queue end x y before within own by : ℕ) → last ≤ queue + of_us own → queue ≤ end + of_us within → end ≤ x + of_us before → y ≡ x
    → y + of_us (before + (within + own)) ≤ by → last ≤ by
in_all last queue end x y before within own by ends soon timely release early = omega (arith, ends, soon, timely, release, early)

in_sum : (last queue end x y before within own : ℕ) → last ≤ queue + of_us own → queue ≤ end + of_us within → end ≤ x + of_us before → y ≡ x
    → last ≤ y + of_us (before + (within + own))
in_sum last queue end x y before within own ends soon timely release = omega (arith, ends, soon, timely, release)

module _ (v : Vehicle) (delays : Delays) (stated : AreDelays v delays) (seen : SeenBuses) (by : ℕ) (is : IsSeenVehicle v delays seen by) where
  module _ (at : FlowAt) (among : is.scope.flows at ≡ true) (time : ℕ) (one : IsOneFlow v delays seen at time) where
    inside : is.scope.buses at.bus ≡ true
    inside = is.closed.its_bus at among

    -- a frame is sent behind the bit at which it is queued
    pub queued_before : (q : ℕ) → IsIts (frames_at v seen at) q → queue_time (frames_at v seen at) q < end_time (frames_at v seen at) q
    queued_before q its =
        let first : (seen at.bus).schedule.queued q ≤ (seen at.bus).schedule.start q = one.queued_first q its.0 in
        let some : 1 ≤ (seen at.bus).schedule.bits q = one.some_bits q its.0 in
        before_in_time (clock_on v seen at.bus) one.clock ((seen at.bus).schedule.queued q) ((seen at.bus).schedule.start q + (seen at.bus).schedule.bits q)
        (omega (arith, first, some))

    -- a frame that has begun has waited no longer than it may
    ends_by : (q : ℕ) → HasBegun (frames_at v seen at) q
        → (seen at.bus).schedule.start q + (seen at.bus).schedule.bits q ≤ (seen at.bus).schedule.queued q + (one.wait + one.stream.bits)
    ends_by q (its, begun) =
        let few : (seen at.bus).schedule.bits q ≤ one.stream.bits = one.few_bits q its in
        let start : (seen at.bus).schedule.start q ≤ (seen at.bus).schedule.queued q + one.wait =
        elim (cases_lt ((seen at.bus).schedule.queued q + one.wait) (seen at.bus).schedule.now) [
          | inl soon ↦ one.starts q its.0 its.1 its.2 soon
          | inr late ↦ omega (arith, late, begun)
        ] in
        omega (arith, few, start)

    last_of : (q : ℕ) → time_of (clock_on v seen at.bus) ((seen at.bus).schedule.queued q + (one.wait + one.stream.bits))
        ≤ queue_time (frames_at v seen at) q + of_us time
    last_of q =
        let most : time_of (clock_on v seen at.bus) ((seen at.bus).schedule.queued q + (one.wait + one.stream.bits))
        ≤ queue_time (frames_at v seen at) q + longest_bit v at.bus * (one.wait + one.stream.bits) =
        one.clock.at_most ((seen at.bus).schedule.queued q) (one.wait + one.stream.bits) in
        let sum = one.own_time in
        omega (arith, most, sum)

    pub ends_from : (q : ℕ) → HasBegun (frames_at v seen at) q → end_time (frames_at v seen at) q ≤ queue_time (frames_at v seen at) q + of_us time
    ends_from q begun =
        let order = in_time_order (clock_on v seen at.bus) one.clock ((seen at.bus).schedule.start q + (seen at.bus).schedule.bits q)
        ((seen at.bus).schedule.queued q + (one.wait + one.stream.bits)) (ends_by q begun) in
        let last = last_of q in
        omega (arith, order, last)

    -- and one that is queued so long before the end of what is seen begins
    pub begins_in_view : (q : ℕ) → IsIts (frames_at v seen at) q
        → time_of (clock_on v seen at.bus) ((seen at.bus).schedule.queued q + (one.wait + one.stream.bits)) ≤ by → HasBegun (frames_at v seen at) q
    begins_in_view q its early =
        let until : by ≤ time_of (clock_on v seen at.bus) (seen at.bus).schedule.now = is.until at.bus one.timing inside one.timed in
        let next : time_of (clock_on v seen at.bus) (seen at.bus).schedule.now < time_of (clock_on v seen at.bus) ((seen at.bus).schedule.now + 1) =
        before_in_time (clock_on v seen at.bus) one.clock (seen at.bus).schedule.now ((seen at.bus).schedule.now + 1) (omega arith) in
        let less : (seen at.bus).schedule.queued q + (one.wait + one.stream.bits) < (seen at.bus).schedule.now + 1 =
        bits_in_order (clock_on v seen at.bus) one.clock ((seen at.bus).schedule.queued q + (one.wait + one.stream.bits)) ((seen at.bus).schedule.now + 1)
        (omega (arith, early, until, next)) in
        let some : 1 ≤ (seen at.bus).schedule.bits q = one.some_bits q its.0 in
        let few : (seen at.bus).schedule.bits q ≤ one.stream.bits = one.few_bits q its in
        let soon : (seen at.bus).schedule.queued q + one.wait < (seen at.bus).schedule.now = omega (arith, less, some, few) in
        let start = one.starts q its.0 its.1 its.2 soon in
        (its, omega (arith, start, soon))

    -- of a flow of the bus itself
    by_itself : direct_feeder v at ≡ None → (behind : ℕ) → behind_release v delays at ≡ Some behind → IsBehind v delays seen by at behind
    by_itself none behind known = record {
      own_time = time;
      one = one;
      first = λ q its.
          let release = released q its in
          let order = in_time_order (clock_on v seen at.bus) one.clock ((seen at.bus).of.since q) ((seen at.bus).schedule.queued q) (one.release_first q its) in
          omega (arith, release, order);
      low = λ q its. let release = released q its in omega (arith, release);
      high = λ q its.
          let release = released q its in
          let next = before_in_time (clock_on v seen at.bus) one.clock ((seen at.bus).of.since q) ((seen at.bus).of.since q + 1) (omega arith) in
          omega (arith, release, next);
      begun = λ q its early.
          let release = released q its in
          let late : (seen at.bus).schedule.queued q ≤ (seen at.bus).of.since q + one.stream.jitter = one.jitter q its in
          let order = in_time_order (clock_on v seen at.bus) one.clock ((seen at.bus).schedule.queued q + (one.wait + one.stream.bits))
          ((seen at.bus).of.since q + delay_of one.stream one.wait) (omega (arith, late)) in
          let most = whole_time q in
          begins_in_view q its (omega (arith, release, order, most, early));
      ended = λ q begun.
          let release = released q begun.0 in
          let late : (seen at.bus).schedule.queued q ≤ (seen at.bus).of.since q + one.stream.jitter = one.jitter q begun.0 in
          let ends = ends_by q begun in
          let order = in_time_order (clock_on v seen at.bus) one.clock ((seen at.bus).schedule.start q + (seen at.bus).schedule.bits q)
          ((seen at.bus).of.since q + delay_of one.stream one.wait) (omega (arith, late, ends)) in
          let most = whole_time q in
          omega (arith, release, order, most);
    }
      where
        released : (q : ℕ) → IsIts (frames_at v seen at) q → (seen at.bus).release q ≡ time_of (clock_on v seen at.bus) ((seen at.bus).of.since q)
        released q its = is.own_releases at inside (not_sent_on v delays at none) q its

        whole_time : (q : ℕ) → time_of (clock_on v seen at.bus) ((seen at.bus).of.since q + delay_of one.stream one.wait)
            ≤ time_of (clock_on v seen at.bus) ((seen at.bus).of.since q) + of_us behind
        whole_time q =
            let total : one.total ≡ behind = same_Some _ _ (sym one.total_is ∙ known) in
            let fits = one.release_time in
            let most : time_of (clock_on v seen at.bus) ((seen at.bus).of.since q + delay_of one.stream one.wait)
            ≤ time_of (clock_on v seen at.bus) ((seen at.bus).of.since q) + longest_bit v at.bus * delay_of one.stream one.wait =
            one.clock.at_most ((seen at.bus).of.since q) (delay_of one.stream one.wait) in
            omega (arith, most, fits, total)

    -- of one that a direct forward feeds
    sent_on : (x : FlowAt) (before n within : ℕ) → IsBehind v delays seen by x before → IsSentDirectly v seen n x at within
        → IsBehind v delays seen by at (before + (within + time))
    sent_on x before n within input sent = record {
      own_time = time;
      one = one;
      first = λ q its.
          let release : (seen at.bus).release q ≡ (seen x.bus).release (sent.handed.what q) = sent.handed.releases q its in
          let begun : HasBegun (frames_at v seen x) (sent.handed.what q) = sent.handed.begun q its in
          let early = input.first (sent.handed.what q) begun.0 in
          let sends = queued_before_of x input (sent.handed.what q) begun.0 in
          let after : end_time (frames_at v seen x) (sent.handed.what q) ≤ queue_time (frames_at v seen at) q = sent.handed.after q its in
          omega arith;
      low = λ q its. sent.handed.first_bit q its;
      high = λ q its. sent.handed.last_bit q its;
      begun = λ q its early. begins_in_view q its
          (in_all (time_of (clock_on v seen at.bus) ((seen at.bus).schedule.queued q + (one.wait + one.stream.bits))) (queue_time (frames_at v seen at) q)
          (end_time (frames_at v seen x) (sent.handed.what q)) ((seen x.bus).release (sent.handed.what q))
          ((seen at.bus).release q)
          before within time by (last_of q) (sent.handed.within_time q its) (input.ended (sent.handed.what q) (sent.handed.begun q its))
          (sent.handed.releases q its) early);
      ended = λ q begun.
          in_sum (end_time (frames_at v seen at) q) (queue_time (frames_at v seen at) q) (end_time (frames_at v seen x) (sent.handed.what q))
          ((seen x.bus).release (sent.handed.what q)) ((seen at.bus).release q) before within time (ends_from q begun) (sent.handed.within_time q begun.0)
          (input.ended (sent.handed.what q) (sent.handed.begun q begun.0)) (sent.handed.releases q begun.0);
    }
      where
        queued_before_of : (y : FlowAt) → IsBehind v delays seen by y before → (q : ℕ) → IsIts (frames_at v seen y) q
            → queue_time (frames_at v seen y) q < end_time (frames_at v seen y) q
        queued_before_of y known q its =
            let first : (seen y.bus).schedule.queued q ≤ (seen y.bus).schedule.start q = known.one.queued_first q its.0 in
            let some : 1 ≤ (seen y.bus).schedule.bits q = known.one.some_bits q its.0 in
            before_in_time (clock_on v seen y.bus) known.one.clock ((seen y.bus).schedule.queued q)
            ((seen y.bus).schedule.start q + (seen y.bus).schedule.bits q) (omega (arith, first, some))

  flow_of : (at : FlowAt) → is.scope.flows at ≡ true → (time : ℕ) → own v delays at ≡ Some time → IsOneFlow v delays seen at time
  flow_of at among time known =
      let has = own_parts v delays at time known in
      one_flow v delays stated at time has (none_ask v at has.flow has.its (is.closed.unasked at among)) is.scope
      (is.closed.its_bus at among) among seen is.kept known

  -- what is sent on directly to a flow of the scope is of the scope too
  pub source_among : (at : FlowAt) → is.scope.flows at ≡ true → (n : Forward) (source : FlowAt) (time : ℕ) → direct_feeder v at ≡ Some n
      → first_input_at v n ≡ Some source → own v delays at ≡ Some time → is.scope.flows source ≡ true
  source_among at among n source time feeder source_is owns =
      let parts = own_parts v delays at time owns in
      is.closed.sources at source (is.closed.its_bus at among)
      (ap (option_and_then (λ (bits : ℕ). option_and_then (first_input_at v) (direct_feeder v at))) parts.delayed
      ∙ (ap (option_and_then (first_input_at v)) feeder ∙ source_is))

  -- what a direct forward sends, by its place
  pub sends_directly : (at : FlowAt) → is.scope.flows at ≡ true → (n : Forward) (source : FlowAt) (within before own_time : ℕ) → direct_feeder v at ≡ Some n
      → first_input_at v n ≡ Some source
      → within_of n ≡ Some within → IsOneFlow v delays seen at own_time → IsBehind v delays seen by source before
      → (place : ℕ) × IsFeederAt v at n place × IsSentDirectly v seen place source at within
  sends_directly at among n source within before own_time feeder source_is promised one input =
      let (place, feeding) = feeder_is v at n feeder in (
        place,
        feeding,
        is.prompt.direct place n source at within (record
            { its = feeding.its; output = feeding.feeding; input = source_is; promised = promised }) feeding.direct (is.closed.its_bus at among)
            (input.one.bits, input.one.delayed) (one.bits, one.delayed),
      )

  pub is_behind : (steps : ℕ) (at : FlowAt) → is.scope.flows at ≡ true → (time : ℕ) → behind_by v delays steps at ≡ Some time
      → IsBehind v delays seen by at time
  is_behind zero at among time known = some_cases (direct_feeder v at) (IsBehind v delays seen by at time)
      (λ none.
      let release = unfed_release v delays zero at time none known in
      let (n, owns) = own_of_release v delays at time release in
      by_itself at among n (flow_of at among n owns) none time release)
      (λ n feeder. absurd (fed_never v delays at time n feeder known))
  is_behind (suc steps) at among time known = some_cases (direct_feeder v at) (IsBehind v delays seen by at time)
      (λ none.
      let release = unfed_release v delays (suc steps) at time none known in
      let (n, owns) = own_of_release v delays at time release in
      by_itself at among n (flow_of at among n owns) none time release)
      (λ n feeder.
      let fed = fed_parts v delays steps at time n feeder known in
      let input = is_behind steps fed.source (source_among at among n fed.source fed.own_time feeder fed.source_is fed.own_is) fed.before fed.before_is in
      let one = flow_of at among fed.own_time fed.own_is in
      let (place, feeding, sent) = sends_directly at among n fed.source fed.within fed.before fed.own_time feeder fed.source_is fed.promised one input in
      subst (IsBehind v delays seen by at) (sym fed.sum) (sent_on at among fed.own_time one fed.source fed.before place fed.within input sent))
