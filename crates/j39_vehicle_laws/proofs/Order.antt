-- Messages of a flow end in the order of their releases.
use Rattle.std.proofs.Common.{◌≡◌, ◌≢◌, ℕ, ◌+◌, ◌<◌, ◌≤◌, ap, inl, inr, arith}
use Rattle.std.proofs.lemmas.Bool.{cases_lt}
use Rattle.j39_vehicle.specs.declared.vehicle.Vehicle.{Vehicle}
use Rattle.j39_vehicle_findings.specs.declared.point.FlowAt.{FlowAt}
use Rattle.j39_vehicle_laws.proofs.Clocks.{before_in_time, bits_in_order, in_time_order}
use Rattle.j39_vehicle_laws.specs.Gateways.{HasBegun, IsIts, end_time, queue_time}
use Rattle.j39_timing.specs.Traffic.{delay_of}
use Rattle.j39_vehicle_times.specs.declared.bus_delays.Delays.{Delays}
use Rattle.j39_vehicle_laws.specs.Seen.{SeenBuses, clock_on, frames_at}
use Rattle.j39_vehicle_laws.specs.YoungValues.{IsSeenVehicle}
use Rattle.j39_vehicle_laws.proofs.Behind.{IsBehind}

module _ (v : Vehicle) (delays : Delays) (seen : SeenBuses) (by : ℕ) (is : IsSeenVehicle v delays seen by) (at : FlowAt) (time : ℕ)
    (known : IsBehind v delays seen by at time) where
  -- it is sent behind its release
  pub ends_behind : (q : ℕ) → IsIts (frames_at v seen at) q → (seen at.bus).release q < end_time (frames_at v seen at) q
  ends_behind q its =
      let early = known.first q its in
      let first : (seen at.bus).schedule.queued q ≤ (seen at.bus).schedule.start q = known.one.queued_first q its.0 in
      let some : 1 ≤ (seen at.bus).schedule.bits q = known.one.some_bits q its.0 in
      let order = before_in_time (clock_on v seen at.bus) known.one.clock ((seen at.bus).schedule.queued q)
      ((seen at.bus).schedule.start q + (seen at.bus).schedule.bits q) (omega (arith, first, some)) in
      omega (arith, early, order)

  pub queued_till_end : (q : ℕ) → IsIts (frames_at v seen at) q → queue_time (frames_at v seen at) q ≤ end_time (frames_at v seen at) q
  queued_till_end q its =
      let first : (seen at.bus).schedule.queued q ≤ (seen at.bus).schedule.start q = known.one.queued_first q its.0 in
      in_time_order (clock_on v seen at.bus) known.one.clock ((seen at.bus).schedule.queued q)
      ((seen at.bus).schedule.start q + (seen at.bus).schedule.bits q) (omega (arith, first))

  -- its end is a period behind the bit of its release at most
  ends_by : (r : ℕ) → HasBegun (frames_at v seen at) r → (seen at.bus).schedule.start r + (seen at.bus).schedule.bits r ≤
      (seen at.bus).of.since r + known.one.stream.period
  ends_by r (its, begun) =
      let few : (seen at.bus).schedule.bits r ≤ known.one.stream.bits = known.one.few_bits r its in
      let start : (seen at.bus).schedule.start r ≤ (seen at.bus).schedule.queued r + known.one.wait =
      elim (cases_lt ((seen at.bus).schedule.queued r + known.one.wait) (seen at.bus).schedule.now) [
        | inl soon ↦ known.one.starts r its.0 its.1 its.2 soon
        | inr late ↦ omega (arith, late, begun)
      ] in
      let late : (seen at.bus).schedule.queued r ≤ (seen at.bus).of.since r + known.one.stream.jitter = known.one.jitter r its in
      let sum : known.one.bits ≡ delay_of known.one.stream known.one.wait = known.one.sum in
      let fits : known.one.bits ≤ known.one.stream.period = known.one.fits in
      omega (arith, few, start, late, sum, fits)

  pub in_order : (q r : ℕ) → IsIts (frames_at v seen at) q → HasBegun (frames_at v seen at) r
      → end_time (frames_at v seen at) q ≤ end_time (frames_at v seen at) r → (seen at.bus).release q ≤ (seen at.bus).release r
  in_order q r its begun order = elim (cases_lt ((seen at.bus).release r) ((seen at.bus).release q)) [
    | inr not_less ↦ omega arith
    | inl less ↦
        let differ : r ≢ q =
        λ same. let equal : (seen at.bus).release r ≡ (seen at.bus).release q = ap (λ (n : ℕ). (seen at.bus).release n) same in omega arith in
        let low_r = known.low r begun.0 in
        let high_q = known.high q its in
        let some : 1 ≤ (seen at.bus).schedule.bits q = known.one.some_bits q its.0 in
        let few : (seen at.bus).schedule.bits q ≤ known.one.stream.bits = known.one.few_bits q its in
        let sum : known.one.bits ≡ delay_of known.one.stream known.one.wait = known.one.sum in
        let fits : known.one.bits ≤ known.one.stream.period = known.one.fits in
        elim (known.one.spaced r q begun.0 its differ) [
          | inl before ↦
              let end = ends_by r begun in
              let first : (seen at.bus).of.since q ≤ (seen at.bus).schedule.queued q = known.one.release_first q its in
              let start : (seen at.bus).schedule.queued q ≤ (seen at.bus).schedule.start q = known.one.queued_first q its.0 in
              let far = before_in_time (clock_on v seen at.bus) known.one.clock ((seen at.bus).schedule.start r + (seen at.bus).schedule.bits r)
              ((seen at.bus).schedule.start q + (seen at.bus).schedule.bits q) (omega (arith, before, end, first, start, some)) in
              absurd (omega (arith, far, order))
          | inr behind ↦
              let soon : (seen at.bus).of.since r < (seen at.bus).of.since q + 1 =
              bits_in_order (clock_on v seen at.bus) known.one.clock ((seen at.bus).of.since r) ((seen at.bus).of.since q + 1)
              (omega (arith, low_r, high_q, less)) in
              absurd (omega (arith, behind, soon, some, few, sum, fits))
        ]
  ]
