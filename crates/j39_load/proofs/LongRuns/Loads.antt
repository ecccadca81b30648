-- What `load` counts is what a bus that keeps to its plan carries in the long run.
use Rattle.std.proofs.Common.{◌≡◌, ℕ, zero, suc, ◌+◌, ◌*◌, ◌-◌, ◌<◌, ◌≤◌, Bool, true, not, cond, ◌&&◌, eqb, ltb, List, length, get_or, Option, None}
use Rattle.std.proofs.Common.{refl, sym, ap, ◌∙◌, subst, inl, inr, arith}
use Rattle.std.proofs.lemmas.Bool.{and_parts, cases_Bool, eqb-true, false≢true, ltb-true}
use Rattle.std.proofs.Math.Nat.{mul-le-mul_right}
use Rattle.std.proofs.lemmas.List.{length-map}
use Rattle.std.specs.Int.{div_ceil}
use Rattle.std.specs.List.{sum_by}
use Rattle.std.specs.Option.{option_map_or}
use Rattle.std.proofs.lemmas.Option.{slice_get_within}
use Rattle.j39_findings.specs.Findings.{Clean}
use Rattle.j39_findings.specs.Standing.{DecidesWhoStays}
use Rattle.j39_network.specs.declared.plan.Plan.{Plan}
use Rattle.j39_network.specs.declared.plan.timing.ErrorRate.{ErrorRate}
use Rattle.j39_network.specs.declared.plan.timing.Timing.{Timing}
use Rattle.j39_network.specs.declared.plan.unit_plan.UnitPlan.{UnitPlan}
use Rattle.j39_load.specs.Asked.{asked_of, total_load}
use Rattle.j39_load.specs.Damage.{load_of_damage}
use Rattle.j39_load.specs.KeepsPlan.{KeepsToPlan, source_place}
use Rattle.j39_load.specs.Loads.{bits_of_ms, bits_per_ms}
use Rattle.j39_load.specs.FlowLoads.{load_of_flow}
use Rattle.j39_load.specs.LongRuns.{IsLongRunLoad, bits_damaged, bits_queued, counts_in_load, is_begun_within, is_counted, is_queued_within, seconds}
use Rattle.j39_load.specs.RequestLoads.{load_of_request}
use Rattle.j39_load.specs.Clocks.{bit_time, longest_million, million}
use Rattle.j39_load.specs.SentFrames.{FrameSources, Held, IsFrameOf, Source, Single, First, InSession, Asking, Announcing, Carrying}
use Rattle.j39_load.proofs.Attempts.{attempt_few}
use Rattle.j39_load.proofs.LongRuns.Flows.{flow_bits}
use Rattle.j39_load.proofs.LongRuns.Frames.{bits_at, index, kind, kind_below, more_at, of_kind, passes}
use Rattle.j39_load.proofs.LongRuns.Units.{more_announcements, more_packets}
use Rattle.j39_load.proofs.LongRuns.Flows.{rate_of_flow, rate_of_request, request_bits}
use Rattle.j39_load.proofs.LongRuns.Units.{rate_of_unit, unit_bits}
use Rattle.j39_load.proofs.LongRuns.Rates.{both, sum_by-times}
use Rattle.j39_load.proofs.LongRuns.Streams.{by_places, total-both}
use Rattle.j39_load.proofs.KeepingPlan.{longest_of}
use Rattle.j39_load.proofs.Milliseconds.{agreed_rate, some_own}
use Rattle.j39_load.proofs.PlacedFrames.{asked, same_units, unit_stated}
use Rattle.j39_timing.specs.Sums.{total}
use Rattle.j39_timing.specs.TimedFrames.{Schedule}
use Rattle.j39_timing.proofs.AskedFrames.{all_grouped}
use Rattle.j39_timing.proofs.Sums.{total-none, total-times, total-two}
use Rattle.j39_load.proofs.LongRuns.Damage.{attempts_in, damage_rate, in_true_time, not_before}

-- element by element, and so many more at each place
summed : {A : Type 0} (none : A) (rate : A → ℕ) (more : ℕ → ℕ) (n : ℕ) (xs : List A) (f : ℕ → ℕ)
    → ((i : ℕ) → i < length xs → f i ≤ n * rate (get_or xs i none) + more i) → total (length xs) f ≤ n * sum_by rate xs + total (length xs) more
summed none rate more n xs f each =
    let parts : total (length xs) f ≤ total (length xs) (λ i. n * rate (get_or xs i none)) + total (length xs) more =
    total-two (length xs) f (λ i. n * rate (get_or xs i none)) more each in
    let elements : total (length xs) (λ i. n * rate (get_or xs i none)) ≤ sum_by (λ x. n * rate x) xs =
    by_places none (λ x. n * rate x) xs (λ i. n * rate (get_or xs i none)) (λ i below. omega arith) in
    let times = sum_by-times n rate xs in
    omega (arith, parts, elements, times)

three_times : (n a b c : ℕ) → n * (a + (b + c)) ≡ n * a + (n * b + n * c)
three_times n a b c = both n a (b + c) ∙ ap (λ (x : ℕ). n * a + x) (both n b c)

module _ (plan : Plan) (timing : Timing) (stays : UnitPlan → Bool) (states : DecidesWhoStays plan stays) (clean : Clean plan) where
  abbrev flows : ℕ
  flows = length (asked plan timing stays).flows

  abbrev units : ℕ
  units = length (asked plan timing stays).units

  abbrev requests : ℕ
  requests = length (asked plan timing stays).requests

  abbrev more_of_unit : ℕ → ℕ
  more_of_unit u = more_announcements plan timing stays u + more_packets plan timing stays u

  abbrev more_of_request : ℕ → ℕ
  more_of_request r = more_at plan timing stays (source_place plan (Asking r))

  -- what is more of all streams
  abbrev more : ℕ
  more = total flows (more_at plan timing stays) + (total units more_of_unit + total requests more_of_request)

  abbrev all_rates : ℕ
  all_rates = sum_by (rate_of_flow plan timing stays) (asked plan timing stays).flows
      + (sum_by (rate_of_unit plan timing stays) (asked plan timing stays).units + sum_by (rate_of_request plan timing stays)
      (asked plan timing stays).requests)

  module _ (s : Schedule) (queued_first : (p : ℕ) → p < s.count → s.queued p ≤ s.start p) (planned : ℕ → Bool) (sent : FrameSources) (held : Held)
      (keeps : KeepsToPlan plan timing s planned sent held) (from n : ℕ) where
    -- no frame is queued in no time
    in_no_time : n ≡ 0 → bits_queued timing (seconds n) s (counts_in_load planned sent) from ≡ 0
    in_no_time none = total-none s.count (λ p. cond (counts_in_load planned sent p && is_queued_within timing (seconds n) s from p) (s.bits p) 0) (λ p in_p.
        elim (cases_Bool (counts_in_load planned sent p && is_queued_within timing (seconds n) s from p)) [
          | inr fails ↦ rw (fails) refl
          | inl is ↦ absurd (
              let one = and_parts (counts_in_load planned sent p) (is_queued_within timing (seconds n) s from p) is in
              let two = and_parts (not (ltb (s.queued p) from))
              (ltb (s.queued p * bit_time timing.bitrate) (from * bit_time timing.bitrate + 1000 * seconds n)) one.1 in
              let high : s.queued p * bit_time timing.bitrate < from * bit_time timing.bitrate =
              (let less = ltb-true (s.queued p * bit_time timing.bitrate) (from * bit_time timing.bitrate + 1000 * seconds n) two.1 in omega
              (arith, less, none)) in
              let low : from ≤ s.queued p = not_before (s.queued p) from two.0 in
              let times : from * bit_time timing.bitrate ≤ s.queued p * bit_time timing.bitrate = mul-le-mul_right (bit_time timing.bitrate) low in
              omega (arith, high, times))
        ])

    module _ (wait : ℕ) (span : wait + 1 ≡ bits_of_ms timing (seconds n)) (agree : timing.drift ≡ 0) where
      abbrev of : ℕ → ℕ → ℕ
      of = bits_at plan timing stays states clean s queued_first planned sent held keeps from wait n span agree

      abbrev counts : ℕ → Bool
      counts = passes plan timing stays states clean s queued_first planned sent held keeps from wait n span agree

      abbrev kinds : ℕ → ℕ → Bool
      kinds = of_kind plan timing stays states clean s queued_first planned sent held keeps from wait n span agree

      -- a frame's place is one of its kind
      abbrev size : ℕ → ℕ
      size zero = flows
      size (suc zero) = requests
      size (suc (suc k)) = units

      inside : (p : ℕ) → p < s.count → planned p ≡ true → (x : Source) → sent.source p ≡ x → is_counted x ≡ true → index x < size (kind x)
      inside p in_p is (Single f) at alone =
          let one = subst (λ (y : Source). IsFrameOf plan timing s held sent.broadcasts y (sent.release p) p) at (keeps.frames p in_p is) in
          let below = slice_get_within plan.flows.items f one.flow one.its in
          let same = length-map plan.flows.items (load_of_flow timing plan stays) in
          omega (arith, below, same)
      inside p in_p is (First f) at alone = absurd (false≢true alone)
      inside p in_p is (InSession f part) at alone =
          let one = subst (λ (y : Source). IsFrameOf plan timing s held sent.broadcasts y (sent.release p) p) at (keeps.frames p in_p is) in
          let below = slice_get_within plan.flows.items f one.flow one.its in
          let same = length-map plan.flows.items (load_of_flow timing plan stays) in
          omega (arith, below, same)
      inside p in_p is (Asking r) at alone =
          let one = subst (λ (y : Source). IsFrameOf plan timing s held sent.broadcasts y (sent.release p) p) at (keeps.frames p in_p is) in
          let below = slice_get_within plan.requests.items r one.asked one.its in
          let same = length-map plan.requests.items (load_of_request timing plan.units.items stays) in
          omega (arith, below, same)
      inside p in_p is (Announcing u m) at alone =
          let one = subst (λ (y : Source). IsFrameOf plan timing s held sent.broadcasts y (sent.release p) p) at (keeps.frames p in_p is) in
          let below = unit_stated plan timing stays sent.broadcasts u m (keeps.broadcasts.messages u m one.known) in
          let same = same_units plan timing stays in
          omega (arith, below, same)
      inside p in_p is (Carrying u m k) at alone =
          let one = subst (λ (y : Source). IsFrameOf plan timing s held sent.broadcasts y (sent.release p) p) at (keeps.frames p in_p is) in
          let below = unit_stated plan timing stays sent.broadcasts u m (keeps.broadcasts.messages u m one.0.known) in
          let same = same_units plan timing stays in
          omega (arith, below, same)

      -- all frames of a kind
      one_kind : (k : ℕ) → total s.count (λ p. cond (kinds k p) (s.bits p) 0) ≤ total (size k) (of k)
      one_kind k = all_grouped s.count (kinds k) (λ p. index (sent.source p)) s.bits (size k) (λ p in_p passing.
          let two = and_parts (counts p) (eqb (kind (sent.source p)) k) passing in
          let is = (and_parts (counts_in_load planned sent p) (is_queued_within timing (seconds n) s from p) two.0).0 in
          let both = and_parts (planned p) (is_counted (sent.source p)) is in
          subst (λ (j : ℕ). index (sent.source p) < size j) (eqb-true (kind (sent.source p)) k two.1) (inside p in_p both.0 (sent.source p) refl both.1))

      four : (f : ℕ → ℕ) → total 4 f ≡ f 0 + (f 1 + (f 2 + f 3))
      unfolding total
      four f = omega arith

      in_some_time : bits_queued timing (seconds n) s (counts_in_load planned sent) from ≤ n * all_rates + more
      in_some_time =
          let kinds_of : bits_queued timing (seconds n) s (counts_in_load planned sent) from ≤ total 4
          (λ k. total s.count (λ p. cond (kinds k p) (s.bits p) 0)) =
          all_grouped s.count counts (λ p. kind (sent.source p)) s.bits 4 (λ p in_p passing.
          let is = (and_parts (counts_in_load planned sent p) (is_queued_within timing (seconds n) s from p) passing).0 in
          kind_below (sent.source p) (and_parts (planned p) (is_counted (sent.source p)) is).1) in
          let parts = four (λ k. total s.count (λ p. cond (kinds k p) (s.bits p) 0)) in
          let first = one_kind 0 in
          let second = one_kind 1 in
          let third = one_kind 2 in
          let fourth = one_kind 3 in
          let of_flows = summed None (rate_of_flow plan timing stays) (more_at plan timing stays) n (asked plan timing stays).flows (of 0)
          (λ i below. flow_bits plan timing stays states clean s queued_first planned sent held keeps from wait n span agree i) in
          let of_requests = summed None (rate_of_request plan timing stays) more_of_request n (asked plan timing stays).requests (of 1)
          (λ r below. request_bits plan timing stays states clean s queued_first planned sent held keeps from wait n span agree r) in
          let of_units = summed None (rate_of_unit plan timing stays) more_of_unit n (asked plan timing stays).units (λ u. of 2 u + of 3 u)
          (λ u below. unit_bits plan timing stays states clean s queued_first planned sent held keeps from wait n span agree u) in
          let together = total-both units (of 2) (of 3) in
          let times : n * all_rates ≡ n * sum_by (rate_of_flow plan timing stays) (asked plan timing stays).flows
          + (n * sum_by (rate_of_unit plan timing stays) (asked plan timing stays).units
          + n * sum_by (rate_of_request plan timing stays) (asked plan timing stays).requests) =
          three_times n (sum_by (rate_of_flow plan timing stays) (asked plan timing stays).flows)
          (sum_by (rate_of_unit plan timing stays) (asked plan timing stays).units)
          (sum_by (rate_of_request plan timing stays) (asked plan timing stays).requests) in
          omega (arith, kinds_of, parts, first, second, third, fourth, of_flows, of_requests, of_units, together, times)

    -- ---- in any time

    some_seconds : timing.drift ≡ 0 → (m : ℕ) → m ≡ n → bits_queued timing (seconds n) s (counts_in_load planned sent) from ≤ n * all_rates + more
    some_seconds agree zero none = let nothing = in_no_time (sym none) in omega (arith, nothing)
    some_seconds agree (suc m) some =
        let positive : 0 < seconds n * bits_per_ms timing.bitrate = some_own timing.bitrate (seconds n) (omega (arith, some)) in
        in_some_time (bits_of_ms timing (seconds n) - 1) (omega (arith, positive)) agree

    planned_most : timing.drift ≡ 0 → bits_queued timing (seconds n) s (counts_in_load planned sent) from ≤ n * all_rates + more
    planned_most agree = some_seconds agree n refl

  long_run : IsLongRunLoad plan timing (total_load timing (asked_of timing plan stays))
  long_run = record {
    more = more + more_damage timing.errors;
    queued = λ agree s planned sent held queued_first keeps from n.
        let most = planned_most s queued_first planned sent held keeps from n agree in
        let all = both n (load_of_damage timing) all_rates in
        omega (arith, most, all);
    with_damage = λ agree s d planned sent held rate bus keeps errors from n.
        let most = planned_most s bus.queued_first planned sent held keeps from n agree in
        let all = both n (load_of_damage timing) all_rates in
        let each : bits_damaged timing (seconds n) d from ≤ 191 * attempts_in timing d (seconds n) from =
        total-times d.count (is_begun_within timing (seconds n) d from) (is_begun_within timing (seconds n) d from) (λ e. d.sent e + d.error e) 191
        (λ e below is.
        let sent_bits = attempt_few s d bus (longest_of plan timing stays states clean s bus.queued_first planned sent held keeps) e below in
        let error_bits = bus.error_at_most e below in
        (is, omega (arith, sent_bits, error_bits))) in
        let damaged = damage_rate timing d rate.every rate.count
        (λ at. let own = in_true_time timing d agree rate.every at in let few = errors.seldom at in omega (arith, own, few)) 191 n from rate.every_positive in
        let load : load_of_damage timing ≡ div_ceil (1000 * (rate.count * 191)) rate.every =
        ap (λ (x : Option ErrorRate). option_map_or (λ (r : ErrorRate). div_ceil (1000 * (r.count * 191) * longest_million timing)
        (r.every * million)) x 0) errors.stated
        ∙ agreed_rate (1000 * (rate.count * 191)) rate.every (longest_million timing) million million (omega (arith, agree)) refl
        (omega arith) rate.every_positive in
        let times : n * load_of_damage timing ≡ n * div_ceil (1000 * (rate.count * 191)) rate.every = ap (λ (x : ℕ). n * x) load in
        let once : more_damage timing.errors ≡ rate.count * 191 = ap more_damage errors.stated in
        omega (arith, most, all, each, damaged, times, once);
  }
    where
      more_damage : Option ErrorRate → ℕ
      more_damage rate = option_map_or (λ (r : ErrorRate). r.count * 191) rate 0

pub loads_in_the_long_run : (plan : Plan) (timing : Timing) (stays : UnitPlan → Bool) → Clean plan → DecidesWhoStays plan stays
    → IsLongRunLoad plan timing (total_load timing (asked_of timing plan stays))
loads_in_the_long_run plan timing stays clean states = long_run plan timing stays states clean
