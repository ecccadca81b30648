-- How old a value is at the release of the message that brings it.
use Rattle.std.proofs.Common.{◌≡◌, ℕ, zero, suc, ◌+◌, ◌-◌, ◌*◌, ◌<◌, ◌≤◌, if◌then◌else◌, Bool, true, false, [], length, Option, Some, None, refl, sym, ap, ◌∙◌}
use Rattle.std.proofs.Common.{subst, inl, inr, arith}
use Rattle.std.proofs.lemmas.Bool.{cases_Bool}
use Rattle.std.proofs.lemmas.Option.{none-some, same_Some}
use Rattle.std.specs.Int.{div_ceil}
use Rattle.std.specs.Option.{option_and_then, option_map_or}
use Rattle.j39_network.specs.declared.plan.timing.Timing.{Timing}
use Rattle.j39_vehicle.specs.declared.vehicle.Vehicle.{Vehicle}
use Rattle.j39_vehicle.specs.declared.vehicle.forward.Forward.{Forward}
use Rattle.j39_vehicle_findings.specs.ForwardTests.{is_direct}
use Rattle.j39_vehicle_findings.specs.Traces.{goes_on, next_forward}
use Rattle.j39_vehicle_findings.specs.VehicleFindings.{AreFindings}
use Rattle.j39_vehicle_findings.specs.declared.point.FlowAt.{FlowAt}
use Rattle.j39_vehicle_findings.specs.declared.point.Point.{Point}
use Rattle.j39_vehicle_laws.specs.Gateways.{HasBegun, end_time, queue_time}
use Rattle.j39_vehicle_times.specs.declared.bus_delays.Delays.{Delays}
use Rattle.j39_vehicle_times.specs.Times.{age_with, behind_at, behind_by, direct_feeder, forward_at, first_input_at, old_behind, old_by, interval, interval_us}
use Rattle.j39_vehicle_times.specs.Times.{sum_known, timing_on}
use Rattle.j39_vehicle_times.specs.Times.{within_of}
use Rattle.j39_vehicle_times.specs.BusDelays.{AreDelays}
use Rattle.j39_vehicle_times.proofs.DecidingTimes.{and_then_some, map_some}
use Rattle.j39_vehicle_laws.specs.Prompt.{IsSentDirectly}
use Rattle.j39_vehicle_laws.specs.Seen.{SeenBuses, frames_at, of_us}
use Rattle.j39_vehicle_laws.specs.YoungValues.{HasWay, IsBroughtFrom, IsOnTheWay, IsSeenVehicle, KeepPauses, at_its_origin, behind_it, by_forward}
use Rattle.j39_vehicle_laws.proofs.Behind.{fed_never, fed_parts, is_behind, sends_directly, source_among}
use Rattle.j39_vehicle_laws.proofs.Feeders.{goes_on_input, next_feeds, one_feeder, some_feeder}
use Rattle.j39_vehicle_laws.proofs.Order.{ends_behind, in_order, queued_till_end}
use Rattle.j39_vehicle_laws.proofs.Parts.{some_cases, sum_some}
use Rattle.j39_vehicle_laws.proofs.TrueTimes.{in_us}
use Rattle.j39_vehicle_laws.proofs.Interval.{KeepsOn, keeps_on}

-- ---- the parts of what is known

-- the trace goes on, with what is known of where it comes from
pub record GoesOn (v : Vehicle) (delays : Delays) (steps : ℕ) (p : Point) (n old : ℕ) : Type 0 where
  pub from : Point
  pub on : goes_on v p n ≡ Some from
  pub behind_it : old_behind v delays n from.at (old_by v delays steps from) ≡ Some old

timed_some : (v : Vehicle) (b : ℕ) (o : Option ℕ) (n : ℕ) → option_and_then (λ (timing : Timing). o) (timing_on v.buses.items b) ≡ Some n → o ≡ Some n
timed_some v b o n is = (and_then_some (λ (timing : Timing). o) (timing_on v.buses.items b) n is).2

ends : (v : Vehicle) (delays : Delays) (steps : ℕ) (p : Point) (old : ℕ) → next_forward v p ≡ None → old_by v delays steps p ≡ Some old → old ≡ 0
unfolding old_by
ends v delays zero p old none is = sym (same_Some _ _ (timed_some v p.at.bus (Some 0) old
    (subst (λ (o : Option ℕ). option_and_then (λ (timing : Timing). option_map_or (λ n. None) o (Some 0))
    (timing_on v.buses.items p.at.bus) ≡ Some old) none is)))
ends v delays (suc steps) p old none is = sym (same_Some _ _ (timed_some v p.at.bus (Some 0) old (subst (λ (o : Option ℕ). option_and_then (λ (timing : Timing).
    option_map_or (λ n. option_and_then (λ (q : Point). old_behind v delays n q.at (old_by v delays steps q)) (goes_on v p n)) o (Some 0))
    (timing_on v.buses.items p.at.bus) ≡ Some old)
    none is)))

never_goes_on : (v : Vehicle) (delays : Delays) (p : Point) (n old : ℕ) → next_forward v p ≡ Some n → old_by v delays zero p ≡ Some old → ⊥
unfolding old_by
never_goes_on v delays p n old next is = none-some old (timed_some v p.at.bus None old
    (subst (λ (o : Option ℕ). option_and_then (λ (timing : Timing). option_map_or (λ n. None) o (Some 0))
    (timing_on v.buses.items p.at.bus) ≡ Some old) next is))

goes_further : (v : Vehicle) (delays : Delays) (steps : ℕ) (p : Point) (n old : ℕ) → next_forward v p ≡ Some n → old_by v delays (suc steps) p ≡ Some old
    → GoesOn v delays steps p n old
unfolding old_by
goes_further v delays steps p n old next is =
    let here = timed_some v p.at.bus (option_and_then (λ (q : Point). old_behind v delays n q.at (old_by v delays steps q)) (goes_on v p n)) old
    (subst (λ (o : Option ℕ). option_and_then (λ (timing : Timing). option_map_or (λ n. option_and_then (λ (q : Point). old_behind v delays n q.at
    (old_by v delays steps q))
    (goes_on v p n)) o (Some 0)) (timing_on v.buses.items p.at.bus) ≡ Some old) next is) in
    let (q, on, known) = and_then_some (λ (q : Point). old_behind v delays n q.at (old_by v delays steps q)) (goes_on v p n) old here in
    record { from = q; on = on; behind_it = known }

-- what it goes on with, by the forward's mode
abbrev by_mode : Vehicle → Delays → FlowAt → Option ℕ → Forward → Option ℕ
by_mode v delays at old forward = if is_direct forward then old else sum_known (age_with v delays at old) (within_of forward)

of_forward : (v : Vehicle) (delays : Delays) (n : ℕ) (at : FlowAt) (before : Option ℕ) (old : ℕ) → old_behind v delays n at before ≡ Some old
    → (forward : Forward) × (forward_at v n ≡ Some forward) × (by_mode v delays at before forward ≡ Some old)
of_forward v delays n at before old is = go (forward_at v n) refl is
  where
    go : (o : Option Forward) → forward_at v n ≡ o → option_map_or (by_mode v delays at before) o None ≡ Some old
        → (forward : Forward) × (forward_at v n ≡ Some forward) × (by_mode v delays at before forward ≡ Some old)
    go None there is = absurd (none-some old is)
    go (Some forward) there is = (forward, there, is)

direct_old : (v : Vehicle) (delays : Delays) (at : FlowAt) (before : Option ℕ) (forward : Forward) {old : ℕ} → is_direct forward ≡ true
    → by_mode v delays at before forward ≡ Some old → before ≡ Some old
direct_old v delays at before forward {old} direct is =
    subst (λ (b : Bool). (if b then before else sum_known (age_with v delays at before) (within_of forward)) ≡ Some old) direct is

record IsPeriodicOld (v : Vehicle) (delays : Delays) (forward : Forward) (at : FlowAt) (known : Option ℕ) (total : ℕ) : Type 0 where
  old : ℕ
  old_is : known ≡ Some old
  pause : ℕ
  pause_is : interval_us v at ≡ Some pause
  before : ℕ
  before_is : behind_at v delays at ≡ Some before
  within : ℕ
  within_is : within_of forward ≡ Some within
  sum : total ≡ old + (pause + before) + within

periodic_old : (v : Vehicle) (delays : Delays) (at : FlowAt) (known : Option ℕ) (forward : Forward) → is_direct forward ≡ false → (total : ℕ)
    → by_mode v delays at known forward ≡ Some total → IsPeriodicOld v delays forward at known total
periodic_old v delays at known forward periodic total is =
    let here : sum_known (age_with v delays at known) (within_of forward) ≡ Some total =
    subst (λ (b : Bool). (if b then known else sum_known (age_with v delays at known) (within_of forward)) ≡ Some total) periodic is in
    let (age, within, of_age, promised, one) = sum_some (age_with v delays at known) (within_of forward) total here in
    let (old, rest, of_old, of_rest, two) = sum_some known (sum_known (interval_us v at) (behind_at v delays at)) age of_age in
    let (pause, before, of_pause, of_behind, three) = sum_some (interval_us v at) (behind_at v delays at) rest of_rest in
    record {
      old = old;
      old_is = of_old;
      pause = pause;
      pause_is = of_pause;
      before = before;
      before_is = of_behind;
      within = within;
      within_is = promised;
      sum = omega (arith, one, two, three);
    }

-- ---- sums, where a message of the output has its release m, one of the input r, and what is carried c

trans3 : (a b c d : ℕ) → a ≤ b → b ≤ c → c ≤ d → a ≤ d
trans3 a b c d one two three = omega arith

into_reach : (from old pause before within m : ℕ) → from + of_us (old + (pause + before) + within) ≤ m → from ≤ m - of_us (before + within)
into_reach from old pause before within m late = omega arith

within_reach : (from old pause by before within m : ℕ) → from + of_us (old + (pause + before) + within) ≤ m → m ≤ by
    → m - of_us (before + within) + of_us before ≤ by
within_reach from old pause by before within m late early = omega arith

begun_reach : (from old pause by before within m r : ℕ) → from + of_us (old + (pause + before) + within) ≤ m → m ≤ by → r ≤ m - of_us (before + within)
    → r + of_us before ≤ by
begun_reach from old pause by before within m r late early order = omega arith

had_ended : (from old pause before within m r end : ℕ) → from + of_us (old + (pause + before) + within) ≤ m → r ≤ m - of_us (before + within)
    → end ≤ r + of_us before
    → end + of_us within ≤ m
had_ended from old pause before within m r end late early timely = omega arith

not_too_old : (from old pause before within m r end : ℕ) → from + of_us (old + (pause + before) + within) ≤ m → m - of_us (before + within) < r + of_us pause
    → r < end
    → m < end + of_us (pause + (before + within))
not_too_old from old pause before within m r end late near later = omega arith

still_late : (from old pause before within m r c : ℕ) → from + of_us (old + (pause + before) + within) ≤ m → m - of_us (before + within) < r + of_us pause
    → r ≤ c
    → from + of_us old ≤ c
still_late from old pause before within m r c late near order = omega arith

old_there : (from old pause before within m r c time : ℕ) → from + of_us (old + (pause + before) + within) ≤ m → m - of_us (before + within) < r + of_us pause
    → r ≤ c
    → c ≤ time + of_us old → m ≤ time + of_us (old + (pause + before) + within)
old_there from old pause before within m r c time late near order so = omega arith

-- ---- values

module _ (v : Vehicle) (delays : Delays) (none : AreFindings v []) (stated : AreDelays v delays) (seen : SeenBuses) (by : ℕ)
    (is : IsSeenVehicle v delays seen by)
    (start : Point) (has : HasWay v is.scope start) (from : ℕ) (pauses : KeepPauses v seen start from by) where
  -- each message that has ended says what was so no more than `old` before its release, where this is so much behind the time from which on pauses
  -- are kept, and brings it from its origin
  abbrev pub IsOldAtMost : Point → ℕ → Type 0
  IsOldAtMost p old = (q : ℕ) → HasBegun (frames_at v seen p.at) q → end_time (frames_at v seen p.at) q ≤ by → from + of_us old ≤ (seen p.at.bus).release q
      → (time : ℕ) × ((seen p.at.bus).born q p.signal ≡ Some time) × ((seen p.at.bus).release q ≤ time + of_us old)
      × (time ≤ end_time (frames_at v seen p.at) q)
      × IsBroughtFrom v seen p q time

  at_origin : (p : Point) (old : ℕ) → IsOnTheWay v start p → next_forward v p ≡ None → old ≡ 0 → (k time : ℕ) → behind_by v delays k p.at ≡ Some time
      → IsOldAtMost p old
  at_origin p old way last zero_old k time behind_p q its ended late =
      let (born, says, so, written) = is.origins p (has p way) last q its.0 in
      let till = queued_till_end v delays seen by is p.at time (is_behind v delays stated seen by is k p.at (has p way) time behind_p) q its.0 in (
        born,
        says,
        omega (arith, so, zero_old),
        omega (arith, written, till),
        record { origin = p; first = q; begun = its; ended = omega arith; says = says; brings = at_its_origin last },
      )

  -- by a direct forward
  directly : (p x : Point) (n : ℕ) (forward : Forward) (old : ℕ) → IsOnTheWay v start p → next_forward v p ≡ Some n → goes_on v p n ≡ Some x
      → forward_at v n ≡ Some forward
      → is_direct forward ≡ true → (steps time : ℕ) → behind_by v delays steps p.at ≡ Some time
      → ((k before : ℕ) → behind_by v delays k x.at ≡ Some before → IsOldAtMost x old) → IsOldAtMost p old
  directly p x n forward old way next on its direct steps time known input = go (direct_feeder v p.at) refl steps known
    where
      go : (o : Option Forward) → direct_feeder v p.at ≡ o → (steps : ℕ) → behind_by v delays steps p.at ≡ Some time → IsOldAtMost p old
      go None feeder steps known = absurd (some_feeder v p n forward next its direct feeder)
      go (Some feeder) feeds_it zero known = absurd (fed_never v delays p.at time feeder feeds_it known)
      go (Some feeder) feeds_it (suc steps) known =
          let fed = fed_parts v delays steps p.at time feeder feeds_it known in
          let too = source_among v delays stated seen by is p.at (has p way) feeder fed.source fed.own_time feeds_it fed.source_is fed.own_is in
          let behind_x = is_behind v delays stated seen by is steps fed.source too fed.before fed.before_is in
          let behind_p = is_behind v delays stated seen by is (suc steps) p.at (has p way) time known in
          let (place, found, sent_there) = sends_directly v delays stated seen by is p.at
          (has p way) feeder fed.source fed.within fed.before behind_p.own_time feeds_it
          fed.source_is
          fed.promised behind_p.one behind_x in
          let same : n ≡ place = one_feeder v none p n place forward feeder next its direct found in
          let one : forward ≡ feeder = same_Some _ _ (sym its ∙ (ap (forward_at v) same ∙ found.its)) in
          let there : fed.source ≡ x.at = same_Some _ _ (sym fed.source_is ∙ (ap (first_input_at v) (sym one) ∙ goes_on_input v p x n forward its on)) in
          let before : behind_by v delays steps x.at ≡ Some fed.before = subst (λ
          (f : FlowAt). behind_by v delays steps f ≡ Some fed.before) there fed.before_is in
          let sent : IsSentDirectly v seen n x.at p.at fed.within =
          subst (λ (k : ℕ). IsSentDirectly v seen k x.at p.at fed.within) (sym same)
          (subst (λ (f : FlowAt). IsSentDirectly v seen place f p.at fed.within) there sent_there) in
          λ q it ended late.
          let begun : HasBegun (frames_at v seen x.at) (sent.handed.what q) = sent.handed.begun q it.0 in
          let release : (seen p.at.bus).release q ≡ (seen x.at.bus).release (sent.handed.what q) = sent.handed.releases q it.0 in
          let after : end_time (frames_at v seen x.at) (sent.handed.what q) ≤ queue_time (frames_at v seen p.at) q = sent.handed.after q it.0 in
          let till = queued_till_end v delays seen by is p.at time behind_p q it.0 in
          let (born, says, so, past, whence) = input steps fed.before before (sent.handed.what q) begun (omega (arith, after, till, ended)) (omega
          (arith, late, release)) in
          let before_it = whence.ended in (
            born,
            sent.says x.signal p.signal (record { by = next; on = on }) q it.0 ∙ says,
            omega (arith, so, release),
            omega (arith, past, after, till),
            record {
              origin = whence.origin;
              first = whence.first;
              begun = whence.begun;
              ended = omega (arith, before_it, after, till);
              says = whence.says;
              brings = by_forward p x q (sent.handed.what q) n forward next its on (sent.keeps forward its q it.0) (sent.carries q it.0) whence.brings;
            },
          )

  -- by one that has its own releases
  at_its_beat : (p x : Point) (n : ℕ) (forward : Forward) (old pause before within : ℕ) → IsOnTheWay v start p → IsOnTheWay v start x
      → next_forward v p ≡ Some n
      → goes_on v p n ≡ Some x
      → forward_at v n ≡ Some forward → is_direct forward ≡ false → interval_us v x.at ≡ Some pause → behind_at v delays x.at ≡ Some before
      → within_of forward ≡ Some within
      → (steps time : ℕ) → behind_by v delays steps p.at ≡ Some time → IsOldAtMost x old → IsOldAtMost p (old + (pause + before) + within)
  at_its_beat p x n forward old pause before within here way next on its periodic pauses_x behind_x promised steps time known input =
      let sent = is.prompt.periodic n forward x.at p.at within pause before
      (record { its = its; output = next_feeds v p n forward next its; input = goes_on_input v p x n forward its on; promised = promised }) periodic
      (has p here) pauses_x
      behind_x in
      let of_x = is_behind v delays stated seen by is (length v.forwards.items) x.at (has x way) before behind_x in
      let of_p = is_behind v delays stated seen by is steps p.at (has p here) time known in
      let (ns, ns_is, made) = map_some (λ (ns : ℕ). div_ceil ns 1000) (interval v x.at) pause pauses_x in
      let enough : 1000 * ns ≤ of_us pause = subst (λ (us : ℕ). 1000 * ns ≤ of_us us) made (in_us ns) in
      let keeps : KeepsOn v seen x.at ns before from by = keeps_on v delays stated seen by is start has from pauses x way (length v.forwards.items) ns ns_is
      (length v.forwards.items) before behind_x in
      λ q it ended late.
      let till = queued_till_end v delays seen by is p.at time of_p q it.0 in
      let early : (seen p.at.bus).release q ≤ by = trans3 _ _ _ _ (of_p.first q it.0) till ended in
      let (r, rits, earlier, nearer) = keeps ((seen p.at.bus).release q - of_us (before + within))
      (into_reach from old pause before within ((seen p.at.bus).release q) late) (within_reach from old pause by before within
      ((seen p.at.bus).release q) late early) in
      let near : (seen p.at.bus).release q - of_us (before + within) < (seen x.at.bus).release r + of_us pause = omega (arith, nearer, enough) in
      let begun = of_x.begun r rits (begun_reach from old pause by before within ((seen p.at.bus).release q) ((seen x.at.bus).release r) late early earlier) in
      let later = ends_behind v delays seen by is x.at before of_x r rits in
      let (c, carried, newer, over, says, keeps_it, takes) = sent.newest x.signal p.signal (record { by = next; on = on }) r q begun it.0
      (had_ended from old pause before within ((seen p.at.bus).release q) ((seen x.at.bus).release r) _ late earlier (of_x.ended r begun))
      (not_too_old from old pause before within ((seen p.at.bus).release q) ((seen x.at.bus).release r) _ late near later) in
      let over_by = trans3 _ _ _ _ over till ended in
      let order = in_order v delays seen by is x.at before of_x r c rits carried newer in
      let (born, states, so, past, whence) = input c carried over_by
      (still_late from old pause before within ((seen p.at.bus).release q) ((seen x.at.bus).release r) ((seen x.at.bus).release c) late near order) in (
        born,
        says ∙ states,
        old_there from old pause before within ((seen p.at.bus).release q) ((seen x.at.bus).release r) ((seen x.at.bus).release c) born late near order so,
        trans3 _ _ _ _ past over till,
        record {
          origin = whence.origin;
          first = whence.first;
          begun = whence.begun;
          ended = trans3 _ _ _ _ whence.ended over till;
          says = whence.says;
          brings = by_forward p x q c n forward next its on (keeps_it forward its) takes whence.brings;
        },
      )

  is_old : (steps : ℕ) (p : Point) (old : ℕ) → IsOnTheWay v start p → old_by v delays steps p ≡ Some old → (k time : ℕ) → behind_by v delays k p.at ≡ Some time
      → IsOldAtMost p old
  is_old zero p old way known k time behind_p = some_cases (next_forward v p) (IsOldAtMost p old)
      (λ last. at_origin p old way last (ends v delays zero p old last known) k time behind_p)
      (λ n next. absurd (never_goes_on v delays p n old next known))
  is_old (suc steps) p old way known k time behind_p = some_cases (next_forward v p) (IsOldAtMost p old)
      (λ last. at_origin p old way last (ends v delays (suc steps) p old last known) k time behind_p)
      (λ n next.
      let further = goes_further v delays steps p n old next known in
      let there : IsOnTheWay v start further.from = behind_it p further.from n way next further.on in
      let (forward, its, sum) = of_forward v delays n further.from.at (old_by v delays steps further.from) old further.behind_it in
      elim (cases_Bool (is_direct forward)) [
        | inl direct ↦
            directly p further.from n forward old way next further.on its direct k time behind_p
            (λ j before behind_x. is_old steps further.from old there (direct_old v delays further.from.at
            (old_by v delays steps further.from) forward direct sum) j before behind_x)
        | inr periodic ↦
            let parts = periodic_old v delays further.from.at (old_by v delays steps further.from) forward periodic old sum in
            subst (IsOldAtMost p) (sym parts.sum)
            (at_its_beat p further.from n forward parts.old parts.pause parts.before parts.within way there next further.on its periodic parts.pause_is
            parts.before_is
            parts.within_is k time behind_p
            (is_old steps further.from parts.old there parts.old_is (length v.forwards.items) parts.before parts.before_is))
      ])

  pub old_at_most : (steps : ℕ) (p : Point) (old : ℕ) → IsOnTheWay v start p → old_by v delays steps p ≡ Some old → (k time : ℕ)
      → behind_by v delays k p.at ≡ Some time
      → IsOldAtMost p old
  old_at_most = is_old
