-- The premises of twins can be met: an unplanned frame has just begun, and of two planned ones of one identifier that wait the other one goes
-- first.
use Rattle.std.proofs.Common.{◌≡◌, ℕ, ◌+◌, ◌-◌, ◌<◌, Bool, true, eqb, refl, arith, []}
use Rattle.std.proofs.lemmas.Bool.{lt-ltb, ltb-true, or_right}
use Rattle.j39_timing.specs.Sums.{total}
use Rattle.j39_timing.specs.TimedFrames.{Schedule, IsLegal}
use Rattle.j39_timing.specs.FrameStreams.{Origins}
use Rattle.j39_timing.specs.Traffic.{Traffic, Others, IsPlannedTraffic, DemandFits}
use Rattle.j39_timing.proofs.Reached.{but_the_first, in_turn, in_turn_legal, keeps_single, no_others, none_before, of_sources, others_above, single_streams}
use Rattle.j39_timing.proofs.Demands.{nothing_wanted}

abbrev three : Schedule
three = in_turn 3 (λ p. 1 - p)

abbrev two_streams : Traffic
two_streams = single_streams 2 (λ j. 0) (λ i j. true)

abbrev last_first : Origins
last_first = of_sources (λ p. 2 - p)

three_legal : IsLegal three
three_legal = in_turn_legal 3 three.ident (λ p q _ _ waits. omega (arith, waits))

three_planned : IsPlannedTraffic three two_streams no_others 160 but_the_first last_first 0
three_planned = record {
  longest_at_most = λ p _. omega arith;
  of_streams = record {
    keeps = λ p _ is. keeps_single 3 2 three.ident last_first.source p (let some = ltb-true 0 p is in omega (arith, some));
    spaced = λ p q in_p in_q differ is_p is_q same _ _.
        let some_p = ltb-true 0 p is_p in
        let some_q = ltb-true 0 q is_q in
        absurd (differ (omega (arith, in_p, in_q, some_p, some_q, same)));
  };
  as_wanted = nothing_wanted three but_the_first last_first [] two_streams.stream (λ j. refl);
  from_least = λ p _ _. omega arith;
  to_greatest = λ p _ is _. let some = ltb-true 0 p is in omega (arith, some);
  own_identifier = λ p q t _ _ _ is _ _ _ alike.
      let some = ltb-true 0 p is in
      (lt-ltb 0 q (omega (arith, some, alike)), or_right (eqb (2 - q) 0) true refl);
  urgency_of_others = λ p _ isnt. others_above p isnt;
  few_others = λ p from to _ _ _ _ _ _. let none = none_before 3 p from to in omega (arith, none);
}

demand_fits : DemandFits two_streams no_others 160 0 320
unfolding total
demand_fits = omega arith

pub reached_by_twins : (s : Schedule) × (traffic : Traffic) × (others : Others) × (planned : ℕ → Bool) × (of : Origins) × IsLegal s
    × IsPlannedTraffic s traffic others 160 planned of 0 × ((j : ℕ) → j < traffic.count → 0 < (traffic.stream j).period)
    × DemandFits traffic others 160 0 320 × (2 < s.count) × (planned 1 ≡ true) × (planned 2 ≡ true) × (of.source 1 ≡ 1) × (of.source 2 ≡ 0)
    × (s.ident 1 ≡ s.ident 2) × (s.start 1 ≡ s.queued 2 + 160) × (s.queued 2 + 320 < s.now) × (s.start 2 ≡ s.queued 2 + 320)
reached_by_twins =
    (three, two_streams, no_others, but_the_first, last_first, three_legal, three_planned, λ j _. omega arith, demand_fits, omega arith, refl, refl, refl, refl, refl, refl, omega arith, refl)
