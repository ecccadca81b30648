-- The premises of planned traffic can be met: one unplanned frame has just begun, and the planned one waits for all of it.
use Rattle.std.proofs.Common.{◌≡◌, ℕ, ◌+◌, ◌-◌, ◌<◌, Bool, true, refl, arith, []}
use Rattle.std.proofs.lemmas.Bool.{lt-ltb, ltb-true}
use Rattle.j39_timing.specs.Sums.{total}
use Rattle.j39_timing.specs.TimedFrames.{Schedule, IsLegal}
use Rattle.j39_timing.specs.FrameStreams.{Origins}
use Rattle.j39_timing.specs.Traffic.{Traffic, Others, IsPlannedTraffic, DemandFits, no_twins}
use Rattle.j39_timing.proofs.Reached.{but_the_first, in_turn, in_turn_legal, keeps_single, no_others, none_before, of_sources, others_above, single_streams}
use Rattle.j39_timing.proofs.Demands.{nothing_wanted}

abbrev two : Schedule
two = in_turn 2 (λ p. 1 - p)

abbrev one_stream : Traffic
one_stream = single_streams 1 (λ j. 0) no_twins

abbrev at_once : Origins
at_once = of_sources (λ p. 0)

two_planned : IsPlannedTraffic two one_stream no_others 160 but_the_first at_once 0
two_planned = record {
  longest_at_most = λ p _. omega arith;
  of_streams = record {
    keeps = λ p _ _. keeps_single 2 1 two.ident at_once.source p (omega arith);
    spaced = λ p q in_p in_q differ is_p is_q _ _ _.
        let some_p = ltb-true 0 p is_p in
        let some_q = ltb-true 0 q is_q in
        absurd (differ (omega (arith, in_p, in_q, some_p, some_q)));
  };
  as_wanted = nothing_wanted two but_the_first at_once [] one_stream.stream (λ j. refl);
  from_least = λ p _ _. omega arith;
  to_greatest = λ p _ is _. let some = ltb-true 0 p is in omega (arith, some);
  own_identifier = λ p q t _ _ _ is _ _ _ alike.
      let some = ltb-true 0 p is in
      (lt-ltb 0 q (omega (arith, some, alike)), refl);
  urgency_of_others = λ p _ isnt. others_above p isnt;
  few_others = λ p from to _ _ _ _ _ _. let none = none_before 2 p from to in omega (arith, none);
}

demand_fits : DemandFits one_stream no_others 160 0 160
unfolding total
demand_fits = omega arith

pub reached_by_planned : (s : Schedule) × (traffic : Traffic) × (others : Others) × (planned : ℕ → Bool) × (of : Origins) × IsLegal s
    × IsPlannedTraffic s traffic others 160 planned of 0 × DemandFits traffic others 160 0 160 × (1 < s.count) × (planned 1 ≡ true)
    × (of.source 1 ≡ 0) × (s.queued 1 + 160 < s.now) × (s.start 1 ≡ s.queued 1 + 160)
reached_by_planned = (two, one_stream, no_others, but_the_first, at_once, in_turn_legal 2 two.ident (λ p q _ _ waits. omega (arith, waits)), two_planned, demand_fits, omega arith, refl, refl, omega arith, refl)
