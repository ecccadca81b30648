-- An unplanned frame has just begun, and two frames of one stream are queued at once: the second one waits for both.
use Rattle.std.proofs.Common.{◌≡◌, ℕ, ◌+◌, ◌-◌, ◌<◌, ◌≤◌, Bool, true, cond, ◌&&◌, eqb, leb, ltb, Some, [], refl, sym, arith, inl, inr}
use Rattle.std.proofs.lemmas.Bool.{and_parts, cases_Bool, cases_lt, leb-true, lt-ltb, ltb-true}
use Rattle.std.proofs.lemmas.Grind.{div_ceil_times}
use Rattle.std.proofs.lemmas.Option.{none-some, same_Some}
use Rattle.j39_timing.specs.Sums.{total}
use Rattle.j39_timing.specs.TimedFrames.{Schedule, IsLegal}
use Rattle.j39_timing.specs.FrameStreams.{Origins}
use Rattle.j39_timing.specs.Traffic.{Traffic, Others, IsPlannedTraffic, OwnDemandFits, no_twins, queuings_in}
use Rattle.j39_timing.specs.Waits.{frames_of_want}
use Rattle.j39_timing.specs.declared.stream.Stream.{Stream}
use Rattle.j39_timing.specs.declared.stream.WantedBy.TheVariants.{Askers}
use Rattle.j39_timing.specs.declared.wants.Want.{Want}
use Rattle.j39_timing.proofs.Reached.{but_the_first, in_turn, in_turn_legal, no_others, none_before, of_sources, others_above}
use Rattle.j39_timing.proofs.Sums.{total-le, total-none}

abbrev three : Schedule
three = in_turn 3 (λ p. 1 - p)

abbrev two_ask : Want
two_ask = record { frames = 1; period = 1000; jitter = 0; more = 1 }

abbrev answers : Stream
answers = record { frames = 1; period = 1000; bits = 160; jitter = 0; wanted = Some (Askers two_ask) }

abbrev one_stream : Traffic
one_stream = record { count = 1; stream = λ j. answers; demands = []; least = λ j. 0; greatest = λ j. 0; are_twins = no_twins }

abbrev of_one : Origins
of_one = of_sources (λ p. 0)

few : (j t span : ℕ) → queuings_in three but_the_first of_one j t span ≤ frames_of_want span two_ask
unfolding total
few j t span = elim (cases_lt 0 span) [
  | inl some ↦
      let reached = (div_ceil_times span 1000 (omega arith)).0 in
      let two : queuings_in three but_the_first of_one j t span ≤ total 3 (λ p. cond (ltb 0 p) 1 0) =
      total-le 3 (λ p. cond (ltb 0 p && (eqb 0 j && (leb t 0 && ltb 0 (t + span)))) 1 0) (λ p. cond (ltb 0 p) 1 0) (λ p in_p.
      elim (cases_Bool (ltb 0 p && (eqb 0 j && (leb t 0 && ltb 0 (t + span))))) [
        | inr fails ↦ rw (fails) (omega arith)
        | inl is ↦ let its = (and_parts (ltb 0 p) (eqb 0 j && (leb t 0 && ltb 0 (t + span))) is).0 in rw (is, its) (omega arith)
      ]) in
      omega (arith, two, reached, some)
  | inr none ↦
      let nothing : queuings_in three but_the_first of_one j t span ≡ 0 =
      total-none 3 (λ p. cond (ltb 0 p && (eqb 0 j && (leb t 0 && ltb 0 (t + span)))) 1 0) (λ p in_p.
      elim (cases_Bool (ltb 0 p && (eqb 0 j && (leb t 0 && ltb 0 (t + span))))) [
        | inr fails ↦ rw (fails) refl
        | inl is ↦
            let one = and_parts (ltb 0 p) (eqb 0 j && (leb t 0 && ltb 0 (t + span))) is in
            let two = and_parts (eqb 0 j) (leb t 0 && ltb 0 (t + span)) one.1 in
            let three = and_parts (leb t 0) (ltb 0 (t + span)) two.1 in
            let from = leb-true t 0 three.0 in
            let to = ltb-true 0 (t + span) three.1 in
            absurd (omega (arith, from, to, none))
      ]) in
      omega (arith, nothing)
]

three_planned : IsPlannedTraffic three one_stream no_others 160 but_the_first of_one 0
three_planned = record {
  longest_at_most = λ p _. omega arith;
  of_streams = record {
    keeps = λ p _ is. record {
      known = omega arith;
      bits_at_most = omega arith;
      turns = omega arith;
      release_first = omega arith;
      jitter_at_most = omega arith;
    };
    spaced = λ p q _ _ _ _ _ _ _ spaced. absurd (none-some two_ask (sym spaced));
  };
  as_wanted = record {
    by_sender = λ j t span demand is. absurd (none-some demand is);
    by_askers = λ j t span want is. let all = few j t span in let same = same_Some two_ask want is in rw (sym same) (omega (arith, all));
  };
  from_least = λ p _ _. omega arith;
  to_greatest = λ p _ is _. let some = ltb-true 0 p is in omega (arith, some);
  own_identifier = λ p q t _ _ _ is _ _ _ alike.
      let some = ltb-true 0 p is in
      (lt-ltb 0 q (omega (arith, some, alike)), refl);
  urgency_of_others = λ p _ isnt. others_above p isnt;
  few_others = λ p from to _ _ _ _ _ _. let none = none_before 3 p from to in omega (arith, none);
}

own_fits : OwnDemandFits one_stream no_others 160 0 320
unfolding total
own_fits = omega arith

pub reached_by_own : (s : Schedule) × (traffic : Traffic) × (others : Others) × (planned : ℕ → Bool) × (of : Origins) × IsLegal s
    × IsPlannedTraffic s traffic others 160 planned of 0 × ((j : ℕ) → j < traffic.count → 0 < (traffic.stream j).period)
    × ((traffic.stream 0).bits ≤ 160) × OwnDemandFits traffic others 160 0 320 × (2 < s.count) × (planned 1 ≡ true) × (planned 2 ≡ true)
    × (of.source 1 ≡ 0) × (of.source 2 ≡ 0) × (s.queued 1 ≡ s.queued 2) × (s.start 1 ≡ s.queued 2 + 160) × (s.queued 2 + 320 < s.now)
    × (s.start 2 ≡ s.queued 2 + 320)
reached_by_own = (
  three,
  one_stream,
  no_others,
  but_the_first,
  of_one,
  in_turn_legal 3 three.ident (λ p q _ _ waits. omega (arith, waits)),
  three_planned,
  λ j _. omega arith,
  omega arith,
  own_fits,
  omega arith,
  refl,
  refl,
  refl,
  refl,
  refl,
  refl,
  omega arith,
  refl,
)
