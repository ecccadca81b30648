-- The premises of a queue group can be met: a frame of another unit has just begun, and of two that wait in a unit without
-- order the one with the larger identifier goes first, so that the other one waits for both.
use Rattle.std.proofs.Common.{◌≡◌, ℕ, ◌+◌, ◌-◌, ◌<◌, ◌≤◌, Bool, true, eqb, ltb, refl, arith, inl, inr, []}
use Rattle.std.proofs.lemmas.Bool.{eqb-true, lt-ltb, ltb-true, or_cases}
use Rattle.j39_timing.specs.Sums.{total}
use Rattle.j39_timing.specs.TimedFrames.{Schedule}
use Rattle.j39_timing.specs.FrameStreams.{Origins}
use Rattle.j39_timing.specs.Traffic.{Traffic, no_twins}
use Rattle.j39_timing.specs.AnyOrder.{Controllers, IsLegalInAnyOrder, IsUnordered}
use Rattle.j39_timing.specs.QueueGroups.{QueueGroup, QueueGroupDemandFits, IsTrafficOfQueueGroup}
use Rattle.j39_timing.specs.Rounds.{all_planned}
use Rattle.j39_timing.proofs.Reached.{in_turn, keeps_single, never_idle, of_sources, single_streams}
use Rattle.j39_timing.proofs.Sums.{total-none}
use Rattle.j39_timing.proofs.Demands.{nothing_wanted}

abbrev three : Schedule
three = in_turn 3 (λ p. 3 - p)

-- the first frame is of unit 1
abbrev two_units : Controllers
two_units = record { unit = λ p. 1 - p; keeps_order = λ u. eqb u 1 }

abbrev three_streams : Traffic
three_streams = single_streams 3 (λ j. j + 1) no_twins

abbrev last_first : Origins
last_first = of_sources (λ p. 2 - p)

abbrev last_two : QueueGroup
last_two = record { has = λ j. ltb j 2; level = 2 }

three_legal : IsLegalInAnyOrder three two_units
three_legal = record {
  positive = λ p _. omega arith;
  queued_first = λ p _. omega arith;
  alone = λ p q t in_p in_q early on_p on_q. omega arith;
  never_idle = λ p t in_p early waits. never_idle 3 three.ident p t in_p waits;
  in_order = λ p q in_p in_q early waits. (
    q,
    (
      in_q,
      omega (arith, waits),
      (omega arith, omega arith),
      λ keeps.
          absurd (let first : 1 - p ≡ 1 = eqb-true (1 - p) 1 keeps in omega (arith, first, waits)),
    ),
    omega arith,
  );
}

its_own : (p : ℕ) → p < 3 → 1 ≤ p → last_two.has (last_first.source p) ≡ true
its_own p in_p behind = lt-ltb (2 - p) 2 (omega (arith, in_p, behind))

three_of_queue_group : IsTrafficOfQueueGroup three two_units three_streams 0 160 all_planned last_first last_two
three_of_queue_group = record {
  longest_at_most = λ p _. omega arith;
  of_streams = record {
    keeps = λ p _ _. keeps_single 3 3 three.ident last_first.source p (omega arith);
    spaced = λ p q in_p in_q differ _ _ same _ _. absurd (differ (omega (arith, in_p, in_q, same)));
  };
  as_wanted = nothing_wanted three all_planned last_first [] three_streams.stream (λ j. refl);
  from_least = λ p in_p _. omega (arith, in_p);
  to_level = λ p in_p _ has. let member : 2 - p < 2 = ltb-true (2 - p) 2 has in omega (arith, in_p, member);
  closed = λ p q in_p in_q _ _ unit _ with_it.
      let behind : 1 ≤ p = elim (or_cases (ltb (2 - p) 2) (ltb (3 - p) 2) with_it) [
        | inl has ↦ let member : 2 - p < 2 = ltb-true (2 - p) 2 has in omega (arith, member)
        | inr low ↦ let below : 3 - p < 2 = ltb-true (3 - p) 2 low in omega (arith, below)
      ] in
      its_own q in_q (omega (arith, unit, behind));
  own_identifiers = λ p q t in_p in_q _ _ has _ _ alike.
      let member : 2 - p < 2 = ltb-true (2 - p) 2 has in
      (refl, its_own q in_q (omega (arith, in_p, in_q, member, alike)));
  few_unplanned = λ p from to _ _ _ _ _ _.
      let none : total 3 (λ q. 0) ≡ 0 = total-none 3 (λ q. 0) (λ q _. refl) in
      omega (arith, none);
  above_unplanned = λ p _ _ _ some. absurd (omega (arith, some));
}

demand_fits : QueueGroupDemandFits three_streams last_two 0 160 0 320
unfolding total
demand_fits = omega arith

pub reached_by_queue_group : (s : Schedule) × (controllers : Controllers) × (traffic : Traffic) × (planned : ℕ → Bool) × (of : Origins)
    × (queue_group : QueueGroup) × IsLegalInAnyOrder s controllers
    × IsTrafficOfQueueGroup s controllers traffic 0 160 planned of queue_group
    × ((j : ℕ) → j < traffic.count → 0 < (traffic.stream j).period) × (queue_group.has 0 ≡ true)
    × ((traffic.stream 0).bits ≤ 160) × QueueGroupDemandFits traffic queue_group 0 160 0 320 × (2 < s.count)
    × (planned 2 ≡ true) × (of.source 2 ≡ 0) × IsUnordered controllers 2
    × (controllers.unit 1 ≡ controllers.unit 2) × (s.ident 2 < s.ident 1) × (s.start 1 ≡ s.queued 2 + 160)
    × (s.queued 2 + 320 < s.now) × (s.start 2 ≡ s.queued 2 + 320)
reached_by_queue_group = (
  three,
  two_units,
  three_streams,
  all_planned,
  last_first,
  last_two,
  three_legal,
  three_of_queue_group,
  λ j _. omega arith,
  refl,
  omega arith,
  demand_fits,
  omega arith,
  refl,
  refl,
  refl,
  refl,
  omega arith,
  refl,
  omega arith,
  refl,
)
