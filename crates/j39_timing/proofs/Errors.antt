-- A bus with damaged frames is one of a legal schedule, in which damaged attempts and error frames go before all others.
use Rattle.std.proofs.Common.{◌≡◌, ℕ, ◌<◌, ◌≤◌, arith, refl, inl, inr}
use Rattle.std.proofs.lemmas.Bool.{lt-ltb}
use Rattle.j39_timing.specs.TimedFrames.{Schedule, IsLegal, Waits}
use Rattle.j39_timing.specs.AnyOrder.{Controllers, IsLegalInAnyOrder}
use Rattle.j39_timing.specs.Errors.{AreAttemptsApart, Damaged, IsBusWithErrors, IsLegalInAnyOrderWithErrors, IsLegalWithErrors, damage_ordered, with_errors}
use Rattle.j39_timing.proofs.ErrorFrames.{OnBus, Takes, all, alone, as_waiting, attempt_waits, both_frames, damaged_on_bus, error_waits}
use Rattle.j39_timing.proofs.ErrorFrames.{first_of_all, frame_on_bus, frame_or_least, kinds, positive, queued_first, taken}

-- each frame is of the unit that it was of
pub units_stay : (s : Schedule) (controllers : Controllers) (own p : ℕ) → p < s.count → (damage_ordered s controllers own).unit p ≡ controllers.unit p
units_stay s controllers own p below = rw (lt-ltb p s.count below) refl

module _ (s : Schedule) (d : Damaged) where
  module _ (legal : IsBusWithErrors s d) where
    apart : AreAttemptsApart s d
    apart = record {
      positive = legal.positive;
      queued_first = legal.queued_first;
      some_sent = legal.some_sent;
      some_error = legal.some_error;
      alone = legal.alone;
      alone_damaged = legal.alone_damaged;
      none_of_both = legal.none_of_both;
    }

    never_idle : (p t : ℕ) → p < (all s d).count → t < (all s d).now → Waits (all s d) p t → OnBus s d t
    never_idle p t in_p seen waits = elim (kinds s d p in_p) [
      | inl is ↦ elim (legal.never_idle p t is.below seen (as_waiting s d p t is waits)) [
        | inl frame ↦ frame_on_bus s d frame.0 t frame.1 frame.2
        | inr damaged ↦ damaged_on_bus s d damaged.0 t damaged.1 damaged.2
      ]
      | inr this ↦ elim this [
        | inl it ↦ absurd (attempt_waits s d p it.0 t it.1 waits)
        | inr it ↦ damaged_on_bus s d it.0 t it.1.below (error_waits s d apart p it.0 t it.1 waits)
      ]
    ]

  module _ (legal : IsLegalWithErrors s d) where
    in_order : (p q : ℕ) → p < (all s d).count → q < (all s d).count → (all s d).start q < (all s d).now → Waits (all s d) p ((all s d).start q)
        → (all s d).ident q ≤ (all s d).ident p
    in_order p q in_p in_q seen waits = elim (frame_or_least s d q in_q) [
      | inr least ↦ omega (arith, least)
      | inl is_q ↦
          let (is_p, early, waiting) = both_frames s d (apart legal.bus) p q in_p is_q seen waits in
          let order : s.ident q ≤ s.ident p = legal.in_order p q is_p.below is_q.below early waiting in
          let ident_p = is_p.ident in
          let ident_q = is_q.ident in
          omega (arith, order, ident_p, ident_q)
    ]

    pub legal_with_errors : IsLegal (with_errors s d)
    legal_with_errors = record {
      positive = positive s d (apart legal.bus);
      queued_first = queued_first s d (apart legal.bus);
      alone = alone s d (apart legal.bus);
      never_idle = never_idle legal.bus;
      in_order = in_order;
    }

  module _ (controllers : Controllers) (own : ℕ) (legal : IsLegalInAnyOrderWithErrors s controllers d) where
    abbrev units : Controllers
    units = damage_ordered s controllers own

    buffered : (p q : ℕ) → p < (all s d).count → q < (all s d).count → (all s d).start q < (all s d).now → Waits (all s d) p ((all s d).start q)
        → Takes s d controllers units (units_stay s controllers own) (λ u. refl) p q
    buffered p q in_p in_q seen waits = elim (frame_or_least s d q in_q) [
      | inr least ↦ first_of_all s d controllers units (units_stay s controllers own) (λ u. refl) p q in_p waits least
      | inl is_q ↦
          let (is_p, early, waiting) = both_frames s d (apart legal.bus) p q in_p is_q seen waits in
          taken s d controllers units (units_stay s controllers own) (λ u. refl) p q is_p is_q (legal.in_order p q is_p.below is_q.below early waiting)
    ]

    pub legal_in_any_order_with_errors : IsLegalInAnyOrder (with_errors s d) (damage_ordered s controllers own)
    legal_in_any_order_with_errors = record {
      positive = positive s d (apart legal.bus);
      queued_first = queued_first s d (apart legal.bus);
      alone = alone s d (apart legal.bus);
      never_idle = never_idle legal.bus;
      in_order = buffered;
    }
