-- A bus with damaged frames on which units refill a buffer is one of a schedule with refills, in which attempts and error frames are frames.
use Rattle.std.proofs.Common.{◌≡◌, ℕ, ◌+◌, ◌<◌, ◌⊎◌, ◌∙◌, refl, sym, subst, arith, inl, inr}
use Rattle.std.proofs.lemmas.Bool.{lt-ltb}
use Rattle.j39_timing.specs.AnyOrder.{Controllers}
use Rattle.j39_timing.specs.Errors.{Damaged, with_errors}
use Rattle.j39_timing.specs.TimedFrames.{Schedule, Waits}
use Rattle.j39_timing.proofs.ErrorFrames.{IsFrame, OnBus, Takes, all, alone, as_waiting, attempt_waits, both_frames, damaged_on_bus, error_at, error_stated}
use Rattle.j39_timing.proofs.ErrorFrames.{error_waits, first_of_all, frame_at, frame_on_bus, frame_or_least, kinds, positive, queued_first, taken}
use Rattle.j39_refill_laws.specs.Refill.{IsLegalWithRefill, IsRefilling}
use Rattle.j39_refill_laws.specs.RefillErrors.{IsLegalWithRefillAndErrors, MayHoldBack, error_units}

-- each frame is of the unit that it was of
pub units_with_damage : (s : Schedule) (controllers : Controllers) (d : Damaged) (own p : ℕ) → p < s.count
    → (error_units s controllers d own).unit p ≡ controllers.unit p
units_with_damage s controllers d own p below = rw (lt-ltb p s.count below) refl

module _ (s : Schedule) (controllers : Controllers) (d : Damaged) (own : ℕ) where
  abbrev units : Controllers
  units = error_units s controllers d own

  abbrev unit_of_frame : (p : ℕ) → p < s.count → units.unit p ≡ controllers.unit p
  unit_of_frame = units_with_damage s controllers d own

  unit_of_error : (e : ℕ) → e < d.count → units.unit (s.count + (d.count + e)) ≡ controllers.unit (d.frame e)
  unit_of_error e below = error_stated s d controllers.unit (λ e. own) (λ e. controllers.unit (d.frame e)) e below

  module _ (refill : ℕ → ℕ) (legal : IsLegalWithRefillAndErrors s controllers d refill) where
    -- the unit of a frame refills there behind a frame, be it an error frame
    holding : (p t : ℕ) → IsFrame s d p → MayHoldBack s controllers d refill (controllers.unit p) t → IsRefilling (all s d) units refill (units.unit p) t
    holding p t is back = let its = unit_of_frame p is.below in elim back [
      | inl behind ↦
          let at = frame_at s d behind.frame behind.inside in
          let start = at.start in
          let bits = at.bits in
          let ended = behind.ended in
          let soon : t < s.start behind.frame + s.bits behind.frame + refill (units.unit p) =
          subst (λ u. t < s.start behind.frame + s.bits behind.frame + refill u) (sym its) behind.soon in
          record {
            frame = behind.frame;
            inside = let below = behind.inside in omega (arith, below);
            its_unit = unit_of_frame behind.frame behind.inside ∙ (behind.its_unit ∙ sym its);
            ended = omega (arith, start, bits, ended);
            soon = omega (arith, start, bits, soon);
          }
      | inr behind ↦
          let at = error_at s d behind.attempt behind.inside in
          let start = at.start in
          let bits = at.bits in
          let ended = behind.ended in
          let soon : t < d.begin behind.attempt + (d.sent behind.attempt + d.error behind.attempt) + refill (units.unit p) =
          subst (λ u. t < d.begin behind.attempt + (d.sent behind.attempt + d.error behind.attempt) + refill u) (sym its) behind.soon in
          record {
            frame = s.count + (d.count + behind.attempt);
            inside = let below = behind.inside in omega (arith, below);
            its_unit = unit_of_error behind.attempt behind.inside ∙ (behind.its_unit ∙ sym its);
            ended = omega (arith, start, bits, ended);
            soon = omega (arith, start, bits, soon);
          }
    ]

    never_idle : (p t : ℕ) → p < (all s d).count → t < (all s d).now → Waits (all s d) p t
        → OnBus s d t ⊎ IsRefilling (all s d) units refill (units.unit p) t
    never_idle p t in_p seen waits = elim (kinds s d p in_p) [
      | inl is ↦ elim (legal.never_idle p t is.below seen (as_waiting s d p t is waits)) [
        | inl frame ↦ inl (frame_on_bus s d frame.0 t frame.1 frame.2)
        | inr rest ↦ elim rest [
          | inl damaged ↦ inl (damaged_on_bus s d damaged.0 t damaged.1 damaged.2)
          | inr back ↦ inr (holding p t is back)
        ]
      ]
      | inr this ↦ elim this [
        | inl it ↦ absurd (attempt_waits s d p it.0 t it.1 waits)
        | inr it ↦ inl (damaged_on_bus s d it.0 t it.1.below (error_waits s d legal.apart p it.0 t it.1 waits))
      ]
    ]

    in_order : (p q : ℕ) → p < (all s d).count → q < (all s d).count → (all s d).start q < (all s d).now → Waits (all s d) p ((all s d).start q)
        → Takes s d controllers units unit_of_frame (λ u. refl) p q ⊎ IsRefilling (all s d) units refill (units.unit p) ((all s d).start q)
    in_order p q in_p in_q seen waits = elim (frame_or_least s d q in_q) [
      | inr least ↦ inl (first_of_all s d controllers units unit_of_frame (λ u. refl) p q in_p waits least)
      | inl is_q ↦
          let start = is_q.start in
          let (is_p, early, waiting) = both_frames s d legal.apart p q in_p is_q seen waits in
          elim (legal.in_order p q is_p.below is_q.below early waiting) [
            | inl takes ↦ inl (taken s d controllers units unit_of_frame (λ u. refl) p q is_p is_q takes)
            | inr back ↦ inr (holding p ((all s d).start q) is_p (subst (λ t. MayHoldBack s controllers d refill (controllers.unit p) t) (sym start) back))
          ]
    ]

    pub legal_with_damage : IsLegalWithRefill (with_errors s d) (error_units s controllers d own) refill
    legal_with_damage = record {
      positive = positive s d legal.apart;
      queued_first = queued_first s d legal.apart;
      alone = alone s d legal.apart;
      never_idle = never_idle;
      in_order = in_order;
    }
