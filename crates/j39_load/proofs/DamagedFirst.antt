-- A bus on which frames of one identifier come a step apart, of which the first is damaged once, or waits for one that is left half sent: it is
-- legal, whoever keeps order.
use Rattle.std.proofs.Common.{◌≡◌, ℕ, zero, suc, ◌+◌, ◌*◌, ◌<◌, ◌≤◌, ◌⊎◌, Bool, refl, inl, inr, arith}
use Rattle.std.proofs.Math.Nat.{mul-le-mul_left}
use Rattle.std.proofs.lemmas.Bool.{cases_lt}
use Rattle.j39_timing.specs.AnyOrder.{Controllers}
use Rattle.j39_timing.specs.Errors.{Damaged, IsBusWithErrors, IsDamagedAt, IsLegalInAnyOrderWithErrors, IsLegalWithErrors}
use Rattle.j39_timing.specs.FrameBits.{error_frame, longest_frame}
use Rattle.j39_timing.specs.TimedFrames.{IsOnBusAt, Schedule, Waits}

-- where frames go by their identifiers alone units may keep order or not: each takes part with the frame that is asked
pub any_order : (s : Schedule) (d : Damaged) → IsLegalWithErrors s d → (controllers : Controllers) → IsLegalInAnyOrderWithErrors s controllers d
any_order s d legal controllers = record {
  bus = legal.bus;
  in_order = λ p q in_p in_q seen waits.
      (p, (in_p, refl, (let first = waits.0 in omega (arith, first), waits.1), λ _. refl), legal.in_order p q in_p in_q seen waits);
  in_order_damaged = λ p e in_p in_e sent_again seen waits.
      (p, (in_p, refl, (let first = waits.0 in omega (arith, first), waits.1), λ _. refl), legal.in_order_damaged p e in_p in_e sent_again seen waits);
}

-- so many frames of this length, each queued so late behind its release
module _ (n step jitter bits ident : ℕ) (some : 1 ≤ bits) (room : bits + bits + 31 ≤ step) where
  -- the first waits for the attempt that is damaged
  abbrev pub first_wait : ℕ → ℕ
  first_wait zero = bits + 31
  first_wait (suc p) = 0

  abbrev pub frames : Schedule
  frames = record {
    count = suc n;
    queued = λ p. p * step + jitter;
    start = λ p. p * step + jitter + first_wait p;
    bits = λ p. bits;
    ident = λ p. ident;
    now = suc n * step + jitter;
  }

  few_wait : (p : ℕ) → first_wait p ≤ bits + 31
  few_wait zero = omega arith
  few_wait (suc p) = omega arith

  step_behind : (p q : ℕ) → p < q → p * step + step ≤ q * step
  step_behind p q less =
      let more : step * (p + 1) ≤ step * q = mul-le-mul_left step (omega (arith, less)) in
      omega (arith, more)

  -- no bit is one of two frames
  not_both : (p q t : ℕ) → p < q → IsOnBusAt frames p t → IsOnBusAt frames q t → ⊥
  not_both p q t less on_p on_q =
      let behind = step_behind p q less in
      let few = few_wait p in
      let ends : t < p * step + jitter + first_wait p + bits = on_p.1 in
      let begins : q * step + jitter + first_wait q ≤ t = on_q.0 in
      omega (arith, behind, few, ends, begins, room)

  alone : (p q t : ℕ) → IsOnBusAt frames p t → IsOnBusAt frames q t → p ≡ q
  alone p q t on_p on_q = elim (cases_lt p q) [
    | inl less ↦ absurd (not_both p q t less on_p on_q)
    | inr more ↦ elim (cases_lt q p) [
      | inl less ↦ absurd (not_both q p t less on_q on_p)
      | inr least ↦ omega (arith, more, least)
    ]
  ]

  -- the attempt that is damaged is of the first frame, or one that another unit leaves half sent
  module _ (half_sent : Bool) (few : bits ≤ longest_frame 8) where
    abbrev pub damage : Damaged
    damage = record { count = 1; frame = λ e. 0; begin = λ e. jitter; sent = λ e. bits; error = λ e. error_frame; lost = λ e. half_sent }

    none_of_both : (p e t : ℕ) → IsOnBusAt frames p t → IsDamagedAt damage e t → ⊥
    none_of_both zero e t on hurt = let begins = on.0 in let ends = hurt.1 in omega (arith, begins, ends)
    none_of_both (suc p) e t on hurt =
        let behind = step_behind 0 (suc p) (omega arith) in
        let begins : suc p * step + jitter + 0 ≤ t = on.0 in
        let ends : t < jitter + (bits + error_frame) = hurt.1 in
        omega (arith, behind, begins, ends, room)

    never_idle : (p t : ℕ) → p < suc n → Waits frames p t → ((q : ℕ) × (q < suc n) × IsOnBusAt frames q t) ⊎ ((e : ℕ) × (e < 1) × IsDamagedAt damage e t)
    never_idle zero t in_p waits =
        let queued : 0 * step + jitter < t = waits.0 in
        let before : t ≤ 0 * step + jitter + (bits + 31) = waits.1 in
        elim (cases_lt t (jitter + (bits + 31))) [
          | inl less ↦ inr (0, omega arith, (omega (arith, queued), omega (arith, less)))
          | inr more ↦ inl (0, in_p, (omega (arith, more), omega (arith, before, some)))
        ]
    never_idle (suc p) t in_p waits =
        let queued : suc p * step + jitter < t = waits.0 in
        let before : t ≤ suc p * step + jitter + 0 = waits.1 in
        absurd (omega (arith, queued, before))

    bus : IsBusWithErrors frames damage
    bus = record {
      positive = λ p in_p. some;
      queued_first = λ p in_p. omega arith;
      known = λ e in_e sent_again. omega arith;
      ready = λ e in_e sent_again. omega arith;
      some_sent = λ e in_e. some;
      sent_at_most = λ e in_e sent_again. omega arith;
      lost_at_most = λ e in_e lost. few;
      some_error = λ e in_e. omega arith;
      error_at_most = λ e in_e. omega arith;
      again = λ e in_e sent_again. omega arith;
      alone = λ p q t in_p in_q seen on_p on_q. alone p q t on_p on_q;
      alone_damaged = λ e f t in_e in_f seen hurt_e hurt_f. omega (arith, in_e, in_f);
      none_of_both = λ p e t in_p in_e seen on hurt. none_of_both p e t on hurt;
      never_idle = λ p t in_p seen waits. never_idle p t in_p waits;
    }

    pub legal : IsLegalWithErrors frames damage
    legal = record {
      bus = bus;
      in_order = λ p q in_p in_q seen waits. omega arith;
      in_order_damaged = λ p e in_p in_e sent_again seen waits. omega arith;
    }
