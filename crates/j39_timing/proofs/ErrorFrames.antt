-- Damaged attempts and error frames as frames of one schedule: what stands at a place of it, what is on the bus, and what waits.
use Rattle.std.proofs.Common.{◌≡◌, ℕ, ◌+◌, ◌-◌, ◌<◌, ◌≤◌, ◌⊎◌, ◌∙◌, true, refl, sym, subst, arith, inl, inr}
use Rattle.std.proofs.lemmas.Bool.{cases_lt, le-ltb, lt-ltb}
use Rattle.j39_timing.specs.TimedFrames.{Schedule, IsOnBusAt, Waits}
use Rattle.j39_timing.specs.AnyOrder.{Controllers, IsFromOrdered, MayArbitrate}
use Rattle.j39_timing.specs.Errors.{AreAttemptsApart, Damaged, IsDamagedAt, at_place, with_errors}

module _ (s : Schedule) (d : Damaged) where
  abbrev pub all : Schedule
  all = with_errors s d

  -- what stands at a place: a frame, an attempt, or the error frame behind it
  pub record IsFrame (p : ℕ) : Type 0 where
    pub below : p < s.count
    pub queued : all.queued p ≡ s.queued p
    pub start : all.start p ≡ s.start p
    pub bits : all.bits p ≡ s.bits p
    pub ident : all.ident p ≡ s.ident p

  pub record IsAttempt (p e : ℕ) : Type 0 where
    pub below : e < d.count
    pub place : p ≡ s.count + e
    pub queued : all.queued p ≡ d.begin e
    pub start : all.start p ≡ d.begin e
    pub bits : all.bits p ≡ d.sent e
    pub ident : all.ident p ≡ 0

  pub record IsError (p e : ℕ) : Type 0 where
    pub below : e < d.count
    pub place : p ≡ s.count + (d.count + e)
    pub queued : all.queued p ≡ d.begin e
    pub start : all.start p ≡ d.begin e + d.sent e
    pub bits : all.bits p ≡ d.error e
    pub ident : all.ident p ≡ 0

  pub frame_at : (p : ℕ) → p < s.count → IsFrame p
  frame_at p below =
      let front = lt-ltb p s.count below in
      record {
        below = below;
        queued = rw (front) refl;
        start = rw (front) refl;
        bits = rw (front) refl;
        ident = rw (front) refl;
      }

  -- what is reported of an attempt stands at its place, and what is reported of its error frame at that
  pub attempt_stated : (frame attempt error : ℕ → ℕ) (e : ℕ) → e < d.count → at_place s d frame attempt error (s.count + e) ≡ attempt e
  attempt_stated frame attempt error e below =
      let behind = le-ltb (s.count + e) s.count (omega arith) in
      let back : s.count + e - s.count ≡ e = omega arith in
      let front = lt-ltb e d.count below in
      rw (behind, back, front) refl

  pub error_stated : (frame attempt error : ℕ → ℕ) (e : ℕ) → e < d.count → at_place s d frame attempt error (s.count + (d.count + e)) ≡ error e
  error_stated frame attempt error e below =
      let behind = le-ltb (s.count + (d.count + e)) s.count (omega arith) in
      let back : s.count + (d.count + e) - s.count ≡ d.count + e = omega arith in
      let later = le-ltb (d.count + e) d.count (omega arith) in
      let last : d.count + e - d.count ≡ e = omega arith in
      rw (behind, back, later, last) refl

  pub attempt_at : (e : ℕ) → e < d.count → IsAttempt (s.count + e) e
  attempt_at e below = record {
    below = below;
    place = refl;
    queued = attempt_stated s.queued d.begin d.begin e below;
    start = attempt_stated s.start d.begin (λ e. d.begin e + d.sent e) e below;
    bits = attempt_stated s.bits d.sent d.error e below;
    ident = attempt_stated s.ident (λ e. 0) (λ e. 0) e below;
  }

  pub error_at : (e : ℕ) → e < d.count → IsError (s.count + (d.count + e)) e
  error_at e below = record {
    below = below;
    place = refl;
    queued = error_stated s.queued d.begin d.begin e below;
    start = error_stated s.start d.begin (λ e. d.begin e + d.sent e) e below;
    bits = error_stated s.bits d.sent d.error e below;
    ident = error_stated s.ident (λ e. 0) (λ e. 0) e below;
  }

  pub kinds : (p : ℕ) → p < all.count → IsFrame p ⊎ (((e : ℕ) × IsAttempt p e) ⊎ ((e : ℕ) × IsError p e))
  kinds p below = elim (cases_lt p s.count) [
    | inl front ↦ inl (frame_at p front)
    | inr behind ↦ elim (cases_lt (p - s.count) d.count) [
      | inl first ↦
          let is : s.count + (p - s.count) ≡ p = omega arith in
          inr (inl (p - s.count, subst (λ n. IsAttempt n (p - s.count)) is (attempt_at (p - s.count) first)))
      | inr second ↦
          let is : s.count + (d.count + (p - s.count - d.count)) ≡ p = omega arith in
          inr (inr (p - s.count - d.count, subst (λ n. IsError n (p - s.count - d.count)) is (error_at (p - s.count - d.count) (omega arith))))
    ]
  ]

  pub frame_or_least : (q : ℕ) → q < all.count → IsFrame q ⊎ (all.ident q ≡ 0)
  frame_or_least q below = elim (kinds q below) [
    | inl is ↦ inl is
    | inr this ↦ elim this [
      | inl it ↦ inr it.1.ident
      | inr it ↦ inr it.1.ident
    ]
  ]

  -- ---- what is on the bus

  pub as_frame : (p t : ℕ) → IsFrame p → IsOnBusAt all p t → IsOnBusAt s p t
  as_frame p t is on =
      let start = is.start in
      let bits = is.bits in
      (omega (arith, on.0, start), omega (arith, on.1, start, bits))

  as_attempt : (p e t : ℕ) → IsAttempt p e → IsOnBusAt all p t → (d.begin e ≤ t) × (t < d.begin e + d.sent e)
  as_attempt p e t is on =
      let start = is.start in
      let bits = is.bits in
      (omega (arith, on.0, start), omega (arith, on.1, start, bits))

  as_error : (p e t : ℕ) → IsError p e → IsOnBusAt all p t → (d.begin e + d.sent e ≤ t) × (t < d.begin e + (d.sent e + d.error e))
  as_error p e t is on =
      let start = is.start in
      let bits = is.bits in
      (omega (arith, on.0, start), omega (arith, on.1, start, bits))

  -- a part of an attempt or of its error frame: which one, and of which attempt
  record IsPart (p t : ℕ) : Type 0 where
    pub attempt : ℕ
    pub below : attempt < d.count
    pub damaged : IsDamagedAt d attempt t
    pub kind : ((p ≡ s.count + attempt) × (t < d.begin attempt + d.sent attempt))
        ⊎ ((p ≡ s.count + (d.count + attempt)) × (d.begin attempt + d.sent attempt ≤ t))

  part_of_attempt : (p e t : ℕ) → IsAttempt p e → IsOnBusAt all p t → IsPart p t
  part_of_attempt p e t is on =
      let (low, high) = as_attempt p e t is on in
      record { attempt = e; below = is.below; damaged = (low, omega (arith, high)); kind = inl (is.place, high) }

  part_of_error : (p e t : ℕ) → IsError p e → IsOnBusAt all p t → IsPart p t
  part_of_error p e t is on =
      let (low, high) = as_error p e t is on in
      record { attempt = e; below = is.below; damaged = (omega (arith, low), high); kind = inr (is.place, low) }

  on_bus : (p t : ℕ) → p < all.count → IsOnBusAt all p t → (IsFrame p) ⊎ (IsPart p t)
  on_bus p t in_p on = elim (kinds p in_p) [
    | inl is ↦ inl is
    | inr this ↦ elim this [
      | inl it ↦ inr (part_of_attempt p it.0 t it.1 on)
      | inr it ↦ inr (part_of_error p it.0 t it.1 on)
    ]
  ]

  abbrev pub OnBus : ℕ → Type 0
  OnBus t = (q : ℕ) × (q < all.count) × IsOnBusAt all q t

  pub frame_on_bus : (q t : ℕ) → q < s.count → IsOnBusAt s q t → OnBus t
  frame_on_bus q t below on =
      let is = frame_at q below in
      let start = is.start in
      let bits = is.bits in
      (q, omega arith, (omega (arith, on.0, start), omega (arith, on.1, start, bits)))

  pub damaged_on_bus : (e t : ℕ) → e < d.count → IsDamagedAt d e t → OnBus t
  damaged_on_bus e t below on = elim (cases_lt t (d.begin e + d.sent e)) [
    | inl first ↦
        let is = attempt_at e below in
        let start = is.start in
        let bits = is.bits in
        (s.count + e, omega arith, (omega (arith, on.0, start), omega (arith, first, start, bits)))
    | inr second ↦
        let is = error_at e below in
        let start = is.start in
        let bits = is.bits in
        (s.count + (d.count + e), omega arith, (omega (arith, second, start), omega (arith, on.1, start, bits)))
  ]

  -- ---- what waits

  pub as_waiting : (p t : ℕ) → IsFrame p → Waits all p t → Waits s p t
  as_waiting p t is waits =
      let queued = is.queued in
      let start = is.start in
      (omega (arith, waits.0, queued), omega (arith, waits.1, start))

  -- an attempt never waits
  pub attempt_waits : (p e t : ℕ) → IsAttempt p e → Waits all p t → ⊥
  attempt_waits p e t is waits =
      let queued = is.queued in
      let start = is.start in
      omega (arith, waits.0, waits.1, queued, start)

  module _ (apart : AreAttemptsApart s d) where
    same_part : (p q t : ℕ) → t < s.now → IsPart p t → IsPart q t → p ≡ q
    same_part p q t seen of_p of_q =
        let same : of_p.attempt ≡ of_q.attempt =
        apart.alone_damaged of_p.attempt of_q.attempt t of_p.below of_q.below seen of_p.damaged of_q.damaged in
        let at : ℕ = of_p.attempt in
        let kind_q : ((q ≡ s.count + at) × (t < d.begin at + d.sent at)) ⊎ ((q ≡ s.count + (d.count + at)) × (d.begin at + d.sent at ≤ t)) =
        subst (λ e. ((q ≡ s.count + e) × (t < d.begin e + d.sent e)) ⊎ ((q ≡ s.count + (d.count + e)) × (d.begin e + d.sent e ≤ t))) (sym same) of_q.kind in
        elim of_p.kind [
          | inl first ↦ elim kind_q [
            | inl also ↦ first.0 ∙ sym also.0
            | inr behind ↦ absurd (let early = first.1 in let late = behind.1 in omega (arith, early, late))
          ]
          | inr second ↦ elim kind_q [
            | inl before ↦ absurd (let late = second.1 in let early = before.1 in omega (arith, early, late))
            | inr also ↦ second.0 ∙ sym also.0
          ]
        ]

    pub alone : (p q t : ℕ) → p < all.count → q < all.count → t < all.now → IsOnBusAt all p t → IsOnBusAt all q t → p ≡ q
    alone p q t in_p in_q seen on_p on_q = elim (on_bus p t in_p on_p) [
      | inl is_p ↦ elim (on_bus q t in_q on_q) [
        | inl is_q ↦ apart.alone p q t is_p.below is_q.below seen (as_frame p t is_p on_p) (as_frame q t is_q on_q)
        | inr part ↦ absurd (apart.none_of_both p part.attempt t is_p.below part.below seen (as_frame p t is_p on_p) part.damaged)
      ]
      | inr part ↦ elim (on_bus q t in_q on_q) [
        | inl is_q ↦ absurd (apart.none_of_both q part.attempt t is_q.below part.below seen (as_frame q t is_q on_q) part.damaged)
        | inr other ↦ same_part p q t seen part other
      ]
    ]

    pub positive : (p : ℕ) → p < all.count → 1 ≤ all.bits p
    positive p in_p = elim (kinds p in_p) [
      | inl is ↦ let bits = is.bits in let some = apart.positive p is.below in omega (arith, bits, some)
      | inr this ↦ elim this [
        | inl it ↦ let bits = it.1.bits in let some = apart.some_sent it.0 it.1.below in omega (arith, bits, some)
        | inr it ↦ let bits = it.1.bits in let some = apart.some_error it.0 it.1.below in omega (arith, bits, some)
      ]
    ]

    pub queued_first : (p : ℕ) → p < all.count → all.queued p ≤ all.start p
    queued_first p in_p = elim (kinds p in_p) [
      | inl is ↦ let queued = is.queued in let start = is.start in let first = apart.queued_first p is.below in omega (arith, queued, start, first)
      | inr this ↦ elim this [
        | inl it ↦ let queued = it.1.queued in let start = it.1.start in omega (arith, queued, start)
        | inr it ↦ let queued = it.1.queued in let start = it.1.start in omega (arith, queued, start)
      ]
    ]

    -- and an error frame waits while the attempt before it is on the bus
    pub error_waits : (p e t : ℕ) → IsError p e → Waits all p t → IsDamagedAt d e t
    error_waits p e t is waits =
        let queued = is.queued in
        let start = is.start in
        let some = apart.some_error e is.below in
        (omega (arith, waits.0, queued), omega (arith, waits.1, start, some))

    -- nothing but an attempt or an error frame begins where an error frame waits
    frame_beside : (p q : ℕ) → p < all.count → IsFrame q → all.start q < all.now → Waits all p (all.start q) → IsFrame p
    frame_beside p q in_p is_q seen waits =
        let start = is_q.start in
        let bits = is_q.bits in
        let some = apart.positive q is_q.below in
        let on : IsOnBusAt all q (all.start q) = (omega arith, omega (arith, bits, some)) in
        elim (kinds p in_p) [
          | inl is_p ↦ is_p
          | inr this ↦ elim this [
            | inl it ↦ absurd (attempt_waits p it.0 (all.start q) it.1 waits)
            | inr it ↦ absurd (apart.none_of_both q it.0 (all.start q) is_q.below it.1.below seen (as_frame q (all.start q) is_q on)
                (error_waits p it.0 (all.start q) it.1 waits))
          ]
        ]

    -- so both are frames, and the one waits in their own schedule as the other begins there
    pub both_frames : (p q : ℕ) → p < all.count → IsFrame q → all.start q < all.now → Waits all p (all.start q)
        → IsFrame p × (s.start q < s.now) × Waits s p (s.start q)
    both_frames p q in_p is_q seen waits =
        let start = is_q.start in
        let is_p = frame_beside p q in_p is_q seen waits in
        (is_p, omega (arith, seen, start), subst (λ t. Waits s p t) start (as_waiting p (all.start q) is_p waits))

  -- units of all these, where each frame is of the unit that it was of
  module _ (controllers units : Controllers) (unit_of_frame : (p : ℕ) → p < s.count → units.unit p ≡ controllers.unit p)
      (keep_alike : (u : ℕ) → units.keeps_order u ≡ controllers.keeps_order u) where
    -- a frame's unit keeps order where it did
    ordered_of_frame : (p : ℕ) → p < s.count → IsFromOrdered units p → IsFromOrdered controllers p
    ordered_of_frame p below ordered =
        sym (keep_alike (controllers.unit p)) ∙ subst (λ u. units.keeps_order u ≡ true) (unit_of_frame p below) ordered

    abbrev pub Takes : ℕ → ℕ → Type 0
    Takes p q = (h : ℕ) × MayArbitrate all units p h (all.start q) × (all.ident q ≤ all.ident h)

    pub first_of_all : (p q : ℕ) → p < all.count → Waits all p (all.start q) → all.ident q ≡ 0 → Takes p q
    first_of_all p q in_p waits least =
        (p, (in_p, refl, (let before = waits.0 in omega (arith, before), waits.1), λ _. refl), omega (arith, least))

    pub taken : (p q : ℕ) → IsFrame p → IsFrame q → (h : ℕ) × MayArbitrate s controllers p h (s.start q) × (s.ident q ≤ s.ident h) → Takes p q
    taken p q is_p is_q (h, may, order) =
        let (in_h, unit, ready, ordered) = may in
        let start = is_q.start in
        let is_h = frame_at h in_h in
        let queued_h = is_h.queued in
        let start_h = is_h.start in
        let ident_h = is_h.ident in
        let ident_q = is_q.ident in (
          h,
          (
            omega (arith, in_h),
            unit_of_frame h in_h ∙ (unit ∙ sym (unit_of_frame p is_p.below)),
            (omega (arith, ready.0, queued_h, start), omega (arith, ready.1, start_h, start)),
            λ keeps. ordered (ordered_of_frame p is_p.below keeps),
          ),
          omega (arith, order, ident_h, ident_q),
        )
