-- Streams on a bus that keep their period, or their pause, are not reported.
use Rattle.std.proofs.Common.{◌≡◌, ◌≢◌, ℕ, zero, suc, ◌+◌, ◌-◌, ◌*◌, ◌<◌, ◌≤◌, ◌⊎◌, Bool, false, ◌&&◌, ltb, refl, subst, sym, ap, ◌∙◌, arith, inl, inr, Option}
use Rattle.std.proofs.Common.{Some}
use Rattle.std.proofs.Math.Nat.{mul-le-mul_left}
use Rattle.std.proofs.lemmas.Bool.{and_from, and_parts, cases_eq, cases_lt, lt-ltb, ltb-true}
use Rattle.j39_timing.specs.Messages.{frame_end}
use Rattle.j39_timing.specs.TimedFrames.{Schedule}
use Rattle.j39_audit.specs.declared.window.Window.{Window}
use Rattle.j39_audit.specs.Near.{is_too_near}
use Rattle.j39_audit.specs.Silence.{is_silent}
use Rattle.j39_audit_laws.specs.Stepping.{AreStepsApart, AreMomentsWithin}
use Rattle.j39_audit_laws.specs.LogBounds.{IsTimedBound, Lines}
use Rattle.j39_audit_laws.specs.MarkRecords.{IsMarkOf, KeepsTime}
use Rattle.j39_audit_laws.specs.StreamRecords.{AreBounds, AreLines, AreMsApart, AreReleasedFirst, HaveJitter}
use Rattle.j39_audit_laws.specs.StreamRecords.{IsBoundByFrame, IsBoundFrom, IsOneAtATime, KeepsMs}
use Rattle.j39_audit_laws.specs.Pausing.{ComesInTime}
use Rattle.j39_audit_laws.proofs.KeptPauses.{kept_pauses_are_not_silent}
use Rattle.j39_audit_laws.proofs.Near.{kept_steps_are_not_near}

-- ---- times of bits

difference : (us a b : ℕ) → a ≤ b → us * (b - a) + us * a ≡ us * b
difference us a b less =
    let whole : (b - a) + a ≡ b = omega (arith, less) in
    let sum : us * (b - a) + us * a ≡ us * ((b - a) + a) = omega arith in
    sum ∙ ap (λ (k : ℕ). us * k) whole

pub rises : (us : ℕ) (clock : ℕ → ℕ) → KeepsTime us clock → (a b : ℕ) → a ≤ b → clock a ≤ clock b
rises us clock keeps a b less = let slow = (keeps a b less).0 in omega (arith, slow)

-- what lies within so many microseconds by the bus does by the clock, but for a thousandth
pub at_most : (us : ℕ) (clock : ℕ → ℕ) → KeepsTime us clock → (a b more : ℕ) → a ≤ b → b * us ≤ a * us + more → clock b ≤ clock a + 1001 * more
at_most us clock keeps a b more less within =
    let quick = (keeps a b less).1 in
    let whole = difference us a b less in
    omega (arith, quick, whole, within)

-- no frame ends behind the bound of its line's time
pub timed_before : (s : Schedule) (log : Lines) (of bound : ℕ) → IsTimedBound s log of bound → log.clock (frame_end s of) ≤ 1000 * bound
timed_before s log of bound timed =
    let at = timed.at.1 in
    omega (arith, at, timed.is)

at_least : (us : ℕ) (clock : ℕ → ℕ) → KeepsTime us clock → (a b more : ℕ) → a * us + more ≤ b * us → a ≤ b → clock a + 999 * more ≤ clock b
at_least us clock keeps a b more behind less =
    let slow = (keeps a b less).0 in
    let whole = difference us a b less in
    omega (arith, slow, whole, behind)

-- who is later by the bits' microseconds is later, or at the same bit
not_before : (us a b more : ℕ) → a * us + more ≤ b * us → (a ≤ b) ⊎ ((b ≤ a) × (more ≡ 0))
not_before us a b more behind = elim (cases_lt b a) [
  | inr less ↦ inl less
  | inl more_bits ↦
      let times : us * b ≤ us * a = mul-le-mul_left us (omega (arith, more_bits)) in
      inr (omega (arith, more_bits), omega (arith, times, behind))
]

-- ---- frames in the order of their ends

module _ (s : Schedule) (one : IsOneAtATime s) where
  started : (f p : ℕ) → f < s.count → p < s.count → frame_end s f ≤ s.now → frame_end s f ≤ frame_end s p → s.start f ≤ s.start p
  started f p in_f in_p ended later = elim (cases_lt (s.start p) (s.start f)) [
    | inr fine ↦ fine
    | inl before ↦
        let some = one.positive f in_f in
        let same : p ≡ f = one.alone p f (s.start f) in_p in_f (omega (arith, some, ended)) (omega (arith, before), omega (arith, some, later))
        (omega arith, omega (arith, some)) in
        let start = ap s.start same in
        absurd (omega (arith, start, before))
  ]

  pub bound_by_mark_here : (us jitter : ℕ) (clock : ℕ → ℕ) (is_message : ℕ → Bool) (release : ℕ → ℕ) (g f mark : ℕ)
      → KeepsTime us clock → AreReleasedFirst s is_message release → HaveJitter s us jitter is_message release
      → g < s.count → frame_end s g ≤ s.now → frame_end s g ≤ frame_end s f → IsMarkOf s clock g mark
      → IsBoundFrom s clock is_message release f (mark - 1001 * jitter)
  bound_by_mark_here us jitter clock is_message release g f mark keeps first late in_g ended order is p in_p message later =
      let begun = started g p in_g in_p ended (omega (arith, order, later)) in
      let queued : 1000 * mark ≤ clock (s.queued p) = is p in_p begun in
      let since = at_most us clock keeps (release p) (s.queued p) (1000 * jitter) (first p in_p message) (late p in_p message) in
      omega (arith, queued, since)

pub bound_by_mark : (s : Schedule) (us jitter : ℕ) (clock : ℕ → ℕ) (is_message : ℕ → Bool) (release : ℕ → ℕ) (g f mark : ℕ)
    → IsOneAtATime s → KeepsTime us clock → AreReleasedFirst s is_message release → HaveJitter s us jitter is_message release
    → g < s.count → frame_end s g ≤ s.now → frame_end s g ≤ frame_end s f → IsMarkOf s clock g mark
    → IsBoundFrom s clock is_message release f (mark - 1001 * jitter)
bound_by_mark s us jitter clock is_message release g f mark one = bound_by_mark_here s one us jitter clock is_message release g f mark

-- ---- lines in order

in_order : (s : Schedule) (n : ℕ) (is_message : ℕ → Bool) (frame : ℕ → ℕ) → AreLines s is_message n frame → (k j : ℕ) → k ≤ j → j < n
    → frame_end s (frame k) ≤ frame_end s (frame j)
in_order s n is_message frame lines k j up inside = elim (cases_eq k j) [
  | inl same ↦ let at = ap (λ (l : ℕ). frame_end s (frame l)) same in omega (arith, at)
  | inr other ↦ let less = lines.in_turn k j (omega (arith, up, other)) inside in omega (arith, less)
]

-- ---- near

pub kept_periods : (s : Schedule) (us period n : ℕ) (clock : ℕ → ℕ) (is_message : ℕ → Bool) (release frame : ℕ → ℕ) (windows : ℕ → Window)
    → IsOneAtATime s → KeepsTime us clock → AreReleasedFirst s is_message release → AreMsApart s us period is_message release
    → AreLines s is_message n frame → AreBounds s clock is_message release n frame windows
    → (j : ℕ) → j < n → is_too_near (999 * period) windows j ≡ false
kept_periods s us period n clock is_message release frame windows one keeps first apart lines bounds =
    let order = in_order s n is_message frame lines in
    let within : AreMomentsWithin n windows (λ k. clock (release (frame k))) = record {
      from_lower = λ i k x up inside is.
          bounds.lower i x (omega (arith, up, inside)) is (frame k) (lines.known k inside) (lines.message k inside) (order i k up inside);
      to_upper = λ k j up inside.
          let in_k : k < n = omega (arith, up, inside) in
          let known = lines.known k in_k in
          let before = first (frame k) known (lines.message k in_k) in
          let queued = one.queued_first (frame k) known in
          let ends = order k j up inside in
          let rise = rises us clock keeps (release (frame k)) (frame_end s (frame j)) (omega (arith, before, queued, ends)) in
          let most = bounds.upper j inside in
          omega (arith, rise, most);
    } in
    let steps : (a b : ℕ) → a * us + 1000 * period ≤ b * us → (clock a + 1000 * (999 * period) ≤ clock b)
    ⊎ (clock b + 1000 * (999 * period) ≤ clock a) = λ a b behind.
    elim (not_before us a b (1000 * period) behind) [
      | inl less ↦ let far = at_least us clock keeps a b (1000 * period) behind less in inl (omega (arith, far))
      | inr none ↦
          let (back, nothing) = none in
          let rise = rises us clock keeps b a back in
          inr (omega (arith, rise, nothing))
    ] in
    let apart_by_clock : AreStepsApart n (999 * period) (λ k. clock (release (frame k))) = λ i j less inside.
    let in_i : i < n = omega (arith, less, inside) in
    let differ : frame i ≢ frame j = λ same. let at = ap (frame_end s) same in let turn = lines.in_turn i j less inside in omega (arith, at, turn) in
    elim (apart (frame i) (frame j) (lines.known i in_i) (lines.known j inside) differ (lines.message i in_i) (lines.message j inside)) [
      | inl behind ↦ steps (release (frame i)) (release (frame j)) behind
      | inr behind ↦ elim (steps (release (frame j)) (release (frame i)) behind) [ inl far ↦ inr far | inr far ↦ inl far ]
    ] in
    kept_steps_are_not_near (999 * period) windows n (λ k. clock (release (frame k))) within apart_by_clock

-- ---- silent

-- the last bit from one to another at which the clock isn't later than a time
bit_at : (clock : ℕ → ℕ) (from n t : ℕ) → clock from ≤ t
    → (b : ℕ) × (from ≤ b) × (b ≤ from + n) × (clock b ≤ t) × ((b ≡ from + n) ⊎ (t < clock (suc b)))
bit_at clock from zero t begun = (from, omega arith, omega arith, begun, inl (omega arith))
bit_at clock from (suc n) t begun =
    let (b, since, until, not_late, last) = bit_at clock from n t begun in
    elim last [
      | inr less ↦ (b, since, omega (arith, until), not_late, inr less)
      | inl end ↦ elim (cases_lt t (clock (from + suc n))) [
        | inl less ↦
            let next : suc b ≡ from + suc n = omega (arith, end) in
            (b, since, omega (arith, until), not_late, inr (subst (λ (k : ℕ). t < clock k) (sym next) less))
        | inr up ↦ (from + suc n, omega arith, omega arith, up, inl refl)
      ]
    ]

-- a stretch of bits that is shorter than so many whole milliseconds is so by a bit
whole_bits : (us bits_of_ms m pause : ℕ) → us * bits_of_ms ≡ 1000 → us * m < 1000 * pause → us * suc m ≤ 1000 * pause
whole_bits us bits_of_ms m pause parts less =
    let together : (us * bits_of_ms) * pause ≡ 1000 * pause = ap (λ (k : ℕ). k * pause) parts in
    let regrouped : us * (bits_of_ms * pause) ≡ (us * bits_of_ms) * pause = omega arith in
    elim (cases_lt m (bits_of_ms * pause)) [
      | inl inside ↦ let up : us * suc m ≤ us * (bits_of_ms * pause) = mul-le-mul_left us inside in omega (arith, up, together, regrouped)
      | inr beyond ↦ let up : us * (bits_of_ms * pause) ≤ us * m = mul-le-mul_left us beyond in absurd (omega (arith, up, together, regrouped, less))
    ]

coming : (s : Schedule) (us bits_of_ms pause from to : ℕ) (clock : ℕ → ℕ) (is_message : ℕ → Bool) (release : ℕ → ℕ) → us * bits_of_ms ≡ 1000
    → KeepsTime us clock → KeepsMs s us pause is_message release from to → from ≤ to
    → ComesInTime (λ p. ltb p s.count && is_message p) (1001 * pause) (λ p. clock (release p)) (clock from) (clock to)
coming s us bits_of_ms pause from to clock is_message release parts keeps comes order t since until =
    let (b, low, high, not_late, last) = bit_at clock from (to - from) t since in
    let (p, in_p, message, before, near) = comes b low (omega (arith, high, order)) in
    let rise = rises us clock keeps (release p) b before in
    let whole = difference us (release p) b before in
    let short : us * (b - release p) < 1000 * pause = omega (arith, whole, near) in
    let bit : us * suc (b - release p) ≤ 1000 * pause = whole_bits us bits_of_ms (b - release p) pause parts short in
    let within : t < clock (release p) + 1000 * (1001 * pause) = elim last [
      | inl end ↦
          let at : clock b ≡ clock to = ap clock (omega (arith, end, order)) in
          let quick = (keeps (release p) b before).1 in
          omega (arith, until, at, quick, short)
      | inr less ↦
          let quick = (keeps (release p) (suc b) (omega (arith, before))).1 in
          let bits : suc b - release p ≡ suc (b - release p) = omega (arith, before) in
          let same : us * (suc b - release p) ≡ us * suc (b - release p) = ap (λ (k : ℕ). us * k) bits in
          omega (arith, less, quick, same, bit)
    ] in
    (p, and_from (ltb p s.count) (is_message p) (lt-ltb p s.count in_p) message, omega (arith, rise, not_late), within)

pub kept_coming : (s : Schedule) (us bits_of_ms pause from to n : ℕ) (clock : ℕ → ℕ) (is_message : ℕ → Bool) (release frame : ℕ → ℕ)
    (windows : ℕ → Window) → IsOneAtATime s → us * bits_of_ms ≡ 1000 → KeepsTime us clock → AreReleasedFirst s is_message release
    → KeepsMs s us pause is_message release from to → from ≤ to
    → AreLines s is_message n frame → AreBounds s clock is_message release n frame windows → from ≤ frame_end s (frame 0)
    → (j : ℕ) → j ≤ n → (lower : Option ℕ)
    → ((x : ℕ) → lower ≡ Some x → IsBoundByFrame s clock is_message release frame to j x)
    → is_silent (1001 * pause) windows j lower ≡ false
kept_coming s us bits_of_ms pause from to n clock is_message release frame windows one parts keeps first comes order lines bounds begun j inside lower is =
    let moment : ℕ → ℕ = λ p. clock (release p) in
    let ends = in_order s n is_message frame lines in
    kept_pauses_are_not_silent (λ p. ltb p s.count && is_message p) (1001 * pause) (clock from) (clock to) frame moment windows
    (coming s us bits_of_ms pause from to clock is_message release parts keeps comes order) j
    (λ i before.
    let in_i : i < n = omega (arith, before, inside) in
    let since = ends 0 i (omega arith) in_i in
    let rise = rises us clock keeps from (frame_end s (frame i)) (omega (arith, begun, since)) in
    let most = bounds.upper i in_i in
    omega (arith, rise, most)) lower
    (λ x at.
    let bound = is x at in (
      bound.until,
      λ i p before message.
          let (known, its) = and_parts (ltb p s.count) (is_message p) message in
          let in_p = ltb-true p s.count known in
          let in_i : i < n = omega (arith, before, inside) in
          elim (cases_lt (frame_end s (frame i)) (frame_end s p)) [
            | inr early ↦
                let released = first p in_p its in
                let queued = one.queued_first p in_p in
                let rise = rises us clock keeps (release p) (frame_end s (frame i)) (omega (arith, released, queued, early)) in
                let most = bounds.upper i in_i in
                inl (omega (arith, rise, most))
            | inl later ↦ elim (cases_lt (frame_end s p) (frame_end s bound.of)) [
              | inr behind ↦ inr (inl (bound.is p in_p its behind))
              | inl ahead ↦
                  let since = ends 0 i (omega arith) in_i in
                  let (k, inside_k, same) = bound.all_before p in_p its (omega (arith, since, later)) ahead in
                  let at_k = ap (frame_end s) same in
                  inr (inr (
                    k,
                    elim (cases_lt i k) [
                      | inl less ↦ less
                      | inr up ↦ let back = ends k i up in_i in absurd (omega (arith, back, at_k, later))
                    ],
                    inside_k,
                    same,
                  ))
            ]
          ],
    ))
