-- Where two frames do not touch, what begins from the second one on was queued behind an idle bit before it.
use Rattle.std.proofs.Common.{◌≡◌, ℕ, suc, ◌+◌, ◌-◌, ◌*◌, ◌<◌, ◌≤◌, Bool, ◌&&◌, cond, leb, ltb, ap, arith, inl, inr}
use Rattle.std.proofs.Math.Nat.{mul-le-mul_left}
use Rattle.std.proofs.lemmas.Bool.{and_from, cases_Bool, cases_lt, le-leb, lt-ltb}
use Rattle.j39_timing.specs.Errors.{Damaged, IsBusWithErrors, IsDamagedAt}
use Rattle.j39_timing.specs.Messages.{frame_end}
use Rattle.j39_timing.specs.Sums.{total}
use Rattle.j39_timing.specs.TimedFrames.{Schedule, IsOnBusAt}
use Rattle.j39_timing.proofs.Overlaps.{covered}
use Rattle.j39_timing.proofs.Sums.{total-times}
use Rattle.j39_audit_laws.specs.MarkRecords.{AreFew, IsMarkOf, KeepsTime, ShowsIdle, attempts_in, longest_reach}

-- an attempt and its error frame
attempt_at_most : (s : Schedule) (d : Damaged) → IsBusWithErrors s d → ((p : ℕ) → p < s.count → s.bits p ≤ 160)
    → (e : ℕ) → e < d.count → d.sent e + d.error e ≤ 191
attempt_at_most s d bus short e known =
    let error = bus.error_at_most e known in
    elim (cases_Bool (d.lost e)) [
      | inl lost ↦ let sent = bus.lost_at_most e known lost in omega (arith, sent, error)
      | inr kept ↦
          let sent = bus.sent_at_most e known kept in
          let longest = short (d.frame e) (bus.known e known kept) in
          omega (arith, sent, error, longest)
    ]

module _ (s : Schedule) (d : Damaged) (bus : IsBusWithErrors s d) (at_most : (e : ℕ) → e < d.count → d.sent e + d.error e ≤ 191) (few : ℕ)
    (seldom : AreFew d few) where
  abbrev begins_in : ℕ → ℕ → Bool
  begins_in from e = leb from (d.begin e) && ltb (d.begin e) (from + 191 * suc few)

  -- so few don't fill so many bits
  not_filled : (a : ℕ) → ((t : ℕ) → t < 191 * few + 1 → (e : ℕ) × (e < d.count) × IsDamagedAt d e (a + t)) → ⊥
  not_filled a each =
      let from : ℕ = a - 190 in
      let filled : 191 * few + 1 ≤ total d.count (λ e. cond (begins_in from e) (d.sent e + d.error e) 0) =
      covered d.count d.begin (λ e. d.sent e + d.error e) (begins_in from) a (191 * few + 1) (λ t inside.
      let (e, known, on) = each t inside in
      let (begun, over) = on in
      let most = at_most e known in (
        e,
        known,
        and_from (leb from (d.begin e)) (ltb (d.begin e) (from + 191 * suc few))
            (le-leb from (d.begin e) (omega (arith, over, most)))
            (lt-ltb (d.begin e) (from + 191 * suc few) (omega (arith, begun, inside))),
        and_from (leb (d.begin e) (a + t)) (ltb (a + t) (d.begin e + (d.sent e + d.error e)))
            (le-leb (d.begin e) (a + t) begun) (lt-ltb (a + t) (d.begin e + (d.sent e + d.error e)) over),
      )) in
      let no_more : total d.count (λ e. cond (begins_in from e) (d.sent e + d.error e) 0) ≤ 191 * attempts_in d from (191 * suc few) =
      total-times d.count (begins_in from) (begins_in from) (λ e. d.sent e + d.error e) 191 (λ e known is. (is, at_most e known)) in
      let most = seldom from in
      omega (arith, filled, no_more, most)

  module _ (us within bytes : ℕ) (clock : ℕ → ℕ) (g f before time : ℕ) (fast : us ≤ 8) (keeps : KeepsTime us clock)
      (shows : ShowsIdle s us few within bytes clock g f before time) where
    -- products that the times below are made of
    few_bytes : us * bytes ≤ us * 8
    few_bytes = mul-le-mul_left us shows.short

    -- the bits between the ends are enough for the frame, one before it, and what may be damaged
    room : frame_end s g + (191 * few + 1) ≤ s.start f
    room =
        let late : 1000 * time ≤ clock (frame_end s f) + 1000 * within = shows.time_of.0 in
        let early : clock (frame_end s g) ≤ 1000 * before + 1000 * within = shows.time_before.1 in
        let apart : before + (longest_reach us bytes few + 2 * within) < time = shows.apart in
        let bits = shows.bits in
        let by_bytes = few_bytes in
        elim (cases_lt (frame_end s f) (frame_end s g + (81 + (10 * bytes + 191 * few)))) [
          | inr enough ↦ omega (arith, enough, bits)
          | inl lacks ↦ elim (cases_lt (frame_end s g) (frame_end s f)) [
            | inr behind ↦
                let (slow, quick) = keeps (frame_end s f) (frame_end s g) behind in
                absurd (omega (arith, slow, late, early, apart))
            | inl ahead ↦
                let (slow, quick) = keeps (frame_end s g) (frame_end s f) (omega (arith, ahead)) in
                let less : us * (frame_end s f - frame_end s g) ≤ us * (80 + (10 * bytes + 191 * few)) = mul-le-mul_left us (omega (arith, lacks)) in
                absurd (omega (arith, quick, less, late, early, apart, by_bytes))
          ]
        ]

    -- no frame is on the bus there
    none_there : (q t : ℕ) → q < s.count → frame_end s g ≤ t → t < s.start f → IsOnBusAt s q t → ⊥
    none_there q t known from to on =
        let next = shows.next in
        let (begun, over) = on in
        let some = bus.positive f next.known in
        let ended = next.ended in
        elim (cases_lt (frame_end s q) (frame_end s f)) [
          | inl less ↦ let most = next.none_between q known less in omega (arith, most, over, from)
          | inr more ↦
              let same : q ≡ f = bus.alone q f (s.start f) known next.known (omega (arith, some, ended)) (omega (arith, begun, to), omega (arith, more, some))
              (omega arith, omega (arith, some)) in
              let start = ap s.start same in
              omega (arith, start, begun, to)
        ]

    -- what begins from frame f on was queued behind the idle bit
    queued_behind : (p : ℕ) → p < s.count → s.start f ≤ s.start p → s.start f ≤ s.queued p + (191 * few + 1)
    queued_behind p known behind = elim (cases_lt (s.queued p + (191 * few + 1)) (s.start f)) [
      | inr enough ↦ enough
      | inl early ↦
          let next = shows.next in
          let some = bus.positive f next.known in
          let ended = next.ended in
          let free = room in
          let a : ℕ = s.start f - (191 * few + 1) in
          absurd (not_filled a (λ t inside.
          elim (bus.never_idle p (a + t) known (omega (arith, inside, free, some, ended)) (omega (arith, early), omega (arith, inside, free, behind))) [
            | inl frame ↦ let (q, is, on) = frame in absurd (none_there q (a + t) is (omega (arith, free)) (omega (arith, inside, free)) on)
            | inr attempt ↦ attempt
          ]))
    ]

    mark_is_right : IsMarkOf s clock f (time - (longest_reach us bytes few + within))
    mark_is_right p known behind =
        let late : 1000 * time ≤ clock (frame_end s f) + 1000 * within = shows.time_of.0 in
        let bits = shows.bits in
        let by_bytes = few_bytes in
        let free = room in
        let a : ℕ = s.start f - (191 * few + 1) in
        let queued = queued_behind p known behind in
        let (since, over_since) = keeps a (s.queued p) (omega (arith, queued)) in
        let (slow, quick) = keeps a (frame_end s f) (omega arith) in
        let less : us * (frame_end s f - a) ≤ us * (81 + (10 * bytes + 191 * few)) = mul-le-mul_left us (omega (arith, bits, free)) in
        omega (arith, late, since, quick, less, by_bytes, fast)

pub mark_with_errors : (s : Schedule) (d : Damaged) (us few within bytes : ℕ) (clock : ℕ → ℕ) (g f before time : ℕ) → us ≤ 8 → KeepsTime us clock
    → IsBusWithErrors s d → ((p : ℕ) → p < s.count → s.bits p ≤ 160) → AreFew d few
    → ShowsIdle s us few within bytes clock g f before time → IsMarkOf s clock f (time - (longest_reach us bytes few + within))
mark_with_errors s d us few within bytes clock g f before time fast keeps bus short seldom shows =
    mark_is_right s d bus (attempt_at_most s d bus short) few seldom us within bytes clock g f before time fast keeps shows
