-- Of a stream of single frames, each of which is sent within its period, the one that has ended last has the last release.
use Rattle.std.proofs.Common.{◌≡◌, ◌≢◌, ℕ, ◌+◌, ◌-◌, ◌<◌, ◌≤◌, Bool, true, ◌&&◌, eqb, leb, ltb, refl, sym, ap, ◌∙◌, subst, arith, inl, inr}
use Rattle.std.proofs.lemmas.Bool.{and_parts, cases_lt, eq-eqb, eqb-true, leb-true, le-leb, lt-ltb, ltb-true}
use Rattle.j39_timing.specs.declared.stream.Stream.{Stream}
use Rattle.j39_timing.specs.TimedFrames.{Schedule, IsLegal, IsOnBusAt}
use Rattle.j39_timing.specs.FrameStreams.{Origins}
use Rattle.j39_timing.specs.FreshFrames.{ComeOneByOne, HasEnded, IsNewest, IsNewestFresh, KeepsComing}
use Rattle.j39_timing.specs.AnyOrder.{Controllers, IsLegalInAnyOrder}
use Rattle.j39_timing.specs.Messages.{frame_end}
use Rattle.j39_timing.specs.Traffic.{delay_of}
use Rattle.j39_timing.specs.Waits.{IsSpaced}
use Rattle.j39_timing.proofs.Searching.{greatest}

-- ---- there is a newest one

module _ (s : Schedule) (planned : ℕ → Bool) (of : Origins) (i t : ℕ) where
  abbrev ended : ℕ → Bool
  ended p = ltb p s.count && (planned p && (eqb (of.source p) i && leb (frame_end s p) t))

  is_ended : (p : ℕ) → HasEnded s planned of i t p → ended p ≡ true
  is_ended p has =
      let (inside, is, source) = has.its in
      rw (lt-ltb p s.count inside, is, source, eq-eqb i i refl, le-leb (frame_end s p) t has.ended) refl

  has_ended : (p : ℕ) → ended p ≡ true → HasEnded s planned of i t p
  has_ended p holds =
      let (inside, rest) = and_parts (ltb p s.count) (planned p && (eqb (of.source p) i && leb (frame_end s p) t)) holds in
      let (is, last) = and_parts (planned p) (eqb (of.source p) i && leb (frame_end s p) t) rest in
      let (source, over) = and_parts (eqb (of.source p) i) (leb (frame_end s p) t) last in
      record {
        its = (ltb-true p s.count inside, is, eqb-true (of.source p) i source);
        ended = leb-true (frame_end s p) t over;
      }

  pub newest : (r : ℕ) → HasEnded s planned of i t r → (p : ℕ) × IsNewest s planned of i t p
  newest r has =
      let (p, is, most) = greatest ended (frame_end s) r (is_ended r has) s.count in (
        p,
        record {
          has_ended = has_ended p is;
          last = λ q known. most q known.its.0 (is_ended q known);
        },
      )

-- ---- it has the last release

module _ (s : Schedule) (positive : (p : ℕ) → p < s.count → 1 ≤ s.bits p) (queued_first : (p : ℕ) → p < s.count → s.queued p ≤ s.start p)
    (planned : ℕ → Bool) (of : Origins) (count : ℕ) (stream : ℕ → Stream) (i wait : ℕ) (come : ComeOneByOne s planned of count stream i wait) where
  abbrev delay : ℕ
  delay = delay_of (stream i) wait

  -- a frame of the stream has the first turn
  first_turn : (p : ℕ) → p < s.count → planned p ≡ true → of.source p ≡ i → of.turn p ≡ 0
  first_turn p inside is source =
      let turns = (come.of_streams.keeps p inside is).turns in
      let here : of.turn p < (stream i).frames = subst (λ (k : ℕ). of.turn p < (stream k).frames) source turns in
      let single = come.single.0 in
      omega (arith, here, single)

  -- one that had its release before another has ended before this one ends
  before : (p r : ℕ) → p < s.count → planned p ≡ true → of.source p ≡ i → r < s.count → planned r ≡ true → of.source r ≡ i
      → of.since p < of.since r → of.since r + ((stream i).jitter + wait) < s.now → frame_end s p < frame_end s r
  before p r in_p is_p of_p in_r is_r of_r less seen =
      let other : p ≢ r = λ same. let equal = ap of.since same in omega (arith, equal, less) in
      let turn : of.turn p ≡ of.turn r = first_turn p in_p is_p of_p ∙ sym (first_turn r in_r is_r of_r) in
      let apart = come.of_streams.spaced p r in_p in_r other is_p is_r (of_p ∙ sym of_r) turn
      (subst (λ k. IsSpaced (stream k)) (sym of_p) come.single.1) in
      let late = (come.of_streams.keeps r in_r is_r).release_first in
      let begun = queued_first r in_r in
      let some = positive r in_r in
      let sent = (come.in_time p in_p is_p of_p (omega (arith, less, seen))).1 in
      let fits = come.within_period in
      elim apart [
        | inl behind ↦
            let by_period : of.since p + (stream i).period ≤ of.since r =
            subst (λ (k : ℕ). of.since p + (stream k).period ≤ of.since r) of_p behind in
            omega (arith, by_period, fits, sent, late, begun, some)
        | inr ahead ↦ absurd (omega (arith, ahead, less))
      ]

  pub newest_fresh : (pause from to : ℕ) → KeepsComing s planned of i pause from to → to + ((stream i).jitter + wait) < s.now
      → IsNewestFresh s planned of i (pause + delay) (from + delay) (to + delay)
  newest_fresh pause from to coming seen t low high =
      let (r, in_r, is_r, of_r, release, near) = coming (t - delay) (omega arith) (omega arith) in
      let sent = (come.in_time r in_r is_r of_r (omega (arith, release, high, seen))).1 in
      let over : HasEnded s planned of i t r = record { its = (in_r, is_r, of_r); ended = omega (arith, sent, release, low) } in (
        newest s planned of i t r over,
        λ p is. elim (cases_lt (of.since p) (of.since r)) [
          | inl less ↦
              let (in_p, is_p, of_p) = is.has_ended.its in
              let first = before p r in_p is_p of_p in_r is_r of_r less (omega (arith, release, high, seen)) in
              let last = is.last r over in
              absurd (omega (arith, first, last))
          | inr later ↦ omega (arith, later, near, low)
        ],
      )

pub newest_in_order : (s : Schedule) (planned : ℕ → Bool) (of : Origins) (count : ℕ) (stream : ℕ → Stream) (i wait pause from to : ℕ) → IsLegal s
    → ComeOneByOne s planned of count stream i wait → KeepsComing s planned of i pause from to → to + ((stream i).jitter + wait) < s.now
    → IsNewestFresh s planned of i (pause + delay_of (stream i) wait) (from + delay_of (stream i) wait) (to + delay_of (stream i) wait)
newest_in_order s planned of count stream i wait pause from to legal come =
    newest_fresh s legal.positive legal.queued_first planned of count stream i wait come pause from to

pub newest_in_any_order : (s : Schedule) (controllers : Controllers) (planned : ℕ → Bool) (of : Origins) (count : ℕ) (stream : ℕ → Stream)
    (i wait pause from to : ℕ) → IsLegalInAnyOrder s controllers
    → ComeOneByOne s planned of count stream i wait → KeepsComing s planned of i pause from to → to + ((stream i).jitter + wait) < s.now
    → IsNewestFresh s planned of i (pause + delay_of (stream i) wait) (from + delay_of (stream i) wait) (to + delay_of (stream i) wait)
newest_in_any_order s controllers planned of count stream i wait pause from to legal come =
    newest_fresh s legal.positive legal.queued_first planned of count stream i wait come pause from to

-- ---- there is one alone

one_newest : (s : Schedule) → ((p : ℕ) → p < s.count → 1 ≤ s.bits p)
    → ((p q t : ℕ) → p < s.count → q < s.count → t < s.now → IsOnBusAt s p t → IsOnBusAt s q t → p ≡ q)
    → (planned : ℕ → Bool) (of : Origins) (i t p q : ℕ) → t ≤ s.now → IsNewest s planned of i t p → IsNewest s planned of i t q → p ≡ q
one_newest s positive alone planned of i t p q seen first second =
    let in_p = first.has_ended.its.0 in
    let in_q = second.has_ended.its.0 in
    let some_p = positive p in_p in
    let some_q = positive q in_q in
    let over = first.has_ended.ended in
    let not_before = first.last q second.has_ended in
    let not_after = second.last p first.has_ended in
    alone p q (frame_end s p - 1) in_p in_q (omega (arith, some_p, over, seen)) (omega (arith, some_p), omega (arith, some_p))
    (omega (arith, some_q, not_before, not_after), omega (arith, some_q, not_before, not_after))

pub one_in_order : (s : Schedule) (planned : ℕ → Bool) (of : Origins) (i t p q : ℕ) → IsLegal s → t ≤ s.now
    → IsNewest s planned of i t p → IsNewest s planned of i t q → p ≡ q
one_in_order s planned of i t p q legal = one_newest s legal.positive legal.alone planned of i t p q

pub one_in_any_order : (s : Schedule) (controllers : Controllers) (planned : ℕ → Bool) (of : Origins) (i t p q : ℕ) → IsLegalInAnyOrder s controllers
    → t ≤ s.now → IsNewest s planned of i t p → IsNewest s planned of i t q → p ≡ q
one_in_any_order s controllers planned of i t p q legal = one_newest s legal.positive legal.alone planned of i t p q
