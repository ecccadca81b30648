-- What messages that are wanted of a unit can ask for in any time: what is left of the one that is under way, one message of each flow that waits,
-- and those whose releases lie in this time.
use Rattle.std.proofs.Common.{◌≡◌, ℕ, zero, suc, ◌+◌, ◌*◌, ◌<◌, ◌≤◌, ◌⊎◌, Bool, true, false, cond, ◌&&◌, eqb, ltb, leb, List, [], ◌∷◌, length, take, get_or}
use Rattle.std.proofs.Common.{sum_by, refl, sym, subst, ap, ◌∙◌, inl, inr, arith}
use Rattle.std.proofs.Math.Nat.{mul-le-mul_left}
use Rattle.std.proofs.Math.Seq.{take-suc}
use Rattle.std.proofs.lemmas.Bool.{and_parts, and_from, cases_lt, cases_eq, cases_Bool, le-leb, lt-ltb, leb-true, ltb-true, eqb-true, eq-eqb, both_ways}
use Rattle.std.proofs.lemmas.Grind.{div_ceil_times}
use Rattle.std.proofs.lemmas.List.{take_all}
use Rattle.std.proofs.lemmas.List.Sums.{sum_by-append, sum_by-cons}
use Rattle.std.specs.Int.{div_ceil}
use Rattle.j39_timing.specs.FrameStreams.{Origins}
use Rattle.j39_timing.specs.Messages.{IsOf}
use Rattle.j39_timing.specs.Sums.{total}
use Rattle.j39_timing.specs.TimedFrames.{Schedule}
use Rattle.j39_timing.specs.Traffic.{releases_in}
use Rattle.j39_timing.specs.Waits.{Demand, frames_of_want, frames_wanted}
use Rattle.j39_timing.specs.WantedMessages.{AreAnnouncements, AreFramesOfMessages, AreReleasedApart, AreWantedInTurn, HasLongest, HavePeriods, UnitMessages}
use Rattle.j39_timing.specs.WantedMessages.{WantNoMore, nothing, want_at, want_for, wanted_in}
use Rattle.j39_timing.specs.declared.wants.Want.{Want}
use Rattle.j39_timing.proofs.StreamSums.{at_most_one, inside, inside_from, inside_parts, windows_sum}
use Rattle.j39_timing.proofs.Sums.{total-le, total-none, total-times, total-two}

-- ---- sums

-- what passes, group by group
grouped : (n : ℕ) (passes : ℕ → Bool) (group weight : ℕ → ℕ) (k : ℕ) → total n (λ i. cond (passes i && ltb (group i) k) (weight i) 0)
    ≤ total k (λ g. total n (λ i. cond (passes i && eqb (group i) g) (weight i) 0))
unfolding total
grouped n passes group weight zero =
    let none : total n (λ i. cond (passes i && ltb (group i) 0) (weight i) 0) ≡ 0 =
    total-none n (λ i. cond (passes i && ltb (group i) 0) (weight i) 0) (λ i below.
    elim (cases_Bool (passes i && ltb (group i) 0)) [
      | inl is ↦ absurd (let low : group i < 0 = ltb-true (group i) 0 (and_parts (passes i) (ltb (group i) 0) is).1 in omega arith)
      | inr fails ↦ rw (fails) refl
    ]) in
    omega (arith, none)
grouped n passes group weight (suc k) =
    let before = grouped n passes group weight k in
    let parts : total n (λ i. cond (passes i && ltb (group i) (suc k)) (weight i) 0)
    ≤ total n (λ i. cond (passes i && ltb (group i) k) (weight i) 0) + total n (λ i. cond (passes i && eqb (group i) k) (weight i) 0) =
    total-two n (λ i. cond (passes i && ltb (group i) (suc k)) (weight i) 0) (λ i. cond (passes i && ltb (group i) k) (weight i) 0)
    (λ i. cond (passes i && eqb (group i) k) (weight i) 0) (λ i below.
    elim (cases_Bool (passes i && ltb (group i) (suc k))) [
      | inr fails ↦ rw (fails) (omega arith)
      | inl is ↦
          let two = and_parts (passes i) (ltb (group i) (suc k)) is in
          let low : group i < suc k = ltb-true (group i) (suc k) two.1 in
          elim (cases_eq (group i) k) [
            | inl same ↦
                let there : (passes i && eqb (group i) k) ≡ true = and_from (passes i) (eqb (group i) k) two.0 (eq-eqb (group i) k same) in
                rw (is, there) (omega arith)
            | inr other ↦
                let here : (passes i && ltb (group i) k) ≡ true =
                and_from (passes i) (ltb (group i) k) two.0 (lt-ltb (group i) k (omega (arith, low, other))) in
                rw (is, here) (omega arith)
          ]
    ]) in
    omega (arith, before, parts)

-- all of it, where each group is below k
pub all_grouped : (n : ℕ) (passes : ℕ → Bool) (group weight : ℕ → ℕ) (k : ℕ) → ((i : ℕ) → i < n → passes i ≡ true → group i < k)
    → total n (λ i. cond (passes i) (weight i) 0) ≤ total k (λ g. total n (λ i. cond (passes i && eqb (group i) g) (weight i) 0))
all_grouped n passes group weight k below =
    let all = grouped n passes group weight k in
    let same : total n (λ i. cond (passes i) (weight i) 0) ≤ total n (λ i. cond (passes i && ltb (group i) k) (weight i) 0) =
    total-le n (λ i. cond (passes i) (weight i) 0) (λ i. cond (passes i && ltb (group i) k) (weight i) 0) (λ i in_n.
    elim (cases_Bool (passes i)) [
      | inr fails ↦ rw (fails) (omega arith)
      | inl is ↦
          let low : ltb (group i) k ≡ true = lt-ltb (group i) k (below i in_n is) in
          rw (is, low) (omega arith)
    ]) in
    omega (arith, all, same)

-- as many as have places of their own below k
pub placed : (n : ℕ) (passes : ℕ → Bool) (place : ℕ → ℕ)
    → ((i j : ℕ) → i < n → j < n → passes i ≡ true → passes j ≡ true → place i ≡ place j → i ≡ j)
    → (k : ℕ) → ((i : ℕ) → i < n → passes i ≡ true → place i < k) → total n (λ i. cond (passes i) 1 0) ≤ k
unfolding total
placed n passes place own k below =
    let groups = all_grouped n passes place (λ i. 1) k below in
    let ones = each k in
    omega (arith, groups, ones)
  where
    each : (m : ℕ) → total m (λ g. total n (λ i. cond (passes i && eqb (place i) g) 1 0)) ≤ m
    each zero = omega arith
    each (suc m) =
        let before = each m in
        let one : total n (λ i. cond (passes i && eqb (place i) m) 1 0) ≤ 1 =
        at_most_one n (λ i. passes i && eqb (place i) m) (λ i. 1) 1 (λ i in_n is. omega arith) (λ i j in_i in_j is_i is_j.
        let two_i = and_parts (passes i) (eqb (place i) m) is_i in
        let two_j = and_parts (passes j) (eqb (place j) m) is_j in
        let at_i = eqb-true (place i) m two_i.1 in
        let at_j = eqb-true (place j) m two_j.1 in
        own i j in_i in_j two_i.0 two_j.0 (omega (arith, at_i, at_j))) in
        omega (arith, before, one)

-- where there is something, something passes
pub found : (n : ℕ) (passes : ℕ → Bool) (weight : ℕ → ℕ) → 0 < total n (λ i. cond (passes i) (weight i) 0) → (i : ℕ) × (i < n) × (passes i ≡ true)
unfolding total
found zero passes weight some = absurd (omega (arith, some))
found (suc n) passes weight some = elim (cases_Bool (passes n)) [
  | inl is ↦ (n, omega arith, is)
  | inr fails ↦
      let none : cond (passes n) (weight n) 0 ≡ 0 = rw (fails) refl in
      let (i, below, is) = found n passes weight (omega (arith, some, none)) in
      (i, omega (arith, below), is)
]

-- the first one that passes
first_passing : (n : ℕ) (passes : ℕ → Bool) → ((i : ℕ) → i < n → passes i ≡ false)
    ⊎ ((m : ℕ) × (m < n) × (passes m ≡ true) × ((i : ℕ) → i < m → passes i ≡ false))
first_passing zero passes = inl (λ i below. absurd (omega (arith, below)))
first_passing (suc n) passes = elim (first_passing n passes) [
  | inr it ↦ let (m, below, is, none) = it in inr (m, omega (arith, below), is, none)
  | inl none ↦ elim (cases_Bool (passes n)) [
    | inl is ↦ inr (n, omega arith, is, none)
    | inr fails ↦ inl (λ i below. elim (cases_eq i n) [
      | inl same ↦ subst (λ (k : ℕ). passes k ≡ false) (sym same) fails
      | inr other ↦ none i (omega (arith, below, other))
    ])
  ]
]

-- place by place is element by element
by_elements : (g : Want → ℕ) (xs : List Want) (k : ℕ) → k ≤ length xs → total k (λ i. g (get_or xs i nothing)) ≤ sum_by g (take k xs)
unfolding total
by_elements g xs zero le = omega arith
by_elements g xs (suc k) le =
    let before = by_elements g xs k (omega (arith, le)) in
    let next : sum_by g (take (suc k) xs) ≡ sum_by g (take k xs) + sum_by g (get_or xs k nothing ∷ []) =
    ap (sum_by g) (take-suc xs k nothing (omega (arith, le))) ∙ sum_by-append g (take k xs) (get_or xs k nothing ∷ []) in
    let one : sum_by g (get_or xs k nothing ∷ []) ≡ g (get_or xs k nothing) + sum_by g [] = sum_by-cons g (get_or xs k nothing) [] in
    omega (arith, before, next, one)

-- ---- messages whose releases are a period apart

module _ (demand : Demand) (messages : UnitMessages) (f : ℕ) (released : AreReleasedApart demand messages f) where
  abbrev its : Want
  its = want_at demand f

  -- their releases lie in a time where they are wanted in it, or up to their lateness before
  released_in : (t span : ℕ) → 0 < its.period → wanted_in messages f t span ≤ div_ceil (span + its.jitter) its.period
  released_in t span some =
      let most : total messages.count (λ m. cond (eqb (messages.flow m) f && inside t (span + its.jitter) (messages.release m + its.jitter)) 1 0)
      ≤ div_ceil (span + its.jitter) its.period * 1 = windows_sum messages.count (λ m. eqb (messages.flow m) f) (λ m. messages.release m + its.jitter) (λ m. 1)
      its.period 1 (λ m below is. omega arith)
      (λ m n in_m in_n other is_m is_n.
      let at_m = eqb-true (messages.flow m) f is_m in
      let at_n = eqb-true (messages.flow n) f is_n in
      elim (cases_lt m n) [
        | inl less ↦ let far = released.apart m n (less, in_n, at_m ∙ sym at_n) at_n in inl (omega (arith, far))
        | inr more ↦ let far = released.apart n m (omega (arith, more, other), in_m, at_n ∙ sym at_m) at_m in inr (omega (arith, far))
      ])
      (div_ceil (span + its.jitter) its.period) t (span + its.jitter) (div_ceil_times (span + its.jitter) its.period some).0 in
      let wider : wanted_in messages f t span
      ≤ total messages.count (λ m. cond (eqb (messages.flow m) f && inside t (span + its.jitter) (messages.release m + its.jitter)) 1 0) =
      total-le messages.count (λ m. cond (eqb (messages.flow m) f && inside t span (messages.wanted m)) 1 0)
      (λ m. cond (eqb (messages.flow m) f && inside t (span + its.jitter) (messages.release m + its.jitter)) 1 0) (λ m below.
      elim (cases_Bool (eqb (messages.flow m) f && inside t span (messages.wanted m))) [
        | inr fails ↦ rw (fails) (omega arith)
        | inl is ↦
            let two = and_parts (eqb (messages.flow m) f) (inside t span (messages.wanted m)) is in
            let (low, high) = inside_parts t span (messages.wanted m) two.1 in
            let at = eqb-true (messages.flow m) f two.0 in
            let release = released.release_first m below at in
            let late = released.jitter_at_most m below at in
            let there = and_from (eqb (messages.flow m) f) (inside t (span + its.jitter) (messages.release m + its.jitter)) two.0
            (inside_from t (span + its.jitter) (messages.release m + its.jitter) (omega (arith, low, late)) (omega (arith, high, release))) in
            rw (is, there) (omega arith)
      ]) in
      omega (arith, most, wider)

  pub apart_want_no_more : HavePeriods demand → 1 ≤ its.more → WantNoMore demand messages f
  apart_want_no_more periods one t span = let few = released_in t span (periods f) in omega (arith, few, one)

-- ---- messages

module _ (s : Schedule) (planned : ℕ → Bool) (of : Origins) (j : ℕ) (demand : Demand) (messages : UnitMessages)
    (wanted : AreWantedInTurn demand messages) (frames : AreFramesOfMessages s planned of j demand messages) (t span : ℕ) where
  -- a frame of the stream whose release lies in the time
  abbrev counts : ℕ → Bool
  counts p = planned p && (eqb (of.source p) j && (leb t (of.since p) && ltb (of.since p) (t + span)))

  counts_parts : (p : ℕ) → p < s.count → counts p ≡ true → IsOf s planned of j p × (t ≤ of.since p) × (of.since p < t + span)
  counts_parts p in_p is =
      let one = and_parts (planned p) (eqb (of.source p) j && (leb t (of.since p) && ltb (of.since p) (t + span))) is in
      let two = and_parts (eqb (of.source p) j) (leb t (of.since p) && ltb (of.since p) (t + span)) one.1 in
      let three = and_parts (leb t (of.since p)) (ltb (of.since p) (t + span)) two.1 in
      ((in_p, one.0, eqb-true (of.source p) j two.0), leb-true t (of.since p) three.0, ltb-true (of.since p) (t + span) three.1)

  -- how many there are of a message
  abbrev of_message : ℕ → ℕ
  of_message m = total s.count (λ p. cond (counts p && eqb (messages.message p) m) 1 0)

  message_most : (m : ℕ) → of_message m ≤ (want_for demand messages m).frames
  message_most m = placed s.count (λ p. counts p && eqb (messages.message p) m) messages.place
      (λ p q in_p in_q is_p is_q same.
      let two_p = and_parts (counts p) (eqb (messages.message p) m) is_p in
      let two_q = and_parts (counts q) (eqb (messages.message q) m) is_q in
      let at_p = eqb-true (messages.message p) m two_p.1 in
      let at_q = eqb-true (messages.message q) m two_q.1 in
      frames.apart p q (counts_parts p in_p two_p.0).0 (counts_parts q in_q two_q.0).0 (at_p ∙ sym at_q) same)
      (want_for demand messages m).frames
      (λ p in_p is.
      let two = and_parts (counts p) (eqb (messages.message p) m) is in
      subst (λ (n : ℕ). messages.place p < (want_for demand messages n).frames) (eqb-true (messages.message p) m two.1)
      (frames.places p (counts_parts p in_p two.0).0))

  -- a message of which some count has such a frame
  one_of : (m : ℕ) → 0 < of_message m → (p : ℕ) × IsOf s planned of j p × (t ≤ of.since p) × (of.since p < t + span) × (messages.message p ≡ m)
  one_of m some =
      let (p, in_p, is) = found s.count (λ p. counts p && eqb (messages.message p) m) (λ p. 1) some in
      let two = and_parts (counts p) (eqb (messages.message p) m) is in
      let (its, low, high) = counts_parts p in_p two.0 in
      (p, its, low, high, eqb-true (messages.message p) m two.1)

  -- it was announced before
  abbrev early : ℕ → Bool
  early m = ltb (messages.announced m) t

  -- ---- the one that is under way

  abbrev is_under_way : ℕ → Bool
  is_under_way m = early m && ltb 0 (of_message m)

  before_another : (m n : ℕ) → m < n → n < messages.count → is_under_way m ≡ true → is_under_way n ≡ true → ⊥
  before_another m n less below is_m is_n =
      let two_m = and_parts (early m) (ltb 0 (of_message m)) is_m in
      let two_n = and_parts (early n) (ltb 0 (of_message n)) is_n in
      let (p, its, low, high, at) = one_of m (ltb-true 0 (of_message m) two_m.1) in
      let over : of.since p ≤ messages.announced n = frames.in_turn p n its (omega (arith, at, less)) below in
      let gone : messages.announced n < t = ltb-true (messages.announced n) t two_n.0 in
      omega (arith, low, over, gone)

  only_one : (m n : ℕ) → m < messages.count → n < messages.count → is_under_way m ≡ true → is_under_way n ≡ true → m ≡ n
  only_one m n in_m in_n is_m is_n = elim (cases_lt m n) [
    | inl less ↦ absurd (before_another m n less in_n is_m is_n)
    | inr more ↦ elim (cases_eq m n) [
      | inl same ↦ same
      | inr other ↦ absurd (before_another n m (omega (arith, more, other)) in_m is_n is_m)
    ]
  ]

  under_way_most : (most : ℕ) → ((m : ℕ) → m < messages.count → early m ≡ true → of_message m ≤ most)
      → total messages.count (λ m. cond (early m) (of_message m) 0) ≤ most
  under_way_most most small =
      let one : total messages.count (λ m. cond (is_under_way m) (of_message m) 0) ≤ most =
      at_most_one messages.count is_under_way of_message most
      (λ m below is. small m below (and_parts (early m) (ltb 0 (of_message m)) is).0) only_one in
      let same : total messages.count (λ m. cond (early m) (of_message m) 0) ≤ total messages.count (λ m. cond (is_under_way m) (of_message m) 0) =
      total-le messages.count (λ m. cond (early m) (of_message m) 0) (λ m. cond (is_under_way m) (of_message m) 0) (λ m below.
      elim (cases_Bool (early m)) [
        | inr fails ↦ rw (fails) (omega arith)
        | inl is ↦ elim (cases_lt 0 (of_message m)) [
          | inl some ↦
              let there : is_under_way m ≡ true = and_from (early m) (ltb 0 (of_message m)) is (lt-ltb 0 (of_message m) some) in
              rw (there, is) (omega arith)
          | inr none ↦ rw (is) (omega (arith, none))
        ]
      ]) in
      omega (arith, one, same)

  -- ---- those that are announced in the time

  abbrev is_announced : ℕ → Bool
  is_announced m = leb t (messages.announced m) && ltb (messages.announced m) (t + span)

  announced_parts : (m : ℕ) → is_announced m ≡ true → (t ≤ messages.announced m) × (messages.announced m < t + span)
  announced_parts m is =
      let two = and_parts (leb t (messages.announced m)) (ltb (messages.announced m) (t + span)) is in
      (leb-true t (messages.announced m) two.0, ltb-true (messages.announced m) (t + span) two.1)

  module _ (f : ℕ) where
    abbrev want : Want
    want = want_at demand f

    abbrev passes : ℕ → Bool
    passes m = is_announced m && eqb (messages.flow m) f

    -- those behind the first are wanted in it too
    abbrev later : ℕ → Bool
    later m = eqb (messages.flow m) f && inside t span (messages.wanted m)

    of_flow_later : total messages.count (λ m. cond (later m) want.frames 0) ≤ want.frames * wanted_in messages f t span
    of_flow_later = total-times messages.count later later (λ m. want.frames) want.frames (λ m below is. (is, omega arith))

    -- behind the first one
    comes_later : (first m : ℕ) → first < m → m < messages.count → passes first ≡ true → passes m ≡ true → later m ≡ true
    comes_later first m less below is_first is =
        let two_first = and_parts (is_announced first) (eqb (messages.flow first) f) is_first in
        let two = and_parts (is_announced m) (eqb (messages.flow m) f) is in
        let at_first = eqb-true (messages.flow first) f two_first.1 in
        let at = eqb-true (messages.flow m) f two.1 in
        let (from, _) = announced_parts first two_first.0 in
        let (_, until) = announced_parts m two.0 in
        let waits : messages.announced first ≤ messages.wanted m = wanted.one_waits first m (less, below, at_first ∙ sym at) in
        let first_wanted : messages.wanted m ≤ messages.announced m = wanted.wanted_first m below in
        and_from (eqb (messages.flow m) f) (inside t span (messages.wanted m)) two.1
        (inside_from t span (messages.wanted m) (omega (arith, from, waits)) (omega (arith, until, first_wanted)))

    of_flow : total messages.count (λ m. cond (passes m) want.frames 0) ≤ frames_of_want span want
    of_flow = elim (first_passing messages.count passes) [
      | inl none ↦
          let nothing_passes : total messages.count (λ m. cond (passes m) want.frames 0) ≡ 0 =
          total-none messages.count (λ m. cond (passes m) want.frames 0) (λ m below. let fails = none m below in rw (fails) refl) in
          omega (arith, nothing_passes)
      | inr it ↦
          let (first, in_first, is_first, none) = it in
          let rest = of_flow_later in
          let one : total messages.count (λ m. cond (eqb m first) want.frames 0) ≤ want.frames =
          at_most_one messages.count (λ m. eqb m first) (λ m. want.frames) want.frames (λ m below is. omega arith)
          (λ m n in_m in_n is_m is_n. let at_m = eqb-true m first is_m in let at_n = eqb-true n first is_n in omega (arith, at_m, at_n)) in
          let two : total messages.count (λ m. cond (passes m) want.frames 0)
          ≤ total messages.count (λ m. cond (eqb m first) want.frames 0) + total messages.count (λ m. cond (later m) want.frames 0) =
          total-two messages.count (λ m. cond (passes m) want.frames 0) (λ m. cond (eqb m first) want.frames 0) (λ m. cond (later m) want.frames 0) (λ m below.
          elim (cases_Bool (passes m)) [
            | inr fails ↦ rw (fails) (omega arith)
            | inl is ↦ elim (cases_lt m first) [
              | inl before ↦ absurd (both_ways (passes m) (none m before) is)
              | inr from ↦ elim (cases_eq m first) [
                | inl same ↦ let there = eq-eqb m first same in rw (is, there) (omega arith)
                | inr other ↦
                    let there : later m ≡ true = comes_later first m (omega (arith, from, other)) below is_first is in
                    rw (is, there) (omega arith)
              ]
            ]
          ]) in
          let all : want.frames * (wanted_in messages f t span + 1) ≤ frames_of_want span want = mul-le-mul_left want.frames (wanted.few f t span) in
          omega (arith, rest, one, two, all)
    ]

  announced_most : total messages.count (λ m. cond (is_announced m) (want_for demand messages m).frames 0) ≤ sum_by (frames_of_want span) demand.wants
  announced_most =
      let groups = all_grouped messages.count is_announced messages.flow (λ m. (want_for demand messages m).frames) (length demand.wants)
      (λ m below is. wanted.flows m below) in
      let each : total (length demand.wants) (λ f. total messages.count (λ m. cond (is_announced m && eqb (messages.flow m) f) (want_for demand messages m).frames 0))
      ≤ total (length demand.wants) (λ f. frames_of_want span (want_at demand f)) =
      total-le (length demand.wants) (λ f. total messages.count (λ m. cond (is_announced m && eqb (messages.flow m) f) (want_for demand messages m).frames 0))
      (λ f. frames_of_want span (want_at demand f)) (λ f below.
      let same : total messages.count (λ m. cond (is_announced m && eqb (messages.flow m) f) (want_for demand messages m).frames 0)
      ≤ total messages.count (λ m. cond (is_announced m && eqb (messages.flow m) f) (want_at demand f).frames 0) =
      total-le messages.count (λ m. cond (is_announced m && eqb (messages.flow m) f) (want_for demand messages m).frames 0)
      (λ m. cond (is_announced m && eqb (messages.flow m) f) (want_at demand f).frames 0) (λ m in_m.
      elim (cases_Bool (is_announced m && eqb (messages.flow m) f)) [
        | inr fails ↦ rw (fails) (omega arith)
        | inl is ↦
            let at = eqb-true (messages.flow m) f (and_parts (is_announced m) (eqb (messages.flow m) f) is).1 in
            let equal : (want_for demand messages m).frames ≡ (want_at demand f).frames = ap (λ (k : ℕ). (want_at demand k).frames) at in
            rw (is) (omega (arith, equal))
      ]) in
      let most = of_flow f in
      omega (arith, same, most)) in
      let elements = by_elements (frames_of_want span) demand.wants (length demand.wants) (omega arith) in
      let whole : sum_by (frames_of_want span) (take (length demand.wants) demand.wants) ≡ sum_by (frames_of_want span) demand.wants =
      ap (sum_by (frames_of_want span)) (take_all (length demand.wants) demand.wants (omega arith)) in
      omega (arith, groups, each, elements, whole)

  -- ---- all of it

  asked_at_most : (most : ℕ) → ((m : ℕ) → m < messages.count → early m ≡ true → of_message m ≤ most)
      → releases_in s planned of j t span ≤ sum_by (frames_of_want span) demand.wants + most
  asked_at_most most small =
      let groups : releases_in s planned of j t span ≤ total messages.count of_message =
      all_grouped s.count counts messages.message (λ p. 1) messages.count (λ p in_p is. frames.known p (counts_parts p in_p is).0) in
      let parts : total messages.count of_message
      ≤ total messages.count (λ m. cond (early m) (of_message m) 0) + total messages.count (λ m. cond (is_announced m) (want_for demand messages m).frames 0) =
      total-two messages.count of_message (λ m. cond (early m) (of_message m) 0)
      (λ m. cond (is_announced m) (want_for demand messages m).frames 0) (λ m below.
      elim (cases_lt (messages.announced m) t) [
        | inl before ↦ let is = lt-ltb (messages.announced m) t before in rw (is) (omega arith)
        | inr from ↦ elim (cases_lt 0 (of_message m)) [
          | inr none ↦ omega (arith, none)
          | inl some ↦
              let (p, its, low, high, at) = one_of m some in
              let queued : messages.announced m ≤ of.since p =
              subst (λ (k : ℕ). messages.announced k ≤ of.since p) at (frames.behind p its) in
              let there : is_announced m ≡ true = and_from (leb t (messages.announced m)) (ltb (messages.announced m) (t + span))
              (le-leb t (messages.announced m) from) (lt-ltb (messages.announced m) (t + span) (omega (arith, queued, high))) in
              let few = message_most m in
              rw (there) (omega (arith, few))
        ]
      ]) in
      let first = under_way_most most small in
      let rest = announced_most in
      omega (arith, groups, parts, first, rest)

  -- of packets, where no message has more than the longest
  pub packets_asked : HasLongest demand → releases_in s planned of j t span ≤ frames_wanted span demand
  packets_asked longest =
      let most = asked_at_most demand.under_way (λ m below is. let few = message_most m in let long = longest (messages.flow m) in omega (arith, few, long)) in
      omega (arith, most)

  -- of announcements, of which none is left of the one that is under way
  pub announcements_asked : AreAnnouncements s planned of j messages → releases_in s planned of j t span ≤ frames_wanted span demand
  announcements_asked are =
      let most = asked_at_most 0 (λ m below is.
      elim (cases_lt 0 (of_message m)) [
        | inr none ↦ none
        | inl some ↦ absurd (
            let (p, its, low, high, at) = one_of m some in
            let since : of.since p ≡ messages.announced m = subst (λ (k : ℕ). of.since p ≡ messages.announced k) at (are p its) in
            let gone : messages.announced m < t = ltb-true (messages.announced m) t is in
            omega (arith, low, since, gone)
            )
      ]) in
      omega (arith, most)
