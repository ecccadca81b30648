-- Messages that answer requests: in no time are there more of them than the requests let, and one for each request beside.
use Rattle.std.proofs.Common.{◌≡◌, ℕ, zero, suc, ◌+◌, ◌-◌, ◌*◌, ◌<◌, ◌≤◌, ◌⊎◌, Bool, true, cond, ◌&&◌, eqb, ltb, refl, sym, subst, ap, ◌∙◌, arith, inl, inr}
use Rattle.std.proofs.Math.Nat.{lt_of_mul-lt-mul_right, mul-le-mul_left, mul-le-mul_right}
use Rattle.std.proofs.lemmas.Bool.{and_parts, and_from, cases_lt, cases_Bool, lt-ltb, ltb-true, eqb-true}
use Rattle.std.proofs.lemmas.Grind.{div_ceil_times}
use Rattle.std.specs.Int.{div_ceil}
use Rattle.j39_timing.specs.AnsweredRequests.{RequestsAnswered, AreAnswers, AskNoOftenerThan, Requesters}
use Rattle.j39_timing.specs.FrameStreams.{Origins}
use Rattle.j39_timing.specs.Messages.{IsOf}
use Rattle.j39_timing.specs.Sums.{total}
use Rattle.j39_timing.specs.TimedFrames.{Schedule}
use Rattle.j39_timing.specs.Traffic.{queuings_in}
use Rattle.j39_timing.specs.Waits.{Demand, frames_of_want}
use Rattle.j39_timing.specs.WantedMessages.{UnitMessages, WantNoMore, want_at, wanted_in}
use Rattle.j39_timing.specs.declared.wants.Want.{Want}
use Rattle.j39_timing.proofs.AskedFrames.{all_grouped, found, placed}
use Rattle.j39_timing.proofs.Searching.{greatest}
use Rattle.j39_timing.proofs.StreamSums.{inside, inside_parts}
use Rattle.j39_timing.proofs.Sums.{total-le, total-none, total-two}

-- ---- sums

constant : (n x : ℕ) → total n (λ i. x) ≡ n * x
unfolding total
constant zero x = omega arith
constant (suc n) x = let before = constant n x in omega (arith, before)

scaled : (n a : ℕ) (f : ℕ → ℕ) → total n (λ i. a * f i) ≡ a * total n f
unfolding total
scaled zero a f = omega arith
scaled (suc n) a f =
    let before = scaled n a f in
    let all : a * (total n f + f n) ≡ a * total n f + a * f n = grind arith in
    omega (arith, before, all)

-- where each of these comes so rarely, all of them come so rarely together
rarely : (k : ℕ) (pace part often : ℕ → ℕ) (whole own room : ℕ) → 0 < whole → ((r : ℕ) → r < k → whole ≤ part r * pace r) → own * total k part ≤ whole
    → ((r : ℕ) → r < k → often r * pace r ≤ room) → own * total k often ≤ room
rarely k pace part often whole own room some parts sum few =
    let each : total k (λ r. whole * often r) ≤ total k (λ r. room * part r) =
    total-le k (λ r. whole * often r) (λ r. room * part r) (λ r below.
    let one : often r * whole ≤ often r * (part r * pace r) = mul-le-mul_left (often r) (parts r below) in
    let two : part r * (often r * pace r) ≤ part r * room = mul-le-mul_left (part r) (few r below) in
    let turned : often r * (part r * pace r) ≡ part r * (often r * pace r) = grind arith in
    omega (arith, one, two, turned)) in
    let left = scaled k whole often in
    let right = scaled k room part in
    let long : own * (whole * total k often) ≤ own * (room * total k part) = mul-le-mul_left own (omega (arith, each, left, right)) in
    let short : room * (own * total k part) ≤ room * whole = mul-le-mul_left room sum in
    let first : own * (whole * total k often) ≡ whole * (own * total k often) = grind arith in
    let second : own * (room * total k part) ≡ room * (own * total k part) = grind arith in
    elim (cases_lt room (own * total k often)) [
      | inr within ↦ within
      | inl more ↦
          let above : whole * (room + 1) ≤ whole * (own * total k often) = mul-le-mul_left whole (omega (arith, more)) in
          absurd (omega (arith, above, long, short, first, second, some))
    ]

-- places that pass, each with a number of its own: no more than lie from the least number to the greatest
spread : (n : ℕ) (passes : ℕ → Bool) (number : ℕ → ℕ)
    → ((i j : ℕ) → i < n → j < n → passes i ≡ true → passes j ≡ true → number i ≡ number j → i ≡ j)
    → (total n (λ i. cond (passes i) 1 0) ≡ 0)
    ⊎ ((i : ℕ) × (j : ℕ) × (i < n) × (j < n) × (passes i ≡ true) × (passes j ≡ true) × (number i ≤ number j)
    × (total n (λ i. cond (passes i) 1 0) ≤ number j - number i + 1))
spread n passes number own = elim (cases_lt 0 (total n (λ i. cond (passes i) 1 0))) [
  | inr none ↦ inl (omega (arith, none))
  | inl some ↦
      let (p, in_p, is_p) = found n passes (λ i. 1) some in
      let here : ℕ → Bool = λ q. ltb q n && passes q in
      let (j, is_j, most) = greatest (λ q. ltb q n && passes q) number p (and_from (ltb p n) (passes p) (lt-ltb p n in_p) is_p) n in
      let (i, is_i, least) = greatest (λ q. ltb q n && passes q) (λ q. number j - number q) p (and_from (ltb p n) (passes p) (lt-ltb p n in_p) is_p) n in
      let two_i = and_parts (ltb i n) (passes i) is_i in
      let two_j = and_parts (ltb j n) (passes j) is_j in
      let in_i = ltb-true i n two_i.0 in
      let in_j = ltb-true j n two_j.0 in
      let order : number i ≤ number j = most i in_i is_i in
      let above : (q : ℕ) → q < n → passes q ≡ true → number i ≤ number q = λ q in_q is.
      let there = and_from (ltb q n) (passes q) (lt-ltb q n in_q) is in
      let low = least q in_q there in
      let high = most q in_q there in
      omega (arith, low, high, order) in
      inr (
        i,
        j,
        in_i,
        in_j,
        two_i.1,
        two_j.1,
        order,
        placed n passes (λ q. number q - number i) (λ q r in_q in_r is_q is_r same.
            let low_q = above q in_q is_q in
            let low_r = above r in_r is_r in
            own q r in_q in_r is_q is_r (omega (arith, same, low_q, low_r)))
            (number j - number i + 1)
            (λ q in_q is.
            let low = above q in_q is in
            let high = most q in_q (and_from (ltb q n) (passes q) (lt-ltb q n in_q) is) in
            omega (arith, low, high)),
      )
]

-- ---- messages, or frames of them, by their places

module _ (n : ℕ) (passes : ℕ → Bool) (Is : ℕ → Type 0) (each : (m : ℕ) → m < n → passes m ≡ true → Is m) (at : ℕ → ℕ) (late frames : ℕ)
    (requesters : Requesters) (answered : RequestsAnswered) (answers : AreAnswers Is at late frames requesters answered) (some_bit : 0 < requesters.bit)
    (t span : ℕ) (some : 0 < span) where
  abbrev counts : ℕ → Bool
  counts m = passes m && inside t span (at m)

  counts_parts : (m : ℕ) → m < n → counts m ≡ true → Is m × (t ≤ at m) × (at m < t + span)
  counts_parts m in_m is =
      let two = and_parts (passes m) (inside t span (at m)) is in
      let (low, high) = inside_parts t span (at m) two.1 in
      (each m in_m two.0, low, high)

  -- those at a place of their messages, and of these the ones that answer one request
  abbrev of_part : ℕ → ℕ → Bool
  of_part c m = counts m && eqb (answered.part m) c

  abbrev of_one : ℕ → ℕ → ℕ → Bool
  of_one c r m = of_part c m && eqb (answered.requester m) r

  one_parts : (c r m : ℕ) → m < n → of_one c r m ≡ true
      → Is m × (t ≤ at m) × (at m < t + span) × (answered.part m ≡ c) × (answered.requester m ≡ r)
  one_parts c r m in_m is =
      let two = and_parts (of_part c m) (eqb (answered.requester m) r) is in
      let three = and_parts (counts m) (eqb (answered.part m) c) two.0 in
      let (its, low, high) = counts_parts m in_m three.0 in
      (its, low, high, eqb-true (answered.part m) c three.1, eqb-true (answered.requester m) r two.1)

  -- the moments of their requests lie in the time, or so much before
  abbrev room : ℕ
  room = (span + late) * requesters.bit

  some_room : 1 ≤ room
  some_room =
      let long : 1 * requesters.bit ≤ (span + late) * requesters.bit = mul-le-mul_right requesters.bit (omega (arith, some)) in
      omega (arith, long, some_bit)

  one_most : (c r : ℕ) → (often : ℕ) × (often * requesters.pace r < room) × (total n (λ m. cond (of_one c r m) 1 0) ≤ often + 1)
  one_most c r = elim (spread n (of_one c r) answered.number (λ i j in_i in_j is_i is_j same.
      let (its_i, _, _, part_i, asker_i) = one_parts c r i in_i is_i in
      let (its_j, _, _, part_j, asker_j) = one_parts c r j in_j is_j in
      answers.once i j its_i its_j (asker_i ∙ sym asker_j) same (part_i ∙ sym part_j))) [
        | inl none ↦ (0, let enough = some_room in omega (arith, enough), omega (arith, none))
        | inr it ↦
            let (i, j, in_i, in_j, is_i, is_j, order, most) = it in
            let (its_i, low, _, _, asker_i) = one_parts c r i in_i is_i in
            let (its_j, _, high, _, asker_j) = one_parts c r j in_j is_j in
            let first = answers.late_at_most i its_i in
            let last = answers.moment_first j its_j in
            let far = answers.apart i j its_i its_j (asker_i ∙ sym asker_j) order in
            let pace : requesters.pace (answered.requester i) ≡ requesters.pace r = ap requesters.pace asker_i in
            let apart : answered.moment i * requesters.bit + (answered.number j - answered.number i) * requesters.pace r < (answered.moment j + 1) * requesters.bit =
            subst (λ x. answered.moment i * requesters.bit + (answered.number j - answered.number i) * x < (answered.moment j + 1) * requesters.bit) pace far in
            let near : (answered.moment j + 1) * requesters.bit ≤ (answered.moment i + (span + late)) * requesters.bit =
            mul-le-mul_right requesters.bit (omega (arith, low, high, first, last)) in
            let all : (answered.moment i + (span + late)) * requesters.bit ≡ answered.moment i * requesters.bit + room = grind arith in
            (answered.number j - answered.number i, omega (arith, apart, near, all), most)
      ]

  module _ (own period : ℕ) (asks : AskNoOftenerThan requesters own) (positive : 0 < period) (paced : period * requesters.bit ≤ own) where
    part_most : (c : ℕ) → total n (λ m. cond (of_part c m) 1 0) + 1 ≤ div_ceil (span + late) period + requesters.count
    part_most c =
        let often : ℕ → ℕ = λ r. (one_most c r).0 in
        let sum : ℕ = total requesters.count (λ r. (one_most c r).0) in
        let groups = all_grouped n (of_part c) answered.requester (λ m. 1) requesters.count (λ m in_m is.
        answers.known m (counts_parts m in_m (and_parts (counts m) (eqb (answered.part m) c) is).0).0) in
        let parts : total requesters.count (λ r. total n (λ m. cond (of_one c r m) 1 0)) ≤ sum + total requesters.count (λ r. 1) =
        total-two requesters.count (λ r. total n (λ m. cond (of_one c r m) 1 0)) (λ r. (one_most c r).0) (λ r. 1) (λ r below. (one_most c r).2) in
        let ones = constant requesters.count 1 in
        let enough = some_room in
        let few : own * sum ≤ room - 1 = rarely requesters.count requesters.pace asks.part (λ r. (one_most c r).0) asks.whole own (room - 1)
        asks.positive asks.parts asks.sum (λ r below. let less = (one_most c r).1 in omega (arith, less)) in
        let slow : period * requesters.bit * sum ≤ own * sum = mul-le-mul_right sum paced in
        let turned : period * requesters.bit * sum ≡ period * sum * requesters.bit = grind arith in
        let less : period * sum < span + late = lt_of_mul-lt-mul_right requesters.bit (omega (arith, few, slow, turned, enough)) in
        let reached : span + late ≤ div_ceil (span + late) period * period = (div_ceil_times (span + late) period positive).0 in
        let fewer : sum < div_ceil (span + late) period = lt_of_mul-lt-mul_right period (omega (arith, less, reached)) in
        omega (arith, groups, parts, ones, fewer)

    pub answers_most : total n (λ m. cond (counts m) 1 0) ≤ frames * (div_ceil (span + late) period + requesters.count - 1)
    answers_most =
        let groups = all_grouped n counts answered.part (λ m. 1) frames (λ m in_m is. answers.parts m (counts_parts m in_m is).0) in
        let all : total frames (λ c. total n (λ m. cond (of_part c m) 1 0)) ≤ total frames (λ c. div_ceil (span + late) period + requesters.count - 1) =
        total-le frames (λ c. total n (λ m. cond (of_part c m) 1 0)) (λ c. div_ceil (span + late) period + requesters.count - 1) (λ c below.
        let most = part_most c in omega (arith, most)) in
        let sum = constant frames (div_ceil (span + late) period + requesters.count - 1) in
        omega (arith, groups, all, sum)

    pub one_at_least : 1 ≤ div_ceil (span + late) period + requesters.count
    one_at_least = let most = part_most 0 in omega (arith, most)

-- ---- frames of a stream

pub frames_answer : (s : Schedule) (planned : ℕ → Bool) (of : Origins) (j early own : ℕ) (want : Want) (requesters : Requesters) (answered : RequestsAnswered)
    → 0 < requesters.bit → AskNoOftenerThan requesters own → 0 < want.period → want.period * requesters.bit ≤ own → requesters.count ≤ want.more + 1
    → AreAnswers (IsOf s planned of j) s.queued (early + want.jitter) want.frames requesters answered
    → (t span : ℕ) → queuings_in s planned of j t span ≤ frames_of_want (span + early) want
frames_answer s planned of j early own want requesters answered some_bit asks positive paced few answers t span = elim (cases_lt 0 span) [
  | inl some ↦
      let most = answers_most s.count (λ p. planned p && eqb (of.source p) j) (IsOf s planned of j) (λ p in_p is.
      let two = and_parts (planned p) (eqb (of.source p) j) is in (in_p, two.0, eqb-true (of.source p) j two.1))
      s.queued (early + want.jitter) want.frames requesters answered answers some_bit t span some own want.period asks positive paced in
      let same : queuings_in s planned of j t span ≤ total s.count (λ p. cond ((planned p && eqb (of.source p) j) && inside t span (s.queued p)) 1 0) =
      total-le s.count (λ p. cond (planned p && (eqb (of.source p) j && inside t span (s.queued p))) 1 0)
      (λ p. cond ((planned p && eqb (of.source p) j) && inside t span (s.queued p)) 1 0) (λ p in_p.
      elim (cases_Bool (planned p && (eqb (of.source p) j && inside t span (s.queued p)))) [
        | inr fails ↦ rw (fails) (omega arith)
        | inl is ↦
            let one = and_parts (planned p) (eqb (of.source p) j && inside t span (s.queued p)) is in
            let two = and_parts (eqb (of.source p) j) (inside t span (s.queued p)) one.1 in
            let there = and_from (planned p && eqb (of.source p) j) (inside t span (s.queued p)) (and_from (planned p) (eqb (of.source p) j) one.0 two.0) two.1 in
            rw (is, there) (omega arith)
      ]) in
      let late : span + (early + want.jitter) ≡ span + early + want.jitter = omega arith in
      let ceil = ap (λ x. div_ceil x want.period) late in
      let all : want.frames * (div_ceil (span + (early + want.jitter)) want.period + requesters.count - 1) ≤ frames_of_want (span + early) want =
      mul-le-mul_left want.frames (omega (arith, ceil, few)) in
      omega (arith, most, same, all)
  | inr none ↦
      let nothing : queuings_in s planned of j t span ≡ 0 =
      total-none s.count (λ p. cond (planned p && (eqb (of.source p) j && inside t span (s.queued p))) 1 0) (λ p in_p.
      elim (cases_Bool (planned p && (eqb (of.source p) j && inside t span (s.queued p)))) [
        | inr fails ↦ rw (fails) refl
        | inl is ↦
            let one = and_parts (planned p) (eqb (of.source p) j && inside t span (s.queued p)) is in
            let (low, high) = inside_parts t span (s.queued p) (and_parts (eqb (of.source p) j) (inside t span (s.queued p)) one.1).1 in
            absurd (omega (arith, low, high, none))
      ]) in
      omega (arith, nothing)
]

-- ---- messages of a unit that sends one at a time

pub messages_answer : (demand : Demand) (messages : UnitMessages) (f own : ℕ) (requesters : Requesters) (answered : RequestsAnswered)
    → 0 < requesters.bit → AskNoOftenerThan requesters own → 0 < (want_at demand f).period → (want_at demand f).period * requesters.bit ≤ own
    → 0 < (want_at demand f).more → requesters.count ≤ (want_at demand f).more
    → AreAnswers (λ m. (m < messages.count) × (messages.flow m ≡ f)) messages.wanted (want_at demand f).jitter 1 requesters answered
    → WantNoMore demand messages f
messages_answer demand messages f own requesters answered some_bit asks positive paced more few answers t span = elim (cases_lt 0 span) [
  | inl some ↦
      let most = answers_most messages.count (λ m. eqb (messages.flow m) f) (λ m. (m < messages.count) × (messages.flow m ≡ f))
      (λ m in_m is. (in_m, eqb-true (messages.flow m) f is)) messages.wanted (want_at demand f).jitter 1 requesters answered answers some_bit t span some own
      (want_at demand f).period asks positive paced in
      let one = one_at_least messages.count (λ m. eqb (messages.flow m) f) (λ m. (m < messages.count) × (messages.flow m ≡ f))
      (λ m in_m is. (in_m, eqb-true (messages.flow m) f is)) messages.wanted (want_at demand f).jitter 1 requesters answered answers some_bit t span some own
      (want_at demand f).period asks positive paced in
      omega (arith, most, one, few)
  | inr none ↦
      let nothing : wanted_in messages f t span ≡ 0 =
      total-none messages.count (λ m. cond (eqb (messages.flow m) f && inside t span (messages.wanted m)) 1 0) (λ m in_m.
      elim (cases_Bool (eqb (messages.flow m) f && inside t span (messages.wanted m))) [
        | inr fails ↦ rw (fails) refl
        | inl is ↦
            let (low, high) = inside_parts t span (messages.wanted m) (and_parts (eqb (messages.flow m) f) (inside t span (messages.wanted m)) is).1 in
            absurd (omega (arith, low, high, none))
      ]) in
      omega (arith, nothing, more)
]
