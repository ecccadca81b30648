-- The rate of each part of a plan: what its messages, of which one comes in a period, take in a second.
use Rattle.std.proofs.Common.{min, ◌≡◌, ℕ, ◌+◌, ◌*◌, ◌<◌, ◌≤◌, Bool, true, false, cond, if◌then◌else◌, List, [], ◌∷◌, map, All}
use Rattle.std.proofs.Common.{refl, sym, ap, ◌∙◌, subst, arith, inl, inr}
use Rattle.std.proofs.Math.Nat.{mul-le-mul_left, mul-le-mul_right}
use Rattle.std.proofs.lemmas.Bool.{cases_lt}
use Rattle.std.proofs.lemmas.Grind.{div_ceil_times}
use Rattle.std.proofs.lemmas.List.Elements.{All-head, All-tail}
use Rattle.std.proofs.lemmas.List.Sums.{sum_by-cons}
use Rattle.std.specs.Int.{div_ceil}
use Rattle.std.specs.List.{sum_by}
use Rattle.j39_network.specs.declared.plan.timing.Bitrate.{Bitrate}
use Rattle.j39_network.specs.declared.plan.timing.Timing.{Timing}
use Rattle.j39_load.specs.declared.frames.broadcast.Broadcast.{Broadcast}
use Rattle.j39_load.specs.Broadcasts.{bits_each, bits_of_announcements, bits_of_firsts}
use Rattle.j39_load.specs.Loads.{bits_a_second, bits_at_least, bits_of_ms, bits_per_ms, load_of}
use Rattle.j39_load.specs.LongRuns.{seconds}
use Rattle.j39_load.proofs.KeepingBroadcasts.{IsTimed}
use Rattle.j39_load.proofs.LongRuns.Streams.{asked_by_rate, later_want, more_bits, more_wanted, share_rate, want_rate}
use Rattle.j39_load.proofs.Milliseconds.{agreed_least, agreed_second, some_bits}
use Rattle.j39_timing.specs.declared.stream.Stream.{Stream}
use Rattle.j39_timing.specs.declared.wants.Want.{Want}
use Rattle.j39_timing.specs.Waits.{asked_share, frames_of_want, share}

pub both : (n a b : ℕ) → n * (a + b) ≡ n * a + n * b
both n a b = grind arith

-- so many bits once in so many milliseconds
pub per_second : (bitrate : Bitrate) (bits ms : ℕ) → 1 ≤ ms
    → bits * (1000 * bits_per_ms bitrate) ≤ div_ceil (1000 * bits) ms * (ms * bits_per_ms bitrate)
per_second bitrate bits ms some =
    let (low, _) = div_ceil_times (1000 * bits) ms some in
    let times : 1000 * bits * bits_per_ms bitrate ≤ div_ceil (1000 * bits) ms * ms * bits_per_ms bitrate = mul-le-mul_right (bits_per_ms bitrate) low in
    let left : bits * (1000 * bits_per_ms bitrate) ≡ 1000 * bits * bits_per_ms bitrate = grind arith in
    let right : div_ceil (1000 * bits) ms * (ms * bits_per_ms bitrate) ≡ div_ceil (1000 * bits) ms * ms * bits_per_ms bitrate = grind arith in
    omega (arith, times, left, right)

-- what is more of a flow's wants, whatever the time is
abbrev pub more_of : (Broadcast → Want) → Broadcast → ℕ
more_of want b = more_wanted (want b) 160

module _ (timing : Timing) where
  abbrev bitrate : Bitrate
  bitrate = timing.bitrate

  -- so many bits a period are so many a second at most
  abbrev pub IsRate : ℕ → ℕ → ℕ → Type 0
  IsRate bits period rate = bits * bits_of_ms timing 1000 ≤ rate * period

  -- in as many seconds as many times more
  in_seconds : (n bits period rate : ℕ) → IsRate bits period rate → bits * bits_of_ms timing (seconds n) ≤ n * rate * period
  in_seconds n bits period rate is =
      let times : n * (bits * (1000 * bits_per_ms bitrate)) ≤ n * (rate * period) = mul-le-mul_left n is in
      let left : bits * (1000 * n * bits_per_ms bitrate) ≡ n * (bits * (1000 * bits_per_ms bitrate)) = grind arith in
      let right : n * rate * period ≡ n * (rate * period) = grind arith in
      omega (arith, times, left, right)

  pub stream_rate : (stream : Stream) (n rate : ℕ) → 0 < stream.period → IsRate (stream.frames * stream.bits) stream.period rate
      → share (bits_of_ms timing (seconds n)) stream ≤ n * rate + more_bits (stream.frames * stream.bits) stream.jitter stream.period
  stream_rate stream n rate positive is =
      share_rate stream (bits_of_ms timing (seconds n)) (n * rate) positive (in_seconds n (stream.frames * stream.bits) stream.period rate is)

  pub asked_rate : (stream : Stream) (want : Want) (n rate : ℕ) → 0 < want.period → IsRate (want.frames * stream.bits) want.period rate
      → asked_share (bits_of_ms timing (seconds n)) stream want ≤ n * rate + more_wanted (later_want stream.jitter want) stream.bits
  asked_rate stream want n rate positive is =
      asked_by_rate stream want (bits_of_ms timing (seconds n)) (n * rate) positive (in_seconds n (want.frames * stream.bits) want.period rate is)

  module _ (agree : timing.drift ≡ 0) where
    -- by clocks that agree
    once_is_rate : (bits ms : ℕ) → 1 ≤ ms → IsRate bits (bits_at_least timing ms) (bits_a_second timing bits ms)
    once_is_rate bits ms some =
        subst (λ (p : ℕ). IsRate bits p (bits_a_second timing bits ms)) (sym (agreed_least timing ms agree))
        (subst (λ (r : ℕ). IsRate bits (bits_of_ms timing ms) r) (sym (agreed_second timing bits ms agree some)) (per_second bitrate bits ms some))

    -- a stream whose load is reported by its period
    pub load_is_rate : (stream : Stream) (ms : ℕ) → 1 ≤ ms → stream.period ≡ bits_at_least timing ms
        → IsRate (stream.frames * stream.bits) stream.period (load_of timing stream ms)
    load_is_rate stream ms some period = subst (λ (p : ℕ). IsRate (stream.frames * stream.bits) p (load_of timing stream ms)) (sym period)
        (once_is_rate (stream.frames * stream.bits) ms some)

    -- frames of eight bytes
    pub each_is_rate : (frames ms : ℕ) → 1 ≤ ms → IsRate (frames * 160) (bits_at_least timing ms) (bits_each timing frames ms)
    each_is_rate frames ms some = once_is_rate (frames * 160) ms some

    -- as many gaps apart
    pub gaps_are_rate : (gaps gap : ℕ) → 1 ≤ gaps * gap → IsRate 160 (gaps * bits_at_least timing gap) (bits_each timing 1 (gaps * gap))
    gaps_are_rate gaps gap some =
        let same : bits_at_least timing (gaps * gap) ≡ gaps * bits_at_least timing gap =
        agreed_least timing (gaps * gap) agree
        ∙ (gaps_of gaps gap (bits_per_ms bitrate) ∙ ap (λ (k : ℕ). gaps * k) (sym (agreed_least timing gap agree))) in
        subst (IsRatedBy (bits_each timing 1 (gaps * gap))) same (each_is_rate 1 (gaps * gap) some)
      where
        IsRatedBy : ℕ → ℕ → Type 0
        IsRatedBy rate period = IsRate 160 period rate

        gaps_of : (k g per : ℕ) → k * g * per ≡ k * (g * per)
        gaps_of k g per = grind arith

  -- ---- what flows want of a unit

  module _ (want : Broadcast → Want) (rate : Broadcast → ℕ) (n : ℕ) (its_period : (b : Broadcast) → (want b).period ≡ b.apart)
      (rated : (b : Broadcast) → IsTimed timing b → IsRate ((want b).frames * 160) b.apart (rate b)) where
    abbrev span : ℕ
    span = bits_of_ms timing (seconds n)

    pub wants_rate : (bs : List Broadcast) → All (IsTimed timing) bs
        → sum_by (frames_of_want span) (map want bs) * 160 ≤ n * sum_by rate bs + sum_by (more_of want) bs
    wants_rate [] each = omega arith
    wants_rate (b ∷ bs) each =
        let timed = All-head (IsTimed timing) b bs each in
        let apart = timed.apart in
        let some = some_bits timing b.period timed.period in
        let period = its_period b in
        let rest = wants_rate bs (All-tail (IsTimed timing) b bs each) in
        let is = in_seconds n ((want b).frames * 160) b.apart (rate b) (rated b timed) in
        let one : frames_of_want span (want b) * 160 ≤ n * rate b + more_of want b =
        want_rate (want b) 160 span (n * rate b) (omega (arith, apart, some, period))
        (subst (λ (p : ℕ). (want b).frames * 160 * span ≤ n * rate b * p) (sym period) is) in
        let wants = sum_by-cons (frames_of_want span) (want b) (map want bs) in
        let rates = sum_by-cons rate b bs in
        let mores = sum_by-cons (more_of want) b bs in
        let all : sum_by (frames_of_want span) (map want (b ∷ bs)) * 160
        ≡ frames_of_want span (want b) * 160 + sum_by (frames_of_want span) (map want bs) * 160 = grind (arith, wants) in
        let times : n * sum_by rate (b ∷ bs) ≡ n * rate b + n * sum_by rate bs = ap (λ (k : ℕ). n * k) rates ∙ both n (rate b) (sum_by rate bs) in
        omega (arith, rest, one, all, times, mores)

  module _ (agree : timing.drift ≡ 0) where
    -- of a flow some of whose messages go in one frame each announcement counts, or none does
    pub announcement_rate : (b : Broadcast) → IsTimed timing b → IsRate 160 b.apart (bits_of_firsts timing b + bits_of_announcements timing b)
    announcement_rate b timed = subst (λ (p : ℕ). IsRate 160 p (bits_of_firsts timing b + bits_of_announcements timing b)) (sym timed.apart) (go b.has_short)
      where
        go : (has : Bool) → IsRate 160 (bits_at_least timing b.period)
            ((if has then bits_each timing 1 b.period else 0) + (if has then 0 else bits_each timing 1 b.period))
        go true = let one = each_is_rate agree 1 b.period timed.period in omega (arith, one)
        go false = let one = each_is_rate agree 1 b.period timed.period in omega (arith, one)

    pub first_rate : (b : Broadcast) → IsTimed timing b → IsRate (cond b.has_short 1 0 * 160) b.apart (bits_of_firsts timing b)
    first_rate b timed = subst (λ (p : ℕ). IsRate (cond b.has_short 1 0 * 160) p (bits_of_firsts timing b)) (sym timed.apart) (go b.has_short)
      where
        go : (has : Bool) → IsRate (cond has 1 0 * 160) (bits_at_least timing b.period) (if has then bits_each timing 1 b.period else 0)
        go true = each_is_rate agree 1 b.period timed.period
        go false = omega arith

-- two rates together
pub sum_by-two : {A : Type 0} (f g : A → ℕ) (xs : List A) → sum_by (λ x. f x + g x) xs ≡ sum_by f xs + sum_by g xs
sum_by-two f g [] = refl
sum_by-two f g (x ∷ xs) =
    let all = sum_by-cons (λ y. f y + g y) x xs in
    let first = sum_by-cons f x xs in
    let second = sum_by-cons g x xs in
    let rest = sum_by-two f g xs in
    omega (arith, all, first, second, rest)

-- so many times over
pub sum_by-times : {A : Type 0} (n : ℕ) (f : A → ℕ) (xs : List A) → sum_by (λ x. n * f x) xs ≡ n * sum_by f xs
sum_by-times n f [] = grind arith
sum_by-times n f (x ∷ xs) =
    let all = sum_by-cons (λ y. n * f y) x xs in
    let one = sum_by-cons f x xs in
    let rest = sum_by-times n f xs in
    let times : n * sum_by f (x ∷ xs) ≡ n * f x + n * sum_by f xs = ap (λ (k : ℕ). n * k) one ∙ both n (f x) (sum_by f xs) in
    omega (arith, all, rest, times)

-- ---- the lesser of two rates

pub lesser_rate : (n a b x y more others : ℕ) → a ≤ n * y + more → b ≤ n * x + others → min a b ≤ n * min x y + (more + others)
lesser_rate n a b x y more others first second = elim (cases_lt x y) [
  | inl less ↦
      let same : min x y ≡ x = omega (arith, less) in
      subst (λ (k : ℕ). min a b ≤ n * k + (more + others)) (sym same) (omega (arith, second))
  | inr from ↦
      let same : min x y ≡ y = omega (arith, from) in
      subst (λ (k : ℕ). min a b ≤ n * k + (more + others)) (sym same) (omega (arith, first))
]

-- beside a part that counts with both
pub beside_rate : (n a first x y more others : ℕ) → a ≤ n * (first + x) + more → a ≤ n * first + n * y + others → a ≤ n * (first + min x y) + (more + others)
beside_rate n a first x y more others one two = elim (cases_lt x y) [
  | inl less ↦
      let same : min x y ≡ x = omega (arith, less) in
      subst (λ (k : ℕ). a ≤ n * (first + k) + (more + others)) (sym same) (omega (arith, one))
  | inr from ↦
      let same : min x y ≡ y = omega (arith, from) in
      let parts : n * (first + y) ≡ n * first + n * y = grind arith in
      subst (λ (k : ℕ). a ≤ n * (first + k) + (more + others)) (sym same) (omega (arith, two, parts))
]
