-- What streams queue in a long time: no more than their part of the bus, and so many bits more whatever the time is.
use Rattle.std.proofs.Common.{◌≡◌, ℕ, zero, suc, ◌+◌, ◌*◌, ◌<◌, ◌≤◌, Bool, true, cond, eqb, List, [], ◌∷◌, length, get_or, take}
use Rattle.std.proofs.Common.{refl, sym, ap, ◌∙◌, subst, arith}
use Rattle.std.proofs.Math.Nat.{le_of_mul-le-mul_right, mul-le-mul_left}
use Rattle.std.proofs.Math.Seq.{take-suc}
use Rattle.std.proofs.lemmas.Bool.{eqb-true, eq-eqb}
use Rattle.std.proofs.lemmas.Grind.{div_ceil_times}
use Rattle.std.proofs.lemmas.List.{take_all}
use Rattle.std.proofs.lemmas.List.Sums.{sum_by-append, sum_by-cons}
use Rattle.std.specs.Int.{div_ceil}
use Rattle.std.specs.List.{sum_by}
use Rattle.j39_timing.specs.Sums.{total}
use Rattle.j39_timing.specs.TimedFrames.{Schedule}
use Rattle.j39_timing.specs.declared.stream.Stream.{Stream}
use Rattle.j39_timing.specs.declared.wants.Want.{Want}
use Rattle.j39_timing.specs.FrameStreams.{Origins, AreOfStreams}
use Rattle.j39_timing.specs.Traffic.{AreAsWanted}
use Rattle.j39_timing.specs.Waits.{Demand, asked_share, frames_of_want, lesser_share, share}
use Rattle.j39_timing.proofs.FullWindows.{window_most}
use Rattle.j39_timing.proofs.StreamSums.{at_most_one}
use Rattle.j39_timing.proofs.WaitingWindow.{is_within}

-- ---- one stream

-- so many bits each period are no more than a rate, and the bits of the messages that lateness adds, and of two more
abbrev pub more_bits : ℕ → ℕ → ℕ → ℕ
more_bits bits jitter period = bits * (2 + div_ceil jitter period)

pub slots_rate : (bits span period jitter rate : ℕ) → 0 < period → bits * span ≤ rate * period
    → bits * div_ceil (span + jitter) period ≤ rate + bits * (1 + div_ceil jitter period)
slots_rate bits span period jitter rate positive le =
    let (_, high) = div_ceil_times (span + jitter) period positive in
    let (low, _) = div_ceil_times jitter period positive in
    let step : div_ceil (span + jitter) period * period ≤ span + (div_ceil jitter period * period + period) = omega (arith, high, low) in
    let times : bits * (div_ceil (span + jitter) period * period) ≤ bits * (span + (div_ceil jitter period * period + period)) = mul-le-mul_left bits step in
    let left : (bits * div_ceil (span + jitter) period) * period ≡ bits * (div_ceil (span + jitter) period * period) = grind arith in
    let right : (rate + bits * (1 + div_ceil jitter period)) * period ≡ rate * period + bits * (div_ceil jitter period * period + period) = grind arith in
    let parts : bits * (span + (div_ceil jitter period * period + period)) ≡ bits * span + bits * (div_ceil jitter period * period + period) = grind arith in
    le_of_mul-le-mul_right (omega (arith, le, times, left, right, parts)) positive

pub share_rate : (stream : Stream) (span rate : ℕ) → 0 < stream.period → stream.frames * stream.bits * span ≤ rate * stream.period
    → share span stream ≤ rate + more_bits (stream.frames * stream.bits) stream.jitter stream.period
share_rate stream span rate positive le =
    let slots = slots_rate (stream.frames * stream.bits) span stream.period stream.jitter rate positive le in
    let same : stream.frames * (div_ceil (span + stream.jitter) stream.period * stream.bits)
    ≡ stream.frames * stream.bits * div_ceil (span + stream.jitter) stream.period = grind arith in
    let more : more_bits (stream.frames * stream.bits) stream.jitter stream.period
    ≡ stream.frames * stream.bits * (1 + div_ceil stream.jitter stream.period) + stream.frames * stream.bits = grind arith in
    omega (arith, slots, same, more)

-- so it is of what a flow wants, of which each frame has so many bits, but for as many messages more as come beside
abbrev pub more_wanted : Want → ℕ → ℕ
more_wanted want bits = want.frames * bits * (1 + want.more + div_ceil want.jitter want.period)

pub want_rate : (want : Want) (bits span rate : ℕ) → 0 < want.period → want.frames * bits * span ≤ rate * want.period
    → frames_of_want span want * bits ≤ rate + more_wanted want bits
want_rate want bits span rate positive le =
    let slots = slots_rate (want.frames * bits) span want.period want.jitter rate positive le in
    let same : frames_of_want span want * bits ≡ want.frames * bits * div_ceil
    (span + want.jitter) want.period + want.frames * bits * want.more = grind arith in
    let more : more_wanted want bits ≡ want.frames * bits * (1 + div_ceil want.jitter want.period) + want.frames * bits * want.more = grind arith in
    omega (arith, slots, same, more)

-- as of one whose messages may be queued so much later
abbrev pub later_want : ℕ → Want → Want
later_want jitter want = record want { jitter = jitter + want.jitter }

pub asked_by_rate : (stream : Stream) (want : Want) (span rate : ℕ) → 0 < want.period → want.frames * stream.bits * span ≤ rate * want.period
    → asked_share span stream want ≤ rate + more_wanted (later_want stream.jitter want) stream.bits
asked_by_rate stream want span rate positive le =
    let all = want_rate (later_want stream.jitter want) stream.bits span rate positive le in
    let late : span + stream.jitter + want.jitter ≡ span + (stream.jitter + want.jitter) = omega arith in
    let same = ap (λ (x : ℕ). want.frames * (div_ceil x want.period + want.more) * stream.bits) late in
    omega (arith, all, same)

module _ (s : Schedule) (count : ℕ) (stream : ℕ → Stream) (demands : List Demand) (planned : ℕ → Bool) (of : Origins)
    (known : AreOfStreams s (λ p. planned p ≡ true) count stream of) (as_wanted : AreAsWanted s planned of demands stream)
    (positive : (j : ℕ) → j < count → 0 < (stream j).period) where
  -- the bits of frames of one stream in a window
  pub one_stream : (i wait t : ℕ) (passes : ℕ → Bool)
      → ((p : ℕ) → p < s.count → passes p ≡ true → (planned p ≡ true) × (of.source p ≡ i) × (is_within s t (wait + 1) p ≡ true))
      → total s.count (λ p. cond (passes p) (s.bits p) 0) ≤ lesser_share demands (wait + 1) (stream i)
  one_stream i wait t passes parts =
      let most = window_most s count stream demands planned of known as_wanted positive (λ j. eqb j i) (λ p. eqb (of.source p) i) (λ p in_p is its. its) wait
      passes t (λ p in_p is. let (of_plan, its, inside) = parts p in_p is in (of_plan, eq-eqb (of.source p) i its, inside)) in
      let one : total count (λ j. cond (eqb j i) (lesser_share demands (wait + 1) (stream j)) 0) ≤ lesser_share demands (wait + 1) (stream i) =
      at_most_one count (λ j. eqb j i) (λ j. lesser_share demands (wait + 1) (stream j)) (lesser_share demands (wait + 1) (stream i))
      (λ j below is. subst (λ (k : ℕ). lesser_share demands (wait + 1) (stream j) ≤ lesser_share demands (wait + 1) (stream k)) (eqb-true j i is) (omega arith))
      (λ j k in_j in_k is_j is_k. eqb-true j i is_j ∙ sym (eqb-true k i is_k)) in
      omega (arith, most, one)

-- ---- sums

-- place by place is element by element
pub by_places : {A : Type 0} (none : A) (g : A → ℕ) (xs : List A) (f : ℕ → ℕ) → ((i : ℕ) → i < length xs → f i ≤ g (get_or xs i none)) → total (length xs) f
    ≤ sum_by g xs
unfolding total
by_places none g xs f each =
    let all = up_to (length xs) (omega arith) in
    let whole : sum_by g (take (length xs) xs) ≡ sum_by g xs = ap (sum_by g) (take_all (length xs) xs (omega arith)) in
    omega (arith, all, whole)
  where
    up_to : (k : ℕ) → k ≤ length xs → total k f ≤ sum_by g (take k xs)
    up_to zero le = omega arith
    up_to (suc k) le =
        let before = up_to k (omega (arith, le)) in
        let next : sum_by g (take (suc k) xs) ≡ sum_by g (take k xs) + sum_by g (get_or xs k none ∷ []) =
        ap (sum_by g) (take-suc xs k none (omega (arith, le))) ∙ sum_by-append g (take k xs) (get_or xs k none ∷ []) in
        let one : sum_by g (get_or xs k none ∷ []) ≡ g (get_or xs k none) + sum_by g [] = sum_by-cons g (get_or xs k none) [] in
        let this = each k (omega (arith, le)) in
        omega (arith, before, next, one, this)

-- two sums place by place
pub total-both : (n : ℕ) (f g : ℕ → ℕ) → total n f + total n g ≡ total n (λ i. f i + g i)
unfolding total
total-both zero f g = refl
total-both (suc n) f g = let before = total-both n f g in omega (arith, before)
