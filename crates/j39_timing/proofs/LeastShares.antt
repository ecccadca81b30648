-- Below the wait from which the loads allow it nothing has room.
use Rattle.std.proofs.Common.{◌≡◌, ℕ, ◌+◌, ◌*◌, ◌-◌, ◌/◌, ◌^◌, ◌<◌, ◌≤◌, max, min, List, length, take, get_or, All, map, sum_by, None, Some, arith, inl, inr}
use Rattle.std.proofs.Common.{sym, ap, ◌∙◌}
use Rattle.std.specs.Int.{div_ceil}
use Rattle.std.specs.List.{slice_get}
use Rattle.std.specs.Option.{option_map}
use Rattle.std.proofs.lemmas.Bool.{cases_lt}
use Rattle.std.proofs.lemmas.Grind.{div_ceil_times}
use Rattle.std.proofs.lemmas.Option.{slice_get-map}
use Rattle.std.proofs.lemmas.List.Sums.{sum_by_more}
use Rattle.std.proofs.Math.Nat.{div-mul-le_self, div-le_self, lt-mul-div-succ, mul-le-mul_left}
use Rattle.j39_timing.specs.LeastShares.{NoneFitsFrom, IsLineBelow, IsStretchBelow, line_at, part_of}
use Rattle.j39_timing.specs.Waits.{Demand, NoShorterFits, IsStream, IsWant, as_demand, frames_of_want, frames_wanted, lesser, lesser_share, need}
use Rattle.j39_timing.specs.Waits.{share}
use Rattle.j39_timing.specs.declared.lines.Line.{Line}
use Rattle.j39_timing.specs.declared.lines.Stretch.{Stretch}
use Rattle.j39_timing.specs.declared.stream.Stream.{Stream}
use Rattle.j39_timing.specs.declared.wants.Want.{Want}
use Rattle.j39_timing.specs.declared.wants.Wanted.{Wanted}
use Rattle.j39_timing.proofs.Needs.{AreDemands, none_fits, want-mono}

pub part-small : (x : Stream) → IsStream x → part_of x ≤ 2 ^ 50
part-small x ok =
    let (_, bits, frames, _, _) = ok in
    let some : x.frames * x.bits ≤ x.frames * 2 ^ 8 = mul-le-mul_left x.frames bits in
    let all : part_of x ≤ x.frames * x.bits * 2 ^ 32 = div-le_self (x.frames * x.bits * 2 ^ 32) x.period in
    omega (arith, some, frames, all)

-- so many frames, of which there are at least as many as periods, take their part of the bus
takes : (x late period frames bits : ℕ) → 0 < period
    → frames * bits * 2 ^ 32 / period * x ≤ 2 ^ 32 * (frames * (div_ceil (x + late) period * bits))
takes x late period frames bits some =
    let c : ℕ = div_ceil (x + late) period in
    let part : ℕ = frames * bits * 2 ^ 32 / period in
    let reached : x + late ≤ c * period = (div_ceil_times (x + late) period some).0 in
    let whole : part * period ≤ frames * bits * 2 ^ 32 = div-mul-le_self (frames * bits * 2 ^ 32) period in
    let long : part * x ≤ part * (c * period) = mul-le-mul_left part (omega (arith, reached)) in
    let often : c * (part * period) ≤ c * (frames * bits * 2 ^ 32) = mul-le-mul_left c whole in
    let same : part * (c * period) ≡ c * (part * period) = grind arith in
    let all : c * (frames * bits * 2 ^ 32) ≡ 2 ^ 32 * (frames * (c * bits)) = grind arith in
    omega (arith, long, often, same, all)

-- a stream queues its part of the bus at least
pub takes-part : (x : ℕ) (stream : Stream) → IsStream stream → part_of stream * x ≤ 2 ^ 32 * share x stream
takes-part x stream ok = takes x stream.jitter stream.period stream.frames stream.bits ok.0

-- and it asks for no less in a longer time
pub wants-before : (x span bits : ℕ) (want : Want) → IsWant want → span ≤ x
    → 2 ^ 32 * (frames_of_want span want * bits) + 0 * x ≤ 2 ^ 32 * (frames_of_want x want * bits)
wants-before x span bits want ok from =
    let more : bits * frames_of_want span want ≤ bits * frames_of_want x want = mul-le-mul_left bits (want-mono span x want from ok) in
    omega (arith, more)

-- the messages that come beside are wanted at least, and a part of the bus
pub wants-part : (x bits : ℕ) (want : Want) → IsWant want
    → 2 ^ 32 * (want.frames * bits * want.more) + want.frames * bits * 2 ^ 32 / want.period * x ≤ 2 ^ 32 * (frames_of_want x want * bits)
wants-part x bits want ok =
    let part : want.frames * bits * 2 ^ 32 / want.period * x ≤ 2 ^ 32 * (want.frames * (div_ceil (x + want.jitter) want.period * bits)) =
    takes x want.jitter want.period want.frames bits ok.0 in
    let more : frames_of_want x want * bits ≡ want.frames * (div_ceil (x + want.jitter) want.period * bits) + want.frames * bits * want.more = grind arith in
    omega (arith, part, more)

-- ---- what its sender wants of a stream
pub wanted-of : (all : List Wanted) (place : ℕ) (wanted : Wanted) → slice_get all place ≡ Some wanted → slice_get (map as_demand all) place ≡ Some (as_demand wanted)
wanted-of all place wanted found = slice_get-map as_demand all place ∙ ap (option_map as_demand) found

pub nothing-of : (all : List Wanted) (place : ℕ) → slice_get all place ≡ None → slice_get (map as_demand all) place ≡ None
nothing-of all place none = slice_get-map as_demand all place ∙ ap (option_map as_demand) none

-- ---- its pace, and what is wanted of it: lines that cross in some time
module _ (paced asked k : ℕ) (less : asked < paced) where
  -- up to then its pace is the lesser
  pub before : (x : ℕ) → x ≤ k * 2 ^ 32 / (paced - asked) → paced * x ≤ 2 ^ 32 * k + asked * x
  before x within =
      let free : ℕ = paced - asked in
      let whole : k * 2 ^ 32 / free * free ≤ k * 2 ^ 32 = div-mul-le_self (k * 2 ^ 32) free in
      let most : free * x ≤ free * (k * 2 ^ 32 / free) = mul-le-mul_left free within in
      let turned : free * (k * 2 ^ 32 / free) ≡ k * 2 ^ 32 / free * free = grind arith in
      let sum : paced ≡ free + asked = omega (arith, less) in
      let all : paced * x ≡ free * x + asked * x = ap (λ (n : ℕ). n * x) sum ∙ grind arith in
      omega (arith, whole, most, turned, all)

  -- and behind it what is wanted
  pub behind : (x : ℕ) → k * 2 ^ 32 / (paced - asked) < x → 2 ^ 32 * k + asked * x ≤ paced * x
  behind x after =
      let free : ℕ = paced - asked in
      let reached : k * 2 ^ 32 < free * (k * 2 ^ 32 / free + 1) = lt-mul-div-succ (k * 2 ^ 32) (omega (arith, less)) in
      let most : free * (k * 2 ^ 32 / free + 1) ≤ free * x = mul-le-mul_left free (omega (arith, after)) in
      let sum : paced ≡ free + asked = omega (arith, less) in
      let all : paced * x ≡ free * x + asked * x = ap (λ (n : ℕ). n * x) sum ∙ grind arith in
      omega (arith, reached, most, all)

module _ (stream : Stream) (demand : Demand) (asked : Line) (span : ℕ) (ok : IsStream stream)
    (below : IsLineBelow asked (span + stream.jitter) (λ n. frames_wanted n demand * stream.bits)) where
  -- what is below both is below the lesser
  below-both : (x low : ℕ) → span ≤ x → low ≤ part_of stream * x → low ≤ line_at x asked → low ≤ 2 ^ 32 * lesser x stream (Some demand)
  below-both x low from first second =
      let paced : part_of stream * x ≤ 2 ^ 32 * share x stream = takes-part x stream ok in
      let later : asked.part * x ≤ asked.part * (x + stream.jitter) = mul-le-mul_left asked.part (omega arith) in
      let wanted : line_at (x + stream.jitter) asked ≤ 2 ^ 32 * (frames_wanted (x + stream.jitter) demand * stream.bits) =
      below (x + stream.jitter) (omega (arith, from)) in
      omega (arith, first, second, paced, later, wanted)

  -- its pace alone, where no less is wanted
  pub always-paced : part_of stream ≤ asked.part → (x : ℕ) → span ≤ x → part_of stream * x ≤ 2 ^ 32 * lesser x stream (Some demand)
  always-paced more x from =
      let most : x * part_of stream ≤ x * asked.part = mul-le-mul_left x more in
      below-both x (part_of stream * x) from (omega arith) (omega (arith, most))

  -- its pace, as long as no less is wanted
  pub paced-before : asked.part < part_of stream → (x : ℕ) → span ≤ x → x ≤ asked.known * 2 ^ 32 / (part_of stream - asked.part)
      → part_of stream * x ≤ 2 ^ 32 * lesser x stream (Some demand)
  paced-before less x from within = below-both x (part_of stream * x) from (omega arith) (before (part_of stream) asked.part asked.known less x within)

  -- what is wanted, from then on
  pub asked-behind : asked.part < part_of stream → asked.known * 2 ^ 32 / (part_of stream - asked.part) < span
      → (x : ℕ) → span ≤ x → line_at x asked ≤ 2 ^ 32 * lesser x stream (Some demand)
  asked-behind less after x from =
      below-both x (line_at x asked) from (behind (part_of stream) asked.part asked.known less x (omega (arith, after, from))) (omega arith)

  pub asked-small : asked.part < part_of stream → asked.known * 2 ^ 32 / (part_of stream - asked.part) < span → span < 2 ^ 32 → asked.known ≤ 2 ^ 51
  asked-small less after short =
      let most : 2 ^ 32 * asked.known + asked.part * span ≤ part_of stream * span = behind (part_of stream) asked.part asked.known less span after in
      let part : part_of stream ≤ 2 ^ 50 = part-small stream ok in
      let all : span * part_of stream ≤ span * 2 ^ 50 = mul-le-mul_left span part in
      omega (arith, most, all, short)

-- ---- all that want, and all streams: one more
pub one-more-want : (a b : Line) (span bits : ℕ) (xs : List Want) (i : ℕ) (d : Want) → i < length xs
    → IsLineBelow a span (λ x. sum_by (frames_of_want x) (take i xs) * bits) → IsLineBelow b span (λ x. frames_of_want x (get_or xs i d) * bits)
    → IsLineBelow (record { known = a.known + b.known; part = a.part + b.part }) span (λ x. sum_by (frames_of_want x) (take (i + 1) xs) * bits)
one-more-want a b span bits xs i d inside first second x from =
    rw (sum_by_more (frames_of_want x) xs i d inside)
    (let one = first x from in
    let other = second x from in
    let left : (a.part + b.part) * x ≡ a.part * x + b.part * x = grind arith in
    let right : (sum_by (frames_of_want x) (take i xs) + frames_of_want x (get_or xs i d)) * bits
    ≡ sum_by (frames_of_want x) (take i xs) * bits + frames_of_want x (get_or xs i d) * bits = grind arith in
    omega (arith, one, other, left, right))

pub one-more-stream : (demands : List Demand) (a b : Stretch) (span : ℕ) (xs : List Stream) (i : ℕ) (d : Stream) → i < length xs
    → IsStretchBelow a span (λ x. sum_by (lesser_share demands x) (take i xs)) → IsStretchBelow b span (λ x. lesser_share demands x (get_or xs i d))
    → IsStretchBelow (record { line = record { known = a.line.known + b.line.known; part = a.line.part + b.line.part }; until = min b.until a.until }) span
    (λ x. sum_by (lesser_share demands x) (take (i + 1) xs))
one-more-stream demands a b span xs i d inside first second x from within =
    rw (sum_by_more (lesser_share demands x) xs i d inside)
    (let one = first x from (omega (arith, within)) in
    let other = second x from (omega (arith, within)) in
    let left : (a.line.part + b.line.part) * x ≡ a.line.part * x + b.line.part * x = grind arith in
    omega (arith, one, other, left))

module _ (demands : List Demand) (blocking w : ℕ) (xs : List Stream) (stretch : Stretch)
    (below : IsStretchBelow stretch (w + 1) (λ x. sum_by (lesser_share demands x) xs)) where
  -- the parts take all of the bus
  pub never : 2 ^ 32 ≤ stretch.line.part → NoneFitsFrom demands blocking xs w stretch.until
  never full v from before =
      let taken : line_at (v + 1) stretch.line ≤ 2 ^ 32 * sum_by (lesser_share demands (v + 1)) xs =
      below (v + 1) (omega (arith, from)) (omega (arith, before)) in
      let most : (v + 1) * 2 ^ 32 ≤ (v + 1) * stretch.line.part = mul-le-mul_left (v + 1) full in
      let turned : (v + 1) * stretch.line.part ≡ stretch.line.part * (v + 1) = grind arith in
      omega (arith, taken, most, turned)

  -- they leave some
  pub allowed : (bits : ℕ) → stretch.line.part < 2 ^ 32 → bits ≡ (blocking + stretch.line.known) * 2 ^ 32 + stretch.line.part
      → NoneFitsFrom demands blocking xs w (min (div_ceil bits (2 ^ 32 - stretch.line.part)) stretch.until)
  allowed bits left bits_are v from before =
      let taken : line_at (v + 1) stretch.line ≤ 2 ^ 32 * sum_by (lesser_share demands (v + 1)) xs =
      below (v + 1) (omega (arith, from)) (omega (arith, before)) in
      let parts : ℕ = stretch.line.part in
      let free : ℕ = 2 ^ 32 - parts in
      let whole : free + parts ≡ 2 ^ 32 = omega (arith, left) in
      let above : div_ceil bits free * free < bits + free = (div_ceil_times bits free (omega (arith, left))).1 in
      let few : free * (v + 1) ≤ free * div_ceil bits free = mul-le-mul_left free (omega (arith, before)) in
      let turned : free * div_ceil bits free ≡ div_ceil bits free * free = grind arith in
      let one : free * (v + 1) ≡ free * v + free = grind arith in
      let next : parts * (v + 1) ≡ parts * v + parts = grind arith in
      let split : (free + parts) * v ≡ free * v + parts * v = grind arith in
      let all_of : 2 ^ 32 * v ≡ free * v + parts * v = ap (λ (n : ℕ). n * v) (sym whole) ∙ split in
      omega (arith, taken, above, few, turned, one, next, all_of, bits_are)

-- up to a wait none has room, nor from there on up to what it needs, nor up to what is allowed: so none has up to the greater one of both
pub none_fits_below : (demands : List Demand) (blocking : ℕ) (xs : List Stream) (w needed first next : ℕ) → AreDemands demands → All IsStream xs
    → NoShorterFits demands blocking xs w → needed ≤ need demands blocking xs w → NoneFitsFrom demands blocking xs w first → next ≤ max needed first
    → NoShorterFits demands blocking xs next
none_fits_below demands blocking xs w needed first next known all none within allows most v below = elim (cases_lt v w) [
  | inl before ↦ none v before
  | inr from ↦ elim (cases_lt v first) [
    | inl early ↦ allows v from early
    | inr late ↦ none_fits demands blocking xs w needed known all none within v (omega (arith, below, most, late))
  ]
]
