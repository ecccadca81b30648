-- Streams that ask no more leave no longer waits.
use Rattle.std.proofs.Common.{◌≡◌, ℕ, suc, ◌+◌, ◌*◌, ◌<◌, ◌≤◌, List, [], ◌∷◌, Option, Some, None, refl, inl, inr, arith}
use Rattle.std.specs.Int.{div_ceil}
use Rattle.std.specs.List.{sum_by}
use Rattle.std.proofs.Math.Nat.{mul-le-mul_left, mul-le-mul_right}
use Rattle.std.proofs.lemmas.Bool.{cases_lt}
use Rattle.std.proofs.lemmas.Grind.{div_ceil_times}
use Rattle.std.proofs.lemmas.List.Sums.{sum_by-cons}
use Rattle.j39_timing.specs.Waits.{Demand, NoShorterFits, askers_want, demand_of, frames_of_want, frames_wanted, lesser, lesser_share, need, share}
use Rattle.j39_timing.specs.Waits.{wanted_share}
use Rattle.j39_timing.specs.declared.stream.Stream.{Stream}
use Rattle.j39_timing.specs.declared.wants.Want.{Want}
use Rattle.j39_timing.proofs.Demands.{lesser-most}
use Rattle.j39_part_laws.specs.Shares.{AreBounded, AsksNoMore, DemandsNoMore, IsAskedNoMore, IsNoMore, IsWantedNoMore, WantsNoMore}
use Rattle.j39_part_laws.specs.Sublists.{IsSub}

pub mul-mono : (a b c d : ℕ) → a ≤ b → c ≤ d → a * c ≤ b * d
mul-mono a b c d ab cd =
    let one : a * c ≤ b * c = mul-le-mul_right c ab in
    let other : b * c ≤ b * d = mul-le-mul_left b cd in
    omega (arith, one, other)

-- of more in smaller steps there are no fewer
pub ceil-mono : (a b w v : ℕ) → a ≤ b → 0 < v → v ≤ w → div_ceil a w ≤ div_ceil b v
ceil-mono a b w v ab some vw = elim (cases_lt (div_ceil b v) (div_ceil a w)) [
  | inr le ↦ le
  | inl less ↦
      let wide : 0 < w = omega (arith, some, vw) in
      let reached : b ≤ div_ceil b v * v = (div_ceil_times b v some).0 in
      let high : div_ceil a w * w < a + w = (div_ceil_times a w wide).1 in
      let more : suc (div_ceil b v) * w ≤ div_ceil a w * w = mul-le-mul_right w (let e : suc (div_ceil b v) ≤ div_ceil a w = omega (arith, less) in e) in
      let wider : div_ceil b v * v ≤ div_ceil b v * w = mul-le-mul_left (div_ceil b v) vw in
      absurd (omega (arith, reached, high, more, wider, ab))
]

share-no-more : (s t : ℕ) (x y : Stream) → s ≤ t → IsNoMore x y → share s x ≤ share t y
share-no-more s t x y st is =
    let late = is.jitter in
    let slots : div_ceil (s + x.jitter) x.period ≤ div_ceil (t + y.jitter) y.period =
    ceil-mono (s + x.jitter) (t + y.jitter) x.period y.period (omega (arith, st, late)) is.positive is.period in
    mul-mono x.frames y.frames _ _ is.frames (mul-mono _ _ x.bits y.bits slots is.bits)

want-no-more : (s t : ℕ) (x y : Want) → s ≤ t → WantsNoMore x y → frames_of_want s x ≤ frames_of_want t y
want-no-more s t x y st is =
    let late = is.jitter in
    let slots : div_ceil (s + x.jitter) x.period ≤ div_ceil (t + y.jitter) y.period =
    ceil-mono (s + x.jitter) (t + y.jitter) x.period y.period (omega (arith, st, late)) is.positive is.period in
    let more = is.more in
    mul-mono x.frames y.frames _ _ is.frames (omega (arith, slots, more))

-- ---- sums

pub sum-no-more : {A B : Type 0} (R : A → B → Type 0) (f : A → ℕ) (g : B → ℕ) → ((x : A) (y : B) → R x y → f x ≤ g y) → (xs : List A) (ys : List B)
    → IsSub R xs ys → sum_by f xs ≤ sum_by g ys
sum-no-more R f g less [] ys sub = let none : sum_by f [] ≡ 0 = refl in omega (arith, none)
sum-no-more R f g less (x ∷ xs) [] sub = absurd sub
sum-no-more R f g less (x ∷ xs) (y ∷ ys) (inl (stands, left)) =
    let one = less x y stands in
    let rest = sum-no-more R f g less xs ys left in
    let here = sum_by-cons f x xs in
    let there = sum_by-cons g y ys in
    omega (arith, one, rest, here, there)
sum-no-more R f g less (x ∷ xs) (y ∷ ys) (inr later) =
    let rest = sum-no-more R f g less (x ∷ xs) ys later in
    let there = sum_by-cons g y ys in
    omega (arith, rest, there)

wanted-no-more : (s t : ℕ) (d e : Demand) → s ≤ t → DemandsNoMore d e → frames_wanted s d ≤ frames_wanted t e
wanted-no-more s t d e st is =
    let under_way = is.under_way in
    let asked = sum-no-more WantsNoMore (frames_of_want s) (frames_of_want t) (λ x y wants. want-no-more s t x y st wants) d.wants e.wants is.wants in
    omega (arith, under_way, asked)

lesser-no-more : (span : ℕ) (x y : Stream) → IsNoMore x y → (d e : Option Demand) → IsWantedNoMore d e → lesser span x d ≤ lesser span y e
lesser-no-more span x y is None None wanted = share-no-more span span x y (omega arith) is
lesser-no-more span x y is None (Some e) wanted = absurd wanted
lesser-no-more span x y is (Some d) None wanted =
    let whole = share-no-more span span x y (omega arith) is in
    omega (arith, whole)
lesser-no-more span x y is (Some d) (Some e) wanted =
    let whole = share-no-more span span x y (omega arith) is in
    let late = is.jitter in
    let asked = wanted-no-more (span + x.jitter) (span + y.jitter) d e (omega (arith, late)) wanted in
    let part : frames_wanted (span + x.jitter) d * x.bits ≤ frames_wanted (span + y.jitter) e * y.bits = mul-mono _ _ _ _ asked is.bits in
    omega (arith, whole, part)

-- also where others ask for their messages
asked-no-more : (span : ℕ) (x y : Stream) → IsNoMore x y → (d e : Option Demand) → IsWantedNoMore d e → (v w : Option Want) → IsAskedNoMore x v w
    → wanted_share span x v d ≤ wanted_share span y w e
asked-no-more span x y is d e wanted None None asked = lesser-no-more span x y is d e wanted
asked-no-more span x y is d e wanted (Some v) None asked = absurd asked
asked-no-more span x y is d e wanted None (Some w) (frames, positive, period) =
    let late = is.jitter in
    let slots : div_ceil (span + x.jitter) x.period ≤ div_ceil (span + y.jitter + w.jitter) w.period =
    ceil-mono (span + x.jitter) (span + y.jitter + w.jitter) x.period w.period (omega (arith, late)) positive period in
    let messages : x.frames * div_ceil (span + x.jitter) x.period ≤ frames_of_want (span + y.jitter) w =
    mul-mono x.frames w.frames (div_ceil (span + x.jitter) x.period) (div_ceil (span + y.jitter + w.jitter) w.period + w.more) frames (omega (arith, slots)) in
    let bits : x.frames * div_ceil (span + x.jitter) x.period * x.bits ≤ frames_of_want
    (span + y.jitter) w * y.bits = mul-mono _ _ x.bits y.bits messages is.bits in
    let turned : share span x ≡ x.frames * div_ceil (span + x.jitter) x.period * x.bits = grind arith in
    let less = lesser-most span x d in
    omega (arith, bits, turned, less)
asked-no-more span x y is d e wanted (Some v) (Some w) asked =
    let late = is.jitter in
    let messages = want-no-more (span + x.jitter) (span + y.jitter) v w (omega (arith, late)) asked in
    mul-mono _ _ x.bits y.bits messages is.bits

pub are_bounded : AreBounded
are_bounded ds es a b xs ys ab sub = record { needs = needs; least = least }
  where
    needs : (w : ℕ) → need ds a xs w ≤ need es b ys w
    needs w =
        let sums = sum-no-more (AsksNoMore ds es) (lesser_share ds (w + 1)) (lesser_share es (w + 1))
        (λ x y asks. asked-no-more (w + 1) x y asks.stream (demand_of ds x) (demand_of es y) asks.wanted (askers_want x)
        (askers_want y) asks.asked) xs ys sub in
        omega (arith, ab, sums)

    least : (v w : ℕ) → NoShorterFits ds a xs v → need es b ys w ≤ w → v ≤ w
    least v w none fits = elim (cases_lt w v) [
      | inr le ↦ le
      | inl less ↦
          let above = none w less in
          let room = needs w in
          absurd (omega (arith, above, room, fits))
    ]
