-- What streams need in a wait: a bound, and that a longer wait needs no less.
use Rattle.std.proofs.Common.{◌≡◌, ℕ, ◌+◌, ◌*◌, ◌^◌, ◌<◌, ◌≤◌, List, [], ◌∷◌, length, map, All, sum_by, Option, None, Some, IfSome, refl, subst, arith, inl}
use Rattle.std.proofs.Common.{inr}
use Rattle.std.specs.Int.{div_ceil}
use Rattle.std.proofs.lemmas.Bool.{cases_lt}
use Rattle.std.proofs.lemmas.Grind.{div_ceil_times}
use Rattle.std.proofs.lemmas.List.Elements.{All-get_or, All-head, All-map, All-tail}
use Rattle.std.proofs.lemmas.Option.{get_or_from_slice_get, slice_get_within}
use Rattle.std.proofs.lemmas.List.Sums.{sum_by-cons, sum_by-le}
use Rattle.std.proofs.Math.Nat.{mul-le-mul_left, lt_of_mul-lt-mul_right}
use Rattle.std.specs.List.{slice_get}
use Rattle.std.specs.Option.{option_and_then}
use Rattle.j39_timing.specs.Waits.{Demand, IsDemand, IsStream, IsWant, IsWanted, NoShorterFits, as_demand, askers_want, demand_of, frames_of_want}
use Rattle.j39_timing.specs.Waits.{frames_wanted, lesser, lesser_share, need, of_sender, share, wanted_share}
use Rattle.j39_timing.specs.declared.stream.Stream.{Stream}
use Rattle.j39_timing.specs.declared.stream.WantedBy.{WantedBy}
use Rattle.j39_timing.specs.declared.stream.WantedBy.TheVariants.{Askers, Sender}
use Rattle.j39_timing.specs.declared.wants.Want.{Want}
use Rattle.j39_timing.specs.declared.wants.Wanted.{Wanted}
use Rattle.j39_timing.proofs.Demands.{lesser-most}

ceil-le : (a k : ℕ) → 0 < k → div_ceil a k ≤ a
ceil-le a k some = elim (cases_lt a (div_ceil a k)) [
  | inr le ↦ le
  | inl more ↦
      let above : div_ceil a k * k < a + k = (div_ceil_times a k some).1 in
      let much : k * (a + 1) ≤ k * div_ceil a k = mul-le-mul_left k (omega arith) in
      let self : a * 1 ≤ a * k = mul-le-mul_left a (omega arith) in
      absurd (omega arith)
]

ceil-mono : (a b k : ℕ) → 0 < k → a ≤ b → div_ceil a k ≤ div_ceil b k
ceil-mono a b k some le =
    let above : div_ceil a k * k < a + k = (div_ceil_times a k some).1 in
    let below : b ≤ div_ceil b k * k = (div_ceil_times b k some).0 in
    let less : div_ceil a k * k < (div_ceil b k + 1) * k = omega arith in
    let fewer : div_ceil a k < div_ceil b k + 1 = lt_of_mul-lt-mul_right k less in
    omega arith

pub share-small : (span : ℕ) (x : Stream) → span < 2 ^ 32 → IsStream x → share span x ≤ 2 ^ 51
share-small span x small ok =
    let few : div_ceil (span + x.jitter) x.period ≤ span + x.jitter = ceil-le (span + x.jitter) x.period ok.0 in
    let (_, bits, frames, late, _) = ok in
    let messages : div_ceil (span + x.jitter) x.period ≤ 2 ^ 33 = omega arith in
    let all : div_ceil (span + x.jitter) x.period * x.bits ≤ div_ceil (span + x.jitter) x.period * 2 ^ 8 =
    mul-le-mul_left (div_ceil (span + x.jitter) x.period) bits in
    let each : div_ceil (span + x.jitter) x.period * x.bits ≤ 2 ^ 41 = omega arith in
    let most : x.frames * (div_ceil (span + x.jitter) x.period * x.bits) ≤ x.frames * 2 ^ 41 = mul-le-mul_left x.frames each in
    omega arith

pub share-mono : (a b : ℕ) (x : Stream) → a ≤ b → IsStream x → share a x ≤ share b x
share-mono a b x le ok =
    let more : div_ceil (a + x.jitter) x.period ≤ div_ceil (b + x.jitter) x.period = ceil-mono (a + x.jitter) (b + x.jitter) x.period ok.0 (omega arith) in
    let each : x.bits * div_ceil (a + x.jitter) x.period ≤ x.bits * div_ceil (b + x.jitter) x.period = mul-le-mul_left x.bits more in
    let all : div_ceil (a + x.jitter) x.period * x.bits ≤ div_ceil (b + x.jitter) x.period * x.bits = omega arith in
    mul-le-mul_left x.frames all

want-small : (span : ℕ) (x : Want) → span < 2 ^ 33 → IsWant x → frames_of_want span x ≤ 2 ^ 43
want-small span x small ok =
    let few : div_ceil (span + x.jitter) x.period ≤ span + x.jitter = ceil-le (span + x.jitter) x.period ok.0 in
    let (_, frames, late, more) = ok in
    let messages : div_ceil (span + x.jitter) x.period + x.more ≤ 2 ^ 34 = omega (arith, few, small, late, more) in
    let most : x.frames * (div_ceil (span + x.jitter) x.period + x.more) ≤ x.frames * 2 ^ 34 = mul-le-mul_left x.frames messages in
    omega (arith, most, frames)

pub wants-small : (span : ℕ) (xs : List Want) → span < 2 ^ 33 → All IsWant xs → length xs ≤ 2048 → sum_by (frames_of_want span) xs ≤ 2 ^ 54
wants-small span xs small all few =
    let most : sum_by (frames_of_want span) xs ≤ length xs * 2 ^ 43 =
    sum_by-le (frames_of_want span) (2 ^ 43) xs (λ k d inside. want-small span _ small (all k d inside)) in
    omega (arith, most, few)

pub want-mono : (a b : ℕ) (x : Want) → a ≤ b → IsWant x → frames_of_want a x ≤ frames_of_want b x
want-mono a b x le ok =
    let more : div_ceil (a + x.jitter) x.period ≤ div_ceil (b + x.jitter) x.period = ceil-mono (a + x.jitter) (b + x.jitter) x.period ok.0 (omega arith) in
    mul-le-mul_left x.frames (omega (arith, more))

wants-mono : (a b : ℕ) (xs : List Want) → a ≤ b → All IsWant xs → sum_by (frames_of_want a) xs ≤ sum_by (frames_of_want b) xs
wants-mono a b [] le all = omega arith
wants-mono a b (x ∷ xs) le all =
    rw (sum_by-cons (frames_of_want a) x xs, sum_by-cons (frames_of_want b) x xs)
    (let one : frames_of_want a x ≤ frames_of_want b x = want-mono a b x le (All-head IsWant x xs all) in
    let rest : sum_by (frames_of_want a) xs ≤ sum_by (frames_of_want b) xs = wants-mono a b xs le (All-tail IsWant x xs all) in
    omega arith)

-- of all of which less may be wanted it is known what
abbrev pub AreDemands : List Demand → Type 0
AreDemands demands = All IsDemand demands

pub demands-sound : (all : List Wanted) → All IsWanted all → AreDemands (map as_demand all)
demands-sound all known = All-map IsDemand as_demand all known

lesser-mono : (a b : ℕ) (x : Stream) (wanted : Option Demand) → a ≤ b → IsStream x → IfSome wanted IsDemand → lesser a x wanted ≤ lesser b x wanted
lesser-mono a b x None le ok sound = share-mono a b x le ok
lesser-mono a b x (Some demand) le ok sound =
    let paced : share a x ≤ share b x = share-mono a b x le ok in
    let wanted : frames_wanted (a + x.jitter) demand ≤ frames_wanted (b + x.jitter) demand =
    (let wants = wants-mono (a + x.jitter) (b + x.jitter) demand.wants (omega arith) sound.2 in omega (arith, wants)) in
    let bits : x.bits * frames_wanted (a + x.jitter) demand ≤ x.bits * frames_wanted (b + x.jitter) demand = mul-le-mul_left x.bits wanted in
    omega (arith, paced, bits)

pub demand-sound : (demands : List Demand) (x : Stream) → AreDemands demands → IfSome (demand_of demands x) IsDemand
demand-sound demands x all = go x.wanted
  where
    at : (place : ℕ) (found : Option Demand) → slice_get demands place ≡ found → IfSome (slice_get demands place) IsDemand
    at place None is = rw (is) tt
    at place (Some demand) is = rw (is) (subst IsDemand (get_or_from_slice_get demands place demand demand is)
        (All-get_or IsDemand demands place demand (slice_get_within demands place demand is) all))

    go : (wanted : Option WantedBy) → IfSome (option_and_then (of_sender demands) wanted) IsDemand
    go None = tt
    go (Some (Askers want)) = tt
    go (Some (Sender place)) = at place (slice_get demands place) refl

pub lesser_share-mono : (demands : List Demand) (a b : ℕ) (x : Stream) → AreDemands demands → a ≤ b → IsStream x
    → lesser_share demands a x ≤ lesser_share demands b x
lesser_share-mono demands a b x known le ok = go (askers_want x) ok.4
  where
    go : (asked : Option Want) → IfSome asked IsWant → wanted_share a x asked (demand_of demands x) ≤ wanted_share b x asked (demand_of demands x)
    go None sound = lesser-mono a b x (demand_of demands x) le ok (demand-sound demands x known)
    go (Some want) sound =
        let more : frames_of_want (a + x.jitter) want ≤ frames_of_want (b + x.jitter) want = want-mono (a + x.jitter) (b + x.jitter) want (omega (arith, le)) sound in
        let bits : x.bits * frames_of_want (a + x.jitter) want ≤ x.bits * frames_of_want (b + x.jitter) want = mul-le-mul_left x.bits more in
        omega (arith, bits)

pub lesser_share-small : (demands : List Demand) (span : ℕ) (x : Stream) → span < 2 ^ 32 → IsStream x → lesser_share demands span x ≤ 2 ^ 51
lesser_share-small demands span x small ok = go (askers_want x) ok.4
  where
    go : (asked : Option Want) → IfSome asked IsWant → wanted_share span x asked (demand_of demands x) ≤ 2 ^ 51
    go None sound =
        let most : share span x ≤ 2 ^ 51 = share-small span x small ok in
        let less = lesser-most span x (demand_of demands x) in
        omega (arith, most, less)
    go (Some want) sound =
        let (_, bits, _, late, _) = ok in
        let few : frames_of_want (span + x.jitter) want ≤ 2 ^ 43 = want-small (span + x.jitter) want (omega (arith, small, late)) sound in
        let all : frames_of_want (span + x.jitter) want * x.bits ≤ frames_of_want (span + x.jitter) want * 2 ^ 8 =
        mul-le-mul_left (frames_of_want (span + x.jitter) want) bits in
        omega (arith, few, all)

shares-mono : (demands : List Demand) (a b : ℕ) (xs : List Stream) → AreDemands demands → a ≤ b → All IsStream xs
    → sum_by (lesser_share demands a) xs ≤ sum_by (lesser_share demands b) xs
shares-mono demands a b [] known le all = omega arith
shares-mono demands a b (x ∷ xs) known le all =
    rw (sum_by-cons (lesser_share demands a) x xs, sum_by-cons (lesser_share demands b) x xs)
    (let one : lesser_share demands a x ≤ lesser_share demands b x = lesser_share-mono demands a b x known le (All-head IsStream x xs all) in
    let rest : sum_by (lesser_share demands a) xs ≤ sum_by (lesser_share demands b) xs = shares-mono demands a b xs known le (All-tail IsStream x xs all) in
    omega (arith, one, rest))

pub shares-small : (demands : List Demand) (span : ℕ) (xs : List Stream) → span < 2 ^ 32 → All IsStream xs → length xs ≤ 2048
    → sum_by (lesser_share demands span) xs ≤ 2 ^ 63
shares-small demands span xs small all few =
    let most : sum_by (lesser_share demands span) xs ≤ length xs * 2 ^ 51 =
    sum_by-le (lesser_share demands span) (2 ^ 51) xs (λ k d inside. lesser_share-small demands span _ small (all k d inside)) in
    omega arith

-- where a wait has no room and all shorter ones have none, none up to what it needs has
pub none_fits : (demands : List Demand) (blocking : ℕ) (xs : List Stream) (w n : ℕ) → AreDemands demands → All IsStream xs
    → NoShorterFits demands blocking xs w → n ≤ need demands blocking xs w → NoShorterFits demands blocking xs n
none_fits demands blocking xs w n known all none within v less = elim (cases_lt v w) [
  | inl before ↦ none v before
  | inr from ↦
      let more : sum_by (lesser_share demands (w + 1)) xs ≤ sum_by (lesser_share demands (v + 1)) xs =
      shares-mono demands (w + 1) (v + 1) xs known (omega arith) all in
      omega (arith, more, within, less)
]
