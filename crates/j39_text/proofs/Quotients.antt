-- Quotients by products of 2s and 5s.
use Rattle.std.proofs.Common.{◌≡◌, ℕ, suc, ◌+◌, ◌*◌, ◌/◌, ◌%◌, ◌^◌, ◌<◌, ◌≤◌, ◌==◌, ◌&&◌, ℤ, pos, negsuc, List, [], ◌∷◌, ◌++◌, refl, sym, ap, ◌∙◌, arith}
use Rattle.std.specs.Prelude.{nat_le}
use Rattle.std.proofs.lemmas.Bool.{and_parts, eqb-true, leb-true}
use Rattle.std.proofs.lemmas.Nat.{div-add-mod'}
use Rattle.std.proofs.Math.Nat.{mul-mod_right}
use Rattle.j39_signal.specs.Parts.{IsDivisor}
use Rattle.std.specs.Fmt.{decimal, signed_decimal}
use Rattle.std.specs.Prelude.{◌<ℤ◌, ◌≤ℤ◌, unsigned_abs}
use Rattle.std.proofs.lemmas.Int.{ints}
use Rattle.std.proofs.lemmas.List.{append-nil}
use Rattle.std.proofs.lemmas.Nat.{div_below}
use Rattle.std.proofs.Math.Nat.{mul-add-div}
use Rattle.j39_text.specs.Decimals.{finest, last_digits, magnitude_text, most_decimals, point_text, quotient_text, without_zeros}
use Rattle.j39_text.proofs.Decimals.{below-product, digits-above, finest-parted, none-of, one-more, ten, zero-none}

-- the greatest number that all divisors divide
abbrev multiple : ℕ
multiple = 2 ^ 23 * 5 ^ 10

pub divides : (per : ℕ) → IsDivisor per → multiple % per ≡ 0
divides per is =
    let parts = and_parts (nat_le 1 per) (nat_le per 10000000 && multiple % per == 0) is in
    eqb-true (multiple % per) 0 (and_parts (nat_le per 10000000) (multiple % per == 0) parts.1).1

pub positive : (per : ℕ) → IsDivisor per → 0 < per
positive per is = leb-true 1 per (and_parts (nat_le 1 per) (nat_le per 10000000 && multiple % per == 0) is).0

regroup : (q per m : ℕ) → (q * per + 0) * m ≡ per * (q * m)
regroup q per m = omega arith

-- a multiple of such a multiple leaves nothing
multiples : (n per : ℕ) → multiple % per ≡ 0 → n * 10 ^ most_decimals ≡ per * (multiple / per * (n * 1220703125))
multiples n per none =
    let whole : multiple ≡ multiple / per * per + 0 = sym (div-add-mod' multiple per) ∙ ap (λ r. multiple / per * per + r) none in
    let ten : n * 10 ^ most_decimals ≡ multiple * (n * 1220703125) = omega arith in
    ten ∙ ap (λ m. m * (n * 1220703125)) whole ∙ regroup (multiple / per) per (n * 1220703125)

pub whole : (n per : ℕ) → IsDivisor per → n * 10 ^ most_decimals % per ≡ 0
whole n per is = ap (λ m. m % per) (multiples n per (divides per is)) ∙ mul-mod_right per (multiple / per * (n * 1220703125))

pub exact : (n per : ℕ) → IsDivisor per → finest n per * per ≡ n * 10 ^ most_decimals
unfolding finest
exact n per is =
    sym (sym (div-add-mod' (n * 10 ^ most_decimals) per) ∙ ap (λ r. n * 10 ^ most_decimals / per * per + r) (whole n per is) ∙ omega arith)

turned : (q t m : ℕ) → q * t + m ≡ t * q + m
turned q t m = omega arith

zero-over : (per : ℕ) → 0 < per → 0 * 10 ^ most_decimals / per ≡ 0
zero-over per some = none-of 0 per some

-- ---- the text

-- the whole part, and the decimals of the rest
whole-part : (n per : ℕ) → 0 < per → finest n per / 10 ^ most_decimals ≡ n / per
whole-part n per some =
    let left : n % per < per = omega arith in
    let m : ℕ = n % per * 10 ^ most_decimals / per in
    let less : m < 10 ^ most_decimals =
    div_below (n % per * 10 ^ most_decimals) per (10 ^ most_decimals) some (below-product (n % per) per (10 ^ most_decimals) left (ten most_decimals)) in
    let order : finest n per ≡ 10 ^ most_decimals * (n / per) + m = finest-parted n per some ∙ turned (n / per) (10 ^ most_decimals) m in
    ap (λ k. k / 10 ^ most_decimals) order ∙ mul-add-div (ten most_decimals) (n / per) m ∙ ap (λ k. n / per + k)
    (none-of m (10 ^ most_decimals) less) ∙ omega arith

rest-digits : (n per : ℕ) → 0 < per → last_digits most_decimals (finest n per) ≡ last_digits most_decimals (n % per * 10 ^ most_decimals / per)
rest-digits n per some =
    ap (last_digits most_decimals) (finest-parted n per some) ∙ digits-above most_decimals (n / per) (n % per * 10 ^ most_decimals / per)

parts : (n per : ℕ) → 0 < per
    → magnitude_text per n ≡ decimal (n / per) ++ point_text (without_zeros (last_digits most_decimals (n % per * 10 ^ most_decimals / per)))
unfolding magnitude_text
parts n per some =
    ap (λ k. decimal k ++ point_text (without_zeros (last_digits most_decimals (finest n per)))) (whole-part n per some)
    ∙ ap (λ (ds : List ℕ). decimal (n / per) ++ point_text (without_zeros ds)) (rest-digits n per some)

no-point : (ds : List ℕ) → ds ≡ [] → point_text ds ≡ []
unfolding point_text
no-point ds none = rw none refl

a-point : (d : ℕ) (all ds : List ℕ) → all ≡ d ∷ ds → point_text all ≡ 46 ∷ all
unfolding point_text
a-point d all ds is = rw is refl

-- a whole number has no decimals
pub whole-text : (n per : ℕ) → 0 < per → n % per ≡ 0 → magnitude_text per n ≡ decimal (n / per)
whole-text n per some none =
    let zero-is : n % per * 10 ^ most_decimals / per ≡ 0 = ap (λ r. r * 10 ^ most_decimals / per) none ∙ zero-over per some in
    parts n per some
    ∙ ap (λ (ds : List ℕ). decimal (n / per) ++ ds)
    (no-point (without_zeros (last_digits most_decimals (n % per * 10 ^ most_decimals / per)))
    (ap (λ m. without_zeros (last_digits most_decimals m)) zero-is ∙ zero-none most_decimals))
    ∙ append-nil (decimal (n / per))

pub point-text : (n per : ℕ) → IsDivisor per → 0 < n % per
    → magnitude_text per n ≡ decimal (n / per) ++ (46 ∷ without_zeros (last_digits most_decimals (n % per * 10 ^ most_decimals / per)))
point-text n per is left =
    let some = positive per is in
    let proper : n % per < per = omega arith in
    parts n per some
    ∙ ap (λ (ds : List ℕ). decimal (n / per) ++ ds)
    (a-point _ (without_zeros (last_digits most_decimals (n % per * 10 ^ most_decimals / per))) _
    (one-more (n % per) per 22 left proper (whole (n % per) per is)))

by-one : (n : ℕ) → magnitude_text 1 n ≡ decimal n
by-one n = whole-text n 1 (omega arith) (omega arith) ∙ ap decimal (omega arith)

-- a number that isn't divided
pub undivided : (z : ℤ) → quotient_text 1 z ≡ signed_decimal z
unfolding quotient_text
undivided (pos n) = by-one n
undivided (negsuc n) = ap (λ (ds : List ℕ). 45 ∷ ds) (by-one (suc n))

pub negative-text : (per : ℕ) (z : ℤ) → z <ℤ pos 0 → quotient_text per z ≡ 45 ∷ magnitude_text per (unsigned_abs z)
unfolding quotient_text
negative-text per (pos n) below = absurd (omega (arith, ints, below))
negative-text per (negsuc n) below = refl

pub positive-text : (per : ℕ) (z : ℤ) → pos 0 ≤ℤ z → quotient_text per z ≡ magnitude_text per (unsigned_abs z)
unfolding quotient_text
positive-text per (pos n) above = refl
positive-text per (negsuc n) above = absurd (omega (arith, ints, above))
