-- Numbers by their digits: so many times one and so many times another one, and which of two is less.
use Rattle.std.proofs.Common.{◌≡◌, ℕ, zero, suc, ◌+◌, ◌-◌, ◌*◌, ◌/◌, ◌%◌, ◌^◌, ◌<◌, ◌≤◌, List, Bool, false, get_or-set_other, get_or-set_same, inl, inr, length}
use Rattle.std.proofs.Common.{ltb, set, refl, sym, ap, subst, ◌∙◌, arith}
use Rattle.std.proofs.Math.Nat.{pow-suc}
use Rattle.std.proofs.lemmas.Bool.{cases_lt, cases_order, le-ltb, lt-ltb}
use Rattle.j39_load.specs.inside.AskedShares.{digit_at, digit_base, first_digits, less_with}

-- the digits in front are the same
pub same_digits : (xs ys : List ℕ) (n : ℕ) → ((k : ℕ) → k < n → digit_at xs k ≡ digit_at ys k) → first_digits xs n ≡ first_digits ys n
unfolding first_digits
same_digits xs ys zero same = refl
same_digits xs ys (suc n) same =
    let front = same_digits xs ys n (λ k less. same k (omega (arith, less))) in
    let last = ap (λ (d : ℕ). digit_base ^ n * d) (same n (omega arith)) in
    omega (arith, front, last)

-- the first digits of a number have been made so many times its number and so many times another one
pub record AreCombined (now old other : List ℕ) (times other_times place over : ℕ) : Type 0 where
  pub sum : first_digits now place + digit_base ^ place * over ≡ times * first_digits old place + other_times * first_digits other place
  pub small : first_digits now place < digit_base ^ place
  pub over_small : over ≤ times + other_times
  pub rest : (k : ℕ) → place ≤ k → digit_at now k ≡ digit_at old k

pub none_combined : (now other : List ℕ) (times other_times : ℕ) → AreCombined now now other times other_times 0 0
unfolding first_digits
none_combined now other times other_times = record {
  sum = omega arith;
  small = omega arith;
  over_small = omega arith;
  rest = λ k behind. refl;
}

-- so many times a greater number
pub times_greater : (p a b : ℕ) → a < b → p * a + p ≤ p * b
times_greater p a b less =
    let split : b ≡ a + 1 + (b - (a + 1)) = omega (arith, less) in
    let grown = ap (λ (n : ℕ). p * n) split in
    omega (arith, grown)

next_power : (n : ℕ) → digit_base ^ (n + 1) ≡ digit_base ^ n * digit_base
next_power n = let next : n + 1 ≡ suc n = omega arith in ap (λ (k : ℕ). digit_base ^ k) next ∙ pow-suc digit_base n

one_digit_more : (digits : List ℕ) (n : ℕ) → first_digits digits (n + 1) ≡ first_digits digits n + digit_base ^ n * digit_at digits n
unfolding first_digits
one_digit_more digits n = let next : n + 1 ≡ suc n = omega arith in ap (λ (k : ℕ). first_digits digits k) next

-- one digit more is in bounds
below_more : (digits : List ℕ) (n : ℕ) → first_digits digits n < digit_base ^ n → digit_at digits n < digit_base
    → first_digits digits (n + 1) < digit_base ^ (n + 1)
below_more digits n small less =
    let more = one_digit_more digits n in
    let power = next_power n in
    let greater = times_greater (digit_base ^ n) (digit_at digits n) digit_base less in
    omega (arith, more, power, greater, small)

-- the next digit
pub combined_more : (now old other : List ℕ) (times other_times place over sum : ℕ) → place < length now
    → AreCombined now old other times other_times place over
    → sum ≡ times * digit_at now place + other_times * digit_at other place + over
    → digit_at now place < digit_base → digit_at other place < digit_base
    → AreCombined (set now place (sum % digit_base)) old other times other_times (place + 1) (sum / digit_base)
combined_more now old other times other_times place over sum inside are is small other_small =
    let next : List ℕ = set now place (sum % digit_base) in
    let power : ℕ = digit_base ^ place in
    let written : digit_at next place ≡ sum % digit_base = get_or-set_same now place (sum % digit_base) 0 inside in
    let front : first_digits next place ≡ first_digits now place =
    same_digits next now place (λ k less. get_or-set_other now place k (sum % digit_base) 0 (λ same. absurd (omega (arith, less, same)))) in
    let split : sum % digit_base + digit_base * (sum / digit_base) ≡ sum = omega arith in
    let scaled : power * (digit_at next place + digit_base * (sum / digit_base))
    ≡ power * (times * digit_at old place + other_times * digit_at other place + over) =
    ap (λ (n : ℕ). power * n) (ap (λ (d : ℕ). d + digit_base * (sum / digit_base)) written ∙ split ∙ is
    ∙ ap (λ (d : ℕ). times * d + other_times * digit_at other place + over) (are.rest place (omega arith))) in
    let of_old = ap (λ (n : ℕ). times * n) (one_digit_more old place) in
    let of_other = ap (λ (n : ℕ). other_times * n) (one_digit_more other place) in
    let more = one_digit_more next place in
    let next_one : digit_base ^ (place + 1) * (sum / digit_base) ≡ (power * digit_base) * (sum / digit_base) =
    ap (λ (n : ℕ). n * (sum / digit_base)) (next_power place) in
    let before = are.sum in
    let bounded : times * digit_at now place + other_times * digit_at other place + over < digit_base * (times + other_times + 1) =
    in_bounds times other_times (digit_at now place) (digit_at other place) over are.over_small small other_small in
    record {
      sum = omega (arith, scaled, of_old, of_other, more, next_one, before, front);
      small = below_more next place (subst (λ (n : ℕ). n < power) (sym front) are.small) (subst (λ (n : ℕ). n < digit_base) (sym written) (omega arith));
      over_small = omega (arith, bounded, is);
      rest = λ k behind. get_or-set_other now place k (sum % digit_base) 0 (λ same. absurd (omega (arith, behind, same)))
          ∙ are.rest k (omega (arith, behind));
    }
  where
    in_bounds : (t u d e over : ℕ) → over ≤ t + u → d < digit_base → e < digit_base → t * d + u * e + over < digit_base * (t + u + 1)
    in_bounds t u d e over less first second =
        let one = times_greater t d digit_base first in
        let other = times_greater u e digit_base second in
        omega (arith, one, other, less)

-- ---- which is less

pub record IsLess (xs ys : List ℕ) (place : ℕ) (less : Bool) : Type 0 where
  pub is : less ≡ ltb (first_digits xs place) (first_digits ys place)
  pub small : first_digits xs place < digit_base ^ place
  pub other_small : first_digits ys place < digit_base ^ place

pub none_less : (xs ys : List ℕ) → IsLess xs ys 0 false
unfolding first_digits
none_less xs ys = record { is = refl; small = omega arith; other_small = omega arith }

module _ (p s t a b : ℕ) (small : s < p) (other_small : t < p) where
  by_digit : ltb (s + p * a) (t + p * b) ≡ less_with (ltb s t) a b
  by_digit = elim (cases_order a b) [
    | inl same ↦
        let product = ap (λ (n : ℕ). p * n) same in
        elim (cases_lt s t) [
          | inl below ↦ rw (
            lt-ltb s t below,
            lt-ltb (s + p * a) (t + p * b) (omega (arith, below, product)),
            le-ltb a b (omega (arith, same)),
            le-ltb b a (omega (arith, same)),
          ) refl
          | inr above ↦ rw (
            le-ltb s t above,
            le-ltb (s + p * a) (t + p * b) (omega (arith, above, product)),
            le-ltb a b (omega (arith, same)),
            le-ltb b a (omega (arith, same)),
          ) refl
        ]
    | inr (inl less) ↦
        let greater = times_greater p a b less in
        rw (lt-ltb (s + p * a) (t + p * b) (omega (arith, greater, small)), lt-ltb a b less) refl
    | inr (inr more) ↦
        let greater = times_greater p b a more in
        rw (le-ltb (s + p * a) (t + p * b) (omega (arith, greater, other_small)), le-ltb a b (omega (arith, more)), lt-ltb b a more) refl
  ]

pub less_more : (xs ys : List ℕ) (place : ℕ) (less : Bool) → IsLess xs ys place less → digit_at xs place < digit_base → digit_at ys place < digit_base
    → IsLess xs ys (place + 1) (less_with less (digit_at xs place) (digit_at ys place))
less_more xs ys place less is small other_small = record {
  is = ap (λ (b : Bool). less_with b (digit_at xs place) (digit_at ys place)) is.is
      ∙ sym (by_digit (digit_base ^ place) (first_digits xs place) (first_digits ys place) (digit_at xs place) (digit_at ys place) is.small is.other_small)
      ∙ sym (ap (λ (n : ℕ). ltb n (first_digits ys (place + 1))) (one_digit_more xs place)
      ∙ ap (ltb (first_digits xs place + digit_base ^ place * digit_at xs place)) (one_digit_more ys place));
  small = below_more xs place is.small small;
  other_small = below_more ys place is.other_small other_small;
}

-- ---- with a digit behind them

-- two numbers of these first digits and of one digit more
pub is_more : (xs ys : List ℕ) (n a b one other : ℕ) (less : Bool) → less ≡ ltb (first_digits xs n) (first_digits ys n)
    → first_digits xs n < digit_base ^ n → first_digits ys n < digit_base ^ n
    → first_digits xs n + digit_base ^ n * a ≡ one → first_digits ys n + digit_base ^ n * b ≡ other
    → less_with less a b ≡ ltb one other
is_more xs ys n a b one other less is small other_small first second =
    ap (λ (t : Bool). less_with t a b) is
    ∙ sym (by_digit (digit_base ^ n) (first_digits xs n) (first_digits ys n) a b small other_small)
    ∙ ap (λ (m : ℕ). ltb m (first_digits ys n + digit_base ^ n * b)) first ∙ ap (ltb one) second

pub added : (digits : List ℕ) (n d sum : ℕ) → n < length digits → first_digits digits n + digit_base ^ n * d ≡ sum
    → first_digits (set digits n d) (n + 1) ≡ sum
added digits n d sum inside is =
    let more = one_digit_more (set digits n d) n in
    let front = same_digits (set digits n d) digits n (λ k less. get_or-set_other digits n k d 0 (λ same. absurd (omega (arith, less, same)))) in
    let last = ap (λ (x : ℕ). digit_base ^ n * x) (get_or-set_same digits n d 0 inside) in
    omega (arith, more, front, last, is)
