-- Of several flows of a need the one that is reported.
use Rattle.std.proofs.Common.{◌≡◌, ℕ, zero, suc, ◌≤◌, List, [], ◌∷◌, ◌++◌, Bool, true, false, if◌then◌else◌, Option, Some, None, Contains}
use Rattle.std.proofs.Common.{nat_lt, refl, sym, ap, ◌∙◌, subst, arith}
use Rattle.std.proofs.lemmas.Bool.{false≢true, false_from_ne_true, ltb-false}
use Rattle.std.proofs.lemmas.Bool.Decides.{Decides-ltb}
use Rattle.std.proofs.lemmas.Option.{none-some, same_Some}
use Rattle.j39_vehicle_times.specs.declared.needs.NeedFlow.{NeedFlow}
use Rattle.j39_vehicle_times.specs.FoundTimes.{is_younger, joined, younger_of, youngest}

-- ---- ages in order

lt_trans : (a c d : ℕ) → nat_lt a c ≡ true → nat_lt c d ≡ true → nat_lt a d ≡ true
lt_trans a c d less more =
    let low = (Decides-ltb a c).0 less in
    let high = (Decides-ltb c d).0 more in
    (Decides-ltb a d).1 (omega arith)

ge_trans : (a c d : ℕ) → nat_lt a c ≡ false → nat_lt c d ≡ false → nat_lt a d ≡ false
ge_trans a c d first second = false_from_ne_true (nat_lt a d) (λ e.
    let less = (Decides-ltb a d).0 e in
    let low = ltb-false a c first in
    let high = ltb-false c d second in
    omega (arith, less, low, high))

younger_trans : (r x b : Option ℕ) → is_younger r x ≡ true → is_younger x b ≡ true → is_younger r b ≡ true
younger_trans None x b first second = absurd (false≢true first)
younger_trans (Some a) None b first second = absurd (false≢true second)
younger_trans (Some a) (Some c) None first second = refl
younger_trans (Some a) (Some c) (Some d) first second = lt_trans a c d first second

older_trans : (r x b : Option ℕ) → is_younger r x ≡ false → is_younger x b ≡ false → is_younger r b ≡ false
older_trans None x b first second = refl
older_trans (Some a) None b first second = absurd (false≢true (sym first))
older_trans (Some a) (Some c) None first second = absurd (false≢true (sym second))
older_trans (Some a) (Some c) (Some d) first second = ge_trans a c d first second

takes : (x y : NeedFlow) → is_younger y.age x.age ≡ true → younger_of x y ≡ y
takes x y e = ap (λ (c : Bool). if c then y else x) e

keeps : (x y : NeedFlow) → is_younger y.age x.age ≡ false → younger_of x y ≡ x
keeps x y e = ap (λ (c : Bool). if c then y else x) e

three : (b x r : NeedFlow) (p q : Bool) → is_younger x.age b.age ≡ p → is_younger r.age x.age ≡ q
    → younger_of (younger_of b x) r ≡ younger_of b (younger_of x r)
three b x r true true p q =
    (ap (λ (z : NeedFlow). younger_of z r) (takes b x p) ∙ takes x r q)
    ∙ sym (ap (λ (z : NeedFlow). younger_of b z) (takes x r q) ∙ takes b r (younger_trans r.age x.age b.age q p))
three b x r true false p q =
    (ap (λ (z : NeedFlow). younger_of z r) (takes b x p) ∙ keeps x r q) ∙ sym (ap (λ (z : NeedFlow). younger_of b z) (keeps x r q) ∙ takes b x p)
three b x r false true p q = ap (λ (z : NeedFlow). younger_of z r) (keeps b x p) ∙ sym (ap (λ (z : NeedFlow). younger_of b z) (takes x r q))
three b x r false false p q =
    (ap (λ (z : NeedFlow). younger_of z r) (keeps b x p) ∙ keeps b r (older_trans r.age x.age b.age q p))
    ∙ sym (ap (λ (z : NeedFlow). younger_of b z) (keeps x r q) ∙ keeps b x p)

-- ---- lists

pub joined_none : (a : Option NeedFlow) → joined a None ≡ a
joined_none None = refl
joined_none (Some a) = refl

pub joined_assoc : (a b c : Option NeedFlow) → joined (joined a b) c ≡ joined a (joined b c)
joined_assoc None b c = refl
joined_assoc (Some a) None c = refl
joined_assoc (Some a) (Some b) None = refl
joined_assoc (Some a) (Some b) (Some c) = ap Some (three a b c (is_younger b.age a.age) (is_younger c.age b.age) refl refl)

pub youngest_append : (xs ys : List NeedFlow) → youngest (xs ++ ys) ≡ joined (youngest xs) (youngest ys)
youngest_append [] ys = refl
youngest_append (x ∷ xs) ys = ap (joined (Some x)) (youngest_append xs ys) ∙ sym (joined_assoc (Some x) (youngest xs) (youngest ys))

-- ---- the one that is reported

-- an age is known, and at most so large
pub record IsLeast (r : Option ℕ) (a : ℕ) : Type 0 where
  pub age : ℕ
  pub age_is : r ≡ Some age
  pub less : age ≤ a

kept_least : (x y : Option ℕ) (a : ℕ) → is_younger y x ≡ false → y ≡ Some a → IsLeast x a
kept_least x None a older is = absurd (none-some _ is)
kept_least None (Some b) a older is = absurd (false≢true (sym older))
kept_least (Some c) (Some b) a older is =
    let more = ltb-false b c older in
    let same : b ≡ a = same_Some _ _ is in
    record { age = c; age_is = refl; less = omega (arith, more, same) }

taken_least : (x y : Option ℕ) (a : ℕ) → is_younger y x ≡ true → x ≡ Some a → IsLeast y a
taken_least x None a younger is = absurd (false≢true younger)
taken_least None (Some b) a younger is = absurd (none-some _ is)
taken_least (Some c) (Some b) a younger is =
    let less = (Decides-ltb b c).0 younger in
    let same : c ≡ a = same_Some _ _ is in
    record { age = b; age_is = refl; less = omega (arith, less, same) }

least_of_first : (x y : NeedFlow) (p : Bool) (a : ℕ) → is_younger y.age x.age ≡ p → x.age ≡ Some a → IsLeast (younger_of x y).age a
least_of_first x y true a p is = subst (λ (z : NeedFlow). IsLeast z.age a) (sym (takes x y p)) (taken_least x.age y.age a p is)
least_of_first x y false a p is =
    subst (λ (z : NeedFlow). IsLeast z.age a) (sym (keeps x y p)) (record { age = a; age_is = is; less = omega arith })

least_of_second : (x y : NeedFlow) (p : Bool) (a : ℕ) → is_younger y.age x.age ≡ p → y.age ≡ Some a → IsLeast (younger_of x y).age a
least_of_second x y true a p is = subst (λ (z : NeedFlow). IsLeast z.age a) (sym (takes x y p)) (record { age = a; age_is = is; less = omega arith })
least_of_second x y false a p is = subst (λ (z : NeedFlow). IsLeast z.age a) (sym (keeps x y p)) (kept_least x.age y.age a p is)

least_after : (r s : Option ℕ) (a : ℕ) → ((b : ℕ) → s ≡ Some b → IsLeast r b) → IsLeast s a → IsLeast r a
least_after r s a onward least =
    let more = onward least.age least.age_is in
    let low = more.less in
    let high = least.less in
    record { age = more.age; age_is = more.age_is; less = omega (arith, low, high) }

-- a flow of the list is reported
one_of : (x y : NeedFlow) (p : Bool) → is_younger y.age x.age ≡ p → (xs : List NeedFlow) → Contains xs y → Contains (x ∷ xs) (younger_of x y)
one_of x y true p xs (k, less, at) = subst (Contains (x ∷ xs)) (sym (takes x y p)) (suc k, omega arith, at)
one_of x y false p xs h = subst (Contains (x ∷ xs)) (sym (keeps x y p)) (zero, omega arith, refl)

among_by : (x : NeedFlow) (xs : List NeedFlow) (rest : Option NeedFlow) (r : NeedFlow) → ((y : NeedFlow) → rest ≡ Some y → Contains xs y)
    → joined (Some x) rest ≡ Some r → Contains (x ∷ xs) r
among_by x xs None r onward is = subst (Contains (x ∷ xs)) (same_Some _ _ is) (zero, omega arith, refl)
among_by x xs (Some y) r onward is =
    subst (Contains (x ∷ xs)) (same_Some _ _ is) (one_of x y (is_younger y.age x.age) refl xs (onward y refl))

pub youngest_among : (xs : List NeedFlow) (r : NeedFlow) → youngest xs ≡ Some r → Contains xs r
youngest_among [] r is = absurd (none-some _ is)
youngest_among (x ∷ xs) r is = among_by x xs (youngest xs) r (youngest_among xs) is

least_by : (x : NeedFlow) (xs : List NeedFlow) (rest : Option NeedFlow) (r y : NeedFlow) (a : ℕ)
    → ((z : NeedFlow) → rest ≡ Some z → Contains xs y → IsLeast z.age a) → (rest ≡ None → ¬ Contains xs y)
    → joined (Some x) rest ≡ Some r → Contains (x ∷ xs) y → y.age ≡ Some a → IsLeast r.age a
least_by x xs None r y a onward none is (zero, less, at) age =
    let same : x ≡ r = same_Some _ _ is in
    subst (λ (z : NeedFlow). IsLeast z.age a) same (record { age = a; age_is = ap (λ (z : NeedFlow). z.age) at ∙ age; less = omega arith })
least_by x xs None r y a onward none is (suc k, less, at) age = absurd (none refl (k, omega arith, at))
least_by x xs (Some z) r y a onward none is (zero, less, at) age =
    subst (λ (u : NeedFlow). IsLeast u.age a) (same_Some _ _ is)
    (least_of_first x z (is_younger z.age x.age) a refl (ap (λ (u : NeedFlow). u.age) at ∙ age))
least_by x xs (Some z) r y a onward none is (suc k, less, at) age =
    subst (λ (u : NeedFlow). IsLeast u.age a) (same_Some _ _ is)
    (least_after _ z.age a (λ b e. least_of_second x z (is_younger z.age x.age) b refl e) (onward z refl (k, omega arith, at)))

some_joined : (x : NeedFlow) (rest : Option NeedFlow) → ¬ (joined (Some x) rest ≡ None)
some_joined x None e = none-some _ (sym e)
some_joined x (Some y) e = none-some _ (sym e)

pub youngest_some : (xs : List NeedFlow) (y : NeedFlow) → Contains xs y → ¬ (youngest xs ≡ None)
youngest_some [] y (k, less, at) = absurd (omega arith)
youngest_some (x ∷ xs) y h = some_joined x (youngest xs)

-- and none is known to be younger
pub youngest_least : (xs : List NeedFlow) (r y : NeedFlow) (a : ℕ) → youngest xs ≡ Some r → Contains xs y → y.age ≡ Some a → IsLeast r.age a
youngest_least [] r y a is (k, less, at) age = absurd (omega arith)
youngest_least (x ∷ xs) r y a is h age =
    least_by x xs (youngest xs) r y a (λ z e among. youngest_least xs z y a e among age) (λ none among. youngest_some xs y among none) is h age
