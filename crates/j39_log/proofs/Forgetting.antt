-- What is kept for each two addresses, as it is given up for one address and each other one in turn.
use Rattle.std.proofs.Common.{◌≡◌, ◌==◌, ◌&&◌, ◌||◌, ◌+◌, ◌<◌, ◌≤◌, ℕ, nat_lt, Bool, true, false, if◌then◌else◌, refl, sym, ap, ◌∙◌, arith}
use Rattle.std.proofs.Math.Bool.{and-or_distrib_left, and_comm, or-false, or-true, or_assoc}
use Rattle.std.proofs.lemmas.Bool.Decides.{nat_tests}
use Rattle.j39_log.specs.PairListeners.{is_of_pair, is_pair}

-- what two tests choose alike
pub if_or : {A : Type 0} (a b : Bool) (f x : A) → (if a then f else (if b then f else x)) ≡ (if b || a then f else x)
if_or a b f x = elim a as (λ a. (if a then f else (if b then f else x)) ≡ (if b || a then f else x)) [
  | true ↦ sym (ap (λ (either : Bool). if either then f else x) (or-true b))
  | false ↦ sym (ap (λ (either : Bool). if either then f else x) (or-false b))
]

merged : {A : Type 0} (a b c : Bool) (f x : A) → (if a then f else (if b then f else (if c then f else x))) ≡ (if c || (b || a) then f else x)
merged {A} a b c f x =
    ap (λ (other : A). if a then f else other) (if_or b c f x) ∙ if_or a (c || b) f x ∙ ap (λ (any : Bool). if any then f else x) (or_assoc c b a)

lt_next : (d k : ℕ) → nat_lt d (k + 1) ≡ (nat_lt d k || k == d)
lt_next d k = grind (arith, nat_tests)

pub or_swap : (a b c d : Bool) → ((a || b) || (c || d)) ≡ ((a || c) || (b || d))
or_swap true b c d = refl
or_swap false true c d = sym (or-true c)
or_swap false false c d = refl

spread : (x y z u v w : Bool) → ((x && (y || z)) || (u && (v || w))) ≡ (((x && y) || (u && v)) || ((x && z) || (w && u)))
spread x y z u v w =
    ap (λ (b : Bool). b || (u && (v || w))) (and-or_distrib_left x y z)
    ∙ ap (λ (b : Bool). ((x && y) || (x && z)) || b) (and-or_distrib_left u v w ∙ ap (λ (b : Bool). (u && v) || b) (and_comm u w))
    ∙ or_swap (x && y) (x && z) (u && v) (w && u)

all_reached : (s : ℕ) (k : ℕ) → s < 256 → 256 ≤ k → nat_lt s k ≡ true
all_reached s k less past = grind (arith, nat_tests)

with_true : (a b : Bool) → ((a && true) || (b && true)) ≡ (a || b)
with_true true b = refl
with_true false true = refl
with_true false false = refl

-- the pair is one of the address and another below k
abbrev pub is_reached : (address k s d : ℕ) → Bool
is_reached address k s d = (address == s && nat_lt d k) || (address == d && nat_lt s k)

-- once it is given up for the next address, both ways
pub one_more_forgotten : {A : Type 0} (address k s d : ℕ) (none was before first second : A) → before ≡ (if is_reached address k s d then none else was)
    → first ≡ (if is_pair address k s d then none else before) → second ≡ (if is_pair k address s d then none else first)
    → second ≡ (if is_reached address (k + 1) s d then none else was)
one_more_forgotten {A} address k s d none was before first second reached one other =
    let all : Bool = is_reached address k s d || ((address == s && k == d) || (k == s && address == d)) in
    let joined : second ≡ (if all then none else was) =
    other ∙ ap (λ (r : A). if is_pair k address s d then none else r) (one ∙ ap (λ (r : A). if is_pair address k s d then none else r) reached)
    ∙ merged (is_pair k address s d) (is_pair address k s d) (is_reached address k s d) none was in
    let more : is_reached address (k + 1) s d ≡ all =
    ap (λ (b : Bool). (address == s && b) || (address == d && nat_lt s (k + 1))) (lt_next d k)
    ∙ ap (λ (b : Bool). (address == s && (nat_lt d k || k == d)) || (address == d && b)) (lt_next s k)
    ∙ spread (address == s) (nat_lt d k) (k == d) (address == d) (nat_lt s k) (k == s) in
    joined ∙ sym (ap (λ (b : Bool). if b then none else was) more)

-- and behind the last one each pair of the address is
pub all_are_reached : (address k s d : ℕ) → s < 256 → d < 256 → 256 ≤ k → is_reached address k s d ≡ is_of_pair address s d
all_are_reached address k s d below_s below_d past =
    ap (λ (b : Bool). (address == s && b) || (address == d && nat_lt s k)) (all_reached d k below_d past)
    ∙ ap (λ (b : Bool). (address == s && true) || (address == d && b)) (all_reached s k below_s past) ∙ with_true (address == s) (address == d)
