-- What holds of each element of a list.
use Rattle.std.proofs.Common.{◌≡◌, Bool, true, List, [], ◌∷◌, ◌++◌}
use Rattle.std.proofs.lemmas.Bool.{and_parts}
use Rattle.std.specs.Prelude.{map}
use Rattle.std.specs.List.{AllByRecursion, list_all}

pub all-append : {X : Type 0} (P : X → Type 0) (xs ys : List X) → AllByRecursion P xs → AllByRecursion P ys → AllByRecursion P (xs ++ ys)
all-append P [] ys here more = more
all-append P (x ∷ xs) ys here more = (here.0, all-append P xs ys here.1 more)

pub all_map : {X Y : Type 0} (f : X → Y) (P : X → Type 0) (Q : Y → Type 0) → ((x : X) → P x → Q (f x))
    → (xs : List X) → AllByRecursion P xs → AllByRecursion Q (map f xs)
all_map f P Q each [] all = tt
all_map f P Q each (x ∷ xs) all = (each x all.0, all_map f P Q each xs all.1)

pub all_weaker : {X : Type 0} (P Q : X → Type 0) → ((x : X) → P x → Q x) → (xs : List X) → AllByRecursion P xs → AllByRecursion Q xs
all_weaker P Q each [] all = tt
all_weaker P Q each (x ∷ xs) all = (each x all.0, all_weaker P Q each xs all.1)

pub all_both : {X : Type 0} (P Q R : X → Type 0) → ((x : X) → P x → Q x → R x) → (xs : List X) → AllByRecursion P xs → AllByRecursion Q xs
    → AllByRecursion R xs
all_both P Q R each [] p q = tt
all_both P Q R each (x ∷ xs) p q = (each x p.0 q.0, all_both P Q R each xs p.1 q.1)

pub all_tested : {X : Type 0} (test : X → Bool) (P : X → Type 0) → ((x : X) → test x ≡ true → P x)
    → (xs : List X) → list_all test xs ≡ true → AllByRecursion P xs
all_tested test P each [] all = tt
all_tested test P each (x ∷ xs) all = let both = and_parts (test x) (list_all test xs) all in (each x both.0, all_tested test P each xs both.1)
