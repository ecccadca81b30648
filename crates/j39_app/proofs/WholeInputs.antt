-- What was read of an input whose bytes are known.
use Rattle.std.proofs.Common.{◌≡◌, ℕ, List, [], ◌++◌, Option, Some, None, Result, Ok, Err, IfOk, refl, sym, ap, ◌∙◌}
use Rattle.std.proofs.lemmas.List.{append-nil}
use Rattle.std.specs.Prelude.{unwrap_or}
use Rattle.std.specs.Io.KnownBytes.{Consumes, IsAtEnd}
use Rattle.j39_app.specs.Known.{AreLeft, AreOf}

pub some_same : (xs ys : List ℕ) → Some xs ≡ Some ys → xs ≡ ys
some_same xs ys is = ap (λ (o : Option (List ℕ)). unwrap_or o []) is

read_all : (left end : Option (List ℕ)) (bytes : List ℕ) → Consumes left end bytes → IsAtEnd end → (all : List ℕ) → left ≡ Some all → bytes ≡ all
read_all None end bytes taken over all is = cc is
read_all (Some xs) None bytes taken over all is = absurd taken
read_all (Some xs) (Some ys) bytes taken over all is =
    sym (append-nil bytes) ∙ ap (λ (rest : List ℕ). bytes ++ rest) (sym over) ∙ sym taken ∙ some_same xs all is

-- what was read to its end is all that is known
pub whole_file : (known left end : Option (List ℕ)) (bytes : List ℕ) → AreLeft known left → Consumes left end bytes → IsAtEnd end → AreOf known bytes
whole_file known left end bytes opened taken over = λ all is. read_all left end bytes taken over all (opened all is)

-- what is said of all that was left, and otherwise of some bytes, is said of the bytes of the file
pub by_file : {V E : Type 0} (A : List ℕ → Type 0) (C : V → Type 0) (P : V → List ℕ → List ℕ → Type 0) (Q : List ℕ → Type 0)
    (known left : Option (List ℕ)) (r : Result V E) → AreLeft known left
    → IfOk r (λ v. (bytes : List ℕ) × (text : List ℕ) × A bytes × C v × P v bytes text × Q text)
    → IfOk r (λ v. (all : List ℕ) → left ≡ Some all → (text : List ℕ) × P v all text × Q text)
    → IfOk r (λ v. (text : List ℕ) × ((bytes : List ℕ) × AreOf known bytes × P v bytes text) × Q text)
by_file A C P Q known left (Err e) opened some all = tt
by_file A C P Q None left (Ok v) opened some all = (some.1, (some.0, λ bytes is. cc is, some.4), some.5)
by_file A C P Q (Some known) left (Ok v) opened some all =
    let (text, is, put) = all known (opened known refl) in
    (text, (known, λ bytes same. some_same known bytes same, is), put)

-- what is read to its end where this is the answer is the whole file then
pub whole_where : {V E : Type 0} (P : V → List ℕ → List ℕ → Type 0) (Q : List ℕ → Type 0) (known left end : Option (List ℕ)) (r : Result V E) (done : V)
    → AreLeft known left
    → IfOk r (λ v. (bytes : List ℕ) × (text : List ℕ) × Consumes left end bytes × (v ≡ done → IsAtEnd end) × P v bytes text × Q text)
    → IfOk r (λ v. (text : List ℕ) × ((bytes : List ℕ) × (v ≡ done → AreOf known bytes) × P v bytes text) × Q text)
whole_where P Q known left end (Err e) done opened said = tt
whole_where P Q known left end (Ok v) done opened said =
    (said.1, (said.0, λ is. whole_file known left end said.0 opened said.2 (said.3 is), said.4), said.5)
