-- Numbers of the form first + size * index.
use Rattle.std.proofs.Common.{◌≡◌, ℕ, zero, suc, ◌+◌, ◌-◌, ◌*◌, ◌/◌, ◌%◌, ◌<◌, ◌≤◌, ◌==◌, ◌&&◌, true, false, nat_le, nat_lt, if◌then◌else◌, sym, ap, ◌∙◌, arith}
use Rattle.std.proofs.Common.{inl, inr}
use Rattle.std.specs.Prelude.{ℤ, pos, ◌+ℤ◌, ◌-ℤ◌, unsigned_abs, int_lt}
use Rattle.std.proofs.lemmas.Int.{ints}
use Rattle.std.proofs.lemmas.Bool.{and_parts, cases_Bool, false≢true}
use Rattle.std.proofs.lemmas.Bool.Decides.{Decides-eqb, Decides-ltb, leb_tells}
use Rattle.std.proofs.lemmas.Nat.{div-add-mod', mul-le}
use Rattle.j39_vehicle_laws.proofs.Multiples.{one_product}

-- a distance that is a whole number of sizes
pub whole : (d n : ℕ) → d % n ≡ 0 → d ≡ n * (d / n)
whole d n h = omega (arith, div-add-mod' d n, h)

pub at_most : (q below : ℕ) → nat_le q below ≡ true → q ≤ below
at_most q below h = elim (leb_tells q below) [ inl (holds, most) ↦ most | inr (fails, more) ↦ absurd (false≢true (sym fails ∙ h)) ]

-- x lies so many sizes above the offset
up_index : (x offset : ℤ) (size below above q : ℕ) → unsigned_abs (x -ℤ offset) ≡ size * q → int_lt x offset ≡ false → q < above
    → (j : ℕ) × (j ≤ below + (above - 1)) × (x +ℤ pos (size * below) ≡ offset +ℤ pos (size * j))
up_index x offset size below above q far up less =
    let value : x ≡ offset +ℤ pos (size * q) = omega (arith, ints, far, up) in
    let parts : size * (below + q) ≡ size * below + size * q = omega arith in
    (below + q, omega arith, omega (arith, ints, value, parts))

-- or below it
down_index : (x offset : ℤ) (size below above q : ℕ) → unsigned_abs (x -ℤ offset) ≡ size * q → int_lt x offset ≡ true → q ≤ below
    → (j : ℕ) × (j ≤ below + (above - 1)) × (x +ℤ pos (size * below) ≡ offset +ℤ pos (size * j))
down_index x offset size below above q far down most =
    let value : x +ℤ pos (size * q) ≡ offset = omega (arith, ints, far, down) in
    let sum : (below - q) + q ≡ below = omega arith in
    let parts : size * (below - q) + size * q ≡ size * below = omega arith ∙ ap (λ n. size * n) sum in
    (below - q, omega arith, omega (arith, ints, value, parts))

pub index_of : (x offset : ℤ) (size below above : ℕ)
    → ((unsigned_abs (x -ℤ offset) % size == 0)
    && (if int_lt x offset then nat_le (unsigned_abs (x -ℤ offset) / size) below else nat_lt (unsigned_abs (x -ℤ offset) / size) above)) ≡ true
    → (j : ℕ) × (j ≤ below + (above - 1)) × (x +ℤ pos (size * below) ≡ offset +ℤ pos (size * j))
index_of x offset size below above is =
    let d = unsigned_abs (x -ℤ offset) in
    let parts = and_parts _ _ is in
    let far = whole d size ((Decides-eqb (d % size) 0).0 parts.0) in
    elim (cases_Bool (int_lt x offset)) [
      | inl down ↦
          let test : nat_le (d / size) below ≡ true = sym (ap (λ t. if t then nat_le (d / size) below else nat_lt (d / size) above) down) ∙ parts.1 in
          down_index x offset size below above (d / size) far down (at_most (d / size) below test)
      | inr up ↦
          let test : nat_lt (d / size) above ≡ true = sym (ap (λ t. if t then nat_le (d / size) below else nat_lt (d / size) above) up) ∙ parts.1 in
          up_index x offset size below above (d / size) far up ((Decides-ltb (d / size) above).0 test)
    ]

-- between two indexes each step of so many sizes leads to an index
pub index_between : (size m jf jl nt ns i : ℕ) → i ≤ ns → jl ≤ nt → jf ≤ nt → size * jf + size * m * ns ≡ size * jl
    → (j : ℕ) × (j ≤ nt) × (size * j ≡ size * jf + size * m * i)
index_between zero m jf jl nt ns i less last first same = (jf, first, omega arith)
index_between (suc size) m jf jl nt ns i less last first same =
    let sum : (jf + m * ns) * suc size ≡ jl * suc size = omega (arith, same) in
    let at : jf + m * ns ≡ jl = one_product (jf + m * ns) jl (suc size) (omega arith) sum in
    let under : m * i ≤ m * ns = mul-le m i m ns (omega arith) less in
    (jf + m * i, omega (arith, at, under), omega arith)
