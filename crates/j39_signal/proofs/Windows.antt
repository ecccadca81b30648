-- The bits of a payload and of the number that some of its bytes make.
use Rattle.std.proofs.Common.{◌≡◌, ℕ, zero, suc, ◌+◌, ◌*◌, ◌/◌, ◌%◌, ◌^◌, ◌<◌, ◌≤◌, List, length, get_or, take}
use Rattle.std.proofs.Common.{drop, ◌++◌, ◌-◌, length-take, length-drop, sym, refl, ap, ◌∙◌, arith}
use Rattle.std.specs.Int.{bit_at, to_le_bytes, from_le_bytes, w64}
use Rattle.std.proofs.lemmas.Nat.{shr_split, shr-shr, pow-add, le_bytes_8}
use Rattle.std.proofs.Math.Nat.{pow-suc}
use Rattle.std.proofs.lemmas.Nat.Bits.{bit_at_cat_low}
use Rattle.std.proofs.lemmas.List.{get_or-take, get_or-drop, get_or-append_right, get_or_append_left}
use borrow.Rule.Slice.PartMut.{put_mid}
use Rattle.j39_signal.specs.Bits.{bit}

-- a byte is eight bits
bytes_of_bits : (i : ℕ) → 256 ^ i ≡ 2 ^ (8 * i)
bytes_of_bits zero = refl
bytes_of_bits (suc i) =
    pow-suc 256 i ∙ ap (λ p. p * 2 ^ 8) (bytes_of_bits i) ∙ sym (pow-add 2 (8 * i) 8) ∙ ap (λ k. 2 ^ k) (omega arith)

-- a bit of the lowest byte
bit_of_byte : (n r : ℕ) → r < 8 → bit_at (n % 256) r ≡ bit_at n r
bit_of_byte n r h =
    sym (bit_at_cat_low (n / 2 ^ 8) 8 (n % 2 ^ 8) r h) ∙ ap (λ m. bit_at m r) (shr_split n 8)

-- a bit of byte i
bit_of_byte_at : (n i r : ℕ) → r < 8 → bit_at (n / 256 ^ i % 256) r ≡ bit_at n (8 * i + r)
bit_of_byte_at n i r h =
    bit_of_byte (n / 256 ^ i) r h ∙ ap (λ p. n / p / 2 ^ r % 2) (bytes_of_bits i) ∙ ap (λ m. m % 2) (shr-shr n (8 * i) r)

-- a byte of the eight
byte_of : (n i : ℕ) → i < 8 → get_or (to_le_bytes w64 n) i 0 ≡ n / 256 ^ i % 256
byte_of n zero h = omega arith
byte_of n (suc zero) h = refl
byte_of n (suc (suc zero)) h = refl
byte_of n (suc (suc (suc zero))) h = refl
byte_of n (suc (suc (suc (suc zero)))) h = refl
byte_of n (suc (suc (suc (suc (suc zero))))) h = refl
byte_of n (suc (suc (suc (suc (suc (suc zero)))))) h = refl
byte_of n (suc (suc (suc (suc (suc (suc (suc zero))))))) h = refl
byte_of n (suc (suc (suc (suc (suc (suc (suc (suc i)))))))) h = absurd (omega arith)

-- the bits of the eight bytes are those of the number
pub bit-to_le_bytes : (n j : ℕ) → j < 64 → bit (to_le_bytes w64 n) j ≡ bit_at n j
bit-to_le_bytes n j h =
    ap (λ b. b / 2 ^ (j % 8) % 2) (byte_of n (j / 8) (omega arith)) ∙ bit_of_byte_at n (j / 8) (j % 8) (omega arith)
    ∙ ap (bit_at n) (omega arith)

-- bytes that lie elsewhere have the same bits
pub bit_moved : (d e : List ℕ) (first count j : ℕ) → ((i : ℕ) → i < count → get_or d i 0 ≡ get_or e (first + i) 0) → j < 8 * count
    → bit d j ≡ bit e (8 * first + j)
bit_moved d e first count j same h =
    let byte : (8 * first + j) / 8 ≡ first + j / 8 = omega arith in
    let place : (8 * first + j) % 8 ≡ j % 8 = omega arith in
    rw (byte, place) (ap (λ b. b / 2 ^ (j % 8) % 2) (same (j / 8) (omega arith)))

-- a bit of a number that is shifted down
pub bit_at-shr : (n s j : ℕ) → bit_at (n / 2 ^ s) j ≡ bit_at n (s + j)
bit_at-shr n s j = ap (λ m. m % 2) (shr-shr n s j)

-- the number of eight bytes, the first of which stand in a payload
pub window_bits : (bytes payload : List ℕ) (first count n j : ℕ) → length bytes ≡ 8 → ((i : ℕ) → get_or bytes i 0 < 256)
    → n ≡ from_le_bytes w64 bytes → count ≤ 8 → ((i : ℕ) → i < count → get_or bytes i 0 ≡ get_or payload (first + i) 0) → j < 8 * count
    → bit_at n j ≡ bit payload (8 * first + j)
window_bits bytes payload first count n j eight range is few same h =
    sym (bit-to_le_bytes n j (omega arith)) ∙ ap (λ (bs : List ℕ). bit bs j) (le_bytes_8 bytes n eight range is)
    ∙ bit_moved bytes payload first count j same h

-- the bytes of a part
pub part_bytes : (bytes payload : List ℕ) (first count m : ℕ) → m ≡ count → first + count ≤ length payload
    → ((i : ℕ) → i < length (take m (drop first payload)) → get_or bytes i 0 ≡ get_or (take m (drop first payload)) i 0)
    → (i : ℕ) → i < count → get_or bytes i 0 ≡ get_or payload (first + i) 0
part_bytes bytes payload first count m is inside same i h =
    let here : i < length (take m (drop first payload)) = simp (length-take, length-drop) (omega arith) in
    let below : i < m = omega arith in
    same i here ∙ get_or-take m (drop first payload) i 0 below ∙ get_or-drop first payload i 0

-- the bytes of a part that was written
pub written_bytes : (payload bytes part : List ℕ) (first count m : ℕ) → m ≡ count → count ≤ length bytes → first + count ≤ length payload
    → part ≡ take count bytes → (i : ℕ) → i < count → get_or bytes i 0 ≡ get_or (put_mid first m payload part) (first + i) 0
written_bytes payload bytes part first count m is room inside written i h =
    let front : length (take first payload) ≡ first = rw length-take (omega arith) in
    let size : length part ≡ count = ap length written ∙ rw length-take (omega arith) in
    let at : get_or (put_mid first m payload part) (first + i) 0 ≡ get_or (part ++ drop m (drop first payload)) (first + i - first) 0 =
    get_or-append_right (take first payload) (part ++ drop m (drop first payload)) first (first + i) 0 front (omega arith)
    in
    let place : first + i - first ≡ i = omega arith in
    let within : i < length part = omega arith in
    sym (at ∙ ap (λ k. get_or (part ++ drop m (drop first payload)) k 0) place
    ∙ get_or_append_left part (drop m (drop first payload)) 0 i within
    ∙ ap (λ (l : List ℕ). get_or l i 0) written ∙ get_or-take count bytes i 0 h)
