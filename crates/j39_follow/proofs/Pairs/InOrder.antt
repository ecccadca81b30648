-- Packets that come in order, and what was announced last.
use Rattle.std.proofs.Common.{◌≡◌, ◌⊎◌, ℕ, zero, suc, ◌+◌, List, [], ◌∷◌, ◌++◌, All, Option, Some, None, inl, inr, refl, sym, ap, subst, ◌∙◌, arith}
use Rattle.std.proofs.Common.{append_assoc}
use Rattle.std.specs.Option.{option_or}
use Rattle.std.proofs.lemmas.List.Elements.{All-head, All-tail, All-push}
use Rattle.j39_tp.specs.Carried.{chunks_to}
use Rattle.j39_tp.specs.Chunks.{packets_of}
use Rattle.j39_tp.specs.declared.packet.Packet.{Packet}
use Rattle.j39_tp.specs.declared.packet.Packet.TheVariants.{Rts, Dt}
use Rattle.std.specs.Prelude.{take}
use Rattle.j39_follow.specs.Received.{ComesInOrder, IsAnnounced, IsReceived, KeepsOpen, last_bytes, chunk_in, last_chunk}
use Rattle.j39_follow.proofs.Addresses.Holding.{all_front, one_more, no_row}

-- ---- in order

pub in_order_longer : (s t : List Packet) (k : ℕ) → ComesInOrder s k → ComesInOrder (s ++ t) k
in_order_longer s t zero c = tt
in_order_longer s t (suc k) (front, chunk, back, row, rest) = (
  front,
  chunk,
  back ++ t,
  ap (λ (x : List Packet). x ++ t) row ∙ append_assoc front (Dt (suc k) chunk ∷ back) t,
  rest,
)

pub in_order_before : (s : List Packet) (k : ℕ) → ComesInOrder s (suc k) → ComesInOrder s k
in_order_before s k (front, chunk, back, row, rest) =
    subst (λ (x : List Packet). ComesInOrder x k) (sym row) (in_order_longer front (Dt (suc k) chunk ∷ back) k rest)

pub in_order_below : (s : List Packet) (d k n : ℕ) → n ≡ d + k → ComesInOrder s n → ComesInOrder s k
in_order_below s zero k n e c =
    let same : n ≡ k = omega (arith, e) in
    subst (ComesInOrder s) same c
in_order_below s (suc d) k n e c =
    let next : n ≡ suc (d + k) = omega (arith, e) in
    in_order_below s d k (d + k) refl (in_order_before s (d + k) (subst (ComesInOrder s) next c))

pub in_order_next : (s : List Packet) (k : ℕ) (chunk : List ℕ) → ComesInOrder s k → ComesInOrder (s ++ Dt (suc k) chunk ∷ []) (suc k)
in_order_next s k chunk c = (s, chunk, [], refl, c)

-- with one packet more all stood in order before, or it is the last of those that do
pub in_order_so_far : (s : List Packet) (p : Packet) (k : ℕ) → ComesInOrder (s ++ p ∷ []) (suc k)
    → ComesInOrder s (suc k) ⊎ ((chunk : List ℕ) × (p ≡ Dt (suc k) chunk) × ComesInOrder s k)
in_order_so_far s p k (front, chunk, back, row, rest) = elim (one_more s p front (Dt (suc k) chunk) back row) [
  | inl last ↦ inr (chunk, sym last.0, subst (λ (x : List Packet). ComesInOrder x k) last.1 rest)
  | inr earlier ↦ inl (front, chunk, earlier.0, earlier.2, rest)
]

pub nothing_in_order : (k : ℕ) → ¬ ComesInOrder [] (suc k)
nothing_in_order k (front, chunk, back, row, rest) = no_row front (Dt (suc k) chunk) back row

-- ---- what was announced last

pub announced_on : (h : List Packet) (p : Packet) (size pgn : ℕ) (since : List Packet) → IsAnnounced h size pgn since → KeepsOpen pgn p
    → IsAnnounced (h ++ p ∷ []) size pgn (since ++ p ∷ [])
announced_on h p size pgn since a keeps = record {
  before = a.before;
  limit = a.limit;
  row = ap (λ (t : List Packet). t ++ p ∷ []) a.row ∙ append_assoc a.before (Rts size a.limit pgn ∷ since) (p ∷ []);
  stays = All-push (KeepsOpen pgn) since p a.stays keeps;
}

pub announced_so_far : (h : List Packet) (p : Packet) (size pgn : ℕ) (since : List Packet) → IsAnnounced (h ++ p ∷ []) size pgn since
    → ((limit : ℕ) × (p ≡ Rts size limit pgn) × (since ≡ []))
    ⊎ ((front : List Packet) × (since ≡ front ++ p ∷ []) × IsAnnounced h size pgn front × KeepsOpen pgn p)
announced_so_far h p size pgn since a = elim (one_more h p a.before (Rts size a.limit pgn) since a.row) [
  | inl last ↦ inl (a.limit, sym last.0, last.2)
  | inr earlier ↦
      let both = all_front (KeepsOpen pgn) earlier.0 p (subst (All (KeepsOpen pgn)) earlier.1 a.stays) in
      inr (earlier.0, earlier.1, record { before = a.before; limit = a.limit; row = earlier.2; stays = both.0 }, both.1)
]

all_within : {A : Type 0} (P : A → Type 0) (front : List A) (x : A) (back : List A) → All P (front ++ x ∷ back) → P x
all_within P [] x back all = All-head P x back all
all_within P (y ∷ front) x back all = all_within P front x back (All-tail P y (front ++ x ∷ back) all)

abbrev IsStart : Packet → Type 0
IsStart p = (pgn : ℕ) → ¬ KeepsOpen pgn p

-- the last start of a list is one
same_start : (f g a b : List Packet) (x y : Packet) (m n : ℕ) → IsStart x → IsStart y → All (KeepsOpen m) a → All (KeepsOpen n) b
    → f ++ x ∷ a ≡ g ++ y ∷ b → (x ≡ y) × (a ≡ b)
same_start [] [] a b x y m n sx sy ka kb e =
    let head : x ≡ y = cc in
    let tail : a ≡ b = cc in
    (head, tail)
same_start [] (z ∷ g) a b x y m n sx sy ka kb e =
    let rest : a ≡ g ++ y ∷ b = cc in
    absurd (sy m (all_within (KeepsOpen m) g y b (subst (All (KeepsOpen m)) rest ka)))
same_start (z ∷ f) [] a b x y m n sx sy ka kb e =
    let rest : f ++ x ∷ a ≡ b = cc in
    absurd (sx n (all_within (KeepsOpen n) f x a (subst (All (KeepsOpen n)) (sym rest) kb)))
same_start (z ∷ f) (w ∷ g) a b x y m n sx sy ka kb e =
    let rest : f ++ x ∷ a ≡ g ++ y ∷ b = cc in
    same_start f g a b x y m n sx sy ka kb rest

pub one_announced : (h : List Packet) (size pgn other number : ℕ) (a b : List Packet) → IsAnnounced h size pgn a → IsAnnounced h other number b
    → (size ≡ other) × (pgn ≡ number) × (a ≡ b)
one_announced h size pgn other number a b p q =
    let same = same_start p.before q.before a b (Rts size p.limit pgn) (Rts other q.limit number) pgn number (λ _ keeps. keeps) (λ _ keeps. keeps)
    p.stays q.stays (sym p.row ∙ q.row) in
    let starts : Rts size p.limit pgn ≡ Rts other q.limit number = same.0 in
    let sizes : size ≡ other = cc in
    let numbers : pgn ≡ number = cc in
    (sizes, numbers, same.1)

-- ---- what is received

pub one_received : (h : List Packet) (size pgn : ℕ) (m n : List ℕ) → IsReceived h size pgn m → IsReceived h size pgn n → m ≡ n
one_received h size pgn m n p q =
    let same = one_announced h size pgn size pgn p.since q.since p.announced q.announced in
    p.bytes ∙ ap (λ (s : List Packet). take size (chunks_to (last_bytes s) (packets_of size))) same.2 ∙ sym q.bytes

or_assoc : {A : Type 0} (x y z : Option A) → option_or (option_or x y) z ≡ option_or x (option_or y z)
or_assoc None y z = refl
or_assoc (Some x) y z = refl

or_none : {A : Type 0} (x : Option A) → option_or x None ≡ x
or_none None = refl
or_none (Some x) = refl

pub last_chunk_more : (k : ℕ) (s : List Packet) (p : Packet) → last_chunk k (s ++ p ∷ []) ≡ option_or (chunk_in k p) (last_chunk k s)
last_chunk_more k [] p = sym (or_none (chunk_in k p))
last_chunk_more k (q ∷ s) p =
    ap (λ (x : Option (List ℕ)). option_or x (chunk_in k q)) (last_chunk_more k s p) ∙ or_assoc (chunk_in k p) (last_chunk k s) (chunk_in k q)
