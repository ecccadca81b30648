-- What a list of packets carries is the message whose announcement and chunks it has last.
use Rattle.std.proofs.Math.Seq.{take-add, take-append_seam, take-nil}
use Rattle.std.proofs.Common.{append_assoc, ◌≡◌, ℕ, zero, suc, ◌+◌, ◌-◌, ◌*◌, ◌≤◌, ◌<◌, ◌⊎◌, inl, inr, List, [], ◌∷◌, ◌++◌, length, take, drop, Option, Some}
use Rattle.std.proofs.Common.{refl, sym, ap, ◌∙◌, subst, arith, replicate}
use Rattle.std.specs.Prelude.{slice_get}
use Rattle.std.proofs.lemmas.Bool.{cases_lt}
use Rattle.std.proofs.lemmas.Grind.{common_steps}
use Rattle.std.proofs.lemmas.List.{append-nil, take_all}
use Rattle.std.proofs.lemmas.Option.{slice_get_within}
use Rattle.j39_tp.specs.Chunks.{packets_of, unused, chunk}
use Rattle.j39_tp.specs.Carried.{Announces, chunks_to, Leaves, Carried}
use Rattle.j39_tp.specs.HonestPackets.{AnnouncesMessage, GoesOn, StatesLast}
use Rattle.j39_tp.specs.Sender.{announcement}
use Rattle.j39_tp.specs.declared.packet.Packet.{Packet}
use Rattle.j39_tp.specs.declared.packet.Packet.TheVariants.{Rts, Cts, EndAck, Bam, Abort, Dt}
use Rattle.j39_tp.specs.declared.receiving.reception.ReceptionKind.{ReceptionKind}
use Rattle.j39_tp.specs.declared.receiving.reception.ReceptionKind.TheVariants.{Broadcast, Directed}
use Rattle.j39_tp.specs.declared.sending.dest.Dest.{Dest}
use Rattle.j39_tp.specs.declared.sending.dest.Dest.TheVariants.{All, One}
use Rattle.j39_tp.proofs.Gathering.{stands_on, last_stands}
use Rattle.j39_tp.proofs.Hearing.{take_again}

-- ---- the list grows

-- an element of the longer list is an old one, or the last
get_cases : (xs : List Packet) (y : Packet) (i : ℕ) (x : Packet) → slice_get (xs ++ y ∷ []) i ≡ Some x → (slice_get xs i ≡ Some x) ⊎ ((i ≡ length xs) × (y ≡ x))
get_cases [] y zero x e = inr (refl, cc e)
get_cases [] y (suc i) x e = absurd (cc e)
get_cases (z ∷ xs) y zero x e = inl e
get_cases (z ∷ xs) y (suc i) x e = elim (get_cases xs y i x e) [ inl old ↦ inl old | inr last ↦ inr (ap (λ k. suc k) last.0, last.1) ]

pub states_first : (h : List Packet) (pgn : ℕ) (bytes : List ℕ) (p : Packet) → AnnouncesMessage pgn bytes p → StatesLast (h ++ p ∷ []) pgn bytes
states_first h pgn bytes p opens = record {
  start = length h;
  dest = opens.0;
  announced = last_stands h p ∙ ap (λ x. Some x) opens.1;
  after = λ j q later e. elim (get_cases h p j q e) [
    | inl old ↦ let less : j < length h = slice_get_within h j q old in absurd (omega arith)
    | inr last ↦ absurd (omega arith)
  ];
}

pub states_more : (h : List Packet) (pgn : ℕ) (bytes : List ℕ) (p : Packet) → GoesOn bytes p → StatesLast h pgn bytes → StatesLast (h ++ p ∷ []) pgn bytes
states_more h pgn bytes p goes t = record {
  start = t.start;
  dest = t.dest;
  announced = stands_on h (p ∷ []) t.start (announcement t.dest pgn (length bytes)) t.announced;
  after = λ j q later e. elim (get_cases h p j q e) [
    | inl old ↦ t.after j q later old
    | inr last ↦ subst (GoesOn bytes) last.1 goes
  ];
}

-- ---- chunks

-- what a message has up to a part and the part are what it has up to the next; what fills the last is cut off
pub next_part : (bytes : List ℕ) (m : ℕ)
    → take (length bytes) (take m bytes ++ (take 7 (drop m bytes) ++ replicate (7 - length (take 7 (drop m bytes))) unused)) ≡ take (m + 7) bytes
next_part bytes m =
    let fill : List ℕ = replicate (7 - length (take 7 (drop m bytes))) unused in
    let joined : take m bytes ++ (take 7 (drop m bytes) ++ fill) ≡ take (m + 7) bytes ++ fill =
    sym (append_assoc (take m bytes) (take 7 (drop m bytes)) fill) ∙ ap (λ (u : List ℕ). u ++ fill) (sym (take-add m 7 bytes)) in
    elim (cases_lt (length bytes) (m + 7)) [
      | inl last ↦
          let whole : take (m + 7) bytes ≡ bytes = take_all (m + 7) bytes (omega arith) in
          ap (λ (u : List ℕ). take (length bytes) u) joined ∙ ap (λ (u : List ℕ). take (length bytes) (u ++ fill)) whole
          ∙ take-append_seam bytes fill ∙ sym whole
      | inr more ↦
          let seven : 7 - length (take 7 (drop m bytes)) ≡ 0 = grind (arith, common_steps) in
          let short : length (take (m + 7) bytes) ≤ length bytes = grind (arith, common_steps) in
          ap (λ (u : List ℕ). take (length bytes) u) joined ∙ rw (seven, append-nil) (take_all (length bytes) (take (m + 7) bytes) short)
    ]

chunks_are : (bytes : List ℕ) (k : ℕ) → take (length bytes) (chunks_to (chunk bytes) k) ≡ take (7 * k) bytes
chunks_are bytes zero = take-nil (length bytes)
chunks_are bytes (suc k) =
    let before : 7 * (suc k - 1) ≡ 7 * k = omega arith in
    let here : 7 * k + 7 ≡ 7 * suc k = omega arith in
    sym (take_again (length bytes) (chunks_to (chunk bytes) k) (chunk bytes (suc k)))
    ∙ rw (chunks_are bytes k, before, ← here) (next_part bytes (7 * k))

pub all_chunks : (bytes : List ℕ) → take (length bytes) (chunks_to (chunk bytes) (packets_of (length bytes))) ≡ bytes
all_chunks bytes = chunks_are bytes (packets_of (length bytes)) ∙ take_all (7 * packets_of (length bytes)) bytes (omega arith)

same_to : (c d : ℕ → List ℕ) (k : ℕ) → ((j : ℕ) → j < k → c (suc j) ≡ d (suc j)) → chunks_to c k ≡ chunks_to d k
same_to c d zero same = refl
same_to c d (suc k) same =
    let front : chunks_to c k ≡ chunks_to d k = same_to c d k (λ j less. same j (omega arith)) in
    let last : c (suc k) ≡ d (suc k) = same k (omega arith) in
    rw (front, last) refl

-- ---- what is carried

not_both : (bytes : List ℕ) (p : Packet) (kind : ReceptionKind) (pgn size : ℕ) → GoesOn bytes p → Announces p kind pgn size → ⊥
not_both bytes (Rts n l named) kind pgn size goes a = goes
not_both bytes (Bam n named) kind pgn size goes a = goes
not_both bytes (Cts count first named) kind pgn size goes a = a
not_both bytes (EndAck n named) kind pgn size goes a = a
not_both bytes (Abort reason named) kind pgn size goes a = a
not_both bytes (Dt number seven) kind pgn size goes a = a

-- what the announcement of a message announces
announced_as : (dest : Dest) (kind : ReceptionKind) (pgn n other size : ℕ) → Announces (announcement dest pgn n) kind other size → (pgn ≡ other) × (n ≡ size)
announced_as All Broadcast pgn n other size a = a
announced_as All Directed pgn n other size a = absurd a
announced_as One Broadcast pgn n other size a = absurd a
announced_as One Directed pgn n other size a = a

ends_it : (dest : Dest) (kind : ReceptionKind) (pgn size other : ℕ) → Leaves kind other (announcement dest pgn size) → ⊥
ends_it All kind pgn size other leaves = leaves
ends_it One kind pgn size other leaves = leaves

same_get : (x y : Packet) (o : Option Packet) → o ≡ Some x → o ≡ Some y → x ≡ y
same_get x y o e f = cc (e, f)

same_start : (h : List Packet) (p : Packet) (pgn : ℕ) (bytes : List ℕ) (t : StatesLast h pgn bytes) → GoesOn bytes p → (other : ℕ) (message : List ℕ)
    → (c : Carried (h ++ p ∷ []) (length h) other message) → c.at 0 ≡ t.start
unfolding states_more
same_start h p pgn bytes t goes other message c =
    let longer : StatesLast (h ++ p ∷ []) pgn bytes = states_more h pgn bytes p goes t in
    let first : Packet = announcement t.dest pgn (length bytes) in
    elim (cases_lt t.start (c.at 0)) [
      | inl later ↦ absurd (not_both bytes c.announcement c.kind other c.size (longer.after (c.at 0) c.announcement later c.announced) c.announces)
      | inr le ↦ elim (cases_lt (c.at 0) t.start) [
        | inl earlier ↦
            let inside : t.start < length h = slice_get_within h t.start first t.announced in
            absurd (ends_it t.dest c.kind pgn (length bytes) other (c.undisturbed t.start first earlier inside longer.announced))
        | inr ge ↦ omega arith
      ]
    ]

-- a packet of a carried message stands after its announcement
stands_later : (h : List Packet) (place pgn : ℕ) (message : List ℕ) (c : Carried h place pgn message) (k : ℕ) → k < packets_of c.size → c.at 0 < c.at (suc k)
stands_later h place pgn message c zero less = (c.carries 0 less).later
stands_later h place pgn message c (suc k) less =
    let before = stands_later h place pgn message c k (omega arith) in
    let here = (c.carries (suc k) less).later in
    omega arith

-- the message that a list and the packet after it carry is the one that the list has announced last
pub carried_is : (h : List Packet) (p : Packet) (pgn : ℕ) (bytes : List ℕ) → StatesLast h pgn bytes → GoesOn bytes p → (other : ℕ) (message : List ℕ)
    → Carried (h ++ p ∷ []) (length h) other message → (pgn ≡ other) × (message ≡ bytes)
unfolding states_more
carried_is h p pgn bytes t goes other message c =
    let longer : StatesLast (h ++ p ∷ []) pgn bytes = states_more h pgn bytes p goes t in
    let start : c.at 0 ≡ t.start = same_start h p pgn bytes t goes other message c in
    let first : slice_get (h ++ p ∷ []) (c.at 0) ≡ Some (announcement t.dest pgn (length bytes)) = rw start longer.announced in
    let same : c.announcement ≡ announcement t.dest pgn (length bytes) =
    same_get c.announcement (announcement t.dest pgn (length bytes)) (slice_get (h ++ p ∷ []) (c.at 0)) c.announced first in
    let is = announced_as t.dest c.kind pgn (length bytes) other c.size (subst (λ (q : Packet). Announces q c.kind other c.size) same c.announces) in
    let chunks : chunks_to c.chunk (packets_of c.size) ≡ chunks_to (chunk bytes) (packets_of c.size) =
    same_to c.chunk (chunk bytes) (packets_of c.size) (λ k less.
    let there : t.start < c.at (suc k) = rw start at (stands_later (h ++ p ∷ []) (length h) other message c k less) in
    longer.after (c.at (suc k)) (Dt (suc k) (c.chunk (suc k))) there (c.carries k less).stands) in
    (is.0, c.bytes ∙ rw (chunks, ← is.1) (all_chunks bytes))
