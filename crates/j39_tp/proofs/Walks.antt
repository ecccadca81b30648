-- A carried message as a walk from packet to packet: what the induction over its packets needs.
use Rattle.std.proofs.Common.{◌≡◌, ℕ, zero, suc, ◌<◌, ◌≤◌, true, false, if◌then◌else◌, List, [], ◌++◌, take, Some, refl, sym, ap, ◌∙◌, subst, inl, inr, arith}
use Rattle.std.specs.Prelude.{nat_le, slice_get}
use Rattle.std.proofs.lemmas.Bool.{cases_lt, le-leb, lt-leb}
use Rattle.j39_tp.specs.Chunks.{IsSize, packets_of}
use Rattle.j39_tp.specs.Carried.{Announces, IsNext, chunks_to, IsUndisturbed, Carried}
use Rattle.j39_tp.specs.Gathered.{Reaches}
use Rattle.j39_tp.specs.declared.packet.Packet.{Packet}
use Rattle.j39_tp.specs.declared.receiving.reception.ReceptionKind.{ReceptionKind}

pub record Walk (h : List Packet) (place pgn : ℕ) (message : List ℕ) : Type 0 where
  pub kind : ReceptionKind
  pub start : ℕ
  pub size : ℕ
  pub chunks : List ℕ
  pub announcement : Packet
  pub announced : slice_get h start ≡ Some announcement
  pub announces : Announces announcement kind pgn size
  pub fits : IsSize size
  pub reaches : Reaches h kind start (packets_of size) place chunks
  pub undisturbed : IsUndisturbed h kind pgn start place
  pub bytes : message ≡ take size chunks

-- ---- a row of places is a walk

reaches_row : (h : List Packet) (kind : ReceptionKind) (at : ℕ → ℕ) (chunk : ℕ → List ℕ) (k : ℕ)
    → ((j : ℕ) → j < k → IsNext h kind (suc j) (at j) (at (suc j)) (chunk (suc j)))
    → Reaches h kind (at 0) k (at k) (chunks_to chunk k)
reaches_row h kind at chunk zero next = (refl, refl)
reaches_row h kind at chunk (suc k) next =
    let here = next k (omega arith) in (
      at k,
      chunks_to chunk k,
      chunk (suc k),
      reaches_row h kind at chunk k (λ j less. next j (omega arith)),
      here.later,
      here.first,
      here.stands,
      refl,
    )

pub walk_of : (h : List Packet) (place pgn : ℕ) (message : List ℕ) → Carried h place pgn message → Walk h place pgn message
walk_of h place pgn message c = record {
  kind = c.kind;
  start = c.at 0;
  size = c.size;
  chunks = chunks_to c.chunk (packets_of c.size);
  announcement = c.announcement;
  announced = c.announced;
  announces = c.announces;
  fits = c.fits;
  reaches = subst (λ (q : ℕ). Reaches h c.kind (c.at 0) (packets_of c.size) q (chunks_to c.chunk (packets_of c.size))) c.last
      (reaches_row h c.kind c.at c.chunk (packets_of c.size) c.carries);
  undisturbed = c.undisturbed;
  bytes = c.bytes;
}

-- ---- a walk is a row of places

record Row (h : List Packet) (kind : ReceptionKind) (start k place : ℕ) (chunks : List ℕ) : Type 0 where
  pub at : ℕ → ℕ
  pub chunk : ℕ → List ℕ
  pub first : at 0 ≡ start
  pub next : (j : ℕ) → j < k → IsNext h kind (suc j) (at j) (at (suc j)) (chunk (suc j))
  pub last : at k ≡ place
  pub are : chunks ≡ chunks_to chunk k

-- a row with one more at its end
abbrev up_to : {A : Type 0} → ℕ → (ℕ → A) → A → ℕ → A
up_to k old new j = if nat_le j k then old j else new

up_to-old : {A : Type 0} (k : ℕ) (old : ℕ → A) (new : A) (j : ℕ) → j ≤ k → up_to k old new j ≡ old j
up_to-old k old new j le = let here : nat_le j k ≡ true = le-leb j k le in rw here refl

up_to-new : {A : Type 0} (k : ℕ) (old : ℕ → A) (new : A) → up_to k old new (suc k) ≡ new
up_to-new k old new = let above : nat_le (suc k) k ≡ false = lt-leb (suc k) k (omega arith) in rw above refl

same_next : (h : List Packet) (kind : ReceptionKind) (k a b c d : ℕ) (x y : List ℕ) → c ≡ a → d ≡ b → y ≡ x → IsNext h kind k a b x → IsNext h kind k c d y
same_next h kind k a b c d x y e f g next = rw (e, f, g) next

same_chunks : (c d : ℕ → List ℕ) (k : ℕ) → ((j : ℕ) → j ≤ k → c j ≡ d j) → chunks_to c k ≡ chunks_to d k
same_chunks c d zero same = refl
same_chunks c d (suc k) same =
    let front : chunks_to c k ≡ chunks_to d k = same_chunks c d k (λ j le. same j (omega arith)) in
    let last : c (suc k) ≡ d (suc k) = same (suc k) (omega arith) in
    rw (front, last) refl

row_of : (h : List Packet) (kind : ReceptionKind) (start k place : ℕ) (chunks : List ℕ) → Reaches h kind start k place chunks → Row h kind start k place chunks
row_of h kind start zero place chunks r = record {
  at = λ j. start;
  chunk = λ j. [];
  first = refl;
  next = λ j less. absurd (omega arith);
  last = sym r.0;
  are = r.1;
}
row_of h kind start (suc k) place chunks r =
    let before = row_of h kind start k r.0 r.1 r.3 in
    let at : ℕ → ℕ = up_to k before.at place in
    let chunk : ℕ → List ℕ = up_to k before.chunk r.2 in
    let end : at (suc k) ≡ place = up_to-new k before.at place in
    let chunk_end : chunk (suc k) ≡ r.2 = up_to-new k before.chunk r.2 in
    let front : chunks_to chunk k ≡ chunks_to before.chunk k = same_chunks chunk before.chunk k (λ j le. up_to-old k before.chunk r.2 j le) in
    record {
      at = at;
      chunk = chunk;
      first = up_to-old k before.at place 0 (omega arith) ∙ before.first;
      next = λ j less. elim (cases_lt j k) [
        | inl inside ↦
            same_next h kind (suc j) _ _ _ _ _ _ (up_to-old k before.at place j (omega arith)) (up_to-old k before.at place (suc j) (omega arith))
            (up_to-old k before.chunk r.2 (suc j) (omega arith)) (before.next j inside)
        | inr top ↦
            let is : j ≡ k = omega arith in
            let from : at k ≡ r.0 = up_to-old k before.at place k (omega arith) ∙ before.last in
            let here : IsNext h kind (suc k) r.0 place r.2 = record { later = r.4; stands = r.6; first = r.5 } in
            subst (λ (i : ℕ). IsNext h kind (suc i) (at i) (at (suc i)) (chunk (suc i))) (sym is)
            (same_next h kind (suc k) r.0 place (at k) (at (suc k)) r.2 (chunk (suc k)) from end chunk_end here)
      ];
      last = end;
      are = r.7 ∙ ap (λ (u : List ℕ). u ++ r.2) (before.are ∙ sym front) ∙ ap (λ (u : List ℕ). chunks_to chunk k ++ u) (sym chunk_end);
    }

pub carried_of : (h : List Packet) (place pgn : ℕ) (message : List ℕ) → Walk h place pgn message → Carried h place pgn message
carried_of h place pgn message w =
    let row = row_of h w.kind w.start (packets_of w.size) place w.chunks w.reaches in
    record {
      kind = w.kind;
      size = w.size;
      announcement = w.announcement;
      at = row.at;
      chunk = row.chunk;
      announced = rw row.first w.announced;
      announces = w.announces;
      fits = w.fits;
      carries = row.next;
      last = row.last;
      undisturbed = rw row.first w.undisturbed;
      bytes = w.bytes ∙ ap (take w.size) row.are;
    }
