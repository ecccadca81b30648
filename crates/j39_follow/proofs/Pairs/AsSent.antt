-- What is received of an honest sender's packets is its message.
use Rattle.std.proofs.Math.Seq.{take-add, take-append_seam, take-nil}
use Rattle.std.proofs.Common.{◌≡◌, ℕ, zero, suc, ◌+◌, ◌-◌, ◌*◌, ◌≤◌, ◌<◌, ◌⊎◌, ◌==◌, Bool, if◌then◌else◌, true, false, List, [], ◌∷◌, ◌++◌, All, length, take}
use Rattle.std.proofs.Common.{drop, Option, Some, None}
use Rattle.std.proofs.Common.{inl, inr, refl, sym, ap, ◌∙◌, subst, arith, append_assoc, replicate, eqb-true}
use Rattle.std.specs.Prelude.{slice_get, is_some}
use Rattle.std.specs.Option.{option_or, unwrap_or}
use Rattle.std.proofs.lemmas.Bool.{cases_lt, cases_Bool, false≢true}
use Rattle.std.proofs.lemmas.Grind.{common_steps}
use Rattle.std.proofs.lemmas.List.{append-nil, take_all}
use Rattle.std.proofs.lemmas.List.Elements.{All-head, All-tail}
use Rattle.std.proofs.lemmas.Option.{none-some, same_Some}
use Rattle.j39_tp.specs.Carried.{chunks_to}
use Rattle.j39_tp.specs.Chunks.{packets_of, unused, chunk}
use Rattle.j39_tp.specs.HonestPackets.{GoesOn, StatesLast}
use Rattle.j39_tp.specs.Sender.{announcement}
use Rattle.j39_tp.specs.declared.packet.Packet.{Packet}
use Rattle.j39_tp.specs.declared.packet.Packet.TheVariants.{Rts, Cts, EndAck, Bam, Abort, Dt}
use Rattle.j39_tp.specs.declared.sending.dest.Dest.{Dest}
use Rattle.j39_tp.specs.declared.sending.dest.Dest.TheVariants.{All as ToAll, One as ToOne}
use Rattle.j39_tp.proofs.Honest.{all_chunks}
use Rattle.j39_follow.proofs.Pairs.Collecting.{same_chunks}
use Rattle.j39_follow.specs.Received.{IsReceived, KeepsOpen, last_bytes, chunk_in, last_chunk}

-- ---- places

there : (front : List Packet) (p : Packet) (back : List Packet) → slice_get (front ++ p ∷ back) (length front) ≡ Some p
there [] p back = refl
there (q ∷ front) p back = there front p back

behind : (front back : List Packet) (j : ℕ) → slice_get (front ++ back) (length front + j) ≡ slice_get back j
behind [] back j =
    let same : length {A = Packet} [] + j ≡ j = omega arith in
    ap (slice_get back) same
behind (q ∷ front) back j =
    let same : length (q ∷ front) + j ≡ suc (length front + j) = omega arith in
    ap (slice_get (q ∷ (front ++ back))) same ∙ behind front back j

keeps_there : (pgn : ℕ) (s : List Packet) (j : ℕ) (p : Packet) → All (KeepsOpen pgn) s → slice_get s j ≡ Some p → KeepsOpen pgn p
keeps_there pgn [] j p all e = absurd (none-some p e)
keeps_there pgn (q ∷ s) zero p all e = subst (KeepsOpen pgn) (same_Some q p e) (All-head (KeepsOpen pgn) q s all)
keeps_there pgn (q ∷ s) (suc j) p all e = keeps_there pgn s j p (All-tail (KeepsOpen pgn) q s all) e

no_announcement : (dest : Dest) (pgn size other : ℕ) → KeepsOpen other (announcement dest pgn size) → ⊥
no_announcement ToAll pgn size other keeps = keeps
no_announcement ToOne pgn size other keeps = keeps

some_or_none : (x : Option (List ℕ)) → ((d : List ℕ) × (x ≡ Some d)) ⊎ (x ≡ None)
some_or_none None = inr refl
some_or_none (Some d) = inl (d, refl)

data_of : (k number : ℕ) (seven c : List ℕ) → (if number == k then Some seven else None) ≡ Some c → Dt number seven ≡ Dt k c
data_of k number seven c e = elim (cases_Bool (number == k)) [
  | inl same ↦
      let bytes : seven ≡ c = same_Some seven c (sym (ap (λ (b : Bool). if b then Some seven else None) same) ∙ e) in
      ap (λ (n : ℕ). Dt n seven) (eqb-true number k same) ∙ ap (λ (x : List ℕ). Dt k x) bytes
  | inr other ↦
      let none : None ≡ Some c = sym (ap (λ (b : Bool). if b then Some seven else None) other) ∙ e in
      absurd (none-some c none)
]

chunk_of : (k : ℕ) (p : Packet) (c : List ℕ) → chunk_in k p ≡ Some c → p ≡ Dt k c
chunk_of k (Dt number seven) c e = data_of k number seven c e
chunk_of k (Rts size limit pgn) c e = absurd (none-some c e)
chunk_of k (Cts count first pgn) c e = absurd (none-some c e)
chunk_of k (EndAck size pgn) c e = absurd (none-some c e)
chunk_of k (Bam size pgn) c e = absurd (none-some c e)
chunk_of k (Abort reason pgn) c e = absurd (none-some c e)

-- the bytes that came last of a packet are those of one of its packets
chunk_there : (k : ℕ) (s : List Packet) (c : List ℕ) → last_chunk k s ≡ Some c → (j : ℕ) × (slice_get s j ≡ Some (Dt k c))
chunk_there k [] c e = absurd (none-some c e)
chunk_there k (p ∷ s) c e = elim (some_or_none (last_chunk k s)) [
  | inl later ↦
      let one = chunk_there k s later.0 later.1 in
      let same : later.0 ≡ c = same_Some later.0 c (sym (ap (λ (x : Option (List ℕ)). option_or x (chunk_in k p)) later.1) ∙ e) in
      (suc one.0, one.1 ∙ ap (λ (x : List ℕ). Some (Dt k x)) same)
  | inr none ↦
      let here : chunk_in k p ≡ Some c = sym (ap (λ (x : Option (List ℕ)). option_or x (chunk_in k p)) none) ∙ e in
      (zero, ap Some (chunk_of k p c here))
]

all_is_not_one : (n pgn size limit other : ℕ) → Bam n pgn ≡ Rts size limit other → ⊥
all_is_not_one n pgn size limit other e = cc

starts_as : (dest : Dest) (pgn n size limit other : ℕ) → announcement dest pgn n ≡ Rts size limit other → (n ≡ size) × (pgn ≡ other)
starts_as ToAll pgn n size limit other e = absurd (all_is_not_one n pgn size limit other e)
starts_as ToOne pgn n size limit other e =
    let sizes : n ≡ size = cc in
    let numbers : pgn ≡ other = cc in
    (sizes, numbers)

pub received_as_sent : (h : List Packet) (pgn : ℕ) (bytes : List ℕ) → StatesLast h pgn bytes → (size other : ℕ) (message : List ℕ)
    → IsReceived h size other message → (other ≡ pgn) × (message ≡ bytes)
received_as_sent h pgn bytes t size other message r =
    let a = r.announced in
    let since : List Packet = r.since in
    let stated : Packet = announcement t.dest pgn (length bytes) in
    let here : slice_get h (length a.before) ≡ Some (Rts size a.limit other) =
    ap (λ (l : List Packet). slice_get l (length a.before)) a.row ∙ there a.before (Rts size a.limit other) since in
    let later : (j : ℕ) → slice_get h (length a.before + suc j) ≡ slice_get since j =
    λ j. ap (λ (l : List Packet). slice_get l (length a.before + suc j)) a.row ∙ behind a.before (Rts size a.limit other ∷ since) (suc j) in
    let start : t.start ≡ length a.before = elim (cases_lt t.start (length a.before)) [
      | inl early ↦ absurd (t.after (length a.before) (Rts size a.limit other) early here)
      | inr from ↦ elim (cases_lt (length a.before) t.start) [
        | inl late ↦
            let step : length a.before + suc (t.start - length a.before - 1) ≡ t.start = omega (arith, late) in
            let at : slice_get since (t.start - length a.before - 1) ≡ Some stated =
            sym (later (t.start - length a.before - 1)) ∙ ap (slice_get h) step ∙ t.announced in
            absurd (no_announcement t.dest pgn (length bytes) other (keeps_there other since (t.start - length a.before - 1) stated a.stays at))
        | inr upto ↦ omega (arith, from, upto)
      ]
    ] in
    let same : stated ≡ Rts size a.limit other =
    same_Some stated (Rts size a.limit other) (sym t.announced ∙ ap (slice_get h) start ∙ here) in
    let is = starts_as t.dest pgn (length bytes) size a.limit other same in
    let chunks : (k : ℕ) → k < packets_of size → last_bytes since (suc k) ≡ chunk bytes (suc k) = λ k less. elim (some_or_none (last_chunk (suc k) since)) [
      | inl came ↦
          let one = chunk_there (suc k) since came.0 came.1 in
          let stands : slice_get h (length a.before + suc one.0) ≡ Some (Dt (suc k) came.0) = later one.0 ∙ one.1 in
          let seven : came.0 ≡ chunk bytes (suc k) =
          t.after (length a.before + suc one.0) (Dt (suc k) came.0) (omega (arith, start)) stands in
          ap (λ (x : Option (List ℕ)). unwrap_or x []) came.1 ∙ seven
      | inr none ↦ absurd (false≢true (sym (ap (λ (x : Option (List ℕ)). is_some x) none) ∙ r.came k less))
    ] in (
      sym is.1,
      r.bytes ∙ ap (take size) (same_chunks (last_bytes since) (chunk bytes) (packets_of size) chunks)
          ∙ ap (λ (n : ℕ). take n (chunks_to (chunk bytes) (packets_of n))) (sym is.0) ∙ all_chunks bytes,
    )
