-- What a listener is after each packet of a list.
use Rattle.std.proofs.Common.{◌≡◌, ℕ, zero, suc, ◌+◌, ◌==◌, ◌≤◌, Bool, true, false, if◌then◌else◌, List, ◌++◌, length, take, Option, Some, None, refl, sym, ap}
use Rattle.std.proofs.Common.{◌∙◌, inl, inr, arith, add-one, eq-eqb}
use Rattle.std.specs.Prelude.{slice_get}
use Rattle.std.proofs.lemmas.Bool.{cases_lt}
use Rattle.std.proofs.lemmas.Grind.{common_steps}
use Rattle.std.proofs.lemmas.List.{take-append-le, take_all}
use Rattle.j39_tp.specs.Chunks.{packets_of}
use Rattle.j39_tp.specs.Receiver.{Receiving, hears, completed, grown, bytes_at}
use Rattle.j39_tp.specs.Carried.{MayPass, receives_any, listened}
use Rattle.j39_tp.specs.declared.receiving.heard.Heard.{Heard}
use Rattle.j39_tp.specs.declared.receiving.manner.Manner.{Manner}
use Rattle.j39_tp.specs.declared.receiving.manner.Manner.TheVariants.{Listening}
use Rattle.j39_tp.specs.declared.packet.Packet.{Packet}
use Rattle.j39_tp.specs.declared.packet.Packet.TheVariants.{Dt}
use Rattle.j39_tp.specs.declared.receiving.progress.Progress.{Progress}
use Rattle.j39_tp.specs.declared.receiving.progress.Progress.TheVariants.{Open, Complete}
use Rattle.j39_tp.specs.declared.receiving.reception.ReceptionKind.{ReceptionKind}
use Rattle.j39_tp.specs.declared.receiving.reception.Reception.{Reception}

same_manner : (s : Receiving) (o : Option Packet) → (receives_any s o).manner ≡ s.manner
same_manner s None = refl
same_manner s (Some p) = refl

pub listens : (h : List Packet) (q : ℕ) → (listened h q).manner ≡ Listening
listens h zero = refl
listens h (suc q) = same_manner (listened h q) (slice_get h q) ∙ listens h q

-- a listener that stands like this before a place
abbrev pub IsAt : List Packet → ℕ → Progress → List ℕ → Type 0
IsAt h q p bytes = ((listened h q).progress ≡ p) × ((listened h q).bytes ≡ bytes)

abbrev pub next_bytes : Progress → Packet → List ℕ → List ℕ
next_bytes pr p bytes = bytes_at (hears Listening pr p).0 (grown pr p bytes)

hears_more : (s : Receiving) (o : Option Packet) (p : Packet) (pr : Progress) (bytes : List ℕ) → o ≡ Some p → s.manner ≡ Listening → s.progress ≡ pr
    → s.bytes ≡ bytes
    → ((receives_any s o).progress ≡ (hears Listening pr p).0) × ((receives_any s o).bytes ≡ next_bytes pr p bytes)
hears_more s o p pr bytes e m f b = (rw (e, m, f) refl, rw (e, m, f, b) refl)

pub one_heard : (h : List Packet) (q : ℕ) (p : Packet) (pr : Progress) (bytes : List ℕ) → slice_get h q ≡ Some p → IsAt h q pr bytes
    → IsAt h (suc q) (hears Listening pr p).0 (next_bytes pr p bytes)
one_heard h q p pr bytes e at = hears_more (listened h q) (slice_get h q) p pr bytes e (listens h q) at.0 at.1

pub none_heard : (h : List Packet) (q : ℕ) (pr : Progress) (bytes : List ℕ) → slice_get h q ≡ None → IsAt h q pr bytes → IsAt h (suc q) pr bytes
none_heard h q pr bytes e at = (
  ap (λ (o : Option Packet). (receives_any (listened h q) o).progress) e
      ∙ at.0,
  ap (λ (o : Option Packet). (receives_any (listened h q) o).bytes) e ∙ at.1,
)

-- ---- cases

pub if_case : (P : Progress → Type 0) (b : Bool) (x y : Progress × Heard) → (b ≡ true → P x.0) → (b ≡ false → P y.0) → P (if b then x else y).0
if_case P true x y h k = h refl
if_case P false x y h k = k refl

pub if_cases : (P : Progress → List ℕ → Type 0) (b : Bool) (x y : Progress × Heard) (u v : List ℕ) → (b ≡ true → P x.0 u) → (b ≡ false → P y.0 v)
    → P (if b then x else y).0 (if b then u else v)
if_cases P true x y u v h k = h refl
if_cases P false x y u v h k = k refl

-- ---- what both directions share

-- the number of a data packet may pass; another packet isn't one
abbrev pub PacketPasses : ReceptionKind → ℕ → Packet → Type 0
PacketPasses kind k (Dt number chunk) = MayPass kind k number
PacketPasses kind k _ = Unit {0}

take_twice : (n : ℕ) (front : List ℕ) → take n (take n front) ≡ take n front
take_twice n front = grind (arith, common_steps)

-- what is taken of what was taken before and a chunk
pub take_again : (n : ℕ) (front chunk : List ℕ) → take n (take n front ++ chunk) ≡ take n (front ++ chunk)
take_again n front chunk =
    elim (cases_lt n (length front)) [
      | inl less ↦
          let le : n ≤ length front = omega arith in
          let same : n ≤ length (take n front) = grind (arith, common_steps) in
          take-append-le n (take n front) chunk same ∙ take_twice n front ∙ sym (take-append-le n front chunk le)
      | inr all ↦ let whole : take n front ≡ front = take_all n front all in rw (whole) refl
    ]

-- what a receiver does with the last packet
pub last_heard : (m : Manner) (r : Reception) (chunk : List ℕ) → suc r.held ≡ packets_of r.size
    → hears m (Open r) (Dt (suc r.held) chunk) ≡ (Complete r.pgn, completed m r.kind r)
last_heard m r chunk last =
    let same : (suc r.held == r.held + 1) ≡ true = eq-eqb (suc r.held) (r.held + 1) (sym (add-one r.held)) in
    let done : (r.held + 1 == packets_of r.size) ≡ true = eq-eqb (r.held + 1) (packets_of r.size) (add-one r.held ∙ last) in
    rw (same, done) refl

pub last_grown : (r : Reception) (bytes chunk : List ℕ) → grown (Open r) (Dt (suc r.held) chunk) bytes ≡ take r.size (bytes ++ chunk)
last_grown r bytes chunk =
    let same : (suc r.held == r.held + 1) ≡ true = eq-eqb (suc r.held) (r.held + 1) (sym (add-one r.held)) in
    rw same refl

pub last_at : (h : List Packet) (q : ℕ) (r : Reception) (bytes chunk : List ℕ) → slice_get h q ≡ Some (Dt (suc r.held) chunk) → suc r.held ≡ packets_of r.size
    → IsAt h q (Open r) bytes → IsAt h (suc q) (Complete r.pgn) (take r.size (bytes ++ chunk))
last_at h q r bytes chunk e last at =
    let heard_then = one_heard h q (Dt (suc r.held) chunk) (Open r) bytes e at in
    rw (last_heard Listening r chunk last, last_grown r bytes chunk) at heard_then
