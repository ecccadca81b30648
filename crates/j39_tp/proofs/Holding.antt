-- The bytes of a receiver fit its progress after each packet.
use Rattle.std.proofs.Common.{◌≡◌, ℕ, ◌+◌, ◌*◌, ◌==◌, ◌≤◌, ◌<◌, ◌&&◌, Bool, true, false, if◌then◌else◌, List, [], ◌++◌, length, take, refl, sym, ap, ◌∙◌}
use Rattle.std.proofs.Common.{eqb-true, eq-eqb, arith, length-append}
use Rattle.std.proofs.lemmas.Grind.{common_steps}
use Rattle.std.proofs.lemmas.Bool.{eqb-false, ltb-true}
use Rattle.std.specs.Prelude.{nat_lt, nat_le}
use Rattle.j39_tp.specs.Chunks.{packets_of}
use Rattle.j39_tp.specs.Packets.{InRange}
use Rattle.j39_tp.specs.Receiver.{Receiving, hears, grown, bytes_at, opened, one_more_held, is_directed, going_on, takes_data, takes_next, takes_later}
use Rattle.j39_tp.specs.inside.Held.{is_within, is_held_at}
use Rattle.j39_tp.specs.declared.receiving.heard.Heard.{Heard}
use Rattle.j39_tp.specs.declared.receiving.heard.Heard.TheVariants as heard
use Rattle.j39_tp.specs.declared.receiving.manner.Manner.{Manner}
use Rattle.j39_tp.specs.declared.receiving.manner.Manner.TheVariants.{Answering, Listening}
use Rattle.j39_tp.specs.declared.packet.Packet.{Packet}
use Rattle.j39_tp.specs.declared.packet.Packet.TheVariants.{Rts, Cts, EndAck, Bam, Abort, Dt}
use Rattle.j39_tp.specs.declared.receiving.progress.Progress.{Progress}
use Rattle.j39_tp.specs.declared.receiving.progress.Progress.TheVariants.{Closed, Open, Complete}
use Rattle.j39_tp.specs.declared.receiving.reception.ReceptionKind.{ReceptionKind}
use Rattle.j39_tp.specs.declared.receiving.reception.ReceptionKind.TheVariants.{Broadcast, Directed}
use Rattle.j39_tp.specs.declared.receiving.reception.Reception.{Reception}

-- an open session holds this many packets
abbrev pub Holds : Progress → ℕ → Type 0
Holds (Open r) n = r.held ≡ n
Holds _ n = Unit {0}

-- the bytes that are kept fit
abbrev pub Fit : Progress → List ℕ → Type 0
Fit p bytes = is_held_at p (bytes_at p bytes) ≡ true

fits : (p : Progress) (bytes : List ℕ) (n : ℕ) → Holds p n → length bytes ≡ 7 * n → Fit p bytes
fits Closed bytes n h l = refl
fits (Open r) bytes n h l = eq-eqb (length bytes) (7 * r.held) (l ∙ ap (λ (k : ℕ). 7 * k) (sym h))
fits (Complete pgn) bytes n h l = refl

holds_if : (b : Bool) (x y : Progress × Heard) (n : ℕ) → Holds x.0 n → Holds y.0 n → Holds (if b then x else y).0 n
holds_if true x y n h k = h
holds_if false x y n h k = k

fits_if : (b : Bool) (x y : Progress × Heard) (u : List ℕ) → (b ≡ true → Fit x.0 u) → (b ≡ false → Fit y.0 u) → Fit (if b then x else y).0 u
fits_if true x y u h k = h refl
fits_if false x y u h k = k refl

fits_both : (b : Bool) (x y : Progress × Heard) (u v : List ℕ) → (b ≡ true → Fit x.0 u) → (b ≡ false → Fit y.0 v)
    → Fit (if b then x else y).0 (if b then u else v)
fits_both true x y u v h k = h refl
fits_both false x y u v h k = k refl

going_holds : (m : Manner) (k : ReceptionKind) (r : Reception) → Holds (going_on m k r).0 r.held
going_holds (Answering window) Directed r = refl
going_holds (Answering window) Broadcast r = refl
going_holds Listening k r = refl

asks_if : (b : Bool) (x y : Progress × Packet) (n : ℕ) → Holds x.0 n → Holds y.0 n → Holds (if b then x else y).0 n
asks_if true x y n h k = h
asks_if false x y n h k = k

later_holds : (m : Manner) (k : ReceptionKind) (r : Reception) (number : ℕ) → Holds (takes_later m k r number).0 r.held
later_holds m Broadcast r number = tt
later_holds Listening Directed r number = refl
later_holds (Answering window) Directed r number =
    holds_if (number == r.granted) _ _ r.held (asks_if (nat_lt r.asked 2) _ _ r.held refl tt) refl

-- a packet after those that are held, which isn't the last
next_holds : (m : Manner) (r : Reception)
    → Holds (if r.held + 1 == r.granted then going_on m r.kind (one_more_held r) else (Open (one_more_held r), heard.Nothing)).0
    (r.held + 1)
next_holds m r = holds_if (r.held + 1 == r.granted) _ _ (r.held + 1) (going_holds m r.kind (one_more_held r)) refl

-- bytes of one more packet
more_bytes : (bytes chunk : List ℕ) (size held : ℕ) → length bytes ≡ 7 * held → length chunk ≡ 7 → 7 * (held + 1) ≤ size
    → length (take size (bytes ++ chunk)) ≡ 7 * (held + 1)
more_bytes bytes chunk size held l c h = grind (arith, common_steps, length-append bytes chunk)

room : (size held : ℕ) → held < packets_of size → (held + 1 ≡ packets_of size → ⊥) → 7 * (held + 1) ≤ size
room size held h n = omega arith

next_fits : (m : Manner) (r : Reception) (bytes chunk : List ℕ) → r.held < packets_of r.size → length bytes ≡ 7 * r.held → length chunk ≡ 7
    → Fit (takes_next m r).0 (take r.size (bytes ++ chunk))
next_fits m r bytes chunk within l c =
    fits_if (r.held + 1 == packets_of r.size) _ _ (take r.size (bytes ++ chunk))
    (λ _. refl)
    (λ other. fits _ (take r.size (bytes ++ chunk)) (r.held + 1) (next_holds m r)
    (more_bytes bytes chunk r.size r.held l c (room r.size r.held within (eqb-false (r.held + 1) (packets_of r.size) other))))

takes_fits : (m : Manner) (r : Reception) (number : ℕ) (bytes chunk : List ℕ) → r.held < packets_of r.size → length bytes ≡ 7 * r.held → length chunk ≡ 7
    → Fit (takes_data m r number).0 (grown (Open r) (Dt number chunk) bytes)
takes_fits m r number bytes chunk within l c =
    fits_both (number == r.held + 1) _ _ (take r.size (bytes ++ chunk)) bytes
    (λ _. next_fits m r bytes chunk within l c)
    (λ _. fits _ bytes r.held (holds_if (nat_le number r.held) _ _ r.held refl (later_holds m r.kind r number)) l)

pub still_standing : (manner : Manner) (progress : Progress) (packet : Packet) (bytes : List ℕ)
    → is_within progress ≡ true → is_held_at progress bytes ≡ true → InRange packet
    → Fit (hears manner progress packet).0 (grown progress packet bytes)
still_standing m p (Bam size pgn) bytes within held range = fits _ [] 0 (going_holds m Broadcast (opened Broadcast pgn size 255)) refl
still_standing m p (Rts size limit pgn) bytes within held range = fits _ [] 0 (going_holds m Directed (opened Directed pgn size limit)) refl
still_standing m (Open r) (Dt number chunk) bytes within held range = takes_fits m r number bytes chunk (ltb-true r.held (packets_of r.size) within)
    (eqb-true (length bytes) (7 * r.held) held) range
still_standing m (Open r) (Abort reason pgn) bytes within held range =
    fits_if (is_directed r.kind && pgn == r.pgn) _ _ bytes (λ _. refl) (λ _. held)
still_standing m (Open r) (Cts count first pgn) bytes within held range = held
still_standing m (Open r) (EndAck size pgn) bytes within held range = held
still_standing m Closed (Dt number chunk) bytes within held range = refl
still_standing m Closed (Cts count first pgn) bytes within held range = refl
still_standing m Closed (EndAck size pgn) bytes within held range = refl
still_standing m Closed (Abort reason pgn) bytes within held range = refl
still_standing m (Complete pgn) (Dt number chunk) bytes within held range = refl
still_standing m (Complete pgn) (Cts count first named) bytes within held range = refl
still_standing m (Complete pgn) (EndAck size named) bytes within held range = refl
still_standing m (Complete pgn) (Abort reason named) bytes within held range = refl

-- ---- a receiver whose parts are known

pub both_hold : (a b : Bool) → a ≡ true → b ≡ true → a && b ≡ true
both_hold a b h k = rw (h, k) refl

pub first_holds : (a b : Bool) → a && b ≡ true → a ≡ true
first_holds true b h = refl
first_holds false b h = h

pub second_holds : (a b : Bool) → a && b ≡ true → b ≡ true
second_holds true b h = h
second_holds false b h = cc h

abbrev pub receiving : Manner → Progress → List ℕ → Receiving
receiving manner progress bytes = record { manner = manner; progress = progress; bytes = bytes }

pub same_receiving : (m : Manner) (p q : Progress) (u v : List ℕ) → p ≡ q → u ≡ v → receiving m p u ≡ receiving m q v
same_receiving m p q u v e f = λ i. record { manner = m; progress = e i; bytes = f i }
