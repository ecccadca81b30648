-- The size of the message that a packet completes.
use Rattle.std.proofs.Common.{◌≡◌, ℕ, ◌+◌, ◌*◌, ◌==◌, ◌≤◌, ◌&&◌, Bool, true, false, if◌then◌else◌, List, ◌++◌, length, take, refl, sym, ap, ◌∙◌}
use Rattle.std.proofs.Common.{eqb-true, arith, length-append, Some, None}
use Rattle.std.proofs.lemmas.Grind.{common_steps}
use Rattle.std.specs.Prelude.{nat_le}
use Rattle.j39_tp.specs.Chunks.{packets_of}
use Rattle.j39_tp.specs.Packets.{InRange}
use Rattle.j39_tp.specs.Receiver.{bytes_at, completed, going_on, grown, hears, is_directed, one_more_held, opened, size_announced, takes_data, takes_later}
use Rattle.j39_tp.specs.inside.Held.{is_held_at, last_size}
use Rattle.j39_tp.specs.declared.receiving.heard.Heard.{Heard}
use Rattle.j39_tp.specs.declared.receiving.manner.Manner.{Manner}
use Rattle.j39_tp.specs.declared.receiving.manner.Manner.TheVariants.{Answering, Listening}
use Rattle.j39_tp.specs.declared.packet.Packet.{Packet}
use Rattle.j39_tp.specs.declared.packet.Packet.TheVariants.{Rts, Cts, EndAck, Bam, Abort, Dt}
use Rattle.j39_tp.specs.declared.receiving.progress.Progress.{Progress}
use Rattle.j39_tp.specs.declared.receiving.progress.Progress.TheVariants.{Closed, Open, Complete}
use Rattle.j39_tp.specs.declared.receiving.reception.ReceptionKind.{ReceptionKind}
use Rattle.j39_tp.specs.declared.receiving.reception.ReceptionKind.TheVariants.{Broadcast, Directed}
use Rattle.j39_tp.specs.declared.receiving.reception.Reception.{Reception}

-- ---- what completes nothing

quiet_if : (b : Bool) (x y : Progress × Heard) (u : List ℕ) → size_announced x.1 u ≡ None → size_announced y.1 u ≡ None
    → size_announced (if b then x else y).1 u ≡ None
quiet_if true x y u h k = h
quiet_if false x y u h k = k

going_quiet : (m : Manner) (k : ReceptionKind) (r : Reception) (u : List ℕ) → size_announced (going_on m k r).1 u ≡ None
going_quiet (Answering window) Directed r u = refl
going_quiet (Answering window) Broadcast r u = refl
going_quiet Listening k r u = refl

later_quiet : (m : Manner) (k : ReceptionKind) (r : Reception) (number : ℕ) (u : List ℕ) → size_announced (takes_later m k r number).1 u ≡ None
later_quiet m Broadcast r number u = refl
later_quiet Listening Directed r number u = refl
later_quiet (Answering window) Directed r number u = quiet_if (number == r.granted) _ _ u refl refl

-- a closed receiver completes nothing
pub closed_quiet : (m : Manner) (p : Packet) (u : List ℕ) → size_announced (hears m Closed p).1 u ≡ None
closed_quiet m (Bam size pgn) u = going_quiet m Broadcast (opened Broadcast pgn size 255) u
closed_quiet m (Rts size limit pgn) u = going_quiet m Directed (opened Directed pgn size limit) u
closed_quiet m (Cts count first pgn) u = refl
closed_quiet m (EndAck size pgn) u = refl
closed_quiet m (Abort reason pgn) u = refl
closed_quiet m (Dt number chunk) u = refl

-- ---- the last packet

complete_stated : (m : Manner) (k : ReceptionKind) (r : Reception) (u : List ℕ) → size_announced (completed m k r) u ≡ Some (length u)
complete_stated (Answering window) Directed r u = refl
complete_stated (Answering window) Broadcast r u = refl
complete_stated Listening k r u = refl

whole : (bytes chunk : List ℕ) (size held : ℕ) → length bytes ≡ 7 * held → length chunk ≡ 7 → held + 1 ≡ packets_of size
    → length (take size (bytes ++ chunk)) ≡ size
whole bytes chunk size held l c last =
    let within : size ≤ 7 * (held + 1) = omega arith in
    grind (arith, common_steps, length-append bytes chunk)

data_stated : (m : Manner) (r : Reception) (number : ℕ) (bytes chunk : List ℕ) → length bytes ≡ 7 * r.held → length chunk ≡ 7 → (next last : Bool)
    → (number == r.held + 1) ≡ next → (r.held + 1 == packets_of r.size) ≡ last
    → last_size (Open r) (Dt number chunk) ≡ size_announced (takes_data m r number).1
    (bytes_at (takes_data m r number).0 (grown (Open r) (Dt number chunk) bytes))
data_stated m r number bytes chunk l c true true next_is last_is =
    let all : length (take r.size (bytes ++ chunk)) ≡ r.size = whole bytes chunk r.size r.held l c (eqb-true (r.held + 1) (packets_of r.size) last_is) in
    rw (next_is, last_is) (ap Some (sym all) ∙ sym (complete_stated m r.kind r (take r.size (bytes ++ chunk))))
data_stated m r number bytes chunk l c true false next_is last_is =
    rw (next_is, last_is) (sym (quiet_if (r.held + 1 == r.granted) _ _ _ (going_quiet m r.kind (one_more_held r) _) refl))
data_stated m r number bytes chunk l c false last next_is last_is =
    rw next_is (sym (quiet_if (nat_le number r.held) _ _ _ refl (later_quiet m r.kind r number _)))

-- what is reported by the progress is what is reported by the rule
pub last_is : (m : Manner) (g : Progress) (p : Packet) (bytes : List ℕ) → is_held_at g bytes ≡ true → InRange p
    → last_size g p ≡ size_announced (hears m g p).1 (bytes_at (hears m g p).0 (grown g p bytes))
last_is m Closed p bytes held range = sym (closed_quiet m p _)
last_is m (Open r) (Bam size pgn) bytes held range = sym (going_quiet m Broadcast (opened Broadcast pgn size 255) _)
last_is m (Open r) (Rts size limit pgn) bytes held range = sym (going_quiet m Directed (opened Directed pgn size limit) _)
last_is m (Open r) (Cts count first pgn) bytes held range = refl
last_is m (Open r) (EndAck size pgn) bytes held range = refl
last_is m (Open r) (Abort reason pgn) bytes held range = sym (quiet_if (is_directed r.kind && pgn == r.pgn) _ _ _ refl refl)
last_is m (Open r) (Dt number chunk) bytes held range =
    data_stated m r number bytes chunk (eqb-true (length bytes) (7 * r.held) held) range _ _ refl refl
last_is m (Complete named) (Bam size pgn) bytes held range = sym (going_quiet m Broadcast (opened Broadcast pgn size 255) _)
last_is m (Complete named) (Rts size limit pgn) bytes held range = sym (going_quiet m Directed (opened Directed pgn size limit) _)
last_is m (Complete named) (Cts count first pgn) bytes held range = refl
last_is m (Complete named) (EndAck size pgn) bytes held range = refl
last_is m (Complete named) (Abort reason pgn) bytes held range = refl
last_is m (Complete named) (Dt number chunk) bytes held range = refl
