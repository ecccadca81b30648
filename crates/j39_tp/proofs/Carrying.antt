-- A listener completes each message that the list carries.
use Rattle.std.proofs.Common.{◌≡◌, ℕ, zero, suc, ◌+◌, ◌-◌, ◌==◌, ◌≤◌, ◌<◌, true, false, List, [], ◌++◌, take, Option, Some, None, refl, sym, ap, ◌∙◌, subst}
use Rattle.std.proofs.Common.{arith, add-one, eq-eqb}
use Rattle.std.specs.Prelude.{nat_le, slice_get}
use Rattle.std.proofs.Math.Seq.{take-nil}
use Rattle.std.proofs.lemmas.Bool.{ne_eqb, le-leb}
use Rattle.j39_tp.specs.Chunks.{IsSize, packets_of}
use Rattle.j39_tp.specs.Receiver.{hears, grown}
use Rattle.j39_tp.specs.Carried.{Announces, MayPass, Awaits, Leaves, IsUndisturbed, Carried, listened, CompletesAt}
use Rattle.j39_tp.specs.Gathered.{Reaches}
use Rattle.j39_tp.specs.declared.receiving.heard.Heard.{Heard}
use Rattle.j39_tp.specs.declared.receiving.manner.Manner.TheVariants.{Listening}
use Rattle.j39_tp.specs.declared.packet.Packet.{Packet}
use Rattle.j39_tp.specs.declared.packet.Packet.TheVariants.{Rts, Cts, EndAck, Bam, Abort, Dt}
use Rattle.j39_tp.specs.declared.receiving.progress.Progress.{Progress}
use Rattle.j39_tp.specs.declared.receiving.progress.Progress.TheVariants.{Open}
use Rattle.j39_tp.specs.declared.receiving.reception.ReceptionKind.{ReceptionKind}
use Rattle.j39_tp.specs.declared.receiving.reception.ReceptionKind.TheVariants.{Broadcast, Directed}
use Rattle.j39_tp.specs.declared.receiving.reception.Reception.{Reception}
use Rattle.j39_tp.proofs.Walks.{walk_of}
use Rattle.j39_tp.proofs.Hearing.{IsAt, PacketPasses, one_heard, none_heard, if_case, take_again, last_heard, last_at}

-- a listener's session with k packets
abbrev pub session : ReceptionKind → ℕ → ℕ → ℕ → ℕ → Reception
session kind pgn size limit k = record { kind = kind; pgn = pgn; size = size; limit = limit; held = k; granted = 0; asked = 0 }

-- the session stays as it is
abbrev pub Stays : Reception → Packet → List ℕ → Type 0
Stays r p bytes = ((hears Listening (Open r) p).0 ≡ Open r) × (grown (Open r) p bytes ≡ bytes)

data_stays : (kind : ReceptionKind) (pgn size limit k number : ℕ) (chunk bytes : List ℕ) → MayPass kind (suc k) number
    → Stays (session kind pgn size limit k) (Dt number chunk) bytes
data_stays Directed pgn size limit k number chunk bytes pass =
    let other : (number == k + 1) ≡ false = ne_eqb number (k + 1) (λ e. pass (e ∙ add-one k)) in
    (rw other (if_case (λ p. p ≡ Open (session Directed pgn size limit k)) (nat_le number k) _ _ (λ _. refl) (λ _. refl)), rw other refl)
data_stays Broadcast pgn size limit k number chunk bytes pass =
    let other : (number == k + 1) ≡ false = ne_eqb number (k + 1) (λ e. absurd (omega arith)) in
    let below : nat_le number k ≡ true = le-leb number k (omega arith) in
    (rw (other, below) refl, rw other refl)

stays : (kind : ReceptionKind) (pgn size limit k : ℕ) (p : Packet) (bytes : List ℕ) → PacketPasses kind (suc k) p → Leaves kind pgn p
    → Stays (session kind pgn size limit k) p bytes
stays kind pgn size limit k (Bam n named) bytes pass leaves = absurd leaves
stays kind pgn size limit k (Rts n l named) bytes pass leaves = absurd leaves
stays kind pgn size limit k (Cts count first named) bytes pass leaves = (refl, refl)
stays kind pgn size limit k (EndAck n named) bytes pass leaves = (refl, refl)
stays Directed pgn size limit k (Abort reason named) bytes pass leaves = let other : (named == pgn) ≡ false = ne_eqb named pgn leaves in (rw other refl, refl)
stays Broadcast pgn size limit k (Abort reason named) bytes pass leaves = (refl, refl)
stays kind pgn size limit k (Dt number chunk) bytes pass leaves = data_stays kind pgn size limit k number chunk bytes pass

-- what a packet at a place is, where it is one
abbrev pub PassesAt : List Packet → ReceptionKind → ℕ → ℕ → ℕ → Type 0
PassesAt h kind pgn k j = (p : Packet) → slice_get h j ≡ Some p → PacketPasses kind k p × Leaves kind pgn p

stays_next : (h : List Packet) (kind : ReceptionKind) (pgn size limit k q : ℕ) (bytes : List ℕ) → IsAt h q (Open (session kind pgn size limit k)) bytes
    → PassesAt h kind pgn (suc k) q → (o : Option Packet) → slice_get h q ≡ o → IsAt h (suc q) (Open (session kind pgn size limit k)) bytes
stays_next h kind pgn size limit k q bytes at pass None e = none_heard h q (Open (session kind pgn size limit k)) bytes e at
stays_next h kind pgn size limit k q bytes at pass (Some p) e =
    let here = pass p e in
    let same = stays kind pgn size limit k p bytes here.0 here.1 in
    let heard_then = one_heard h q p (Open (session kind pgn size limit k)) bytes e at in
    (heard_then.0 ∙ same.0, heard_then.1 ∙ rw (same.0, same.1) refl)

stays_on : (h : List Packet) (kind : ReceptionKind) (pgn size limit k from d : ℕ) (bytes : List ℕ) → IsAt h from (Open (session kind pgn size limit k)) bytes
    → ((j : ℕ) → from ≤ j → j < from + d → PassesAt h kind pgn (suc k) j) → IsAt h (from + d) (Open (session kind pgn size limit k)) bytes
stays_on h kind pgn size limit k from zero bytes at pass = let e : from + zero ≡ from = omega arith in rw e at
stays_on h kind pgn size limit k from (suc d) bytes at pass =
    let e : from + suc d ≡ suc (from + d) = omega arith in
    let before = stays_on h kind pgn size limit k from d bytes at (λ j lo hi. pass j lo (omega arith)) in
    rw e (stays_next h kind pgn size limit k (from + d) bytes before (pass (from + d) (omega arith) (omega arith)) (slice_get h (from + d)) refl)

-- what stands between two packets of a session passes
awaited_passes : (h : List Packet) (kind : ReceptionKind) (pgn k j from to start : ℕ) → Awaits h kind k from to → IsUndisturbed h kind pgn start to
    → start < j → from < j → j < to → PassesAt h kind pgn k j
awaited_passes h kind pgn k j from to start a u first lo hi (Dt number chunk) e = (a j number chunk lo hi e, u j (Dt number chunk) first hi e)
awaited_passes h kind pgn k j from to start a u first lo hi (Bam n named) e = (tt, u j (Bam n named) first hi e)
awaited_passes h kind pgn k j from to start a u first lo hi (Rts n l named) e = (tt, u j (Rts n l named) first hi e)
awaited_passes h kind pgn k j from to start a u first lo hi (Cts count f named) e = (tt, u j (Cts count f named) first hi e)
awaited_passes h kind pgn k j from to start a u first lo hi (EndAck n named) e = (tt, u j (EndAck n named) first hi e)
awaited_passes h kind pgn k j from to start a u first lo hi (Abort reason named) e = (tt, u j (Abort reason named) first hi e)

undisturbed_before : (h : List Packet) (kind : ReceptionKind) (pgn start from to : ℕ) → from ≤ to → IsUndisturbed h kind pgn start to
    → IsUndisturbed h kind pgn start from
undisturbed_before h kind pgn start from to le u = λ j p lo hi e. u j p lo (omega arith) e

-- the session stands until the next packet comes
waits : (h : List Packet) (kind : ReceptionKind) (pgn size limit k start from to : ℕ) (bytes : List ℕ)
    → IsAt h (suc from) (Open (session kind pgn size limit k)) bytes
    → start ≤ from → from < to → Awaits h kind (suc k) from to → IsUndisturbed h kind pgn start to → IsAt h to (Open (session kind pgn size limit k)) bytes
waits h kind pgn size limit k start from to bytes at le less a u =
    let e : suc from + (to - suc from) ≡ to = omega arith in
    subst (λ (q : ℕ). IsAt h q (Open (session kind pgn size limit k)) bytes) e
    (stays_on h kind pgn size limit k (suc from) (to - suc from) bytes at
    (λ j lo hi. awaited_passes h kind pgn (suc k) j from to start a u (omega arith) (omega arith) (omega arith)))

-- a packet that isn't the last
takes_more : (h : List Packet) (kind : ReceptionKind) (pgn size limit k q : ℕ) (bytes chunk : List ℕ) → slice_get h q ≡ Some (Dt (suc k) chunk)
    → suc k < packets_of size
    → IsAt h q (Open (session kind pgn size limit k)) bytes → IsAt h (suc q) (Open (session kind pgn size limit (suc k))) (take size (bytes ++ chunk))
takes_more h kind pgn size limit k q bytes chunk e less at =
    let same : (suc k == k + 1) ≡ true = eq-eqb (suc k) (k + 1) (sym (add-one k)) in
    let more : (k + 1 == packets_of size) ≡ false = ne_eqb (k + 1) (packets_of size) (λ f. absurd (omega arith)) in
    let some : (k + 1 == 0) ≡ false = ne_eqb (k + 1) 0 (λ f. absurd (omega arith)) in
    let heard_then = one_heard h q (Dt (suc k) chunk) (Open (session kind pgn size limit k)) bytes e at in
    rw (same, more, some, add-one k) at heard_then

-- the limit of an announcement
abbrev pub limit_in : Packet → ℕ
limit_in (Rts size limit pgn) = limit
limit_in _ = 255

announced_at : (h : List Packet) (kind : ReceptionKind) (pgn size start : ℕ) (p : Packet) → slice_get h start ≡ Some p → Announces p kind pgn size
    → IsAt h (suc start) (Open (session kind pgn size (limit_in p) 0)) []
announced_at h Broadcast pgn size start (Bam n named) e a =
    subst (λ (g : ℕ). IsAt h (suc start) (Open (session Broadcast g size 255 0)) []) a.0
    (subst (λ (m : ℕ). IsAt h (suc start) (Open (session Broadcast named m 255 0)) []) a.1
    (one_heard h start (Bam n named) (listened h start).progress (listened h start).bytes e (refl, refl)))
announced_at h Directed pgn size start (Rts n l named) e a =
    subst (λ (g : ℕ). IsAt h (suc start) (Open (session Directed g size l 0)) []) a.0
    (subst (λ (m : ℕ). IsAt h (suc start) (Open (session Directed named m l 0)) []) a.1
    (one_heard h start (Rts n l named) (listened h start).progress (listened h start).bytes e (refl, refl)))
announced_at h Broadcast pgn size start (Rts n l named) e a = absurd a
announced_at h Broadcast pgn size start (Cts count first named) e a = absurd a
announced_at h Broadcast pgn size start (EndAck n named) e a = absurd a
announced_at h Broadcast pgn size start (Abort reason named) e a = absurd a
announced_at h Broadcast pgn size start (Dt number chunk) e a = absurd a
announced_at h Directed pgn size start (Bam n named) e a = absurd a
announced_at h Directed pgn size start (Cts count first named) e a = absurd a
announced_at h Directed pgn size start (EndAck n named) e a = absurd a
announced_at h Directed pgn size start (Abort reason named) e a = absurd a
announced_at h Directed pgn size start (Dt number chunk) e a = absurd a

reaches_after : (h : List Packet) (kind : ReceptionKind) (start k place : ℕ) (chunks : List ℕ) → Reaches h kind start k place chunks → start ≤ place
reaches_after h kind start zero place chunks r = let e : place ≡ start = r.0 in omega arith
reaches_after h kind start (suc k) place chunks r = let le = reaches_after h kind start k r.0 r.1 r.3 in let less : r.0 < place = r.4 in omega arith

-- the session once packet k was heard
walked : (h : List Packet) (kind : ReceptionKind) (pgn size limit start k place : ℕ) (chunks : List ℕ)
    → IsAt h (suc start) (Open (session kind pgn size limit 0)) []
    → k < packets_of size → Reaches h kind start k place chunks → IsUndisturbed h kind pgn start place
    → IsAt h (suc place) (Open (session kind pgn size limit k)) (take size chunks)
walked h kind pgn size limit start zero place chunks at less r u = rw (r.0, r.1, take-nil size) at
walked h kind pgn size limit start (suc k) place chunks at less r u =
    let after : start ≤ r.0 = reaches_after h kind start k r.0 r.1 r.3 in
    let before : r.0 < place = r.4 in
    let there = walked h kind pgn size limit start k r.0 r.1 at (omega arith) r.3 (undisturbed_before h kind pgn start r.0 place (omega arith) u) in
    let now = waits h kind pgn size limit k start r.0 place (take size r.1) there after before r.5 u in
    rw (r.7, ← take_again size r.1 r.2) (takes_more h kind pgn size limit k place (take size r.1) r.2 r.6 less now)

-- a message has packets
has_packets : (size : ℕ) → IsSize size → (k : ℕ) × (suc k ≡ packets_of size)
has_packets size fits = let above = fits.above in (packets_of size - 1, omega arith)

carried_here : (h : List Packet) (kind : ReceptionKind) (pgn size limit start k place : ℕ) (message chunks : List ℕ)
    → IsAt h (suc start) (Open (session kind pgn size limit 0)) []
    → suc k ≡ packets_of size → Reaches h kind start (suc k) place chunks → IsUndisturbed h kind pgn start place → message ≡ take size chunks
    → CompletesAt h place pgn message
carried_here h kind pgn size limit start k place message chunks at last r u m =
    let after : start ≤ r.0 = reaches_after h kind start k r.0 r.1 r.3 in
    let before : r.0 < place = r.4 in
    let open_is = session kind pgn size limit k in
    let there = walked h kind pgn size limit start k r.0 r.1 at (omega arith) r.3 (undisturbed_before h kind pgn start r.0 place (omega arith) u) in
    let now = waits h kind pgn size limit k start r.0 place (take size r.1) there after before r.5 u in
    let done = last_at h place open_is (take size r.1) r.2 r.6 last now in
    record {
      packet = Dt (suc k) r.2;
      stands = r.6;
      stated = rw (now.0) (ap (λ (x : Progress × Heard). x.1) (last_heard Listening open_is r.2 last));
      pgn_is = done.0;
      bytes_are = done.1 ∙ take_again size r.1 r.2 ∙ ap (λ (u : List ℕ). take size u) (sym r.7) ∙ sym m;
    }

pub carried_is_completed : (h : List Packet) (place pgn : ℕ) (message : List ℕ) → Carried h place pgn message → CompletesAt h place pgn message
carried_is_completed h place pgn message carried =
    let c = walk_of h place pgn message carried in
    let n = has_packets c.size c.fits in
    let r = subst (λ (k : ℕ). Reaches h c.kind c.start k place c.chunks) (sym n.1) c.reaches in
    carried_here h c.kind pgn c.size (limit_in c.announcement) c.start n.0 place message c.chunks
    (announced_at h c.kind pgn c.size c.start c.announcement c.announced c.announces) n.1 r c.undisturbed c.bytes
