-- What a receiver of any manner has of the packets that it heard, after each of them.
use Rattle.std.proofs.Common.{◌≡◌, ℕ, zero, suc, ◌+◌, ◌==◌, ◌≤◌, ◌<◌, ◌&&◌, Bool, true, false, if◌then◌else◌, List, [], ◌∷◌, ◌++◌, length, take, Some, refl}
use Rattle.std.proofs.Common.{sym, ap, ◌∙◌, subst, inl, inr, arith, add-one, eqb-true, length-append}
use Rattle.std.specs.Prelude.{nat_lt, nat_le, slice_get}
use Rattle.std.proofs.Math.Seq.{take-nil}
use Rattle.std.proofs.lemmas.Bool.{cases_order, eqb-false, leb-true}
use Rattle.std.proofs.lemmas.Option.{slice_get_within}
use Rattle.j39_tp.specs.Chunks.{IsSize, packets_of}
use Rattle.j39_tp.specs.Packets.{InRange}
use Rattle.j39_tp.specs.Receiver.{Receiving, hears, receives, gives_up, timed_out, times_out, grown, bytes_at, message_of, opened, one_more_held, asks}
use Rattle.j39_tp.specs.Receiver.{completed}
use Rattle.j39_tp.specs.Receiver.{going_on, takes_data, takes_next, takes_later, is_complete, is_directed}
use Rattle.j39_tp.specs.Carried.{Announces, MayPass, Awaits, Leaves, IsUndisturbed, Carried}
use Rattle.j39_tp.specs.Gathered.{Reaches, Gathered, Gathers, HoldsCarried}
use Rattle.j39_tp.specs.declared.receiving.heard.Heard.{Heard}
use Rattle.j39_tp.specs.declared.receiving.manner.Manner.{Manner}
use Rattle.j39_tp.specs.declared.receiving.manner.Manner.TheVariants.{Answering, Listening}
use Rattle.j39_tp.specs.declared.packet.Packet.{Packet}
use Rattle.j39_tp.specs.declared.packet.Packet.TheVariants.{Rts, Cts, EndAck, Bam, Abort, Dt}
use Rattle.j39_tp.specs.declared.receiving.progress.Progress.{Progress}
use Rattle.j39_tp.specs.declared.receiving.progress.Progress.TheVariants.{Closed, Open, Complete}
use Rattle.j39_tp.specs.declared.receiving.reception.ReceptionKind.{ReceptionKind}
use Rattle.j39_tp.specs.declared.receiving.reception.ReceptionKind.TheVariants.{Broadcast, Directed}
use Rattle.j39_tp.specs.declared.receiving.reception.Reception.{Reception}
use Rattle.j39_tp.proofs.Walks.{Walk, walk_of, carried_of}
use Rattle.j39_tp.proofs.Hearing.{PacketPasses, if_case, if_cases, take_again, last_heard, last_grown}

-- ---- a list that grows at its end

pub stands_on : (h more : List Packet) (j : ℕ) (p : Packet) → slice_get h j ≡ Some p → slice_get (h ++ more) j ≡ Some p
stands_on [] more j p e = absurd (cc e)
stands_on (x ∷ h) more zero p e = e
stands_on (x ∷ h) more (suc j) p e = stands_on h more j p e

stood_before : (h more : List Packet) (j : ℕ) → j < length h → slice_get (h ++ more) j ≡ slice_get h j
stood_before [] more j less = absurd (omega arith)
stood_before (x ∷ h) more zero less = refl
stood_before (x ∷ h) more (suc j) less = stood_before h more j (omega arith)

pub last_stands : (h : List Packet) (p : Packet) → slice_get (h ++ p ∷ []) (length h) ≡ Some p
last_stands [] p = refl
last_stands (x ∷ h) p = last_stands h p

one_longer : (h : List Packet) (p : Packet) → length (h ++ p ∷ []) ≡ suc (length h)
one_longer h p = length-append h (p ∷ []) ∙ add-one (length h)

awaits_on : (h more : List Packet) (kind : ReceptionKind) (k from to : ℕ) → to ≤ length h → Awaits h kind k from to → Awaits (h ++ more) kind k from to
awaits_on h more kind k from to within a = λ j number chunk lo hi e. a j number chunk lo hi (sym (stood_before h more j (omega arith)) ∙ e)

undisturbed_on : (h more : List Packet) (kind : ReceptionKind) (pgn from to : ℕ) → to ≤ length h → IsUndisturbed h kind pgn from to
    → IsUndisturbed (h ++ more) kind pgn from to
undisturbed_on h more kind pgn from to within u = λ j p lo hi e. u j p lo hi (sym (stood_before h more j (omega arith)) ∙ e)

reaches_on : (h more : List Packet) (kind : ReceptionKind) (start k place : ℕ) (chunks : List ℕ) → Reaches h kind start k place chunks
    → Reaches (h ++ more) kind start k place chunks
reaches_on h more kind start zero place chunks r = r
reaches_on h more kind start (suc k) place chunks r =
    let within : place < length h = slice_get_within h place (Dt (suc k) r.2) r.6 in (
      r.0,
      r.1,
      r.2,
      reaches_on h more kind start k r.0 r.1 r.3,
      r.4,
      awaits_on h more kind (suc k) r.0 place (omega arith) r.5,
      stands_on h more place (Dt (suc k) r.2) r.6,
      r.7,
    )

walk_on : (h more : List Packet) (place pgn : ℕ) (message : List ℕ) → place ≤ length h → Walk h place pgn message → Walk (h ++ more) place pgn message
walk_on h more place pgn message within c = record {
  kind = c.kind;
  start = c.start;
  size = c.size;
  chunks = c.chunks;
  announcement = c.announcement;
  announced = stands_on h more c.start c.announcement c.announced;
  announces = c.announces;
  fits = c.fits;
  reaches = reaches_on h more c.kind c.start (packets_of c.size) place c.chunks c.reaches;
  undisturbed = undisturbed_on h more c.kind pgn c.start place within c.undisturbed;
  bytes = c.bytes;
}

-- what is carried is still carried in a longer list
pub carried_on : (h more : List Packet) (place pgn : ℕ) (message : List ℕ) → place ≤ length h → Carried h place pgn message
    → Carried (h ++ more) place pgn message
carried_on h more place pgn message within c =
    carried_of (h ++ more) place pgn message (walk_on h more place pgn message within (walk_of h place pgn message c))

-- the packet at its end is one that may pass
more_awaits : (h : List Packet) (p : Packet) (kind : ReceptionKind) (k from : ℕ) → PacketPasses kind k p → Awaits h kind k from (length h)
    → Awaits (h ++ p ∷ []) kind k from (length (h ++ p ∷ []))
more_awaits h p kind k from pass a = λ j number chunk lo hi e.
    elim (cases_order j (length h)) [
      | inl same ↦
          let there : slice_get (h ++ p ∷ []) (length h) ≡ Some (Dt number chunk) = rw same at e in
          let is : p ≡ Dt number chunk = cc (last_stands h p, there) in
          rw is at pass
      | inr other ↦ elim other [
        | inl less ↦ a j number chunk lo less (sym (stood_before h (p ∷ []) j less) ∙ e)
        | inr more ↦ absurd (omega (arith, one_longer h p))
      ]
    ]

more_undisturbed : (h : List Packet) (p : Packet) (kind : ReceptionKind) (pgn from : ℕ) → Leaves kind pgn p → IsUndisturbed h kind pgn from (length h)
    → IsUndisturbed (h ++ p ∷ []) kind pgn from (length (h ++ p ∷ []))
more_undisturbed h p kind pgn from leaves u = λ j other lo hi e.
    elim (cases_order j (length h)) [
      | inl same ↦
          let there : slice_get (h ++ p ∷ []) (length h) ≡ Some other = rw same at e in
          let is : p ≡ other = cc (last_stands h p, there) in
          rw is at leaves
      | inr different ↦ elim different [
        | inl less ↦ u j other lo less (sym (stood_before h (p ∷ []) j less) ∙ e)
        | inr more ↦ absurd (omega (arith, one_longer h p))
      ]
    ]

-- ---- an open session

-- it stays open as it is
gathered_on : (h : List Packet) (r : Reception) (bytes : List ℕ) (p : Packet) → PacketPasses r.kind (suc r.held) p → Leaves r.kind r.pgn p
    → Gathered h r bytes → Gathered (h ++ p ∷ []) r bytes
gathered_on h r bytes p pass leaves g = record {
  start = g.start;
  place = g.place;
  chunks = g.chunks;
  announcement = g.announcement;
  announced = stands_on h (p ∷ []) g.start g.announcement g.announced;
  announces = g.announces;
  fits = g.fits;
  reaches = reaches_on h (p ∷ []) r.kind g.start r.held g.place g.chunks g.reaches;
  awaits = more_awaits h p r.kind (suc r.held) g.place pass g.awaits;
  undisturbed = more_undisturbed h p r.kind r.pgn g.start leaves g.undisturbed;
  bytes_are = g.bytes_are;
}

-- it was just announced
gathered_new : (h : List Packet) (kind : ReceptionKind) (pgn size limit : ℕ) (p : Packet) → Announces p kind pgn size → IsSize size
    → Gathered (h ++ p ∷ []) (opened kind pgn size limit) []
gathered_new h kind pgn size limit p a fits = record {
  start = length h;
  place = length h;
  chunks = [];
  announcement = p;
  announced = last_stands h p;
  announces = a;
  fits = fits;
  reaches = (refl, refl);
  awaits = λ j number chunk lo hi e. absurd (omega (arith, one_longer h p));
  undisturbed = λ j other lo hi e. absurd (omega (arith, one_longer h p));
  bytes_are = sym (take-nil size);
}

-- the place of its last packet is one of the history
reached_within : (h : List Packet) (kind : ReceptionKind) (start k place : ℕ) (chunks : List ℕ) (p : Packet) → slice_get h start ≡ Some p
    → Reaches h kind start k place chunks → place < length h
reached_within h kind start zero place chunks p e r = rw (r.0) (slice_get_within h start p e)
reached_within h kind start (suc k) place chunks p e r = slice_get_within h place (Dt (suc k) r.2) r.6

-- the packet at the end is its next
next_reached : (h : List Packet) (r : Reception) (bytes chunk : List ℕ) (g : Gathered h r bytes)
    → Reaches (h ++ Dt (suc r.held) chunk ∷ []) r.kind g.start (suc r.held) (length h) (g.chunks ++ chunk)
next_reached h r bytes chunk g =
    let p = Dt (suc r.held) chunk in (
      g.place,
      g.chunks,
      chunk,
      reaches_on h (p ∷ []) r.kind g.start r.held g.place g.chunks g.reaches,
      reached_within h r.kind g.start r.held g.place g.chunks g.announcement g.announced g.reaches,
      awaits_on h (p ∷ []) r.kind (suc r.held) g.place (length h) (omega arith) g.awaits,
      last_stands h p,
      refl,
    )

gathered_more : (h : List Packet) (r : Reception) (bytes chunk : List ℕ) → Gathered h r bytes
    → Gathered (h ++ Dt (suc r.held) chunk ∷ []) (one_more_held r) (take r.size (bytes ++ chunk))
gathered_more h r bytes chunk g =
    let p = Dt (suc r.held) chunk in
    record {
      start = g.start;
      place = length h;
      chunks = g.chunks ++ chunk;
      announcement = g.announcement;
      announced = stands_on h (p ∷ []) g.start g.announcement g.announced;
      announces = g.announces;
      fits = g.fits;
      reaches = subst (λ (n : ℕ). Reaches (h ++ p ∷ []) r.kind g.start n (length h) (g.chunks ++ chunk)) (sym (add-one r.held))
          (next_reached h r bytes chunk g);
      awaits = λ j number c lo hi e. absurd (omega (arith, one_longer h p));
      undisturbed = more_undisturbed h p r.kind r.pgn g.start tt g.undisturbed;
      bytes_are = rw (g.bytes_are) (take_again r.size g.chunks chunk);
    }

-- what was granted and how often was asked doesn't matter
regranted : (h : List Packet) (r : Reception) (bytes : List ℕ) (granted asked : ℕ) → Gathered h r bytes
    → Gathered h (record r { granted = granted; asked = asked }) bytes
regranted h r bytes granted asked g = record {
  start = g.start;
  place = g.place;
  chunks = g.chunks;
  announcement = g.announcement;
  announced = g.announced;
  announces = g.announces;
  fits = g.fits;
  reaches = g.reaches;
  awaits = g.awaits;
  undisturbed = g.undisturbed;
  bytes_are = g.bytes_are;
}

-- ---- after each packet, and after a time without one

going_gathers : (h : List Packet) (m : Manner) (k : ReceptionKind) (r : Reception) (bytes : List ℕ) → Gathered h r bytes → Gathers h (going_on m k r).0 bytes
going_gathers h (Answering window) Directed r bytes g = regranted h r bytes _ _ g
going_gathers h (Answering window) Broadcast r bytes g = g
going_gathers h Listening k r bytes g = g

asks_case : (P : Progress → Type 0) (b : Bool) (x y : Progress × Packet) → P x.0 → P y.0 → P (if b then x else y).0
asks_case P true x y one other = one
asks_case P false x y one other = other

asking_gathers : (h : List Packet) (window reason : ℕ) (r : Reception) (bytes : List ℕ) → Gathered h r bytes → Gathers h (asks window reason r).0 bytes
asking_gathers h window reason r bytes g = asks_case (λ p. Gathers h p bytes) (nat_lt r.asked 2) _ _ (regranted h r bytes _ _ g) tt

next_gathers : (h : List Packet) (m : Manner) (r : Reception) (bytes chunk : List ℕ) → Gathered h r bytes
    → Gathers (h ++ Dt (suc r.held) chunk ∷ []) (takes_next m r).0 (take r.size (bytes ++ chunk))
next_gathers h m r bytes chunk g =
    let P : Progress → Type 0 = λ p. Gathers (h ++ Dt (suc r.held) chunk ∷ []) p (take r.size (bytes ++ chunk)) in
    let more = gathered_more h r bytes chunk g in
    if_case P (r.held + 1 == packets_of r.size) _ _ (λ _. tt)
    (λ _. if_case P (r.held + 1 == r.granted) _ _ (λ _. going_gathers _ m r.kind (one_more_held r) _ more) (λ _. more))

-- a number that isn't the next
later_gathers : (h : List Packet) (m : Manner) (k : ReceptionKind) (r : Reception) (number : ℕ) (bytes chunk : List ℕ) → r.kind ≡ k
    → (number ≡ r.held + 1 → ⊥) → Gathered h r bytes → Gathers (h ++ Dt number chunk ∷ []) (takes_later m k r number).0 bytes
later_gathers h m Broadcast r number bytes chunk same other g = tt
later_gathers h Listening Directed r number bytes chunk same other g =
    gathered_on h r bytes (Dt number chunk) (rw same (λ f. other (f ∙ sym (add-one r.held)))) tt g
later_gathers h (Answering window) Directed r number bytes chunk same other g =
    let stays = gathered_on h r bytes (Dt number chunk) (rw same (λ f. other (f ∙ sym (add-one r.held)))) tt g in
    if_case (λ p. Gathers (h ++ Dt number chunk ∷ []) p bytes) (number == r.granted) _ _ (λ _. asking_gathers _ window 5 r bytes stays) (λ _. stays)

-- a number that is held already may pass
held_passes : (kind : ReceptionKind) (k number : ℕ) → number < k → MayPass kind k number
held_passes Directed k number less = λ e. absurd (omega arith)
held_passes Broadcast k number less = less

data_gathers : (h : List Packet) (m : Manner) (r : Reception) (number : ℕ) (bytes chunk : List ℕ) → Gathered h r bytes
    → Gathers (h ++ Dt number chunk ∷ []) (takes_data m r number).0 (grown (Open r) (Dt number chunk) bytes)
data_gathers h m r number bytes chunk g =
    let P : Progress → List ℕ → Type 0 = λ p u. Gathers (h ++ Dt number chunk ∷ []) p u in
    if_cases P (number == r.held + 1) _ _ (take r.size (bytes ++ chunk)) bytes
    (λ same.
    let e : number ≡ suc r.held = eqb-true number (r.held + 1) same ∙ add-one r.held in
    subst (λ (n : ℕ). Gathers (h ++ Dt n chunk ∷ []) (takes_next m r).0 (take r.size (bytes ++ chunk))) (sym e) (next_gathers h m r bytes chunk g))
    (λ other. if_case (λ p. P p bytes) (nat_le number r.held) _ _
    (λ less. let le : number ≤ r.held = leb-true number r.held less in
    gathered_on h r bytes (Dt number chunk) (held_passes r.kind (suc r.held) number (omega arith)) tt g)
    (λ more. later_gathers h m r.kind r number bytes chunk refl (eqb-false number (r.held + 1) other) g))

-- an Abort that isn't the session's
abort_leaves : (kind : ReceptionKind) (pgn reason named : ℕ) → is_directed kind && named == pgn ≡ false → Leaves kind pgn (Abort reason named)
abort_leaves Directed pgn reason named other = eqb-false named pgn other
abort_leaves Broadcast pgn reason named other = tt

packet_gathers : (h : List Packet) (m : Manner) (pr : Progress) (bytes : List ℕ) (p : Packet) → InRange p → Gathers h pr bytes
    → Gathers (h ++ p ∷ []) (hears m pr p).0 (grown pr p bytes)
packet_gathers h m pr bytes (Bam size pgn) range g =
    going_gathers _ m Broadcast (opened Broadcast pgn size 255) [] (gathered_new h Broadcast pgn size 255 (Bam size pgn) (refl, refl) range.0)
packet_gathers h m pr bytes (Rts size limit pgn) range g =
    going_gathers _ m Directed (opened Directed pgn size limit) [] (gathered_new h Directed pgn size limit (Rts size limit pgn) (refl, refl) range.0)
packet_gathers h m (Open r) bytes (Dt number chunk) range g = data_gathers h m r number bytes chunk g
packet_gathers h m (Open r) bytes (Abort reason pgn) range g =
    if_case (λ p. Gathers (h ++ Abort reason pgn ∷ []) p bytes) (is_directed r.kind && pgn == r.pgn) _ _ (λ _. tt)
    (λ other. gathered_on h r bytes (Abort reason pgn) tt (abort_leaves r.kind r.pgn reason pgn other) g)
packet_gathers h m (Open r) bytes (Cts count first pgn) range g = gathered_on h r bytes (Cts count first pgn) tt tt g
packet_gathers h m (Open r) bytes (EndAck size pgn) range g = gathered_on h r bytes (EndAck size pgn) tt tt g
packet_gathers h m Closed bytes (Dt number chunk) range g = tt
packet_gathers h m Closed bytes (Abort reason pgn) range g = tt
packet_gathers h m Closed bytes (Cts count first pgn) range g = tt
packet_gathers h m Closed bytes (EndAck size pgn) range g = tt
packet_gathers h m (Complete pgn) bytes (Dt number chunk) range g = tt
packet_gathers h m (Complete pgn) bytes (Abort reason named) range g = tt
packet_gathers h m (Complete pgn) bytes (Cts count first named) range g = tt
packet_gathers h m (Complete pgn) bytes (EndAck size named) range g = tt

gathers_kept : (h : List Packet) (pr : Progress) (bytes : List ℕ) → Gathers h pr bytes → Gathers h pr (bytes_at pr bytes)
gathers_kept h (Open r) bytes g = g
gathers_kept h Closed bytes g = tt
gathers_kept h (Complete pgn) bytes g = tt

pub hears_gathers : (h : List Packet) (s : Receiving) (p : Packet) → InRange p → Gathers h s.progress s.bytes
    → Gathers (h ++ p ∷ []) (receives s p).progress (receives s p).bytes
hears_gathers h s p range g =
    gathers_kept (h ++ p ∷ []) (hears s.manner s.progress p).0 (grown s.progress p s.bytes) (packet_gathers h s.manner s.progress s.bytes p range g)

late_gathers : (h : List Packet) (m : Manner) (k : ReceptionKind) (r : Reception) (bytes : List ℕ) → Gathered h r bytes → Gathers h (times_out m k r).0 bytes
late_gathers h (Answering window) Directed r bytes g = asking_gathers h window 3 r bytes g
late_gathers h (Answering window) Broadcast r bytes g = tt
late_gathers h Listening k r bytes g = tt

time_gathers : (h : List Packet) (m : Manner) (pr : Progress) (bytes : List ℕ) → Gathers h pr bytes → Gathers h (timed_out m pr).0 bytes
time_gathers h m (Open r) bytes g = late_gathers h m r.kind r bytes g
time_gathers h m Closed bytes g = tt
time_gathers h m (Complete pgn) bytes g = tt

pub times_out_gathers : (h : List Packet) (s : Receiving) → Gathers h s.progress s.bytes → Gathers h (gives_up s).progress (gives_up s).bytes
times_out_gathers h s g = gathers_kept h (timed_out s.manner s.progress).0 s.bytes (time_gathers h s.manner s.progress s.bytes g)

-- ---- a message that is reported as complete

abbrev States : Heard → Type 0
States heard = is_complete heard ≡ true

if_stated : (Q : Type 0) (b : Bool) (x y : Progress × Heard) → States (if b then x else y).1
    → (b ≡ true → States x.1 → Q) → (b ≡ false → States y.1 → Q) → Q
if_stated Q true x y stated h k = h refl stated
if_stated Q false x y stated h k = k refl stated

-- the last packet of an open session
pub record IsLast (pr : Progress) (p : Packet) : Type 0 where
  pub reception : Reception
  pub chunk : List ℕ
  pub open_is : pr ≡ Open reception
  pub packet_is : p ≡ Dt (suc reception.held) chunk
  pub last : suc reception.held ≡ packets_of reception.size

going_unstated : (m : Manner) (k : ReceptionKind) (r : Reception) → States (going_on m k r).1 → ⊥
going_unstated (Answering window) Directed r stated = cc stated
going_unstated (Answering window) Broadcast r stated = cc stated
going_unstated Listening k r stated = cc stated

later_unstated : (m : Manner) (k : ReceptionKind) (r : Reception) (number : ℕ) → States (takes_later m k r number).1 → ⊥
later_unstated m Broadcast r number stated = cc stated
later_unstated Listening Directed r number stated = cc stated
later_unstated (Answering window) Directed r number stated = if_stated ⊥ (number == r.granted) _ _ stated (λ _ f. cc f) (λ _ f. cc f)

next_reported : (m : Manner) (r : Reception) (number : ℕ) (chunk : List ℕ) → number ≡ r.held + 1 → States (takes_next m r).1
    → IsLast (Open r) (Dt number chunk)
next_reported m r number chunk e stated =
    if_stated (IsLast (Open r) (Dt number chunk)) (r.held + 1 == packets_of r.size) _ _ stated
    (λ last _. record {
      reception = r;
      chunk = chunk;
      open_is = refl;
      packet_is = ap (λ (n : ℕ). Dt n chunk) (e ∙ add-one r.held);
      last = sym (add-one r.held) ∙ eqb-true (r.held + 1) (packets_of r.size) last;
    })
    (λ _ other. if_stated (IsLast (Open r) (Dt number chunk)) (r.held + 1 == r.granted) _ _ other
    (λ _ f. absurd (going_unstated m r.kind (one_more_held r) f)) (λ _ f. cc f))

pub stated_last : (m : Manner) (p : Packet) (pr : Progress) → States (hears m pr p).1 → IsLast pr p
stated_last m (Bam size pgn) pr stated = absurd (going_unstated m Broadcast (opened Broadcast pgn size 255) stated)
stated_last m (Rts size limit pgn) pr stated = absurd (going_unstated m Directed (opened Directed pgn size limit) stated)
stated_last m (Dt number chunk) (Open r) stated =
    if_stated (IsLast (Open r) (Dt number chunk)) (number == r.held + 1) _ _ stated
    (λ same next. next_reported m r number chunk (eqb-true number (r.held + 1) same) next)
    (λ _ other. if_stated (IsLast (Open r) (Dt number chunk)) (nat_le number r.held) _ _ other
    (λ _ f. cc f)
    (λ _ later. absurd (later_unstated m r.kind r number later)))
stated_last m (Abort reason pgn) (Open r) stated =
    if_stated (IsLast (Open r) (Abort reason pgn)) (is_directed r.kind && pgn == r.pgn) _ _ stated (λ _ f. cc f) (λ _ f. cc f)
stated_last m (Cts count first pgn) (Open r) stated = cc stated
stated_last m (EndAck size pgn) (Open r) stated = cc stated
stated_last m (Dt number chunk) Closed stated = cc stated
stated_last m (Abort reason pgn) Closed stated = cc stated
stated_last m (Cts count first pgn) Closed stated = cc stated
stated_last m (EndAck size pgn) Closed stated = cc stated
stated_last m (Dt number chunk) (Complete pgn) stated = cc stated
stated_last m (Abort reason named) (Complete pgn) stated = cc stated
stated_last m (Cts count first named) (Complete pgn) stated = cc stated
stated_last m (EndAck size named) (Complete pgn) stated = cc stated

-- the last packet makes the history carry the message
last_carried : (h : List Packet) (r : Reception) (bytes chunk : List ℕ) → suc r.held ≡ packets_of r.size → Gathered h r bytes
    → Walk (h ++ Dt (suc r.held) chunk ∷ []) (length h) r.pgn (take r.size (bytes ++ chunk))
last_carried h r bytes chunk last g =
    let p = Dt (suc r.held) chunk in
    record {
      kind = r.kind;
      start = g.start;
      size = r.size;
      chunks = g.chunks ++ chunk;
      announcement = g.announcement;
      announced = stands_on h (p ∷ []) g.start g.announcement g.announced;
      announces = g.announces;
      fits = g.fits;
      reaches = subst (λ (n : ℕ). Reaches (h ++ p ∷ []) r.kind g.start n (length h) (g.chunks ++ chunk)) last (next_reached h r bytes chunk g);
      undisturbed = undisturbed_on h (p ∷ []) r.kind r.pgn g.start (length h) (omega arith) g.undisturbed;
      bytes = rw (g.bytes_are) (take_again r.size g.chunks chunk);
    }

pub last_received : (s : Receiving) (p : Packet) (r : Reception) (chunk : List ℕ) → s.progress ≡ Open r → p ≡ Dt (suc r.held) chunk
    → suc r.held ≡ packets_of r.size
    → ((receives s p).progress ≡ Complete r.pgn) × ((receives s p).bytes ≡ take r.size (s.bytes ++ chunk))
last_received s p r chunk o q last =
    let done : hears s.manner s.progress p ≡ (Complete r.pgn, completed s.manner r.kind r) = rw (o, q) (last_heard s.manner r chunk last) in
    let all : grown s.progress p s.bytes ≡ take r.size (s.bytes ++ chunk) = rw (o, q) (last_grown r s.bytes chunk) in
    (ap (λ (x : Progress × Heard). x.0) done, rw (done, all) refl)

pub completes_carried : (h : List Packet) (s : Receiving) (p : Packet) → Gathers h s.progress s.bytes → is_complete (hears s.manner s.progress p).1 ≡ true
    → HoldsCarried (h ++ p ∷ []) (length h) (receives s p)
completes_carried h s p g stated =
    let l = stated_last s.manner p s.progress stated in
    let gathered : Gathers h (Open l.reception) s.bytes = subst (λ (pr : Progress). Gathers h pr s.bytes) l.open_is g in
    let after = last_received s p l.reception l.chunk l.open_is l.packet_is l.last in
    let message : message_of (receives s p).progress (receives s p).bytes ≡ take l.reception.size (s.bytes ++ l.chunk) =
    ap (λ (pr : Progress). message_of pr (receives s p).bytes) after.0 ∙ after.1 in
    record {
      pgn = l.reception.pgn;
      complete = after.0;
      carried = subst (λ (m : List ℕ). Carried (h ++ p ∷ []) (length h) l.reception.pgn m) (sym message)
          (subst (λ (other : Packet). Carried (h ++ other ∷ []) (length h) l.reception.pgn (take l.reception.size (s.bytes ++ l.chunk))) (sym l.packet_is)
          (carried_of _ _ _ _ (last_carried h l.reception s.bytes l.chunk l.last gathered)));
    }
