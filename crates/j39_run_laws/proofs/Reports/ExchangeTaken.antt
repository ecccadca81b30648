-- What holds between a sender and a receiver, as the receiver takes something, or the sender rests.
use Rattle.std.proofs.Common.{◌≡◌, ℕ, ◌⊎◌, inl, inr, true, false, not, ◌&&◌, List, [], ◌∷◌, ◌++◌, length, refl, sym, subst, Option, Some, None}
use Rattle.std.proofs.lemmas.Bool.{and_parts, not-true}
use Rattle.std.specs.List.{AllByRecursion, list_all}
use Rattle.j39_tp.specs.Carried.{Carried}
use Rattle.j39_tp.specs.Receiver.{is_open_at, hears}
use Rattle.j39_tp.specs.declared.receiving.heard.Heard.{Heard}
use Rattle.j39_tp.specs.declared.receiving.manner.Manner.TheVariants.{Answering}
use Rattle.j39_tp.specs.declared.packet.Packet.{Packet}
use Rattle.j39_tp.specs.declared.packet.Packet.TheVariants.{Rts, Cts, EndAck, Bam, Abort, Dt}
use Rattle.j39_tp.specs.declared.receiving.progress.Progress.{Progress}
use Rattle.j39_world.specs.declared.wired.Wired.{Wired}
use Rattle.j39_world.specs.declared.wired.Wired.TheVariants as wired
use Rattle.j39_world.specs.Resting.{is_of_sender, is_of_receiver}
use Rattle.j39_world.specs.Transfers.{closed_if_complete}
use Rattle.j39_tp.specs.HonestPackets.{AnnouncesMessage}
use Rattle.j39_tp.proofs.Answering.{IsNoAnnouncement, HoldsNothing, ReportsMessage, hears_stated, announcement_stated, closed_stated, answers_announce_nothing}
use Rattle.j39_tp.proofs.Answering.{goes_on_unannounced}
use Rattle.j39_tp.proofs.Honest.{states_first, states_more, carried_is}
use Rattle.j39_run_laws.proofs.Runs.Elements.{all_tested}
use Rattle.j39_run_laws.proofs.Reports.Hearings.{stays_closed}
use Rattle.j39_run_laws.proofs.Reports.Exchanges.{Pair, Message, IsAnswering, IsUnacknowledging, ComesAfter, BeginsOnce, IsIdle, IsAhead, IsUnderWay}
use Rattle.j39_run_laws.proofs.Reports.Exchanges.{IsOver, Exchange}
use Rattle.j39_run_laws.proofs.Reports.ExchangeSteps.{part_with, is_part}

-- ---- a message of one frame

pub record ReportsShort (o : Option Message) (pair : Pair) (bytes : List ℕ) (rest : List Wired) : Type 0 where
  pub message : Message
  pub is : o ≡ Some message
  pub bytes_are : bytes ≡ message.begun.bytes
  pub keeps : Exchange o (record pair { wire = rest; reports = pair.reports ++ message.begun ∷ [] })

ahead_short : (m : Message) (pair : Pair) (bytes : List ℕ) (rest : List Wired) → IsAhead m pair → BeginsOnce m (wired.Short bytes ∷ rest)
    → ReportsShort (Some m) pair bytes rest
ahead_short m pair bytes rest e (inl here) = record {
  message = m;
  is = refl;
  bytes_are = here.0;
  keeps = inr (inr (record { wire = here.1; closed = e.closed; back = inr (pair.reports, refl); part = part_with m pair.begun pair.reports e.unreported }));
}
ahead_short m pair bytes rest e (inr later) = absurd later.0

pub short_taken : (o : Option Message) (pair : Pair) (bytes : List ℕ) (rest : List Wired) → pair.wire ≡ wired.Short bytes ∷ rest → Exchange o pair
    → ReportsShort o pair bytes rest
short_taken None pair bytes rest is e = absurd (subst (AllByRecursion IsAnswering) is e.wire).0
short_taken (Some m) pair bytes rest is (inl e) = ahead_short m pair bytes rest e (subst (BeginsOnce m) is e.wire)
short_taken (Some m) pair bytes rest is (inr (inl e)) = absurd (subst (AllByRecursion (ComesAfter m)) is e.wire).0
short_taken (Some m) pair bytes rest is (inr (inr e)) = absurd (subst (AllByRecursion (ComesAfter m)) is e.wire).0

-- ---- a packet

-- what the receiver is then
abbrev pub receiver_after : ℕ → Pair → Packet → Progress
receiver_after window pair p = closed_if_complete (hears (Answering window) pair.receiver p).0

abbrev pub heard_of : ℕ → Pair → Packet → Heard
heard_of window pair p = (hears (Answering window) pair.receiver p).1

-- nothing is complete by it
pub record TakesOn (o : Option Message) (window : ℕ) (pair : Pair) (p : Packet) (rest : List Wired) : Type 0 where
  pub stated : HoldsNothing (heard_of window pair p)
  pub keeps : Exchange o (record pair { wire = rest; receiver = receiver_after window pair p; taken = pair.taken ++ p ∷ [] })

-- the message is complete by it, and all that is carried is the message
pub record Completes (o : Option Message) (window : ℕ) (pair : Pair) (p : Packet) (rest : List Wired) : Type 0 where
  pub stated : ReportsMessage (heard_of window pair p)
  pub message : Message
  pub is : o ≡ Some message
  pub carried : (pgn : ℕ) (bytes : List ℕ) → Carried (pair.taken ++ p ∷ []) (length pair.taken) pgn bytes → bytes ≡ message.begun.bytes
  pub keeps : (back : List Wired) → Exchange o (record pair {
    wire = rest;
    back = back;
    receiver = receiver_after window pair p;
    taken = pair.taken ++ p ∷ [];
    reports = pair.reports ++ message.begun ∷ [];
  })

abbrev pub Takes : Option Message → ℕ → Pair → Packet → List Wired → Type 0
Takes o window pair p rest = TakesOn o window pair p rest ⊎ Completes o window pair p rest

-- a closed receiver stays closed, but for an announcement
still_closed : (window : ℕ) (pair : Pair) (p : Packet) → is_open_at pair.receiver ≡ false → IsNoAnnouncement p
    → HoldsNothing (heard_of window pair p) × (is_open_at (receiver_after window pair p) ≡ false)
still_closed window pair p closed other =
    let stated = closed_stated window pair.receiver p closed other in
    (stated.0, stays_closed (hears (Answering window) pair.receiver p).0 stated.1)

idle_taken : (window : ℕ) (pair : Pair) (p : Packet) (rest : List Wired) → IsIdle pair → AllByRecursion IsAnswering (wired.Packet p ∷ rest)
    → Takes None window pair p rest
idle_taken window pair p rest e wire =
    let heard = still_closed window pair p e.closed (answers_announce_nothing p wire.0) in
    inl (record { stated = heard.0; keeps = record { wire = wire.1; closed = heard.1; back = e.back; part = e.part } })

ahead_taken : (m : Message) (window : ℕ) (pair : Pair) (p : Packet) (rest : List Wired) → IsAhead m pair → BeginsOnce m (wired.Packet p ∷ rest)
    → Takes (Some m) window pair p rest
ahead_taken m window pair p rest e (inl here) =
    let opens : AnnouncesMessage m.pgn m.begun.bytes p = here.0 in
    inl (record {
      stated = subst (λ (q : Packet). HoldsNothing (hears (Answering window) pair.receiver q).1) (sym opens.1)
          (announcement_stated window pair.receiver opens.0 m.pgn (length m.begun.bytes));
      keeps = inr (inl (record { wire = here.1; gathers = states_first pair.taken m.pgn m.begun.bytes p opens; back = e.back; unreported = e.unreported }));
    })
ahead_taken m window pair p rest e (inr later) =
    let heard = still_closed window pair p e.closed (goes_on_unannounced m.begun.bytes p later.0) in
    inl (record { stated = heard.0; keeps = inl (record { wire = later.1; closed = heard.1; back = e.back; unreported = e.unreported }) })

under_way_taken : (m : Message) (window : ℕ) (pair : Pair) (p : Packet) (rest : List Wired) → IsUnderWay m pair
    → AllByRecursion (ComesAfter m) (wired.Packet p ∷ rest) → Takes (Some m) window pair p rest
under_way_taken m window pair p rest e wire = elim (hears_stated window pair.receiver p) [
  | inl stated ↦ inl (record {
    stated = stated;
    keeps = inr (inl (record {
      wire = wire.1;
      gathers = states_more pair.taken m.pgn m.begun.bytes p wire.0 e.gathers;
      back = e.back;
      unreported = e.unreported;
    }));
  })
  | inr stated ↦ inr (record {
    stated = stated.0;
    message = m;
    is = refl;
    carried = λ pgn bytes c. (carried_is pair.taken p m.pgn m.begun.bytes e.gathers wire.0 pgn bytes c).1;
    keeps =
        λ back. inr (inr (record {
          wire = wire.1;
          closed = stays_closed (hears (Answering window) pair.receiver p).0 stated.1;
          back = inr (pair.reports, refl);
          part = part_with m pair.begun pair.reports e.unreported;
        }));
  })
]

over_taken : (m : Message) (window : ℕ) (pair : Pair) (p : Packet) (rest : List Wired) → IsOver m pair
    → AllByRecursion (ComesAfter m) (wired.Packet p ∷ rest) → Takes (Some m) window pair p rest
over_taken m window pair p rest e wire =
    let heard = still_closed window pair p e.closed (goes_on_unannounced m.begun.bytes p wire.0) in
    inl (record { stated = heard.0; keeps = inr (inr (record { wire = wire.1; closed = heard.1; back = e.back; part = e.part })) })

pub packet_taken : (o : Option Message) (window : ℕ) (pair : Pair) (p : Packet) (rest : List Wired) → pair.wire ≡ wired.Packet p ∷ rest
    → Exchange o pair → Takes o window pair p rest
packet_taken None window pair p rest is e = idle_taken window pair p rest e (subst (AllByRecursion IsAnswering) is e.wire)
packet_taken (Some m) window pair p rest is (inl e) = ahead_taken m window pair p rest e (subst (BeginsOnce m) is e.wire)
packet_taken (Some m) window pair p rest is (inr (inl e)) = under_way_taken m window pair p rest e (subst (AllByRecursion (ComesAfter m)) is e.wire)
packet_taken (Some m) window pair p rest is (inr (inr e)) = over_taken m window pair p rest e (subst (AllByRecursion (ComesAfter m)) is e.wire)

-- ---- the sender rests

not_of_sender : (item : Wired) → not (is_of_sender item) ≡ true → IsAnswering item
not_of_sender (wired.Short bytes) is = absurd (cc is)
not_of_sender (wired.Packet (Rts size limit pgn)) is = absurd (cc is)
not_of_sender (wired.Packet (Cts count first pgn)) is = tt
not_of_sender (wired.Packet (EndAck size pgn)) is = tt
not_of_sender (wired.Packet (Bam size pgn)) is = absurd (cc is)
not_of_sender (wired.Packet (Abort reason pgn)) is = tt
not_of_sender (wired.Packet (Dt number seven)) is = absurd (cc is)
not_of_sender (wired.Alone f bytes) is = tt

not_of_receiver : (item : Wired) → not (is_of_receiver item) ≡ true → IsUnacknowledging item
not_of_receiver (wired.Short bytes) is = tt
not_of_receiver (wired.Packet (Rts size limit pgn)) is = tt
not_of_receiver (wired.Packet (Cts count first pgn)) is = tt
not_of_receiver (wired.Packet (EndAck size pgn)) is = absurd (cc is)
not_of_receiver (wired.Packet (Bam size pgn)) is = tt
not_of_receiver (wired.Packet (Abort reason pgn)) is = tt
not_of_receiver (wired.Packet (Dt number seven)) is = tt
not_of_receiver (wired.Alone f bytes) is = tt

-- nothing of it is open or undelivered
pub rests_keeps : (o : Option Message) (pair : Pair)
    → (not (is_open_at pair.receiver) && (list_all (λ item. not (is_of_sender item)) pair.wire && list_all (λ item. not (is_of_receiver item)) pair.back))
    ≡ true
    → Exchange o pair → Exchange None pair
rests_keeps o pair over e =
    let first = and_parts (not (is_open_at pair.receiver))
    (list_all (λ item. not (is_of_sender item)) pair.wire && list_all (λ item. not (is_of_receiver item)) pair.back) over in
    let more = and_parts (list_all (λ item. not (is_of_sender item)) pair.wire) (list_all (λ item. not (is_of_receiver item)) pair.back) first.1 in
    record {
      wire = all_tested (λ item. not (is_of_sender item)) IsAnswering not_of_sender pair.wire more.0;
      closed = not-true (is_open_at pair.receiver) first.0;
      back = all_tested (λ item. not (is_of_receiver item)) IsUnacknowledging not_of_receiver pair.back more.1;
      part = is_part o pair e;
    }
