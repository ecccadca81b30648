-- What receivers and senders answer to a packet, and when a message ends acknowledged.
use Rattle.std.proofs.Common.{◌≡◌, ℕ, ◌+◌, ◌==◌, ◌&&◌, ◌⊎◌, inl, inr, false, List, refl}
use Rattle.std.specs.Prelude.{nat_lt, nat_le, IfSome}
use Rattle.std.proofs.lemmas.Bool.{cond_both}
use Rattle.j39_tp.specs.Chunks.{packets_of}
use Rattle.j39_tp.specs.HonestPackets.{GoesOn}
use Rattle.j39_tp.specs.Reasons.{timeout, asked_too_often}
use Rattle.j39_tp.specs.Receiver as receiver
use Rattle.j39_tp.specs.Receiver.{is_open_at}
use Rattle.j39_tp.specs.Sender as sender
use Rattle.j39_tp.specs.declared.packet.Packet.{Packet}
use Rattle.j39_tp.specs.declared.packet.Packet.TheVariants.{Rts, Cts, EndAck, Bam, Abort, Dt}
use Rattle.j39_tp.specs.declared.receiving.heard.Heard.{Heard}
use Rattle.j39_tp.specs.declared.receiving.heard.Heard.TheVariants as heard
use Rattle.j39_tp.specs.declared.receiving.manner.Manner.TheVariants.{Answering}
use Rattle.j39_tp.specs.declared.receiving.progress.Progress.{Progress}
use Rattle.j39_tp.specs.declared.receiving.progress.Progress.TheVariants.{Closed, Open, Complete}
use Rattle.j39_tp.specs.declared.receiving.reception.ReceptionKind.{ReceptionKind}
use Rattle.j39_tp.specs.declared.receiving.reception.ReceptionKind.TheVariants.{Broadcast, Directed}
use Rattle.j39_tp.specs.declared.receiving.reception.Reception.{Reception}
use Rattle.j39_tp.specs.declared.sending.dest.Dest.{Dest}
use Rattle.j39_tp.specs.declared.sending.dest.Dest.TheVariants.{All, One}
use Rattle.j39_tp.specs.declared.sending.outcome.Outcome.{Outcome}
use Rattle.j39_tp.specs.declared.sending.outcome.Outcome.TheVariants.{Acked, Aborted}
use Rattle.j39_tp.specs.declared.sending.reaction.Reaction.{Reaction}
use Rattle.j39_tp.specs.declared.sending.reaction.Reaction.TheVariants as reaction
use Rattle.j39_tp.specs.declared.sending.stage.Stage.{Stage}
use Rattle.j39_tp.specs.declared.sending.stage.Stage.TheVariants.{Sending, Waiting, Resting}

-- ---- packets

-- a CTS or an Abort: no part of a message, and no acknowledgement
abbrev pub IsAside : Packet → Type 0
IsAside (Cts count first pgn) = Unit {0}
IsAside (Abort reason pgn) = Unit {0}
IsAside _ = ⊥

-- what a receiver may send
abbrev pub IsAnswer : Packet → Type 0
IsAnswer (EndAck size pgn) = Unit {0}
IsAnswer p = IsAside p

abbrev pub IsNoAnnouncement : Packet → Type 0
IsNoAnnouncement (Rts size limit pgn) = ⊥
IsNoAnnouncement (Bam size pgn) = ⊥
IsNoAnnouncement _ = Unit {0}

-- an EndOfMsgACK
abbrev pub Acknowledges : Packet → Type 0
Acknowledges (EndAck size pgn) = Unit {0}
Acknowledges _ = ⊥

pub aside_answer : (p : Packet) → IsAside p → IsAnswer p
aside_answer (Rts size limit pgn) is = is
aside_answer (Cts count first pgn) is = is
aside_answer (EndAck size pgn) is = absurd is
aside_answer (Bam size pgn) is = is
aside_answer (Abort reason pgn) is = is
aside_answer (Dt number seven) is = is

pub answers_announce_nothing : (p : Packet) → IsAnswer p → IsNoAnnouncement p
answers_announce_nothing (Rts size limit pgn) is = is
answers_announce_nothing (Cts count first pgn) is = tt
answers_announce_nothing (EndAck size pgn) is = tt
answers_announce_nothing (Bam size pgn) is = is
answers_announce_nothing (Abort reason pgn) is = tt
answers_announce_nothing (Dt number seven) is = absurd is

-- an answer of a unit goes on with each message of it
pub answers_go_on : (bytes : List ℕ) (p : Packet) → IsAnswer p → GoesOn bytes p
answers_go_on bytes (Rts size limit pgn) is = is
answers_go_on bytes (Cts count first pgn) is = tt
answers_go_on bytes (EndAck size pgn) is = tt
answers_go_on bytes (Bam size pgn) is = is
answers_go_on bytes (Abort reason pgn) is = tt
answers_go_on bytes (Dt number seven) is = absurd is

pub goes_on_unannounced : (bytes : List ℕ) (p : Packet) → GoesOn bytes p → IsNoAnnouncement p
goes_on_unannounced bytes (Rts size limit pgn) is = is
goes_on_unannounced bytes (Cts count first pgn) is = tt
goes_on_unannounced bytes (EndAck size pgn) is = tt
goes_on_unannounced bytes (Bam size pgn) is = is
goes_on_unannounced bytes (Abort reason pgn) is = tt
goes_on_unannounced bytes (Dt number seven) is = tt

-- ---- a receiver

-- no message is complete, and none is acknowledged
abbrev pub HoldsNothing : Heard → Type 0
HoldsNothing heard.Complete = ⊥
HoldsNothing (heard.CompleteReply p) = ⊥
HoldsNothing (heard.Reply p) = IsAside p
HoldsNothing _ = Unit {0}

-- a message is complete
abbrev pub ReportsMessage : Heard → Type 0
ReportsMessage heard.Complete = Unit {0}
ReportsMessage (heard.CompleteReply p) = IsAnswer p
ReportsMessage _ = ⊥

-- nothing is reported, or a message, and then no session is open
abbrev pub IsStated : Progress × Heard → Type 0
IsStated x = HoldsNothing x.1 ⊎ (ReportsMessage x.1 × (is_open_at x.0 ≡ false))

asks_aside : (window reason : ℕ) (r : Reception) → IsAside (receiver.asks window reason r).1
asks_aside window reason r = cond_both (nat_lt r.asked receiver.ask_limit) _ _ (λ (x : Progress × Packet). IsAside x.1) (λ _. tt) (λ _. tt)

going_on_stated : (window : ℕ) (kind : ReceptionKind) (r : Reception) → HoldsNothing (receiver.going_on (Answering window) kind r).1
going_on_stated window Broadcast r = tt
going_on_stated window Directed r = tt

completed_stated : (window : ℕ) (kind : ReceptionKind) (r : Reception) → ReportsMessage (receiver.completed (Answering window) kind r)
completed_stated window Broadcast r = tt
completed_stated window Directed r = tt

takes_next_stated : (window : ℕ) (r : Reception) → IsStated (receiver.takes_next (Answering window) r)
takes_next_stated window r =
    cond_both (r.held + 1 == packets_of r.size) _ _ IsStated (λ _. inr (completed_stated window r.kind r, refl))
    (λ _. cond_both (r.held + 1 == r.granted) _ _ IsStated (λ _. inl (going_on_stated window r.kind (receiver.one_more_held r))) (λ _. inl tt))

takes_later_stated : (window : ℕ) (kind : ReceptionKind) (r : Reception) (number : ℕ) → IsStated (receiver.takes_later (Answering window) kind r number)
takes_later_stated window Broadcast r number = inl tt
takes_later_stated window Directed r number =
    cond_both (number == r.granted) _ _ IsStated (λ _. inl (asks_aside window asked_too_often r)) (λ _. inl tt)

takes_stated : (window : ℕ) (r : Reception) (number : ℕ) → IsStated (receiver.takes_data (Answering window) r number)
takes_stated window r number =
    cond_both (number == r.held + 1) _ _ IsStated (λ _. takes_next_stated window r)
    (λ _. cond_both (nat_le number r.held) _ _ IsStated (λ _. inl tt) (λ _. takes_later_stated window r.kind r number))

-- whatever a receiver hears
pub hears_stated : (window : ℕ) (pr : Progress) (p : Packet) → IsStated (receiver.hears (Answering window) pr p)
hears_stated window pr (Rts size limit pgn) = inl tt
hears_stated window pr (Bam size pgn) = inl tt
hears_stated window pr (Cts count first pgn) = inl tt
hears_stated window pr (EndAck size pgn) = inl tt
hears_stated window (Open r) (Dt number seven) = takes_stated window r number
hears_stated window Closed (Dt number seven) = inl tt
hears_stated window (Complete done) (Dt number seven) = inl tt
hears_stated window (Open r) (Abort reason pgn) =
    cond_both (receiver.is_directed r.kind && pgn == r.pgn) _ _ IsStated (λ _. inl tt) (λ _. inl tt)
hears_stated window Closed (Abort reason pgn) = inl tt
hears_stated window (Complete done) (Abort reason pgn) = inl tt

-- an announcement completes nothing
pub announcement_stated : (window : ℕ) (pr : Progress) (dest : Dest) (own size : ℕ)
    → HoldsNothing (receiver.hears (Answering window) pr (sender.announcement dest own size)).1
announcement_stated window pr All own size = tt
announcement_stated window pr One own size = tt

-- without an announcement no session opens, and where none is open nothing is reported
pub closed_stated : (window : ℕ) (pr : Progress) (p : Packet) → is_open_at pr ≡ false → IsNoAnnouncement p
    → HoldsNothing (receiver.hears (Answering window) pr p).1 × (is_open_at (receiver.hears (Answering window) pr p).0 ≡ false)
closed_stated window pr (Rts size limit pgn) closed other = absurd other
closed_stated window pr (Bam size pgn) closed other = absurd other
closed_stated window (Open r) p closed other = absurd (cc closed)
closed_stated window Closed (Cts count first pgn) closed other = (tt, refl)
closed_stated window Closed (EndAck size pgn) closed other = (tt, refl)
closed_stated window Closed (Abort reason pgn) closed other = (tt, refl)
closed_stated window Closed (Dt number seven) closed other = (tt, refl)
closed_stated window (Complete done) (Cts count first pgn) closed other = (tt, refl)
closed_stated window (Complete done) (EndAck size pgn) closed other = (tt, refl)
closed_stated window (Complete done) (Abort reason pgn) closed other = (tt, refl)
closed_stated window (Complete done) (Dt number seven) closed other = (tt, refl)

-- what it sends where nothing comes in time
times_out_aside : (window : ℕ) (kind : ReceptionKind) (r : Reception) → IfSome (receiver.times_out (Answering window) kind r).1 IsAside
times_out_aside window Broadcast r = tt
times_out_aside window Directed r = asks_aside window timeout r

pub timed_out_aside : (window : ℕ) (pr : Progress) → IfSome (receiver.timed_out (Answering window) pr).1 IsAside
timed_out_aside window (Open r) = times_out_aside window r.kind r
timed_out_aside window Closed = tt
timed_out_aside window (Complete done) = tt

-- ---- a sender

-- if it replies, then aside
abbrev pub RepliesAside : Reaction → Type 0
RepliesAside (reaction.Reply p) = IsAside p
RepliesAside _ = Unit {0}

abbrev ReactsAside : Stage × Reaction → Type 0
ReactsAside x = RepliesAside x.1

cleared_aside : (own packets count first : ℕ) (stage : Stage) → ReactsAside (sender.cleared own packets count first stage)
cleared_aside own packets count first (Sending next last) = tt
cleared_aside own packets count first Waiting =
    cond_both (sender.is_hold count) _ _ ReactsAside (λ _. tt)
    (λ _. cond_both (sender.is_outside packets first) _ _ ReactsAside (λ _. tt) (λ _. tt))
cleared_aside own packets count first (Resting outcome) = tt

ended_aside : (outcome : Outcome) (stage : Stage) → ReactsAside (sender.ended outcome stage)
ended_aside outcome (Sending next last) = tt
ended_aside outcome Waiting = tt
ended_aside outcome (Resting was) = tt

pub sender_aside : (dest : Dest) (own size : ℕ) (stage : Stage) (p : Packet) → RepliesAside (sender.stage_hears dest own size stage p).1
sender_aside All own size stage p = tt
sender_aside One own size stage (Cts count first pgn) =
    cond_both (pgn == own) _ _ ReactsAside (λ _. cleared_aside own (packets_of size) count first stage) (λ _. tt)
sender_aside One own size stage (EndAck received pgn) =
    cond_both (pgn == own && received == size) _ _ ReactsAside (λ _. ended_aside Acked stage) (λ _. tt)
sender_aside One own size stage (Abort reason pgn) = cond_both (pgn == own) _ _ ReactsAside (λ _. ended_aside (Aborted reason) stage) (λ _. tt)
sender_aside One own size stage (Rts announced limit pgn) = tt
sender_aside One own size stage (Bam announced pgn) = tt
sender_aside One own size stage (Dt number seven) = tt

-- a stage is acknowledged only by an EndOfMsgACK, of a message to one
abbrev pub IsAckedBy : Dest → Stage → Packet → Stage × Reaction → Type 0
IsAckedBy dest stage p x = x.0 ≡ Resting Acked → (stage ≡ Resting Acked) ⊎ (Acknowledges p × (dest ≡ One))

cleared_acked : (own packets count first pgn : ℕ) (stage : Stage)
    → IsAckedBy One stage (Cts count first pgn) (sender.cleared own packets count first stage)
cleared_acked own packets count first pgn (Sending next last) = λ e. absurd (cc e)
cleared_acked own packets count first pgn Waiting =
    cond_both (sender.is_hold count) _ _ (IsAckedBy One Waiting (Cts count first pgn)) (λ _ e. absurd (cc e))
    (λ _. cond_both (sender.is_outside packets first) _ _ (IsAckedBy One Waiting (Cts count first pgn)) (λ _ e. absurd (cc e)) (λ _ e. absurd (cc e)))
cleared_acked own packets count first pgn (Resting outcome) = λ e. inl e

aborted_acked : (reason pgn : ℕ) (stage : Stage) → IsAckedBy One stage (Abort reason pgn) (sender.ended (Aborted reason) stage)
aborted_acked reason pgn (Sending next last) = λ e. absurd (cc e)
aborted_acked reason pgn Waiting = λ e. absurd (cc e)
aborted_acked reason pgn (Resting was) = λ e. inl e

pub sender_acked : (dest : Dest) (own size : ℕ) (stage : Stage) (p : Packet) → IsAckedBy dest stage p (sender.stage_hears dest own size stage p)
sender_acked All own size stage p = λ e. inl e
sender_acked One own size stage (Cts count first pgn) =
    cond_both (pgn == own) _ _ (IsAckedBy One stage (Cts count first pgn))
    (λ _. cleared_acked own (packets_of size) count first pgn stage) (λ _ e. inl e)
sender_acked One own size stage (EndAck received pgn) = λ _. inr (tt, refl)
sender_acked One own size stage (Abort reason pgn) =
    cond_both (pgn == own) _ _ (IsAckedBy One stage (Abort reason pgn)) (λ _. aborted_acked reason pgn stage) (λ _ e. inl e)
sender_acked One own size stage (Rts announced limit pgn) = λ e. inl e
sender_acked One own size stage (Bam announced pgn) = λ e. inl e
sender_acked One own size stage (Dt number seven) = λ e. inl e
