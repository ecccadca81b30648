-- What a receiver that answers does with a packet, row by row.
use Rattle.std.proofs.Common.{◌≡◌, ℕ, ◌+◌, ◌==◌, false, refl}
use Rattle.std.specs.Prelude.{nat_lt, nat_le}
use Rattle.std.proofs.lemmas.Bool.{cond_both}
use Rattle.j39_tp.specs.Chunks.{packets_of}
use Rattle.j39_tp.specs.Packets.{no_limit}
use Rattle.j39_tp.specs.Reasons.{asked_too_often}
use Rattle.j39_tp.specs.Receiver as receiver
use Rattle.j39_tp.specs.Receiver.{opened, granted_to, clear_packet, one_more_held, asking}
use Rattle.j39_tp.specs.declared.packet.Packet.{Packet}
use Rattle.j39_tp.specs.declared.packet.Packet.TheVariants.{Rts, Cts, EndAck, Bam, Abort, Dt}
use Rattle.j39_tp.specs.declared.receiving.heard.Heard.{Heard}
use Rattle.j39_tp.specs.declared.receiving.heard.Heard.TheVariants as heards
use Rattle.j39_tp.specs.declared.receiving.manner.Manner.TheVariants.{Answering}
use Rattle.j39_tp.specs.declared.receiving.progress.Progress.{Progress}
use Rattle.j39_tp.specs.declared.receiving.progress.Progress.TheVariants.{Closed, Open, Complete}
use Rattle.j39_tp.specs.declared.receiving.reception.ReceptionKind.{ReceptionKind}
use Rattle.j39_tp.specs.declared.receiving.reception.ReceptionKind.TheVariants.{Broadcast, Directed}
use Rattle.j39_tp.specs.declared.receiving.reception.Reception.{Reception}

-- the packet isn't the last one that is awaited
abbrev pub IsShort : Reception → Type 0
IsShort r = (r.held + 1 == packets_of r.size) ≡ false

-- this holds of each thing that it may do: the packet is passed over, opens a session for all or for the receiver alone, is taken, is
-- taken and more are granted, completes the message, is asked for again, once too often, or closes the session
pub record Rows (window : ℕ) (pr : Progress) (p : Packet) (P : Progress × Heard → Type 0) : Type 0 where
  pub passed : P (pr, heards.Nothing)
  pub announced_to_all : (size pgn : ℕ) → p ≡ Bam size pgn → P (Open (opened Broadcast pgn size no_limit), heards.Nothing)
  pub announced_to_one : (size limit pgn : ℕ) → p ≡ Rts size limit pgn
      → P (Open (granted_to window (opened Directed pgn size limit)), heards.Reply (clear_packet window (opened Directed pgn size limit)))
  pub taken : (r : Reception) → pr ≡ Open r → IsShort r → P (Open (one_more_held r), heards.Nothing)
  pub granted : (r : Reception) → pr ≡ Open r → r.kind ≡ Directed → IsShort r
      → P (Open (granted_to window (one_more_held r)), heards.Reply (clear_packet window (one_more_held r)))
  pub completed : (r : Reception) → pr ≡ Open r → P (Complete r.pgn, receiver.completed (Answering window) r.kind r)
  pub asked : (r : Reception) → pr ≡ Open r → r.kind ≡ Directed → P (Open (granted_to window (asking r)), heards.Reply (clear_packet window r))
  pub gave_up : (r : Reception) → pr ≡ Open r → r.kind ≡ Directed → P (Closed, heards.Reply (Abort asked_too_often r.pgn))
  pub closed : (r : Reception) → pr ≡ Open r → P (Closed, heards.Closed)

data_by : (window : ℕ) (r : Reception) (p : Packet) (number : ℕ) (P : Progress × Heard → Type 0) → Rows window (Open r) p P
    → P (receiver.takes_data (Answering window) r number)
data_by window r p number P rows =
    cond_both (number == r.held + 1) _ _ P
    (λ _. cond_both (r.held + 1 == packets_of r.size) _ _ P (λ _. rows.completed r refl)
    (λ more. cond_both (r.held + 1 == r.granted) _ _ P (λ _. on r.kind refl more) (λ _. rows.taken r refl more)))
    (λ _. cond_both (nat_le number r.held) _ _ P (λ _. rows.passed) (λ _. later r.kind refl))
  where
    on : (kind : ReceptionKind) → r.kind ≡ kind → IsShort r → P (receiver.going_on (Answering window) kind (one_more_held r))
    on Broadcast is more = rows.taken r refl more
    on Directed is more = rows.granted r refl is more

    later : (kind : ReceptionKind) → r.kind ≡ kind → P (receiver.takes_later (Answering window) kind r number)
    later Broadcast is = rows.closed r refl
    later Directed is = cond_both (number == r.granted) _ _ P
        (λ _. cond_both (nat_lt r.asked receiver.ask_limit) _ _ (λ (x : Progress × Packet). P (x.0, heards.Reply x.1))
        (λ _. rows.asked r refl is) (λ _. rows.gave_up r refl is)) (λ _. rows.passed)

pub hears_by : (window : ℕ) (pr : Progress) (p : Packet) (P : Progress × Heard → Type 0) → Rows window pr p P
    → P (receiver.hears (Answering window) pr p)
hears_by window pr (Rts size limit pgn) P rows = rows.announced_to_one size limit pgn refl
hears_by window pr (Bam size pgn) P rows = rows.announced_to_all size pgn refl
hears_by window pr (Cts count first pgn) P rows = rows.passed
hears_by window pr (EndAck size pgn) P rows = rows.passed
hears_by window (Open r) (Dt number seven) P rows = data_by window r (Dt number seven) number P rows
hears_by window Closed (Dt number seven) P rows = rows.passed
hears_by window (Complete done) (Dt number seven) P rows = rows.passed
hears_by window (Open r) (Abort reason pgn) P rows = cond_both _ _ _ P (λ _. rows.closed r refl) (λ _. rows.passed)
hears_by window Closed (Abort reason pgn) P rows = rows.passed
hears_by window (Complete done) (Abort reason pgn) P rows = rows.passed
