-- What is left of a transfer, in numbers: what a stage, an open session and an item weigh among so many units. Each packet that is
-- sent is paid for by what sends it.
use Rattle.std.proofs.Common.{◌≡◌, ℕ, suc, ◌+◌, ◌-◌, ◌*◌, ◌==◌, ◌<◌, ◌≤◌, ◌&&◌, true, List, [], ◌∷◌, ◌++◌, refl, subst, arith, Option, Some, None}
use Rattle.std.specs.Prelude.{nat_lt, nat_le, min}
use Rattle.std.proofs.lemmas.Bool.{cond_both, ltb-true}
use Rattle.std.proofs.Math.Nat.{mul-le-mul_right}
use Rattle.j39_id.specs.Limits.{message_bytes}
use Rattle.j39_tp.specs.Chunks.{packets_of, chunk}
use Rattle.j39_tp.specs.Receiver as receiver
use Rattle.j39_tp.specs.Receiver.{is_directed, is_open_at}
use Rattle.j39_tp.specs.Sender as sender
use Rattle.j39_tp.specs.declared.packet.Packet.{Packet}
use Rattle.j39_tp.specs.declared.packet.Packet.TheVariants.{Rts, Cts, EndAck, Bam, Abort, Dt}
use Rattle.j39_tp.specs.declared.receiving.heard.Heard.{Heard}
use Rattle.j39_tp.specs.declared.receiving.heard.Heard.TheVariants as heards
use Rattle.j39_tp.specs.declared.receiving.manner.Manner.TheVariants.{Answering}
use Rattle.j39_tp.specs.declared.receiving.progress.Progress.{Progress}
use Rattle.j39_tp.specs.declared.receiving.progress.Progress.TheVariants.{Closed, Open, Complete}
use Rattle.j39_tp.specs.declared.receiving.reception.ReceptionKind.{ReceptionKind}
use Rattle.j39_tp.specs.declared.receiving.reception.ReceptionKind.TheVariants.{Broadcast, Directed}
use Rattle.j39_tp.specs.declared.receiving.reception.Reception.{Reception}
use Rattle.j39_tp.specs.declared.sending.dest.Dest.{Dest}
use Rattle.j39_tp.specs.declared.sending.dest.Dest.TheVariants as dests
use Rattle.j39_tp.specs.declared.sending.outcome.Outcome.{Outcome}
use Rattle.j39_tp.specs.declared.sending.outcome.Outcome.TheVariants.{Acked, Aborted}
use Rattle.j39_tp.specs.declared.sending.reaction.Reaction.{Reaction}
use Rattle.j39_tp.specs.declared.sending.stage.Stage.{Stage}
use Rattle.j39_tp.specs.declared.sending.stage.Stage.TheVariants.{Sending, Waiting, Resting}
use Rattle.j39_world.specs.declared.wired.Wired.{Wired}
use Rattle.j39_world.specs.declared.wired.Wired.TheVariants as wired
use Rattle.j39_world.specs.Transfers.{Outgoing, closed_if_complete}
use Rattle.j39_world.specs.TransferSteps.{receiver_replies, sender_replies, packets_in}
use Rattle.j39_run_laws.proofs.Transfers.Fitting.{IsWithin}

-- ---- weights, among n units

-- all data packets that one CTS lets be sent, each to n units
unfoldable pub burst : ℕ → ℕ
burst n = 256 * (1 + n)

-- once that a receiver lets packets be sent: a CTS, and all that it lets be sent
unfoldable pub asking : ℕ → ℕ
asking n = 2 + burst n

-- how often an open session can still let packets be sent: once for each packet that it lacks, and when it asks again
abbrev pub budget : Reception → ℕ
budget r = (packets_of r.size - r.held) + (receiver.ask_limit - r.asked)

abbrev pub receiver_weight : ℕ → Progress → ℕ
receiver_weight n (Open r) = 2 + budget r * asking n
receiver_weight n _ = 0

-- what a packet brings about at the receiver that takes it, at the sender, and in all
abbrev pub opening : ℕ → Packet → ℕ
opening n (Rts size limit pgn) = 2 + (packets_of size + 3) * asking n
opening n (Bam size pgn) = 2 + (packets_of size + 3) * asking n
opening n _ = 0

abbrev pub clearing : ℕ → Packet → ℕ
clearing n (Cts count first pgn) = burst n
clearing n _ = 0

abbrev pub effect : ℕ → Packet → ℕ
effect n p = opening n p + clearing n p

abbrev pub item_weight : ℕ → Wired → ℕ
item_weight n (wired.Short bytes) = 1
item_weight n (wired.Packet p) = 1 + effect n p
item_weight n (wired.Alone f bytes) = 1

abbrev pub list_weight : ℕ → List Wired → ℕ
list_weight n [] = 0
list_weight n (item ∷ items) = item_weight n item + list_weight n items

abbrev pub packets_weight : ℕ → List Packet → ℕ
packets_weight n [] = 0
packets_weight n (p ∷ ps) = (1 + effect n p) + packets_weight n ps

abbrev pub stage_weight : ℕ → Stage → ℕ
stage_weight n (Sending next last) = (2 + n) + suc (last - next) * (1 + n)
stage_weight n Waiting = 2 + n
stage_weight n (Resting outcome) = 1

abbrev pub session_weight : ℕ → Option Outgoing → ℕ
session_weight n None = 0
session_weight n (Some s) = stage_weight n s.stage

pub weight_append : (n : ℕ) (xs ys : List Wired) → list_weight n (xs ++ ys) ≡ list_weight n xs + list_weight n ys
weight_append n [] ys = omega arith
weight_append n (x ∷ xs) ys = omega (arith, weight_append n xs ys)

pub packets_append : (n : ℕ) (xs ys : List Packet) → packets_weight n (xs ++ ys) ≡ packets_weight n xs + packets_weight n ys
packets_append n [] ys = omega arith
packets_append n (x ∷ xs) ys = omega (arith, packets_append n xs ys)

-- ---- a receiver

module _ (n : ℕ) where
  asking_is : asking n ≡ 2 + burst n
  unfolding asking
  asking_is = refl

  -- one less to ask for pays a CTS, and more
  asked_for : (less more : ℕ) → less + 1 ≤ more → less * asking n + asking n ≤ more * asking n
  asked_for less more le = let times : (less + 1) * asking n ≤ more * asking n = mul-le-mul_right (asking n) le in omega arith

  -- what a receiver is then, and what it sends, weighs no more than this
  abbrev pub WeighsUpTo : ℕ → Progress × Heard → Type 0
  WeighsUpTo most x = receiver_weight n (closed_if_complete x.0) + packets_weight n (receiver_replies x.1) ≤ most

  closed_weight : (pr : Progress) → receiver_weight n (closed_if_complete pr) ≤ receiver_weight n pr
  closed_weight (Open r) = omega arith
  closed_weight Closed = omega arith
  closed_weight (Complete done) = omega arith

  stays : (pr : Progress) (more : ℕ) → WeighsUpTo (receiver_weight n pr + more) (pr, heards.Nothing)
  stays pr more = omega (arith, closed_weight pr)

  going_weight : (window : ℕ) (kind : ReceptionKind) (r : Reception)
      → WeighsUpTo (2 + budget r * asking n + asking n) (receiver.going_on (Answering window) kind r)
  going_weight window Directed r = omega (arith, asking_is)
  going_weight window Broadcast r = omega arith

  one_more_less : (r : Reception) → r.held < packets_of r.size → budget (receiver.one_more_held r) + 1 ≤ budget r
  one_more_less r less = omega (arith, less)

  completed_weight : (window : ℕ) (kind : ReceptionKind) (r : Reception) (done most : ℕ) → 1 ≤ most
      → WeighsUpTo most (Complete done, receiver.completed (Answering window) kind r)
  completed_weight window Directed r done most some = omega arith
  completed_weight window Broadcast r done most some = omega arith

  next_weight : (window : ℕ) (r : Reception) → r.held < packets_of r.size → WeighsUpTo (2 + budget r * asking n) (receiver.takes_next (Answering window) r)
  next_weight window r less =
      let paid = asked_for (budget (receiver.one_more_held r)) (budget r) (one_more_less r less) in
      cond_both (r.held + 1 == packets_of r.size) _ _ (WeighsUpTo (2 + budget r * asking n))
      (λ _. completed_weight window r.kind r r.pgn (2 + budget r * asking n) (omega arith))
      (λ _. cond_both (r.held + 1 == r.granted) _ _ (WeighsUpTo (2 + budget r * asking n))
      (λ _. omega (arith, paid, going_weight window r.kind (receiver.one_more_held r))) (λ _. omega (arith, paid)))

  asking_less : (r : Reception) → nat_lt r.asked receiver.ask_limit ≡ true → budget (receiver.asking r) + 1 ≤ budget r
  asking_less r may = let less : r.asked < 2 = ltb-true r.asked 2 may in omega (arith, less)

  -- a receiver that asks again, or gives up
  abbrev pub AsksUpTo : ℕ → Progress × Packet → Type 0
  AsksUpTo most x = receiver_weight n (closed_if_complete x.0) + packets_weight n (x.1 ∷ []) ≤ most

  asks_weight : (window reason : ℕ) (r : Reception) → AsksUpTo (1 + budget r * asking n) (receiver.asks window reason r)
  asks_weight window reason r =
      cond_both (nat_lt r.asked receiver.ask_limit) _ _ (AsksUpTo (1 + budget r * asking n))
      (λ may. let paid = asked_for (budget (receiver.asking r)) (budget r) (asking_less r may) in omega (arith, paid, asking_is)) (λ _. omega arith)

  later_weight : (window : ℕ) (kind : ReceptionKind) (r : Reception) (number : ℕ)
      → WeighsUpTo (2 + budget r * asking n) (receiver.takes_later (Answering window) kind r number)
  later_weight window Broadcast r number = omega arith
  later_weight window Directed r number =
      cond_both (number == r.granted) _ _ (WeighsUpTo (2 + budget r * asking n)) (λ _. omega (arith, asks_weight window 5 r)) (λ _. omega arith)

  takes_weight : (window : ℕ) (r : Reception) (number : ℕ) → r.held < packets_of r.size
      → WeighsUpTo (2 + budget r * asking n) (receiver.takes_data (Answering window) r number)
  takes_weight window r number less =
      cond_both (number == r.held + 1) _ _ (WeighsUpTo (2 + budget r * asking n)) (λ _. next_weight window r less)
      (λ _. cond_both (nat_le number r.held) _ _ (WeighsUpTo (2 + budget r * asking n)) (λ _. omega arith) (λ _. later_weight window r.kind r number))

  opened_weight : (kind : ReceptionKind) (pgn size limit : ℕ)
      → budget (receiver.opened kind pgn size limit) * asking n + asking n ≤ (packets_of size + 3) * asking n
  opened_weight kind pgn size limit = asked_for (budget (receiver.opened kind pgn size limit)) (packets_of size + 3) (omega arith)

  pub hears_weight : (window : ℕ) (pr : Progress) (p : Packet) → IsWithin pr
      → WeighsUpTo (receiver_weight n pr + opening n p) (receiver.hears (Answering window) pr p)
  hears_weight window pr (Bam size pgn) less =
      omega (arith, going_weight window Broadcast (receiver.opened Broadcast pgn size 255), opened_weight Broadcast pgn size 255)
  hears_weight window pr (Rts size limit pgn) less =
      omega (arith, going_weight window Directed (receiver.opened Directed pgn size limit), opened_weight Directed pgn size limit)
  hears_weight window pr (Cts count first pgn) less = stays pr 0
  hears_weight window pr (EndAck size pgn) less = stays pr 0
  hears_weight window (Open r) (Dt number seven) less = omega (arith, takes_weight window r number less)
  hears_weight window Closed (Dt number seven) less = omega arith
  hears_weight window (Complete done) (Dt number seven) less = omega arith
  hears_weight window (Open r) (Abort reason pgn) less =
      cond_both (is_directed r.kind && pgn == r.pgn) _ _ (WeighsUpTo (2 + budget r * asking n + 0)) (λ _. omega arith) (λ _. omega arith)
  hears_weight window Closed (Abort reason pgn) less = omega arith
  hears_weight window (Complete done) (Abort reason pgn) less = omega arith

  -- a receiver that hears nothing in time
  abbrev pub TimesOutBelow : ℕ → Progress × Option Packet → Type 0
  TimesOutBelow most x = receiver_weight n (closed_if_complete x.0) + packets_weight n (packets_in x.1) < most

  times_weight : (window : ℕ) (kind : ReceptionKind) (r : Reception) → TimesOutBelow (2 + budget r * asking n) (receiver.times_out (Answering window) kind r)
  times_weight window Directed r = omega (arith, asks_weight window 3 r)
  times_weight window Broadcast r = omega arith

  pub timed_out_weight : (window : ℕ) (pr : Progress) → is_open_at pr ≡ true → TimesOutBelow (receiver_weight n pr) (receiver.timed_out (Answering window) pr)
  timed_out_weight window (Open r) is = times_weight window r.kind r
  timed_out_weight window Closed is = absurd (cc is)
  timed_out_weight window (Complete done) is = absurd (cc is)

  -- ---- a sender

  burst_is : burst n ≡ 256 * (1 + n)
  unfolding burst
  burst_is = refl

  -- what a sender is then, and what it sends, weighs no more than this
  abbrev pub ReactsUpTo : ℕ → Stage × Reaction → Type 0
  ReactsUpTo most x = stage_weight n x.0 + packets_weight n (sender_replies x.1) ≤ most

  cleared_weight : (own packets count first : ℕ) (stage : Stage) → packets ≤ 255
      → ReactsUpTo (stage_weight n stage + burst n) (sender.cleared own packets count first stage)
  cleared_weight own packets count first (Sending next last) most = omega arith
  cleared_weight own packets count first Waiting most =
      cond_both (sender.is_hold count) _ _ (ReactsUpTo (2 + n + burst n)) (λ _. omega arith)
      (λ _.
      cond_both (sender.is_outside packets first) _ _ (ReactsUpTo (2 + n + burst n)) (λ _. omega arith)
      (λ _.
      let last : ℕ = min packets (first + count - 1) in
      let few : suc (last - first) ≤ 256 = omega arith in
      let times : suc (last - first) * (1 + n) ≤ 256 * (1 + n) = mul-le-mul_right (1 + n) few in
      omega (arith, times, burst_is)))
  cleared_weight own packets count first (Resting outcome) most = omega arith

  ended_weight : (outcome : Outcome) (stage : Stage) → ReactsUpTo (stage_weight n stage) (sender.ended outcome stage)
  ended_weight outcome (Sending next last) = omega arith
  ended_weight outcome Waiting = omega arith
  ended_weight outcome (Resting was) = omega arith

  pub reacts_weight : (dest : Dest) (own size : ℕ) (stage : Stage) (p : Packet) → packets_of size ≤ 255
      → ReactsUpTo (stage_weight n stage + clearing n p) (sender.stage_hears dest own size stage p)
  reacts_weight dests.All own size stage p most = omega arith
  reacts_weight dests.One own size stage (Cts count first pgn) most =
      cond_both (pgn == own) _ _ (ReactsUpTo (stage_weight n stage + burst n)) (λ _. cleared_weight own (packets_of size) count first stage most)
      (λ _. omega arith)
  reacts_weight dests.One own size stage (EndAck received pgn) most =
      cond_both (pgn == own && received == size) _ _ (ReactsUpTo (stage_weight n stage + 0)) (λ _. omega (arith, ended_weight Acked stage)) (λ _. omega arith)
  reacts_weight dests.One own size stage (Abort reason pgn) most =
      cond_both (pgn == own) _ _ (ReactsUpTo (stage_weight n stage + 0)) (λ _. omega (arith, ended_weight (Aborted reason) stage)) (λ _. omega arith)
  reacts_weight dests.One own size stage (Rts announced limit pgn) most = omega arith
  reacts_weight dests.One own size stage (Bam announced pgn) most = omega arith
  reacts_weight dests.One own size stage (Dt number seven) most = omega arith

  -- a sender that goes on, or hears nothing in time: it pays what it sends to all
  spent_weight : (dest : Dest) → stage_weight n (sender.spent dest) ≤ 2 + n
  spent_weight dests.All = omega arith
  spent_weight dests.One = omega arith

  pub emits_weight : (dest : Dest) (bytes : List ℕ) (stage : Stage) (p : Packet) → sender.data_next bytes stage ≡ Some p
      → stage_weight n (sender.after_packet dest stage) + n * (1 + effect n p) < stage_weight n stage
  emits_weight dest bytes (Sending next last) p is =
      let same : Dt next (chunk bytes next) ≡ p = cc is in
      subst (λ (q : Packet). stage_weight n (sender.after_packet dest (Sending next last)) + n * (1 + effect n q) < stage_weight n (Sending next last)) same
      (cond_both (nat_lt next last) _ _ (λ (x : Stage). stage_weight n x + n * 1 < 2 + n + suc (last - next) * (1 + n))
      (λ more.
      let less : next < last = ltb-true next last more in
      let one : suc (last - (next + 1)) + 1 ≤ suc (last - next) = omega arith in
      let times : (suc (last - (next + 1)) + 1) * (1 + n) ≤ suc (last - next) * (1 + n) = mul-le-mul_right (1 + n) one in
      omega (arith, times))
      (λ _. omega (arith, spent_weight dest)))
  emits_weight dest bytes Waiting p is = absurd (cc is)
  emits_weight dest bytes (Resting outcome) p is = absurd (cc is)

  pub gives_up_weight : (pgn : ℕ) (stage : Stage) (p : Packet) → sender.timeout_packet pgn stage ≡ Some p
      → stage_weight n (sender.after_timeout stage) + n * (1 + effect n p) < stage_weight n stage
  gives_up_weight pgn Waiting p is =
      let same : Abort 3 pgn ≡ p = cc is in
      subst (λ (q : Packet). 1 + n * (1 + effect n q) < 2 + n) same (omega arith)
  gives_up_weight pgn (Sending next last) p is = absurd (cc is)
  gives_up_weight pgn (Resting outcome) p is = absurd (cc is)

-- a message has at most 255 packets
pub few_packets : (size : ℕ) → size ≤ message_bytes → packets_of size ≤ 255
few_packets size most = omega arith
