-- What is undelivered of messages is of one that is still sent, and who sends and receives it is on.
use Rattle.std.proofs.Common.{◌≡◌, ◌≢◌, ℕ, ◌⊎◌, inl, inr, Bool, true, false, not, ◌&&◌, eqb, List, [], ◌∷◌, length, refl, sym, ap, ◌∙◌, subst, Option, Some}
use Rattle.std.proofs.Common.{None}
use Rattle.std.specs.Prelude.{map}
use Rattle.std.specs.List.{AllByRecursion}
use Rattle.std.proofs.lemmas.Bool.{cases_eq, cond_both, true≢false}
use Rattle.j39_tp.specs.Receiver as receiver
use Rattle.j39_tp.specs.Receiver.{is_open_at}
use Rattle.j39_tp.specs.Sender as sender
use Rattle.j39_tp.specs.Chunks.{packets_of, chunk}
use Rattle.j39_tp.specs.declared.packet.Packet.{Packet}
use Rattle.j39_tp.specs.declared.packet.Packet.TheVariants.{Rts, Cts, EndAck, Bam, Abort, Dt}
use Rattle.j39_tp.specs.declared.receiving.manner.Manner.TheVariants.{Answering}
use Rattle.j39_tp.specs.declared.receiving.progress.Progress.{Progress}
use Rattle.j39_tp.specs.declared.receiving.progress.Progress.TheVariants.{Closed, Open, Complete}
use Rattle.j39_tp.specs.declared.sending.dest.Dest.{Dest}
use Rattle.j39_tp.specs.declared.sending.dest.Dest.TheVariants as dests
use Rattle.j39_tp.specs.declared.sending.outcome.Outcome.{Outcome}
use Rattle.j39_tp.specs.declared.sending.outcome.Outcome.TheVariants.{Acked, Aborted}
use Rattle.j39_tp.specs.declared.sending.reaction.Reaction.{Reaction}
use Rattle.j39_tp.specs.declared.sending.reaction.Reaction.TheVariants as reactions
use Rattle.j39_tp.specs.declared.sending.stage.Stage.{Stage}
use Rattle.j39_tp.specs.declared.sending.stage.Stage.TheVariants.{Sending, Waiting, Resting}
use Rattle.j39_tp.proofs.Answering.{IsAnswer}
use Rattle.j39_world.specs.declared.wired.Wired.{Wired}
use Rattle.j39_world.specs.declared.wired.Wired.TheVariants as wired
use Rattle.j39_world.specs.Resting.{is_alone, is_of_sender, is_of_receiver}
use Rattle.j39_world.specs.Transfers.{Outgoing, Sessions, is_among}
use Rattle.j39_world.specs.TransferSteps.{session_after, reaction_of, receiver_replies, sender_replies}
use Rattle.j39_world.specs.Flows.{dest_of}
use Rattle.j39_world.specs.ClaimSteps.{without_lists_to}
use Rattle.j39_world.specs.SwitchingOff.{session_without, sessions_without}
use Rattle.j39_world.specs.World.{World, Stations, Undelivered, changed}
use Rattle.j39_claim.specs.ClaimRule.{ClaimState, off}
use Rattle.j39_network.specs.declared.plan.Plan.{Plan}
use Rattle.j39_run_laws.proofs.Runs.SwitchedOff.{targets_less, targets_same}
use Rattle.j39_run_laws.proofs.Runs.Units.{without_lists_empty}
use Rattle.j39_run_laws.proofs.Runs.Changed.{changed_each, changed_elsewhere}
use Rattle.j39_run_laws.proofs.Runs.Elements.{all_map, all_weaker}
use Rattle.j39_run_laws.proofs.Reports.Exchanges.{Pair, message_for, message_to, Exchange}

-- ---- what is accounted for

-- a message is sent to the unit
abbrev pub SendsTo : Option Outgoing → ℕ → Type 0
SendsTo None v = ⊥
SendsTo (Some s) v = is_among s.targets v ≡ true

-- what the first has still to hear of the second: it is of a message of the one to the other, or answers one, or was sent alone
abbrev pub IsAccounted : Sessions → ℕ → ℕ → Wired → Type 0
IsAccounted sessions s t item =
    ((is_of_sender item ≡ true) × SendsTo (sessions s) t) ⊎ (((is_of_receiver item ≡ true) × SendsTo (sessions t) s) ⊎ (is_alone item ≡ true))

abbrev pub AreAccounted : Sessions → (ℕ → ℕ → List Wired) → Type 0
AreAccounted sessions wire = (s t : ℕ) → AllByRecursion (IsAccounted sessions s t) (wire s t)

-- who sends a message is on, and so is each that it is sent to
abbrev pub AreEndsOn : Stations → ℕ → Option Outgoing → Type 0
AreEndsOn stations u None = Unit {0}
AreEndsOn stations u (Some s) = ((stations u).on ≡ true) × ((v : ℕ) → is_among s.targets v ≡ true → (stations v).on ≡ true)

-- between whom a frame lies that was sent alone: both are on, and of a plan that isn't live no claim is undelivered
abbrev pub IsSettledFor : Bool → Stations → Undelivered → ℕ → ℕ → Wired → Type 0
IsSettledFor live stations claims s t (wired.Alone f bytes) =
    ((stations s).on ≡ true) × ((stations t).on ≡ true) × (live ≡ false → (x y : ℕ) → claims x y ≡ [])
IsSettledFor live stations claims s t _ = Unit {0}

abbrev pub AreSettledFor : Bool → Stations → Undelivered → (ℕ → ℕ → List Wired) → Type 0
AreSettledFor live stations claims wire = (s t : ℕ) → AllByRecursion (IsSettledFor live stations claims s t) (wire s t)

pub record AllAccounted (plan : Plan) (w : World) : Type 0 where
  pub wire : AreAccounted w.sessions w.wire
  pub alone : AreSettledFor plan.live w.stations w.claims w.wire
  pub ends : (u : ℕ) → AreEndsOn w.stations u (w.sessions u)

-- ---- units that are on still

abbrev pub AreOnStill : Stations → Stations → Type 0
AreOnStill old new = (u : ℕ) → (old u).on ≡ true → (new u).on ≡ true

pub on_still : (stations : Stations) (u : ℕ) (new : ClaimState) → ((stations u).on ≡ true → new.on ≡ true) → AreOnStill stations (changed stations u new)
on_still stations u new here = changed_each (λ x (c : ClaimState). (stations x).on ≡ true → c.on ≡ true) stations u new here (λ x is. is)

pub ends_still : (old new : Stations) → AreOnStill old new → (u : ℕ) (o : Option Outgoing) → AreEndsOn old u o → AreEndsOn new u o
ends_still old new still u None on = tt
ends_still old new still u (Some s) on = (still u on.0, λ v among. still v (on.1 v among))

-- ---- what is left where u is switched off

pub on_left : (stations : Stations) (u x : ℕ) → x ≢ u → (stations x).on ≡ true → (changed stations u off x).on ≡ true
on_left stations u x other is = ap (λ (c : ClaimState). c.on) (changed_elsewhere stations u off x other) ∙ is

pub ends_left : (stations : Stations) (u x : ℕ) (o : Option Outgoing) → x ≢ u → AreEndsOn stations x o
    → AreEndsOn (changed stations u off) x (session_without u o)
ends_left stations u x None other on = tt
ends_left stations u x (Some s) other on = (
  on_left stations u x other on.0,
  λ v among. let less = targets_less u s.targets v among in on_left stations u v less.1 (on.1 v less.0),
)

pub settled_left : (live : Bool) (stations : Stations) (claims : Undelivered) (u s t : ℕ) → s ≢ u → t ≢ u → (item : Wired)
    → IsSettledFor live stations claims s t item → IsSettledFor live (changed stations u off) (without_lists_to u claims) s t item
settled_left live stations claims u s t other_s other_t (wired.Alone f bytes) settled = (
  on_left stations u s other_s settled.0,
  on_left stations u t other_t settled.1,
  λ quiet x y. without_lists_empty claims u x y (settled.2 quiet x y),
)
settled_left live stations claims u s t other_s other_t (wired.Short bytes) settled = tt
settled_left live stations claims u s t other_s other_t (wired.Packet p) settled = tt

pub accounted_left : (sessions : Sessions) (u s t : ℕ) → s ≢ u → t ≢ u → (item : Wired) → IsAccounted sessions s t item
    → IsAccounted (sessions_without u sessions) s t item
accounted_left sessions u s t other_s other_t item is = elim is [
  | inl here ↦ inl (here.0, sends_still s t other_s other_t here.1)
  | inr (inl there) ↦ inr (inl (there.0, sends_still t s other_t other_s there.1))
  | inr (inr alone) ↦ inr (inr alone)
]
  where
    sends_left : (o : Option Outgoing) (y : ℕ) → y ≢ u → SendsTo o y → SendsTo (session_without u o) y
    sends_left None y other sends = sends
    sends_left (Some m) y other sends = targets_same u m.targets y other ∙ sends

    sends_still : (x y : ℕ) → x ≢ u → y ≢ u → SendsTo (sessions x) y → SendsTo (sessions_without u sessions x) y
    sends_still x y other_x other_y sends =
        subst (λ (o : Option Outgoing). SendsTo o y) (sym (changed_elsewhere (λ z. session_without u (sessions z)) u None x other_x))
        (sends_left (sessions x) y other_y sends)

-- ---- sessions that send to as many at least

abbrev pub SendMore : Sessions → Sessions → Type 0
SendMore old new = (x y : ℕ) → SendsTo (old x) y → SendsTo (new x) y

pub send_more : (sessions : Sessions) (u : ℕ) (o : Option Outgoing) → ((y : ℕ) → SendsTo (sessions u) y → SendsTo o y)
    → SendMore sessions (changed sessions u o)
send_more sessions u o more = changed_each (λ x (p : Option Outgoing). (y : ℕ) → SendsTo (sessions x) y → SendsTo p y) sessions u o more (λ x y is. is)

pub still_accounted : (old new : Sessions) → SendMore old new → (s t : ℕ) (items : List Wired) → AllByRecursion (IsAccounted old s t) items
    → AllByRecursion (IsAccounted new s t) items
still_accounted old new more s t = all_weaker (IsAccounted old s t) (IsAccounted new s t)
    (λ item is. elim is [
      | inl here ↦ inl (here.0, more s t here.1)
      | inr (inl there) ↦ inr (inl (there.0, more t s there.1))
      | inr (inr alone) ↦ inr (inr alone)
    ])

pub after_sends : (o : Option Outgoing) (u : ℕ) (p : Packet) (y : ℕ) → SendsTo o y → SendsTo (session_after o u p) y
after_sends None u p y is = is
after_sends (Some s) u p y is = is

-- ---- what a receiver answers

-- where a receiver is open, a message is sent to it
pub open_is_sent : (o : Option Outgoing) (t : ℕ) (pair : Pair) → Exchange (message_to o t) pair → is_open_at pair.receiver ≡ true → SendsTo o t
open_is_sent None t pair e is = absurd (true≢false (sym is ∙ e.closed))
open_is_sent (Some s) t pair e is =
    elim (is_among s.targets t) as (λ b. Exchange (message_for b s) pair → b ≡ true) [
      | true ↦ λ _. refl
      | false ↦ λ idle. absurd
          (true≢false (sym is ∙ idle.closed))
    ] e

abbrev pub Announces : Packet → Type 0
Announces (Rts size limit pgn) = Unit {0}
Announces (Bam size pgn) = Unit {0}
Announces _ = ⊥

-- it answers nothing, unless it is open or hears an announcement
pub replying : (window : ℕ) (pr : Progress) (p : Packet)
    → (receiver_replies (receiver.hears (Answering window) pr p).1 ≡ []) ⊎ ((is_open_at pr ≡ true) ⊎ Announces p)
replying window (Open r) p = inr (inl refl)
replying window pr (Rts size limit pgn) = inr (inr tt)
replying window pr (Bam size pgn) = inr (inr tt)
replying window pr (Cts count first pgn) = inl refl
replying window pr (EndAck size pgn) = inl refl
replying window Closed (Abort reason pgn) = inl refl
replying window (Complete done) (Abort reason pgn) = inl refl
replying window Closed (Dt number seven) = inl refl
replying window (Complete done) (Dt number seven) = inl refl

pub announced_to : (sessions : Sessions) (u v : ℕ) (p : Packet) → Announces p → IsAccounted sessions u v (wired.Packet p) → SendsTo (sessions u) v
announced_to sessions u v p is (inl here) = here.1
announced_to sessions u v (Rts size limit pgn) is (inr (inl there)) = absurd (true≢false (sym there.0))
announced_to sessions u v (Bam size pgn) is (inr (inl there)) = absurd (true≢false (sym there.0))
announced_to sessions u v (Rts size limit pgn) is (inr (inr alone)) = absurd (true≢false (sym alone))
announced_to sessions u v (Bam size pgn) is (inr (inr alone)) = absurd (true≢false (sym alone))
announced_to sessions u v (Cts count first pgn) is (inr there) = absurd is
announced_to sessions u v (EndAck size pgn) is (inr there) = absurd is
announced_to sessions u v (Abort reason pgn) is (inr there) = absurd is
announced_to sessions u v (Dt number seven) is (inr there) = absurd is

answer_of_receiver : (p : Packet) → IsAnswer p → is_of_receiver (wired.Packet p) ≡ true
answer_of_receiver (Rts size limit pgn) is = absurd is
answer_of_receiver (Cts count first pgn) is = refl
answer_of_receiver (EndAck size pgn) is = refl
answer_of_receiver (Bam size pgn) is = absurd is
answer_of_receiver (Abort reason pgn) is = refl
answer_of_receiver (Dt number seven) is = absurd is

pub answers_accounted : (sessions : Sessions) (v u : ℕ) → SendsTo (sessions u) v → (ps : List Packet) → AllByRecursion IsAnswer ps
    → AllByRecursion (IsAccounted sessions v u) (map wired.Packet ps)
answers_accounted sessions v u sends = all_map wired.Packet IsAnswer (IsAccounted sessions v u) (λ p is. inr (inl (answer_of_receiver p is, sends)))

-- ---- what a sender answers

abbrev RepliesOfSender : Reaction → Type 0
RepliesOfSender (reactions.Reply p) = is_of_sender (wired.Packet p) ≡ true
RepliesOfSender _ = Unit {0}

abbrev IsOfSender : Stage × Reaction → Type 0
IsOfSender x = RepliesOfSender x.1

cleared_of_sender : (own packets count first : ℕ) (stage : Stage) → IsOfSender (sender.cleared own packets count first stage)
cleared_of_sender own packets count first (Sending next last) = refl
cleared_of_sender own packets count first Waiting =
    cond_both (sender.is_hold count) _ _ IsOfSender (λ _. tt) (λ _. cond_both (sender.is_outside packets first) _ _ IsOfSender (λ _. tt) (λ _. tt))
cleared_of_sender own packets count first (Resting outcome) = tt

ended_of_sender : (outcome : Outcome) (stage : Stage) → IsOfSender (sender.ended outcome stage)
ended_of_sender outcome (Sending next last) = tt
ended_of_sender outcome Waiting = tt
ended_of_sender outcome (Resting was) = tt

hears_of_sender : (dest : Dest) (own size : ℕ) (stage : Stage) (p : Packet) → IsOfSender (sender.stage_hears dest own size stage p)
hears_of_sender dests.All own size stage p = tt
hears_of_sender dests.One own size stage (Cts count first pgn) =
    cond_both (eqb pgn own) _ _ IsOfSender (λ _. cleared_of_sender own (packets_of size) count first stage) (λ _. tt)
hears_of_sender dests.One own size stage (EndAck received pgn) =
    cond_both (eqb pgn own && eqb received size) _ _ IsOfSender (λ _. ended_of_sender Acked stage) (λ _. tt)
hears_of_sender dests.One own size stage (Abort reason pgn) =
    cond_both (eqb pgn own) _ _ IsOfSender (λ _. ended_of_sender (Aborted reason) stage) (λ _. tt)
hears_of_sender dests.One own size stage (Rts announced limit pgn) = tt
hears_of_sender dests.One own size stage (Bam announced pgn) = tt
hears_of_sender dests.One own size stage (Dt number seven) = tt

replies_accounted : (sessions : Sessions) (v u : ℕ) → SendsTo (sessions v) u → (r : Reaction) → RepliesOfSender r
    → AllByRecursion (IsAccounted sessions v u) (map wired.Packet (sender_replies r))
replies_accounted sessions v u sends reactions.Nothing is = tt
replies_accounted sessions v u sends reactions.Go is = tt
replies_accounted sessions v u sends reactions.Ended is = tt
replies_accounted sessions v u sends (reactions.Reply p) is = (inl (is, sends), tt)

-- a sender that is sent to by none of its receivers answers nothing
pub reacted_accounted : (sessions : Sessions) (v u : ℕ) (o : Option Outgoing) (p : Packet) → ((y : ℕ) → SendsTo o y → SendsTo (sessions v) y)
    → AllByRecursion (IsAccounted sessions v u) (map wired.Packet (sender_replies (reaction_of o u p)))
reacted_accounted sessions v u None p more = tt
reacted_accounted sessions v u (Some s) p more =
    cond_both (is_among s.targets u) _ _ (λ (x : Stage × Reaction). AllByRecursion (IsAccounted sessions v u) (map wired.Packet (sender_replies x.1)))
    (λ among. replies_accounted sessions v u (more u among) (sender.stage_hears (dest_of s.to) s.pgn (length s.bytes) s.stage p).1
    (hears_of_sender (dest_of s.to) s.pgn (length s.bytes) s.stage p))
    (λ _. tt)

-- ---- what a sender sends

pub data_of_sender : (bytes : List ℕ) (stage : Stage) (p : Packet) → sender.data_next bytes stage ≡ Some p → is_of_sender (wired.Packet p) ≡ true
data_of_sender bytes (Sending next last) p is =
    let same : Dt next (chunk bytes next) ≡ p = cc is in subst (λ (q : Packet). is_of_sender (wired.Packet q) ≡ true) same refl
data_of_sender bytes Waiting p is = absurd (cc is)
data_of_sender bytes (Resting outcome) p is = absurd (cc is)

pub timeout_of_sender : (pgn : ℕ) (stage : Stage) (p : Packet) → sender.timeout_packet pgn stage ≡ Some p → is_of_sender (wired.Packet p) ≡ true
timeout_of_sender pgn Waiting p is = let same : Abort 3 pgn ≡ p = cc is in subst (λ (q : Packet). is_of_sender (wired.Packet q) ≡ true) same refl
timeout_of_sender pgn (Sending next last) p is = absurd (cc is)
timeout_of_sender pgn (Resting outcome) p is = absurd (cc is)

pub announcement_of_sender : (dest : Dest) (pgn size : ℕ) → is_of_sender (wired.Packet (sender.announcement dest pgn size)) ≡ true
announcement_of_sender dests.All pgn size = refl
announcement_of_sender dests.One pgn size = refl

-- ---- the sender rests

all_under : {X : Type 0} (A : Type 0) (P : X → Type 0) (xs : List X) → (A → AllByRecursion P xs) → AllByRecursion (λ x. A → P x) xs
all_under A P [] all = tt
all_under A P (x ∷ xs) all = (λ a. (all a).0, all_under A P xs (λ a. (all a).1))

all_three : {X : Type 0} (P Q R S : X → Type 0) → ((x : X) → P x → Q x → R x → S x) → (xs : List X) → AllByRecursion P xs → AllByRecursion Q xs
    → AllByRecursion R xs → AllByRecursion S xs
all_three P Q R S each [] p q r = tt
all_three P Q R S each (x ∷ xs) p q r = (each x p.0 q.0 r.0, all_three P Q R S each xs p.1 q.1 r.1)

-- a message that has ended leaves nothing behind
pub rested_accounted : (sessions : Sessions) (u s t : ℕ) (items : List Wired) → AllByRecursion (IsAccounted sessions s t) items
    → (s ≡ u → SendsTo (sessions u) t → AllByRecursion (λ item. not (is_of_sender item) ≡ true) items)
    → (t ≡ u → SendsTo (sessions u) s → AllByRecursion (λ item. not (is_of_receiver item) ≡ true) items)
    → AllByRecursion (IsAccounted (changed sessions u None) s t) items
rested_accounted sessions u s t items old sent answered =
    all_three (IsAccounted sessions s t) (λ item. (s ≡ u) × SendsTo (sessions u) t → not (is_of_sender item) ≡ true)
    (λ item. (t ≡ u) × SendsTo (sessions u) s → not (is_of_receiver item) ≡ true) (IsAccounted (changed sessions u None) s t)
    (λ item is none none_back. elim is [
      | inl here ↦ inl (here.0, other_still s t here.1 (λ same sends. none_of (is_of_sender item) here.0 (none (same, sends))))
      | inr (inl there) ↦ inr (inl (there.0, other_still t s there.1 (λ same sends. none_of (is_of_receiver item) there.0 (none_back (same, sends)))))
      | inr (inr alone) ↦ inr (inr alone)
    ])
    items old
    (all_under ((s ≡ u) × SendsTo (sessions u) t) (λ item. not (is_of_sender item) ≡ true) items (λ both. sent both.0 both.1))
    (all_under ((t ≡ u) × SendsTo (sessions u) s) (λ item. not (is_of_receiver item) ≡ true) items (λ both. answered both.0 both.1))
  where
    none_of : (b : Bool) → b ≡ true → not b ≡ true → ⊥
    none_of true is none = true≢false (sym none)
    none_of false is none = true≢false (sym is)

    other_still : (x y : ℕ) → SendsTo (sessions x) y → (x ≡ u → SendsTo (sessions u) y → ⊥) → SendsTo (changed sessions u None x) y
    other_still x y sends never = elim (cases_eq x u) [
      | inl same ↦ absurd (never same (subst (λ k. SendsTo (sessions k) y) same sends))
      | inr other ↦ subst (λ (o : Option Outgoing). SendsTo o y) (sym (changed_elsewhere sessions u None x other)) sends
    ]
