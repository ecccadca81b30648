-- Which group an RTS or an Abort names: that of a message to one unit, of its sender or of a receiver that is open for it.
use Rattle.std.proofs.Common.{◌≡◌, ℕ, ◌⊎◌, inl, inr, ◌&&◌, true, false, eqb, List, length, refl, sym, ap, ◌∙◌, subst, Option, Some, None}
use Rattle.std.specs.Prelude.{map, nat_lt}
use Rattle.std.specs.List.{AllByRecursion}
use Rattle.std.proofs.lemmas.Bool.{cond_both}
use Rattle.j39_tp.specs.Chunks.{packets_of, chunk}
use Rattle.j39_tp.specs.Receiver as receiver
use Rattle.j39_tp.specs.Sender as sender
use Rattle.j39_tp.specs.declared.packet.Packet.{Packet}
use Rattle.j39_tp.specs.declared.packet.Packet.TheVariants.{Rts, Cts, EndAck, Bam, Abort, Dt}
use Rattle.j39_tp.specs.declared.receiving.heard.Heard.{Heard}
use Rattle.j39_tp.specs.declared.receiving.manner.Manner.TheVariants.{Answering}
use Rattle.j39_tp.specs.declared.receiving.progress.Progress.{Progress}
use Rattle.j39_tp.specs.declared.receiving.progress.Progress.TheVariants.{Closed, Open, Complete}
use Rattle.j39_tp.specs.declared.receiving.reception.ReceptionKind.{ReceptionKind}
use Rattle.j39_tp.specs.declared.receiving.reception.ReceptionKind.TheVariants.{Broadcast, Directed}
use Rattle.j39_tp.specs.declared.receiving.reception.Reception.{Reception}
use Rattle.j39_tp.specs.declared.sending.dest.Dest.{Dest}
use Rattle.j39_tp.specs.declared.sending.dest.Dest.TheVariants as dests
use Rattle.j39_tp.specs.declared.sending.outcome.Outcome.{Outcome}
use Rattle.j39_tp.specs.declared.sending.outcome.Outcome.TheVariants.{Acked, Aborted}
use Rattle.j39_tp.specs.declared.sending.reaction.Reaction.{Reaction}
use Rattle.j39_tp.specs.declared.sending.reaction.Reaction.TheVariants as reactions
use Rattle.j39_tp.specs.declared.sending.stage.Stage.{Stage}
use Rattle.j39_tp.specs.declared.sending.stage.Stage.TheVariants.{Sending, Waiting, Resting}
use Rattle.j39_network.specs.declared.plan.Plan.{Plan}
use Rattle.j39_network.specs.declared.plan.to.To.{To}
use Rattle.j39_network.specs.declared.plan.to.To.TheVariants as tos
use Rattle.j39_world.specs.declared.flow.Flow.{Flow}
use Rattle.j39_world.specs.declared.wired.Wired.{Wired}
use Rattle.j39_world.specs.declared.wired.Wired.TheVariants as wired
use Rattle.j39_world.specs.Flows.{dest_of, is_short}
use Rattle.j39_world.specs.Transfers.{Outgoing, is_among, closed_if_complete}
use Rattle.j39_world.specs.TransferSteps.{first_item, session_after, reaction_of, receiver_replies, sender_replies, packets_in}
use Rattle.j39_run_laws.proofs.Runs.ReceiverRows.{hears_by}
use Rattle.j39_run_laws.proofs.Reports.Hearings.{directed_to}
use Rattle.j39_run_laws.proofs.Reports.Orderly.{IsPlanned, PlannedAt}

-- ---- a receiver

-- it is open for a message to it alone of this group
abbrev pub IsOpenFor : Progress → ℕ → Type 0
IsOpenFor (Open r) pgn = (r.kind ≡ Directed) × (r.pgn ≡ pgn)
IsOpenFor _ pgn = ⊥

-- one that stands so answers it: an Abort names the group that it is open for
abbrev pub AnswersAt : Progress → Packet → Type 0
AnswersAt pr (Cts count first pgn) = Unit {0}
AnswersAt pr (EndAck size pgn) = Unit {0}
AnswersAt pr (Abort reason pgn) = IsOpenFor pr pgn
AnswersAt pr _ = ⊥

abbrev RepliesAt : Progress → Progress × Heard → Type 0
RepliesAt pr x = AllByRecursion (AnswersAt pr) (receiver_replies x.1)

completed_answers : (pr : Progress) (window : ℕ) (kind : ReceptionKind) (r : Reception)
    → AllByRecursion (AnswersAt pr) (receiver_replies (receiver.completed (Answering window) kind r))
completed_answers pr window Broadcast r = tt
completed_answers pr window Directed r = (tt, tt)

asks_answers : (window reason : ℕ) (r : Reception) → r.kind ≡ Directed → AnswersAt (Open r) (receiver.asks window reason r).1
asks_answers window reason r kind =
    cond_both (nat_lt r.asked receiver.ask_limit) _ _ (λ (x : Progress × Packet). AnswersAt (Open r) x.1) (λ _. tt) (λ _. (kind, refl))

-- what it answers to a packet, and where nothing comes in time
pub hears_answers : (window : ℕ) (pr : Progress) (p : Packet) → RepliesAt pr (receiver.hears (Answering window) pr p)
hears_answers window pr p = hears_by window pr p (RepliesAt pr) (record {
  passed = tt;
  announced_to_all = λ size pgn is. tt;
  announced_to_one = λ size limit pgn is. (tt, tt);
  taken = λ r at more. tt;
  granted = λ r at kind more. (tt, tt);
  completed = λ r at. completed_answers pr window r.kind r;
  asked = λ r at kind. (tt, tt);
  gave_up = λ r at kind. (subst (λ (x : Progress). IsOpenFor x r.pgn) (sym at) (kind, refl), tt);
  closed = λ r at. tt;
})

times_out_answers : (window : ℕ) (kind : ReceptionKind) (r : Reception) → r.kind ≡ kind
    → AllByRecursion (AnswersAt (Open r)) (packets_in (receiver.times_out (Answering window) kind r).1)
times_out_answers window Broadcast r is = tt
times_out_answers window Directed r is = (asks_answers window 3 r is, tt)

pub late_answers : (window : ℕ) (pr : Progress) → AllByRecursion (AnswersAt pr) (packets_in (receiver.timed_out (Answering window) pr).1)
late_answers window (Open r) = times_out_answers window r.kind r refl
late_answers window Closed = tt
late_answers window (Complete done) = tt

-- ---- what it is open for then

-- the packet announces a message to it alone of this group
abbrev pub IsRtsOf : Packet → ℕ → Type 0
IsRtsOf (Rts size limit named) pgn = named ≡ pgn
IsRtsOf _ pgn = ⊥

abbrev OpensFor : Progress → Progress → Type 0
OpensFor pr now = (pgn : ℕ) → IsOpenFor now pgn → IsOpenFor pr pgn

asks_open : (window reason : ℕ) (r : Reception) → OpensFor (Open r) (receiver.asks window reason r).0
asks_open window reason r =
    cond_both (nat_lt r.asked receiver.ask_limit) _ _ (λ (x : Progress × Packet). OpensFor (Open r) x.0) (λ _ pgn is. is) (λ _ pgn never. absurd never)

pub hears_open : (window : ℕ) (pr : Progress) (p : Packet) (pgn : ℕ) → IsOpenFor (receiver.hears (Answering window) pr p).0 pgn
    → IsOpenFor pr pgn ⊎ IsRtsOf p pgn
hears_open window pr p pgn = hears_by window pr p (λ x. IsOpenFor x.0 pgn → IsOpenFor pr pgn ⊎ IsRtsOf p pgn) (record {
  passed = λ is. inl is;
  announced_to_all = λ size named same is. absurd (let e = is.0 in cc e);
  announced_to_one = λ size limit named same is. inr (subst (λ (q : Packet). IsRtsOf q pgn) (sym same) is.1);
  taken = λ r at more is. inl (subst (λ (x : Progress). IsOpenFor x pgn) (sym at) is);
  granted = λ r at kind more is. inl (subst (λ (x : Progress). IsOpenFor x pgn) (sym at) is);
  completed = λ r at never. absurd never;
  asked = λ r at kind is. inl (subst (λ (x : Progress). IsOpenFor x pgn) (sym at) is);
  gave_up = λ r at kind never. absurd never;
  closed = λ r at never. absurd never;
})

times_out_open : (window : ℕ) (kind : ReceptionKind) (r : Reception) → OpensFor (Open r) (receiver.times_out (Answering window) kind r).0
times_out_open window Broadcast r = λ pgn never. absurd never
times_out_open window Directed r = asks_open window 3 r

pub late_open : (window : ℕ) (pr : Progress) → OpensFor pr (receiver.timed_out (Answering window) pr).0
late_open window (Open r) = times_out_open window r.kind r
late_open window Closed = λ pgn never. absurd never
late_open window (Complete done) = λ pgn never. absurd never

pub closed_open : (pr : Progress) → OpensFor pr (closed_if_complete pr)
closed_open (Open r) pgn is = is
closed_open Closed pgn never = absurd never
closed_open (Complete done) pgn never = absurd never

-- ---- a sender

-- it sends a message to t alone of this group, and t is on still
abbrev pub IsTo : Option Outgoing → ℕ → ℕ → Type 0
IsTo None t pgn = ⊥
IsTo (Some s) t pgn = (s.to ≡ tos.One t) × (s.pgn ≡ pgn) × (is_among s.targets t ≡ true)

-- it sends t an item: an RTS and an Abort name the group of a message to t alone
abbrev pub SaysTo : Option Outgoing → ℕ → Wired → Type 0
SaysTo o t (wired.Packet (Rts size limit pgn)) = IsTo o t pgn
SaysTo o t (wired.Packet (Abort reason pgn)) = IsTo o t pgn
SaysTo o t (wired.Packet (Cts count first pgn)) = ⊥
SaysTo o t (wired.Packet (EndAck size pgn)) = ⊥
SaysTo o t _ = Unit {0}

-- a session to all waits for nobody
abbrev pub WaitsForOne : Option Outgoing → Type 0
WaitsForOne None = Unit {0}
WaitsForOne (Some s) = s.stage ≡ Waiting → (x : ℕ) × (s.to ≡ tos.One x)

-- a message to one unit that goes to it no more has ended
abbrev pub HasEndedWithout : Option Outgoing → Type 0
HasEndedWithout None = Unit {0}
HasEndedWithout (Some s) = (x : ℕ) → s.to ≡ tos.One x → is_among s.targets x ≡ false → (outcome : Outcome) × (s.stage ≡ Resting outcome)

module _ (plan : Plan) (u : ℕ) (s : Outgoing) (planned : IsPlanned plan u s.to s.targets) (t : ℕ) (among : is_among s.targets t ≡ true) where
  -- where it sends to one, that is t
  to_it : (x : ℕ) → s.to ≡ tos.One x → IsTo (Some s) t s.pgn
  to_it x one =
      let same : t ≡ x = planned.one x t one among in (one ∙ ap tos.One (sym same), refl, among)

  pub says_first : (flow : Flow) (bytes : List ℕ) → s.to ≡ flow.to → s.pgn ≡ flow.pgn → SaysTo (Some s) t (first_item flow bytes)
  says_first flow bytes to_is pgn_is =
      cond_both (is_short (length bytes)) (wired.Short bytes) (wired.Packet (sender.announcement (dest_of flow.to) flow.pgn (length bytes)))
      (SaysTo (Some s) t) (λ _. tt) (λ _. announced flow.to to_is)
    where
      announced : (to : To) → s.to ≡ to → SaysTo (Some s) t (wired.Packet (sender.announcement (dest_of to) flow.pgn (length bytes)))
      announced tos.All is = tt
      announced (tos.One x) is = let here = to_it x is in (here.0, pgn_is, among)

  pub says_data : (p : Packet) → sender.data_next s.bytes s.stage ≡ Some p → SaysTo (Some s) t (wired.Packet p)
  says_data p next = at_stage s.stage next
    where
      at_stage : (stage : Stage) → sender.data_next s.bytes stage ≡ Some p → SaysTo (Some s) t (wired.Packet p)
      at_stage (Sending next last) is =
          let same : Dt next (chunk s.bytes next) ≡ p = cc is in subst (λ (q : Packet). SaysTo (Some s) t (wired.Packet q)) same tt
      at_stage Waiting is = absurd (cc is)
      at_stage (Resting outcome) is = absurd (cc is)

  pub says_late : WaitsForOne (Some s) → (p : Packet) → sender.timeout_packet s.pgn s.stage ≡ Some p → SaysTo (Some s) t (wired.Packet p)
  says_late waits p late = at_stage s.stage refl late
    where
      at_stage : (stage : Stage) → s.stage ≡ stage → sender.timeout_packet s.pgn stage ≡ Some p → SaysTo (Some s) t (wired.Packet p)
      at_stage Waiting is e =
          let one = waits is in
          let same : Abort 3 s.pgn ≡ p = cc e in subst (λ (q : Packet). SaysTo (Some s) t (wired.Packet q)) same (to_it one.0 one.1)
      at_stage (Sending next last) is e = absurd (cc e)
      at_stage (Resting outcome) is e = absurd (cc e)

-- what it replies to a packet is an Abort of its own message, to one
abbrev IsOwnAbort : Dest → ℕ → Reaction → Type 0
IsOwnAbort dest own (reactions.Reply p) = (dest ≡ dests.One) × (p ≡ Abort 4 own)
IsOwnAbort dest own _ = Unit {0}

abbrev AbortsAt : ℕ → Stage × Reaction → Type 0
AbortsAt own x = IsOwnAbort dests.One own x.1

cleared_aborts : (own packets count first : ℕ) (stage : Stage) → AbortsAt own (sender.cleared own packets count first stage)
cleared_aborts own packets count first (Sending next last) = (refl, refl)
cleared_aborts own packets count first Waiting =
    cond_both (sender.is_hold count) _ _ (AbortsAt own) (λ _. tt) (λ _. cond_both (sender.is_outside packets first) _ _ (AbortsAt own) (λ _. tt) (λ _. tt))
cleared_aborts own packets count first (Resting outcome) = tt

ended_aborts : (own : ℕ) (outcome : Outcome) (stage : Stage) → AbortsAt own (sender.ended outcome stage)
ended_aborts own outcome (Sending next last) = tt
ended_aborts own outcome Waiting = tt
ended_aborts own outcome (Resting was) = tt

hears_aborts : (dest : Dest) (own size : ℕ) (stage : Stage) (p : Packet) → IsOwnAbort dest own (sender.stage_hears dest own size stage p).1
hears_aborts dests.All own size stage p = tt
hears_aborts dests.One own size stage (Cts count first pgn) =
    cond_both (eqb pgn own) _ _ (AbortsAt own) (λ _. cleared_aborts own (packets_of size) count first stage) (λ _. tt)
hears_aborts dests.One own size stage (EndAck received pgn) =
    cond_both (eqb pgn own && eqb received size) _ _ (AbortsAt own) (λ _. ended_aborts own Acked stage) (λ _. tt)
hears_aborts dests.One own size stage (Abort reason pgn) = cond_both (eqb pgn own) _ _ (AbortsAt own) (λ _. ended_aborts own (Aborted reason) stage) (λ _. tt)
hears_aborts dests.One own size stage (Rts announced limit pgn) = tt
hears_aborts dests.One own size stage (Bam announced pgn) = tt
hears_aborts dests.One own size stage (Dt number seven) = tt

abbrev RepliesTo : Outgoing → ℕ → Reaction → Type 0
RepliesTo s t r = AllByRecursion (SaysTo (Some s) t) (map wired.Packet (sender_replies r))

pub says_replies : (plan : Plan) (u : ℕ) (o : Option Outgoing) → PlannedAt plan u o → (t : ℕ) (p : Packet)
    → AllByRecursion (SaysTo o t) (map wired.Packet (sender_replies (reaction_of o t p)))
says_replies plan u None planned t p = tt
says_replies plan u (Some s) planned t p =
    cond_both (is_among s.targets t) _ _ (λ (x : Stage × Reaction). RepliesTo s t x.1)
    (λ among. replies among (sender.stage_hears (dest_of s.to) s.pgn (length s.bytes) s.stage p).1
    (hears_aborts (dest_of s.to) s.pgn (length s.bytes) s.stage p)) (λ _. tt)
  where
    replies : is_among s.targets t ≡ true → (r : Reaction) → IsOwnAbort (dest_of s.to) s.pgn r → RepliesTo s t r
    replies among reactions.Nothing is = tt
    replies among reactions.Go is = tt
    replies among reactions.Ended is = tt
    replies among (reactions.Reply q) is =
        let one = directed_to s.to is.0 in
        let to_t : IsTo (Some s) t s.pgn = to_it plan u s planned t among one.0 one.1 in
        (subst (λ (x : Packet). SaysTo (Some s) t (wired.Packet x)) (sym is.1) to_t, tt)

-- ---- a session that goes on

-- all that is sent to one before is sent then
abbrev pub KeepsTo : Option Outgoing → Option Outgoing → Type 0
KeepsTo old new = (t pgn : ℕ) → IsTo old t pgn → IsTo new t pgn

pub after_to : (o : Option Outgoing) (u : ℕ) (p : Packet) (t pgn : ℕ) → (IsTo o t pgn → IsTo (session_after o u p) t pgn)
    × (IsTo (session_after o u p) t pgn → IsTo o t pgn)
after_to None u p t pgn = (λ is. is, λ is. is)
after_to (Some s) u p t pgn = (λ is. is, λ is. is)
