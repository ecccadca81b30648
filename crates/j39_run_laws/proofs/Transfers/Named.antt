-- In every world of every run each RTS and each Abort that is undelivered names the group of a message that is still sent to one unit,
-- between the two, and so does each receiver that is open for such a message.
use Rattle.std.proofs.Common.{◌≡◌, ◌≢◌, ℕ, ◌⊎◌, inl, inr, true, false, not, eqb, List, [], ◌∷◌, ◌++◌, length, refl, sym, ap, ◌∙◌, subst, Option, Some}
use Rattle.std.proofs.Common.{None}
use Rattle.std.specs.Prelude.{map, nat_lt, slice_get}
use Rattle.std.specs.List.{AllByRecursion}
use Rattle.std.proofs.lemmas.Bool.{cases_eq, cond_both, eqb-false, not-false, or_parts, true≢false}
use Rattle.std.proofs.lemmas.List.{map-append}
use Rattle.j39_tp.specs.Receiver as receiver
use Rattle.j39_tp.specs.Receiver.{is_open_at}
use Rattle.j39_tp.specs.Sender as sender
use Rattle.j39_tp.specs.declared.packet.Packet.{Packet}
use Rattle.j39_tp.specs.declared.packet.Packet.TheVariants.{Rts, Cts, EndAck, Bam, Abort, Dt}
use Rattle.j39_tp.specs.declared.receiving.manner.Manner.TheVariants.{Answering}
use Rattle.j39_tp.specs.declared.receiving.progress.Progress.{Progress}
use Rattle.j39_tp.specs.declared.receiving.progress.Progress.TheVariants.{Closed, Open, Complete}
use Rattle.j39_tp.specs.declared.sending.outcome.Outcome.TheVariants.{GaveUp, Sent}
use Rattle.j39_tp.specs.declared.sending.outcome.Outcome.{Outcome}
use Rattle.j39_tp.specs.declared.sending.reaction.Reaction.{Reaction}
use Rattle.j39_tp.specs.declared.sending.stage.Stage.{Stage}
use Rattle.j39_tp.specs.declared.sending.stage.Stage.TheVariants.{Sending, Waiting, Resting}
use Rattle.j39_claim.specs.declared.item.Item.{Item}
use Rattle.j39_network.specs.declared.plan.Plan.{Plan}
use Rattle.j39_network.specs.declared.plan.to.To.{To}
use Rattle.j39_network.specs.declared.plan.to.To.TheVariants as tos
use Rattle.j39_network.specs.declared.steps.Step.{Step}
use Rattle.j39_network.specs.declared.steps.Step.TheVariants.{Up, Down, Give, Ask, Begin, Send, Emit, Take, Lose, LateSender, LateReceiver, Rest}
use Rattle.j39_world.proofs.Refusals.{none_hold}
use Rattle.j39_world.specs.declared.flow.Flow.{Flow}
use Rattle.j39_world.specs.declared.wired.Wired.{Wired}
use Rattle.j39_world.specs.declared.wired.Wired.TheVariants as wired
use Rattle.j39_world.specs.ClaimSteps.{GivenFrom}
use Rattle.j39_world.specs.Flows.{flows_of, windows_of, window_at, dest_of, is_short}
use Rattle.j39_network.specs.PlannedUnits.{units_of}
use Rattle.j39_world.specs.Resting.{is_of_sender, is_of_receiver, can_rest}
use Rattle.j39_world.specs.Run.{count_of, begin_refusal, begin_refusals, refusal, StepsTo}
use Rattle.j39_world.specs.SoundPlan.{Always}
use Rattle.j39_world.specs.Transfers.{Outgoing, Reported, Sessions, Wire, is_among, added, closed_if_complete}
use Rattle.j39_world.specs.TransferSteps.{targets_of, begun_stage, outgoing, first_item, BeginsAt, SendsAt, sent_to_receivers, session_after, reaction_of}
use Rattle.j39_world.specs.TransferSteps.{receiver_replies, sender_replies, hearing, packet_taken, TakenFrom, LostFrom, packets_in, receiver_timed_out, rested}
use Rattle.j39_world.specs.SwitchingOff.{is_either, session_without, sessions_without}
use Rattle.j39_world.specs.World.{World, all_off, changed, changed_pair}
use Rattle.j39_run_laws.proofs.Reports.Orderly.{IsPlanned, PlannedAt}
use Rattle.j39_run_laws.proofs.Reports.SenderSteps.{no_session, begin_keeps}
use Rattle.j39_run_laws.proofs.Reports.TransferInvariant.{TransferInvariant}
use Rattle.j39_run_laws.proofs.Runs.Always.{IsPreserved, always}
use Rattle.j39_run_laws.proofs.Runs.Changed.{changed_here, changed_elsewhere, changed_each, pair_each}
use Rattle.j39_run_laws.proofs.Runs.Conditions.{none_refuses}
use Rattle.j39_run_laws.proofs.Runs.Elements.{all-append, all_map, all_weaker}
use Rattle.j39_run_laws.proofs.Runs.SwitchedOff.{lists_left, sessions_each, stage_left, targets_same}
use Rattle.j39_run_laws.proofs.Runs.WiredItems.{all_added, all_dropped, all_less, all_more}
use Rattle.j39_run_laws.proofs.Transfers.Accounted.{SendsTo}
use Rattle.j39_run_laws.proofs.Transfers.EndedWithout.{begun_ended, ended_left, going_ended, heard_ended}
use Rattle.j39_run_laws.proofs.Transfers.AccountedSteps.{IsKept, keeps, all_kept, over_with}
use Rattle.j39_run_laws.proofs.Transfers.Naming.{IsOpenFor, AnswersAt, hears_answers, late_answers, IsRtsOf, hears_open, late_open, closed_open}
use Rattle.j39_run_laws.proofs.Transfers.Naming.{HasEndedWithout, IsTo, SaysTo, WaitsForOne, says_first, says_data, says_late, says_replies, KeepsTo, after_to}

-- ---- what is named

abbrev pub IsNamed : Sessions → ℕ → ℕ → Wired → Type 0
IsNamed sessions s t (wired.Packet (Rts size limit pgn)) = IsTo (sessions s) t pgn
IsNamed sessions s t (wired.Packet (Abort reason pgn)) = IsTo (sessions s) t pgn ⊎ IsTo (sessions t) s pgn
IsNamed sessions s t _ = Unit {0}

abbrev AreNamed : Sessions → Wire → Type 0
AreNamed sessions wire = (s t : ℕ) → AllByRecursion (IsNamed sessions s t) (wire s t)

pub record AllNamed (w : World) : Type 0 where
  pub wire : AreNamed w.sessions w.wire
  pub receivers : (t s pgn : ℕ) → IsOpenFor (w.receivers t s) pgn → IsTo (w.sessions s) t pgn
  pub waits : (u : ℕ) → WaitsForOne (w.sessions u)
  pub ended : (u : ℕ) → HasEndedWithout (w.sessions u)

-- ---- sessions that send to as many at least

abbrev AllKeepTo : Sessions → Sessions → Type 0
AllKeepTo old new = (x : ℕ) → KeepsTo (old x) (new x)

keep_to : (sessions : Sessions) (u : ℕ) (o : Option Outgoing) → KeepsTo (sessions u) o → AllKeepTo sessions (changed sessions u o)
keep_to sessions u o keep = changed_each (λ x (p : Option Outgoing). KeepsTo (sessions x) p) sessions u o keep (λ x t pgn is. is)

named_item : (old new : Sessions) → AllKeepTo old new → (s t : ℕ) (item : Wired) → IsNamed old s t item → IsNamed new s t item
named_item old new keep s t (wired.Short bytes) is = tt
named_item old new keep s t (wired.Packet (Rts size limit pgn)) is = keep s t pgn is
named_item old new keep s t (wired.Packet (Cts count start pgn)) is = tt
named_item old new keep s t (wired.Packet (EndAck size pgn)) is = tt
named_item old new keep s t (wired.Packet (Bam size pgn)) is = tt
named_item old new keep s t (wired.Packet (Abort reason pgn)) is = elim is [ inl here ↦ inl (keep s t pgn here) | inr there ↦ inr (keep t s pgn there) ]
named_item old new keep s t (wired.Packet (Dt number seven)) is = tt
named_item old new keep s t (wired.Alone f bytes) is = tt

still_named : (old new : Sessions) → AllKeepTo old new → (s t : ℕ) (items : List Wired) → AllByRecursion (IsNamed old s t) items
    → AllByRecursion (IsNamed new s t) items
still_named old new keep s t = all_weaker (IsNamed old s t) (IsNamed new s t) (named_item old new keep s t)

says_named : (sessions : Sessions) (s t : ℕ) (item : Wired) → SaysTo (sessions s) t item → IsNamed sessions s t item
says_named sessions s t (wired.Short bytes) is = tt
says_named sessions s t (wired.Packet (Rts size limit pgn)) is = is
says_named sessions s t (wired.Packet (Cts count start pgn)) is = tt
says_named sessions s t (wired.Packet (EndAck size pgn)) is = tt
says_named sessions s t (wired.Packet (Bam size pgn)) is = tt
says_named sessions s t (wired.Packet (Abort reason pgn)) is = inl is
says_named sessions s t (wired.Packet (Dt number seven)) is = tt
says_named sessions s t (wired.Alone f bytes) is = tt

answers_named : (sessions : Sessions) (v u : ℕ) (pr : Progress) → ((pgn : ℕ) → IsOpenFor pr pgn → IsTo (sessions u) v pgn) → (p : Packet)
    → AnswersAt pr p → IsNamed sessions v u (wired.Packet p)
answers_named sessions v u pr named (Rts size limit pgn) is = absurd is
answers_named sessions v u pr named (Cts count start pgn) is = tt
answers_named sessions v u pr named (EndAck size pgn) is = tt
answers_named sessions v u pr named (Bam size pgn) is = tt
answers_named sessions v u pr named (Abort reason pgn) is = inr (named pgn is)
answers_named sessions v u pr named (Dt number seven) is = tt

says_at : (s : Outgoing) (stage : Stage) (t : ℕ) (item : Wired) → SaysTo (Some s) t item → SaysTo (Some (record s { stage = stage })) t item
says_at s stage t (wired.Short bytes) is = tt
says_at s stage t (wired.Packet (Rts size limit pgn)) is = is
says_at s stage t (wired.Packet (Cts count start pgn)) is = is
says_at s stage t (wired.Packet (EndAck size pgn)) is = is
says_at s stage t (wired.Packet (Bam size pgn)) is = tt
says_at s stage t (wired.Packet (Abort reason pgn)) is = is
says_at s stage t (wired.Packet (Dt number seven)) is = tt
says_at s stage t (wired.Alone f bytes) is = tt

-- ---- who waits

abbrev WaitsAt : To → Stage → Type 0
WaitsAt to stage = stage ≡ Waiting → (x : ℕ) × (to ≡ tos.One x)

begun_waits : (flow : Flow) (bytes : List ℕ) → WaitsAt flow.to (begun_stage flow bytes)
begun_waits flow bytes =
    cond_both (is_short (length bytes)) (Resting Sent) (sender.begun (dest_of flow.to) (length bytes)) (WaitsAt flow.to) (λ _ e. absurd (cc e))
    (λ _. of flow.to)
  where
    of : (to : To) → WaitsAt to (sender.begun (dest_of to) (length bytes))
    of tos.All e = absurd (cc e)
    of (tos.One x) e = (x, refl)

emitted_waits : (to : To) (stage : Stage) → WaitsAt to stage → WaitsAt to (sender.after_packet (dest_of to) stage)
emitted_waits (tos.One x) stage was = λ _. (x, refl)
emitted_waits tos.All (Sending next last) was =
    cond_both (nat_lt next last) _ _ (WaitsAt tos.All) (λ _ e. absurd (cc e)) (λ _ e. absurd (cc e))
emitted_waits tos.All Waiting was = was
emitted_waits tos.All (Resting outcome) was = was

late_waits : (to : To) (stage : Stage) → WaitsAt to (sender.after_timeout stage)
late_waits to Waiting = λ e. absurd (cc e)
late_waits to (Sending next last) = λ e. absurd (cc e)
late_waits to (Resting outcome) = λ e. absurd (cc e)

heard_waits : (o : Option Outgoing) (u : ℕ) (p : Packet) → WaitsForOne o → WaitsForOne (session_after o u p)
heard_waits None u p was = tt
heard_waits (Some s) u p was =
    cond_both (is_among s.targets u) _ _ (λ (x : Stage × Reaction). WaitsAt s.to x.0) (λ _. of s.to was) (λ _. was)
  where
    of : (to : To) → WaitsAt to s.stage → WaitsAt to (sender.stage_hears (dest_of to) s.pgn (length s.bytes) s.stage p).0
    of tos.All here = here
    of (tos.One x) here = λ _. (x, refl)

-- ---- the sender rests

module _ (sessions : Sessions) (u : ℕ) where
  abbrev now : Sessions
  now = changed sessions u None

  to_still : (x y pgn : ℕ) → IsTo (sessions x) y pgn → (x ≡ u → IsTo (sessions u) y pgn → ⊥) → IsTo (now x) y pgn
  to_still x y pgn is never = elim (cases_eq x u) [
    | inl same ↦ absurd (never same (subst (λ k. IsTo (sessions k) y pgn) same is))
    | inr other ↦ subst (λ (o : Option Outgoing). IsTo o y pgn) (sym (changed_elsewhere sessions u None x other)) is
  ]

  rested_item : (s t : ℕ) (item : Wired) → IsNamed sessions s t item
      → (s ≡ u → (pgn : ℕ) → IsTo (sessions u) t pgn → not (is_of_sender item) ≡ true)
      → (t ≡ u → (pgn : ℕ) → IsTo (sessions u) s pgn → not (is_of_receiver item) ≡ true)
      → IsNamed now s t item
  rested_item s t (wired.Short bytes) is sent answered = tt
  rested_item s t (wired.Packet (Rts size limit pgn)) is sent answered = to_still s t pgn is (λ same to. true≢false (sym (sent same pgn to)))
  rested_item s t (wired.Packet (Cts count start pgn)) is sent answered = tt
  rested_item s t (wired.Packet (EndAck size pgn)) is sent answered = tt
  rested_item s t (wired.Packet (Bam size pgn)) is sent answered = tt
  rested_item s t (wired.Packet (Abort reason pgn)) is sent answered = elim is [
    | inl here ↦ inl (to_still s t pgn here (λ same to. true≢false (sym (sent same pgn to))))
    | inr there ↦ inr (to_still t s pgn there (λ same to. true≢false (sym (answered same pgn to))))
  ]
  rested_item s t (wired.Packet (Dt number seven)) is sent answered = tt
  rested_item s t (wired.Alone f bytes) is sent answered = tt

  rested_items : (s t : ℕ) (items : List Wired) → AllByRecursion (IsNamed sessions s t) items
      → (s ≡ u → (pgn : ℕ) → IsTo (sessions u) t pgn → AllByRecursion (λ item. not (is_of_sender item) ≡ true) items)
      → (t ≡ u → (pgn : ℕ) → IsTo (sessions u) s pgn → AllByRecursion (λ item. not (is_of_receiver item) ≡ true) items)
      → AllByRecursion (IsNamed now s t) items
  rested_items s t [] all sent answered = tt
  rested_items s t (item ∷ rest) all sent answered = (
    rested_item s t item all.0 (λ same pgn to. (sent same pgn to).0) (λ same pgn to. (answered same pgn to).0),
    rested_items s t rest all.1 (λ same pgn to. (sent same pgn to).1) (λ same pgn to. (answered same pgn to).1),
  )

open_at : (pr : Progress) (pgn : ℕ) → IsOpenFor pr pgn → is_open_at pr ≡ true
open_at (Open r) pgn is = refl
open_at Closed pgn is = absurd is
open_at (Complete done) pgn is = absurd is

-- a message to one is sent to it
to_sends : (o : Option Outgoing) (t pgn : ℕ) → IsTo o t pgn → SendsTo o t
to_sends None t pgn is = absurd is
to_sends (Some s) t pgn is = is.2

-- ---- u is switched off

to_left : (u : ℕ) (sessions : Sessions) (x y pgn : ℕ) → x ≢ u → y ≢ u → IsTo (sessions x) y pgn → IsTo (sessions_without u sessions x) y pgn
to_left u sessions x y pgn other_x other_y is =
    subst (λ (o : Option Outgoing). IsTo o y pgn) (sym (changed_elsewhere (λ z. session_without u (sessions z)) u None x other_x)) (of (sessions x) is)
  where
    of : (o : Option Outgoing) → IsTo o y pgn → IsTo (session_without u o) y pgn
    of None to = to
    of (Some s) to = (to.0, to.1, targets_same u s.targets y other_y ∙ to.2)

named_left : (u : ℕ) (sessions : Sessions) (s t : ℕ) → s ≢ u → t ≢ u → (item : Wired) → IsNamed sessions s t item
    → IsNamed (sessions_without u sessions) s t item
named_left u sessions s t other_s other_t (wired.Short bytes) is = tt
named_left u sessions s t other_s other_t (wired.Packet (Rts size limit pgn)) is = to_left u sessions s t pgn other_s other_t is
named_left u sessions s t other_s other_t (wired.Packet (Cts count start pgn)) is = tt
named_left u sessions s t other_s other_t (wired.Packet (EndAck size pgn)) is = tt
named_left u sessions s t other_s other_t (wired.Packet (Bam size pgn)) is = tt
named_left u sessions s t other_s other_t (wired.Packet (Abort reason pgn)) is = elim is [
  | inl here ↦ inl (to_left u sessions s t pgn other_s other_t here)
  | inr there ↦ inr (to_left u sessions t s pgn other_t other_s there)
]
named_left u sessions s t other_s other_t (wired.Packet (Dt number seven)) is = tt
named_left u sessions s t other_s other_t (wired.Alone f bytes) is = tt

waits_left : (u : ℕ) (o : Option Outgoing) → WaitsForOne o → WaitsForOne (session_without u o)
waits_left u None was = tt
waits_left u (Some s) was = λ waits. elim (stage_left u s.to s.stage) [
  | inl same ↦ was (sym same ∙ waits)
  | inr gave_up ↦ absurd (let e : Resting GaveUp ≡ Waiting = sym gave_up ∙ waits in cc e)
]

-- ---- each step

module _ (plan : Plan) (w : World) (kept : IsKept plan w) (old : AllNamed w) where
  less : (u v : ℕ) (item : Wired) (rest : List Wired) → w.wire u v ≡ item ∷ rest → AreNamed w.sessions (changed_pair w.wire u v rest)
  less = all_less (IsNamed w.sessions) w.wire old.wire

  -- u sends an item to those that its message goes to
  sent : (u : ℕ) (o : Outgoing) (item : Wired) → KeepsTo (w.sessions u) (Some o) → ((t : ℕ) → is_among o.targets t ≡ true → SaysTo (Some o) t item)
      → AreNamed (changed w.sessions u (Some o)) (added w.wire u o.targets item)
  sent u o item keep says =
      let then : Sessions = changed w.sessions u (Some o) in
      all_added (IsNamed then) w.wire (λ s t. still_named w.sessions then (keep_to w.sessions u (Some o) keep) s t (w.wire s t) (old.wire s t)) u o.targets item
      (λ t among. says_named then u t item (subst (λ (x : Option Outgoing). SaysTo x t item) (sym (changed_here w.sessions u (Some o))) (says t among)))

  -- u sends, and is at another stage then
  sends_named : (u : ℕ) (s : Outgoing) (stage : Stage) (p : Packet) → w.sessions u ≡ Some s
      → ((t : ℕ) → is_among s.targets t ≡ true → SaysTo (Some s) t (wired.Packet p)) → WaitsAt s.to stage
      → ((outcome : Outcome) → s.stage ≡ Resting outcome → ⊥)
      → AllNamed (record (sent_to_receivers w u s p) { sessions = changed w.sessions u (Some (record s { stage = stage })) })
  sends_named u s stage p is says waits goes =
      let then : Option Outgoing = Some (record s { stage = stage }) in
      let keep : KeepsTo (w.sessions u) then = λ t pgn to. subst (λ (x : Option Outgoing). IsTo x t pgn) is to in
      record {
        wire = sent u (record s { stage = stage }) (wired.Packet p) keep (λ t among. says_at s stage t (wired.Packet p) (says t among));
        receivers = λ t x pgn opened. keep_to w.sessions u then keep x t pgn (old.receivers t x pgn opened);
        waits = changed_each (λ _ x. WaitsForOne x) w.sessions u then waits old.waits;
        ended = changed_each (λ _ x. HasEndedWithout x) w.sessions u then (going_ended s stage (subst HasEndedWithout is (old.ended u)) goes) old.ended;
      }

  planned_at : (u : ℕ) (s : Outgoing) → w.sessions u ≡ Some s → IsPlanned plan u s.to s.targets
  planned_at u s is = subst (PlannedAt plan u) is (kept.transfers.order.planned u)

  emit_named : (u : ℕ) (s : Outgoing) (p : Packet) → w.sessions u ≡ Some s → sender.data_next s.bytes s.stage ≡ Some p
      → AllNamed (record (sent_to_receivers w u s p) {
        sessions = changed w.sessions u
            (Some (record s { stage = sender.after_packet (dest_of s.to) s.stage }));
      })
  emit_named u s p is next =
      sends_named u s (sender.after_packet (dest_of s.to) s.stage) p is (λ t among. says_data plan u s (planned_at u s is) t among p next)
      (emitted_waits s.to s.stage (subst WaitsForOne is (old.waits u)))
      (λ outcome rests. cc (subst (λ (st : Stage). sender.data_next s.bytes st ≡ Some p) rests next))

  late_named : (u : ℕ) (s : Outgoing) (p : Packet) → w.sessions u ≡ Some s → sender.timeout_packet s.pgn s.stage ≡ Some p
      → AllNamed (record (sent_to_receivers w u s p) { sessions = changed w.sessions u (Some (record s { stage = sender.after_timeout s.stage })) })
  late_named u s p is late =
      sends_named u s (sender.after_timeout s.stage) p is
      (λ t among. says_late plan u s (planned_at u s is) t among (subst WaitsForOne is (old.waits u)) p late) (late_waits s.to s.stage)
      (λ outcome rests. cc (subst (λ (st : Stage). sender.timeout_packet s.pgn st ≡ Some p) rests late))

  pub begin_named : (f : ℕ) (o : Option Flow) (bytes : List ℕ) → begin_refusal plan.live (count_of plan) w o bytes ≡ None → (new : World)
      → BeginsAt (count_of plan) w f o bytes new → AllNamed new
  begin_named f None bytes allowed new never = absurd never
  begin_named f (Some flow) bytes allowed new e =
      let (sendable, (on, (stated, (addressed, (free, rest))))) = none_hold (begin_refusals plan.live (count_of plan) w (Some flow) bytes) allowed in
      let o : Outgoing = outgoing (count_of plan) w.stations f flow bytes in
      let idle : w.sessions flow.sender ≡ None = no_session (w.sessions flow.sender) free in
      let keep : KeepsTo (w.sessions flow.sender) (Some o) = λ t pgn to. absurd (subst (λ (x : Option Outgoing). IsTo x t pgn) idle to) in
      let then : TransferInvariant plan new = begin_keeps plan w kept.transfers f (Some flow) bytes allowed new e in
      let session : new.sessions flow.sender ≡ Some o = ap (λ (x : World). x.sessions flow.sender) e ∙ changed_here w.sessions flow.sender (Some o) in
      let planned : IsPlanned plan flow.sender o.to o.targets = subst (PlannedAt plan flow.sender) session (then.order.planned flow.sender) in
      subst AllNamed (sym e) (record {
        wire = sent flow.sender o (first_item flow bytes) keep (λ t among. says_first plan flow.sender o planned t among flow bytes refl refl);
        receivers = λ t x pgn opened. keep_to w.sessions flow.sender (Some o) keep x t pgn (old.receivers t x pgn opened);
        waits = changed_each (λ _ x. WaitsForOne x) w.sessions flow.sender (Some o) (begun_waits flow bytes) old.waits;
        ended = changed_each (λ _ x. HasEndedWithout x) w.sessions flow.sender (Some o) (begun_ended (count_of plan) f w.stations flow bytes) old.ended;
      })

  -- ---- something is taken or lost, or a receiver hears nothing in time

  lose_named : (u v : ℕ) (list : List Wired) → w.wire u v ≡ list → (new : World) → LostFrom w u v list new → AllNamed new
  lose_named u v [] is new never = absurd never
  lose_named u v (item ∷ rest) is new e = subst AllNamed (sym e) (record
      { wire = less u v item rest is; receivers = old.receivers; waits = old.waits; ended = old.ended })

  rts_named : (u v : ℕ) (p : Packet) → IsNamed w.sessions u v (wired.Packet p) → (pgn : ℕ) → IsRtsOf p pgn → IsTo (w.sessions u) v pgn
  rts_named u v (Rts size limit named) head pgn is = subst (IsTo (w.sessions u) v) is head
  rts_named u v (Cts count start named) head pgn is = absurd is
  rts_named u v (EndAck size named) head pgn is = absurd is
  rts_named u v (Bam size named) head pgn is = absurd is
  rts_named u v (Abort reason named) head pgn is = absurd is
  rts_named u v (Dt number seven) head pgn is = absurd is

  packet_named : (windows : List ℕ) (u v : ℕ) (p : Packet) (rest : List Wired) (reports : List Reported) → w.wire u v ≡ wired.Packet p ∷ rest
      → AllNamed (packet_taken windows w u v rest p reports)
  packet_named windows u v p rest reports is =
      let then : Option Outgoing = session_after (w.sessions v) u p in
      let sessions : Sessions = changed w.sessions v then in
      let keep : AllKeepTo w.sessions sessions = keep_to w.sessions v then (λ t pgn. (after_to (w.sessions v) u p t pgn).0) in
      let window : ℕ = window_at windows v in
      let pr : Progress = w.receivers v u in
      let replies : List Packet = receiver_replies (hearing windows w u v p).1 in
      let reacted : List Packet = sender_replies (reaction_of (w.sessions v) u p) in
      let head : IsNamed w.sessions u v (wired.Packet p) = (subst (AllByRecursion (IsNamed w.sessions u v)) is (old.wire u v)).0 in
      let answered : AllByRecursion (IsNamed sessions v u) (map wired.Packet replies) =
      all_map wired.Packet (AnswersAt pr) (IsNamed sessions v u)
      (answers_named sessions v u pr (λ pgn opened. keep u v pgn (old.receivers v u pgn opened))) replies (hears_answers window pr p) in
      let also : AllByRecursion (IsNamed sessions v u) (map wired.Packet reacted) =
      still_named w.sessions sessions keep v u (map wired.Packet reacted)
      (all_weaker (SaysTo (w.sessions v) u) (IsNamed w.sessions v u) (says_named w.sessions v u) (map wired.Packet reacted)
      (says_replies plan v (w.sessions v) (kept.transfers.order.planned v) u p)) in
      let all : AllByRecursion (IsNamed sessions v u) (map wired.Packet (replies ++ reacted)) =
      subst (AllByRecursion (IsNamed sessions v u)) (sym (map-append wired.Packet replies reacted))
      (all-append (IsNamed sessions v u) (map wired.Packet replies) (map wired.Packet reacted) answered also) in
      let opened : (pgn : ℕ) → IsOpenFor (closed_if_complete (hearing windows w u v p).0) pgn → IsTo (w.sessions u) v pgn =
      λ pgn at. elim (hears_open window pr p pgn (closed_open (hearing windows w u v p).0 pgn at)) [
        | inl was ↦ old.receivers v u pgn was
        | inr rts ↦ rts_named u v p head pgn rts
      ] in
      record {
        wire = all_more (IsNamed sessions) (changed_pair w.wire u v rest)
            (λ s t. still_named w.sessions sessions keep s t (changed_pair w.wire u v rest s t) (less u v (wired.Packet p) rest is s t)) v u
            (map wired.Packet (replies ++ reacted)) all;
        receivers = pair_each (λ t s (x : Progress). (pgn : ℕ) → IsOpenFor x pgn → IsTo (sessions s) t pgn) w.receivers v u
            (closed_if_complete (hearing windows w u v p).0) (λ pgn at. keep u v pgn (opened pgn at))
            (λ t s pgn at. keep s t pgn (old.receivers t s pgn at));
        waits = changed_each (λ _ x. WaitsForOne x) w.sessions v then (heard_waits (w.sessions v) u p (old.waits v)) old.waits;
        ended = changed_each (λ _ x. HasEndedWithout x) w.sessions v then (heard_ended (w.sessions v) u p (old.ended v)) old.ended;
      }

  take_named : (windows : List ℕ) (u v : ℕ) (list : List Wired) → w.wire u v ≡ list → (new : World) → TakenFrom windows w u v list new → AllNamed new
  take_named windows u v [] is new never = absurd never
  take_named windows u v (wired.Short bytes ∷ rest) is new e =
      subst AllNamed (sym e) (record { wire = less u v (wired.Short bytes) rest is; receivers = old.receivers; waits = old.waits; ended = old.ended })
  take_named windows u v (wired.Packet p ∷ rest) is new (reports, reported, e) = subst AllNamed (sym e) (packet_named windows u v p rest reports is)
  take_named windows u v (wired.Alone f bytes ∷ rest) is new e =
      subst AllNamed (sym e) (record { wire = less u v (wired.Alone f bytes) rest is; receivers = old.receivers; waits = old.waits; ended = old.ended })

  late_receiver_named : (windows : List ℕ) (u v : ℕ) → AllNamed (receiver_timed_out windows w u v)
  late_receiver_named windows u v =
      let window : ℕ = window_at windows v in
      let pr : Progress = w.receivers v u in
      let sends : List Packet = packets_in (receiver.timed_out (Answering window) pr).1 in
      let answered : AllByRecursion (IsNamed w.sessions v u) (map wired.Packet sends) =
      all_map wired.Packet (AnswersAt pr) (IsNamed w.sessions v u) (answers_named w.sessions v u pr (old.receivers v u)) sends (late_answers window pr) in
      record {
        wire = all_more (IsNamed w.sessions) w.wire old.wire v u (map wired.Packet sends) answered;
        receivers = pair_each (λ t s (x : Progress). (pgn : ℕ) → IsOpenFor x pgn → IsTo (w.sessions s) t pgn) w.receivers v u
            (closed_if_complete (receiver.timed_out (Answering window) pr).0)
            (λ pgn at. old.receivers v u pgn (late_open window pr pgn (closed_open (receiver.timed_out (Answering window) pr).0 pgn at))) old.receivers;
        waits = old.waits;
        ended = old.ended;
      }

  -- ---- a sender rests

  rest_named : (u : ℕ) → can_rest (count_of plan) w u ≡ true → AllNamed (rested w u)
  rest_named u can =
      let over = over_with plan w kept.transfers kept.accounted u can in
      let sends : (t pgn : ℕ) → IsTo (w.sessions u) t pgn → SendsTo (w.sessions u) t = to_sends (w.sessions u) in
      record {
        wire = λ s t. rested_items w.sessions u s t (w.wire s t) (old.wire s t)
            (λ same pgn to. subst (λ k. AllByRecursion (λ item. not (is_of_sender item) ≡ true) (w.wire k t)) (sym same) (over t (sends t pgn to)).0)
            (λ same pgn to. subst (λ k. AllByRecursion (λ item. not (is_of_receiver item) ≡ true) (w.wire s k)) (sym same) (over s (sends s pgn to)).1);
        receivers = λ t s pgn opened. to_still w.sessions u s t pgn (old.receivers t s pgn opened)
            (λ same to. true≢false (sym (open_at (w.receivers t s) pgn opened)
            ∙ subst (λ k. is_open_at (w.receivers t k) ≡ false) (sym same) (over t (sends t pgn to)).2));
        waits = changed_each (λ _ x. WaitsForOne x) w.sessions u None tt old.waits;
        ended = changed_each (λ _ x. HasEndedWithout x) w.sessions u None tt old.ended;
      }

  give_named : (u v : ℕ) (list : List Item) (new : World) → GivenFrom (units_of plan) w u v list new → AllNamed new
  give_named u v [] new never = absurd never
  give_named u v (item ∷ rest) new (says, s, answers, e) = subst AllNamed (sym e)
      (record { wire = old.wire; receivers = old.receivers; waits = old.waits; ended = old.ended })

  send_named : (f : ℕ) (o : Option Flow) (bytes : List ℕ) (new : World) → SendsAt (count_of plan) w f o bytes new → AllNamed new
  send_named f None bytes new never = absurd never
  send_named f (Some flow) bytes new e =
      let targets : List ℕ = targets_of (count_of plan) w.stations flow.sender flow.to in
      let item : Wired = wired.Alone f bytes in
      subst AllNamed (sym e) (record {
        wire = all_added (IsNamed w.sessions) w.wire old.wire flow.sender targets item (λ t _. tt);
        receivers = old.receivers;
        waits = old.waits;
        ended = old.ended;
      })

  named_keeps : (step : Step) → refusal plan w step ≡ None → (new : World) → StepsTo plan w step new → AllNamed new
  named_keeps (Up u) allowed new e = subst AllNamed (sym e) (record {
    wire = all_dropped (IsNamed w.sessions) w.wire old.wire u;
    receivers = old.receivers;
    waits = old.waits;
    ended = old.ended;
  })
  named_keeps (Down u) allowed new e = subst AllNamed (sym e) (record {
    wire = lists_left u (IsNamed (sessions_without u w.sessions)) w.wire
        (λ s t other_s other_t. all_weaker (IsNamed w.sessions s t) (IsNamed (sessions_without u w.sessions) s t)
        (named_left u w.sessions s t other_s other_t) (w.wire s t) (old.wire s t));
    receivers = λ t s pgn. cond_both (is_either u t s) Closed (w.receivers t s)
        (λ (x : Progress). IsOpenFor x pgn → IsTo (sessions_without u w.sessions s) t pgn) (λ _ never. absurd never)
        (λ none opened. let parts = or_parts (eqb t u) (eqb s u) none in
        to_left u w.sessions s t pgn (eqb-false s u parts.1) (eqb-false t u parts.0) (old.receivers t s pgn opened));
    waits = sessions_each u (λ _ x. WaitsForOne x) w.sessions tt (λ x _. waits_left u (w.sessions x) (old.waits x));
    ended = sessions_each u (λ _ x. HasEndedWithout x) w.sessions tt (λ x _. ended_left u (w.sessions x) (old.ended x));
  })
  named_keeps (Give u v) allowed new leads = give_named u v (w.claims u v) new leads
  named_keeps (Ask u) allowed new e = subst AllNamed (sym e) (record { wire = old.wire; receivers = old.receivers; waits = old.waits; ended = old.ended })
  named_keeps (Begin f bytes) allowed new leads = begin_named f (slice_get (flows_of plan) f) bytes.items allowed new leads
  named_keeps (Send f bytes) allowed new leads = send_named f (slice_get (flows_of plan) f) bytes.items new leads
  named_keeps (Emit u) allowed new (s, p, session, next, e) = subst AllNamed (sym e) (emit_named u s p session next)
  named_keeps (Take u v) allowed new leads = take_named (windows_of plan) u v (w.wire u v) refl new leads
  named_keeps (Lose u v) allowed new leads = lose_named u v (w.wire u v) refl new leads
  named_keeps (LateSender u) allowed new (s, p, session, packet, e) = subst AllNamed (sym e) (late_named u s p session packet)
  named_keeps (LateReceiver u v) allowed new e = subst AllNamed (sym e) (late_receiver_named (windows_of plan) u v)
  named_keeps (Rest u) allowed new e =
      let (known, (on, (over, none))) = none_refuses plan w (Rest u) allowed in subst AllNamed (sym e) (rest_named u (not-false _ over))

-- what is kept of messages, and that all is named
pub record IsKeptNamed (plan : Plan) (w : World) : Type 0 where
  pub kept : IsKept plan w
  pub named : AllNamed w

pub keeps_named : (plan : Plan) → IsPreserved plan (IsKeptNamed plan)
keeps_named plan w old step allowed new leads = record {
  kept = keeps plan w old.kept step allowed new leads;
  named = named_keeps plan w old.kept old.named step allowed new leads;
}

pub all_named : (plan : Plan) → Always plan (IsKeptNamed plan)
all_named plan = always plan (IsKeptNamed plan) (record {
  kept = all_kept plan [] all_off refl;
  named = record { wire = λ s t. tt; receivers = λ t s pgn never. absurd never; waits = λ u. tt; ended = λ u. tt };
}) (keeps_named plan)
