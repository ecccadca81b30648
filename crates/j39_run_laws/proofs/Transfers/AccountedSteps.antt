-- In every world of every run what is undelivered of messages is of one that is still sent, and who sends and receives it is on.
use Rattle.std.proofs.Common.{◌≡◌, ℕ, inl, inr, Bool, true, false, not, ◌&&◌, eqb, ltb, List, [], ◌∷◌, ◌++◌, length, refl, sym, ◌∙◌, subst, Option, Some}
use Rattle.std.proofs.Common.{None}
use Rattle.std.specs.Prelude.{map, slice_get}
use Rattle.std.specs.List.{AllByRecursion, list_all, range_with_len}
use Rattle.std.specs.Option.{is_some}
use Rattle.std.proofs.lemmas.Bool.{and_parts, cases_Bool, cond_both, not-false, not-true, true≢false}
use Rattle.std.proofs.lemmas.List.{map-append}
use Rattle.j39_tp.specs.Receiver as receiver
use Rattle.j39_tp.specs.Receiver.{is_open_at}
use Rattle.j39_tp.specs.Sender as sender
use Rattle.j39_tp.specs.declared.packet.Packet.{Packet}
use Rattle.j39_tp.specs.declared.receiving.manner.Manner.TheVariants.{Answering}
use Rattle.j39_tp.specs.declared.sending.stage.Stage.{Stage}
use Rattle.j39_tp.proofs.Answering.{IsAnswer, timed_out_aside}
use Rattle.j39_claim.specs.declared.item.Item.{Item}
use Rattle.j39_claim.specs.ClaimRule.{off, started}
use Rattle.j39_network.specs.declared.plan.Plan.{Plan}
use Rattle.j39_network.specs.declared.plan.to.To.{To}
use Rattle.j39_network.specs.declared.plan.to.To.TheVariants.{All, One}
use Rattle.j39_network.specs.declared.steps.Step.{Step}
use Rattle.j39_network.specs.declared.steps.Step.TheVariants.{Up, Down, Give, Ask, Begin, Send, Emit, Take, Lose, LateSender, LateReceiver, Rest}
use Rattle.j39_world.proofs.Refusals.{none_hold}
use Rattle.j39_world.specs.declared.flow.Flow.{Flow}
use Rattle.j39_world.specs.declared.wired.Wired.{Wired}
use Rattle.j39_world.specs.declared.wired.Wired.TheVariants as wired
use Rattle.j39_world.specs.ClaimSteps.{GivenFrom, without_lists_to}
use Rattle.j39_world.specs.SwitchingOff.{sessions_without}
use Rattle.j39_world.specs.Flows.{flows_of, windows_of, window_at, dest_of, is_short}
use Rattle.j39_network.specs.PlannedUnits.{units_of, unit_at}
use Rattle.j39_world.specs.Resting.{is_of_sender, is_of_receiver, is_over_with, can_rest}
use Rattle.j39_world.specs.Run.{count_of, is_on, at_ends, begin_refusal, begin_refusals, send_refusal, send_refusals, refusal, StepsTo}
use Rattle.j39_world.specs.Run.{is_a_transfer_open, is_none_sending, is_no_transfer_open, is_nothing_undelivered}
use Rattle.j39_world.specs.SoundPlan.{Always}
use Rattle.j39_world.specs.Transfers.{Outgoing, Reported, Sessions, is_among, added, outcome_in}
use Rattle.j39_world.specs.TransferSteps.{targets_of, outgoing, first_item, begins, BeginsAt, SendsAt, sends_alone, sent_to_receivers, session_after}
use Rattle.j39_world.specs.TransferSteps.{reaction_of}
use Rattle.j39_world.specs.TransferSteps.{receiver_replies}
use Rattle.j39_world.specs.TransferSteps.{sender_replies, hearing, packet_taken, TakenFrom, LostFrom, packets_in, receiver_timed_out, rested}
use Rattle.j39_world.specs.World.{World, Stations, Undelivered, changed, changed_pair, is_other_on}
use Rattle.j39_run_laws.proofs.Reports.Exchanges.{pair_of}
use Rattle.j39_run_laws.proofs.Reports.ExchangeSteps.{asides_answer}
use Rattle.j39_run_laws.proofs.Reports.Hearings.{packets_aside}
use Rattle.j39_run_laws.proofs.Reports.Orderly.{PlannedAt, delivered_at, none_sends, none_sends_while, nothing_between}
use Rattle.j39_run_laws.proofs.Reports.SenderSteps.{among_filtered, among_one, no_session, begin_keeps, send_keeps}
use Rattle.j39_run_laws.proofs.Reports.SoundReports.{AreUntaken, at_first, steps_keep}
use Rattle.j39_run_laws.proofs.Reports.TransferInvariant.{TransferInvariant}
use Rattle.j39_run_laws.proofs.Runs.Always.{IsPreserved, always}
use Rattle.j39_run_laws.proofs.Runs.Changed.{changed_here, changed_each}
use Rattle.j39_run_laws.proofs.Runs.Conditions.{is_unit, none_refuses}
use Rattle.j39_run_laws.proofs.Runs.Elements.{all-append, all_tested, all_weaker}
use Rattle.j39_run_laws.proofs.Runs.SwitchedOff.{lists_left, nothing_dropped, sessions_each, unless_live}
use Rattle.j39_run_laws.proofs.Runs.Units.{units_all}
use Rattle.j39_run_laws.proofs.Runs.WiredItems.{AreAll, all_added, all_dropped, all_less, all_more}
use Rattle.j39_run_laws.proofs.Addresses.Notes.{reacts_on}
use Rattle.j39_run_laws.proofs.Transfers.Accounted.{AreOnStill, IsSettledFor, AreSettledFor, accounted_left, ends_left, ends_still, on_still, settled_left}
use Rattle.j39_run_laws.proofs.Transfers.Accounted.{SendsTo, IsAccounted, AreAccounted, AreEndsOn, AllAccounted, SendMore, send_more, still_accounted}
use Rattle.j39_run_laws.proofs.Transfers.Accounted.{after_sends}
use Rattle.j39_run_laws.proofs.Transfers.Accounted.{open_is_sent, replying, announced_to, answers_accounted, reacted_accounted, data_of_sender}
use Rattle.j39_run_laws.proofs.Transfers.Accounted.{timeout_of_sender, announcement_of_sender, rested_accounted}
use Rattle.j39_run_laws.proofs.Transfers.FitSteps.{receiver_answers}

-- what holds of messages, and that all is accounted for
pub record IsKept (plan : Plan) (w : World) : Type 0 where
  pub transfers : TransferInvariant plan w
  pub accounted : AllAccounted plan w

first_item_of_sender : (flow : Flow) (bytes : List ℕ) → is_of_sender (first_item flow bytes) ≡ true
first_item_of_sender flow bytes =
    cond_both (is_short (length bytes)) (wired.Short bytes) (wired.Packet (sender.announcement (dest_of flow.to) flow.pgn (length bytes)))
    (λ (item : Wired). is_of_sender item ≡ true) (λ _. refl) (λ _. announcement_of_sender (dest_of flow.to) flow.pgn (length bytes))

-- what a message begins with isn't sent alone
first_item_settled : (live : Bool) (stations : Stations) (claims : Undelivered) (s t : ℕ) (flow : Flow) (bytes : List ℕ)
    → IsSettledFor live stations claims s t (first_item flow bytes)
first_item_settled live stations claims s t flow bytes =
    cond_both (is_short (length bytes)) (wired.Short bytes) (wired.Packet (sender.announcement (dest_of flow.to) flow.pgn (length bytes)))
    (IsSettledFor live stations claims s t) (λ _. tt) (λ _. tt)

packets_settled : (live : Bool) (stations : Stations) (claims : Undelivered) (s t : ℕ) (ps : List Packet)
    → AllByRecursion (IsSettledFor live stations claims s t) (map wired.Packet ps)
packets_settled live stations claims s t [] = tt
packets_settled live stations claims s t (p ∷ ps) = (tt, packets_settled live stations claims s t ps)

begin_ends : (stations : Stations) (count u : ℕ) (to : To) → at_ends (is_on stations) u to ≡ true
    → ((stations u).on ≡ true) × ((v : ℕ) → is_among (targets_of count stations u to) v ≡ true → (stations v).on ≡ true)
begin_ends stations count u All on = (
  on,
  λ v among. (and_parts (stations v).on (not (eqb v u)) (among_filtered (is_other_on stations u) (range_with_len 0 count) v among)).0,
)
begin_ends stations count u (One x) on =
    let ends = and_parts (is_on stations u) (is_on stations x) on in
    (ends.0, λ v among. subst (λ k. (stations k).on ≡ true) (sym (among_one x v among)) ends.1)

ends_after : (stations : Stations) (v u : ℕ) (p : Packet) (o : Option Outgoing) → AreEndsOn stations v o → AreEndsOn stations v (session_after o u p)
ends_after stations v u p None on = on
ends_after stations v u p (Some s) on = on

module _ (plan : Plan) (w : World) (inv : TransferInvariant plan w) (old : AllAccounted plan w) where
  -- ---- lists that change

  less : (u v : ℕ) (item : Wired) (rest : List Wired) → w.wire u v ≡ item ∷ rest → AreAccounted w.sessions (changed_pair w.wire u v rest)
  less = all_less (IsAccounted w.sessions) w.wire old.wire

  -- u sends an item to those that its message goes to
  sent : (u : ℕ) (o : Outgoing) (item : Wired) → ((y : ℕ) → SendsTo (w.sessions u) y → SendsTo (Some o) y) → is_of_sender item ≡ true
      → AreAccounted (changed w.sessions u (Some o)) (added w.wire u o.targets item)
  sent u o item sends of =
      let now : Sessions = changed w.sessions u (Some o) in
      all_added (IsAccounted now) w.wire
      (λ s t. still_accounted w.sessions now (send_more w.sessions u (Some o) sends) s t (w.wire s t) (old.wire s t)) u o.targets item
      (λ t among. inl (of, subst (λ (x : Option Outgoing). SendsTo x t) (sym (changed_here w.sessions u (Some o))) among))

  -- ---- lists that change, and what lies there that was sent alone

  abbrev HereSettled : ℕ → ℕ → Wired → Type 0
  HereSettled = IsSettledFor plan.live w.stations w.claims

  less_settled : (u v : ℕ) (item : Wired) (rest : List Wired) → w.wire u v ≡ item ∷ rest → AreAll HereSettled (changed_pair w.wire u v rest)
  less_settled = all_less HereSettled w.wire old.alone

  -- ---- between whom something lies

  ends_on : (s t : ℕ) → SendsTo (w.sessions s) t → ((w.stations s).on ≡ true) × ((w.stations t).on ≡ true)
  ends_on s t sends = of_session (w.sessions s) (old.ends s) sends
    where
      of_session : (o : Option Outgoing) → AreEndsOn w.stations s o → SendsTo o t → ((w.stations s).on ≡ true) × ((w.stations t).on ≡ true)
      of_session None on to = absurd to
      of_session (Some m) on to = (on.0, on.1 t to)

  -- both are on
  pub lies_on : (s t : ℕ) (item : Wired) → IsAccounted w.sessions s t item → IsSettledFor plan.live w.stations w.claims s t item
      → ((w.stations s).on ≡ true) × ((w.stations t).on ≡ true)
  lies_on s t item (inl here) settled = ends_on s t here.1
  lies_on s t item (inr (inl there)) settled = let on = ends_on t s there.1 in (on.1, on.0)
  lies_on s t (wired.Alone f bytes) (inr (inr alone)) settled = (settled.0, settled.1)
  lies_on s t (wired.Short bytes) (inr (inr alone)) settled = absurd (cc alone)
  lies_on s t (wired.Packet p) (inr (inr alone)) settled = absurd (cc alone)

  pub untaken : AreUntaken w
  untaken s t off_is = of_list (w.wire s t) refl
    where
      of_list : (list : List Wired) → w.wire s t ≡ list → w.wire s t ≡ []
      of_list [] is = is
      of_list (item ∷ rest) is =
          let on = lies_on s t item (subst (AllByRecursion (IsAccounted w.sessions s t)) is (old.wire s t)).0
          (subst (AllByRecursion (IsSettledFor plan.live w.stations w.claims s t)) is (old.alone s t)).0 in
          absurd (true≢false (sym on.1 ∙ off_is))

  -- so nothing is dropped where a unit is switched on
  pub wire_same : (x : ℕ) → (w.stations x).on ≡ false → without_lists_to x w.wire ≡ w.wire
  wire_same x off_is =
      let same : w.wire ≡ without_lists_to x w.wire = λ i s t. nothing_dropped w.wire x (λ y. untaken y x off_is) s t i in sym same

  -- ---- units that are switched on, send or hear claims

  none_open : (not plan.live && is_a_transfer_open (count_of plan) w) ≡ false → plan.live ≡ false → is_no_transfer_open (count_of plan) w ≡ true
  none_open idle quiet = not-false _ (unless_live plan.live (is_a_transfer_open (count_of plan) w) quiet idle)

  -- where a plan that isn't live refuses no step for what is open nothing of a message is undelivered
  pub none_lies : (not plan.live && is_a_transfer_open (count_of plan) w) ≡ false → plan.live ≡ false → (s t : ℕ) → w.wire s t ≡ []
  none_lies idle quiet s t = of_list (w.wire s t) refl
    where
      parts : (is_none_sending (count_of plan) w ≡ true) × (is_nothing_undelivered (count_of plan) w.wire ≡ true)
      parts = and_parts (is_none_sending (count_of plan) w) (is_nothing_undelivered (count_of plan) w.wire) (none_open idle quiet)

      of_list : (list : List Wired) → w.wire s t ≡ list → w.wire s t ≡ []
      of_list [] is = is
      of_list (item ∷ rest) is =
          let on = lies_on s t item (subst (AllByRecursion (IsAccounted w.sessions s t)) is (old.wire s t)).0
          (subst (AllByRecursion (IsSettledFor plan.live w.stations w.claims s t)) is (old.alone s t)).0 in
          nothing_between plan w.wire parts.1 s t (inv.order.units s on.0) (inv.order.units t on.1)

  -- what lies, where no unit goes off
  module _ (stations : Stations) (still : AreOnStill w.stations stations) (claims : Undelivered) where
    abbrev SettledThen : Type 0
    SettledThen = AreSettledFor plan.live stations claims w.wire

    settled_still : (plan.live ≡ false → SettledThen) → SettledThen
    settled_still unless s t = elim (cases_Bool plan.live) [
      | inl live ↦ all_weaker (IsSettledFor plan.live w.stations w.claims s t) (IsSettledFor plan.live stations claims s t) (of_item live) (w.wire s t)
          (old.alone s t)
      | inr quiet ↦ unless quiet s t
    ]
      where
        of_item : plan.live ≡ true → (item : Wired) → IsSettledFor plan.live w.stations w.claims s t item → IsSettledFor plan.live stations claims s t item
        of_item live (wired.Alone f bytes) settled = (still s settled.0, still t settled.1, λ quiet. absurd (true≢false (sym live ∙ quiet)))
        of_item live (wired.Short bytes) settled = tt
        of_item live (wired.Packet p) settled = tt

    -- where a plan that isn't live refuses no step for what is open
    idle_settled : (not plan.live && is_a_transfer_open (count_of plan) w) ≡ false → SettledThen
    idle_settled idle = settled_still (λ quiet s t. subst (AllByRecursion (IsSettledFor plan.live stations claims s t)) (sym (none_lies idle quiet s t)) tt)

    -- of such a plan none lies while a claim is undelivered
    given_settled : (u v : ℕ) → ltb 0 (length (w.claims u v)) ≡ true → SettledThen
    given_settled u v some = settled_still (λ quiet s t.
        all_weaker (IsSettledFor plan.live w.stations w.claims s t) (IsSettledFor plan.live stations claims s t) (of_item quiet s t) (w.wire s t)
        (old.alone s t))
      where
        never : w.claims u v ≡ [] → ⊥
        never empty = (let none : ltb 0 (length {A = Item} []) ≡ true = subst (λ (items : List Item). ltb 0 (length items) ≡ true) empty some in cc none)

        of_item : plan.live ≡ false → (s t : ℕ) (item : Wired) → IsSettledFor plan.live w.stations w.claims s t item
            → IsSettledFor plan.live stations claims s t item
        of_item quiet s t (wired.Alone f bytes) settled = absurd (never (settled.2 quiet u v))
        of_item quiet s t (wired.Short bytes) settled = tt
        of_item quiet s t (wired.Packet p) settled = tt

    ends_then : (u : ℕ) → AreEndsOn stations u (w.sessions u)
    ends_then u = ends_still w.stations stations still u (w.sessions u) (old.ends u)

  give_accounted : (u v : ℕ) → ltb 0 (length (w.claims u v)) ≡ true → (list : List Item) (new : World) → GivenFrom (units_of plan) w u v list new
      → AllAccounted plan new
  give_accounted u v some [] new never = absurd never
  give_accounted u v some (item ∷ rest) new (says, s, reacts, e) =
      let stations : Stations = changed w.stations v s in
      let still : AreOnStill w.stations stations =
      on_still w.stations v s (λ on. reacts_on (unit_at (units_of plan) v) (w.stations v) (unit_at (units_of plan) u).name item says s reacts ∙ on) in
      subst (AllAccounted plan) (sym e) (record {
        wire = old.wire;
        alone = given_settled stations still _ u v some;
        ends = ends_then stations still w.claims;
      })

  -- ---- a sender begins, goes on, or hears nothing in time

  begin_accounted : (f : ℕ) (o : Option Flow) (bytes : List ℕ) → begin_refusal plan.live (count_of plan) w o bytes ≡ None → (new : World)
      → BeginsAt (count_of plan) w f o bytes new → AllAccounted plan new
  begin_accounted f None bytes allowed new never = absurd never
  begin_accounted f (Some flow) bytes allowed new e =
      let (sendable, (on, (stated, (addressed, (free, rest))))) = none_hold (begin_refusals plan.live (count_of plan) w (Some flow) bytes) allowed in
      let o : Outgoing = outgoing (count_of plan) w.stations f flow bytes in
      let idle : w.sessions flow.sender ≡ None = no_session (w.sessions flow.sender) free in
      subst (AllAccounted plan) (sym e) (record {
        wire = sent flow.sender o (first_item flow bytes) (λ y sends. absurd (subst (λ (x : Option Outgoing). SendsTo x y) idle sends))
            (first_item_of_sender flow bytes);
        alone = all_added HereSettled w.wire old.alone flow.sender o.targets (first_item flow bytes)
            (λ t _. first_item_settled plan.live w.stations w.claims flow.sender t flow bytes);
        ends = changed_each (AreEndsOn w.stations) w.sessions flow.sender (Some o)
            (begin_ends w.stations (count_of plan) flow.sender flow.to (not-false _ on)) old.ends;
      })

  -- a frame is sent alone, of a plan that isn't live while no claim is undelivered
  send_accounted : (f : ℕ) (o : Option Flow) (bytes : List ℕ) → send_refusal plan.live (count_of plan) w o bytes ≡ None → (new : World)
      → SendsAt (count_of plan) w f o bytes new → AllAccounted plan new
  send_accounted f None bytes allowed new never = absurd never
  send_accounted f (Some flow) bytes allowed new e =
      let (sendable, (on, (stated, (addressed, (free, rest))))) = none_hold (send_refusals plan.live (count_of plan) w (Some flow) bytes) allowed in
      let targets : List ℕ = targets_of (count_of plan) w.stations flow.sender flow.to in
      let item : Wired = wired.Alone f bytes in
      let ends = begin_ends w.stations (count_of plan) flow.sender flow.to (not-false _ on) in
      let delivered = delivered_at plan w.stations w.claims w.sessions inv.order stated in
      subst (AllAccounted plan) (sym e) (record {
        wire = all_added (IsAccounted w.sessions) w.wire old.wire flow.sender targets item (λ t _. inr (inr refl));
        alone = all_added HereSettled w.wire old.alone flow.sender targets item (λ t among. (ends.0, ends.1 t among, delivered));
        ends = old.ends;
      })

  sends_accounted : (u : ℕ) (s : Outgoing) (stage : Stage) (p : Packet) → w.sessions u ≡ Some s → is_of_sender (wired.Packet p) ≡ true
      → AllAccounted plan (record (sent_to_receivers w u s p) { sessions = changed w.sessions u (Some (record s { stage = stage })) })
  sends_accounted u s stage p is of = record {
    wire = sent u (record s { stage = stage }) (wired.Packet p) (λ y sends. subst (λ (x : Option Outgoing). SendsTo x y) is sends) of;
    alone = all_added HereSettled w.wire old.alone u s.targets (wired.Packet p) (λ t _. tt);
    ends = changed_each (AreEndsOn w.stations) w.sessions u (Some (record s { stage = stage })) (subst (AreEndsOn w.stations u) is (old.ends u)) old.ends;
  }

  -- ---- something is taken or lost, or a receiver hears nothing in time

  pub sent_where_open : (u v : ℕ) → is_open_at (w.receivers v u) ≡ true → SendsTo (w.sessions u) v
  sent_where_open u v is = open_is_sent (w.sessions u) v (pair_of w u v) (inv.exchanges u v) is

  packet_accounted : (windows : List ℕ) (u v : ℕ) (p : Packet) (rest : List Wired) (reports : List Reported) → w.wire u v ≡ wired.Packet p ∷ rest
      → AllAccounted plan (packet_taken windows w u v rest p reports)
  packet_accounted windows u v p rest reports is =
      let then : Option Outgoing = session_after (w.sessions v) u p in
      let now : Sessions = changed w.sessions v then in
      let keeps : SendMore w.sessions now = send_more w.sessions v then (after_sends (w.sessions v) u p) in
      let replies : List Packet = receiver_replies (hearing windows w u v p).1 in
      let reacted : List Packet = sender_replies (reaction_of (w.sessions v) u p) in
      let head : IsAccounted w.sessions u v (wired.Packet p) = (subst (AllByRecursion (IsAccounted w.sessions u v)) is (old.wire u v)).0 in
      let answers : AllByRecursion IsAnswer replies = receiver_answers (window_at windows v) (w.receivers v u) p in
      let answered : AllByRecursion (IsAccounted now v u) (map wired.Packet replies) =
      elim (replying (window_at windows v) (w.receivers v u) p) [
        | inl none ↦ subst (λ (ps : List Packet). AllByRecursion (IsAccounted now v u) (map wired.Packet ps)) (sym none) tt
        | inr (inl open_is) ↦ answers_accounted now v u (keeps u v (sent_where_open u v open_is)) replies answers
        | inr (inr announces) ↦ answers_accounted now v u (keeps u v (announced_to w.sessions u v p announces head)) replies answers
      ] in
      let also = reacted_accounted now v u (w.sessions v) p (keeps v) in
      let all : AllByRecursion (IsAccounted now v u) (map wired.Packet (replies ++ reacted)) =
      subst (AllByRecursion (IsAccounted now v u)) (sym (map-append wired.Packet replies reacted))
      (all-append (IsAccounted now v u) (map wired.Packet replies) _ answered also) in
      record {
        wire = all_more (IsAccounted now) (changed_pair w.wire u v rest)
            (λ s t. still_accounted w.sessions now keeps s t (changed_pair w.wire u v rest s t) (less u v (wired.Packet p) rest is s t)) v u
            (map wired.Packet (replies ++ reacted)) all;
        alone = all_more HereSettled (changed_pair w.wire u v rest) (less_settled u v (wired.Packet p) rest is) v u (map wired.Packet (replies ++ reacted))
            (packets_settled plan.live w.stations w.claims v u (replies ++ reacted));
        ends = changed_each (AreEndsOn w.stations) w.sessions v then (ends_after w.stations v u p (w.sessions v) (old.ends v)) old.ends;
      }

  take_accounted : (windows : List ℕ) (u v : ℕ) (list : List Wired) → w.wire u v ≡ list → (new : World) → TakenFrom windows w u v list new
      → AllAccounted plan new
  take_accounted windows u v [] is new never = absurd never
  take_accounted windows u v (wired.Short bytes ∷ rest) is new e =
      subst (AllAccounted plan) (sym e) (record {
        wire = less u v (wired.Short bytes) rest is;
        alone = less_settled u v
            (wired.Short bytes) rest is;
        ends = old.ends;
      })
  take_accounted windows u v (wired.Packet p ∷ rest) is new (reports, reported, e) = subst (AllAccounted plan) (sym e)
      (packet_accounted windows u v p rest reports is)
  take_accounted windows u v (wired.Alone f bytes ∷ rest) is new e =
      subst (AllAccounted plan) (sym e) (record {
        wire = less u v (wired.Alone f bytes) rest is;
        alone = less_settled u v
            (wired.Alone f bytes) rest is;
        ends = old.ends;
      })

  lose_accounted : (u v : ℕ) (list : List Wired) → w.wire u v ≡ list → (new : World) → LostFrom w u v list new → AllAccounted plan new
  lose_accounted u v [] is new never = absurd never
  lose_accounted u v (item ∷ rest) is new e = subst (AllAccounted plan) (sym e)
      (record { wire = less u v item rest is; alone = less_settled u v item rest is; ends = old.ends })

  late_receiver_accounted : (windows : List ℕ) (u v : ℕ) → is_open_at (w.receivers v u) ≡ true → AllAccounted plan (receiver_timed_out windows w u v)
  late_receiver_accounted windows u v is =
      let sends : List Packet = packets_in (receiver.timed_out (Answering (window_at windows v)) (w.receivers v u)).1 in
      let answers : AllByRecursion IsAnswer sends =
      asides_answer sends (packets_aside (receiver.timed_out (Answering (window_at windows v)) (w.receivers v u)).1
      (timed_out_aside (window_at windows v) (w.receivers v u))) in
      record {
        wire = all_more (IsAccounted w.sessions) w.wire old.wire v u (map wired.Packet sends)
            (answers_accounted w.sessions v u (sent_where_open u v is) sends answers);
        alone = all_more HereSettled w.wire old.alone v u (map wired.Packet sends) (packets_settled plan.live w.stations w.claims v u sends);
        ends = old.ends;
      }

  -- ---- a sender rests

  planned_unit : (u t : ℕ) (o : Option Outgoing) → PlannedAt plan u o → SendsTo o t → is_unit plan t ≡ true
  planned_unit u t None planned sends = absurd sends
  planned_unit u t (Some s) planned sends = (planned.others t sends).0

  pub sent_unit : (u t : ℕ) → SendsTo (w.sessions u) t → is_unit plan t ≡ true
  sent_unit u t sends = planned_unit u t (w.sessions u) (inv.order.planned u) sends

  pub over_with : (u : ℕ) → can_rest (count_of plan) w u ≡ true → (t : ℕ) → SendsTo (w.sessions u) t
      → AllByRecursion (λ item. not (is_of_sender item) ≡ true) (w.wire u t) × AllByRecursion (λ item. not (is_of_receiver item) ≡ true) (w.wire t u)
      × (is_open_at (w.receivers t u) ≡ false)
  over_with u can t sends =
      let parts = and_parts (is_some (outcome_in (w.sessions u))) (list_all (is_over_with w u) (range_with_len 0 (count_of plan))) can in
      let over = units_all plan (is_over_with w u) parts.1 t (sent_unit u t sends) in
      let wires = and_parts (not (is_open_at (w.receivers t u)))
      (list_all (λ item. not (is_of_sender item)) (w.wire u t) && list_all (λ item. not (is_of_receiver item)) (w.wire t u)) over in
      let both = and_parts (list_all (λ item. not (is_of_sender item)) (w.wire u t)) (list_all (λ item. not (is_of_receiver item)) (w.wire t u)) wires.1 in (
        all_tested (λ item. not (is_of_sender item)) (λ item. not (is_of_sender item) ≡ true) (λ item is. is) (w.wire u t) both.0,
        all_tested (λ item. not (is_of_receiver item)) (λ item. not (is_of_receiver item) ≡ true) (λ item is. is) (w.wire t u) both.1,
        not-true (is_open_at (w.receivers t u)) wires.0,
      )

  rest_accounted : (u : ℕ) → can_rest (count_of plan) w u ≡ true → AllAccounted plan (rested w u)
  rest_accounted u can = record {
    wire = λ s t. rested_accounted w.sessions u s t (w.wire s t) (old.wire s t)
        (λ same sends. subst (λ k. AllByRecursion (λ item. not (is_of_sender item) ≡ true) (w.wire k t)) (sym same) (over_with u can t sends).0)
        (λ same sends. subst (λ k. AllByRecursion (λ item. not (is_of_receiver item) ≡ true) (w.wire s k)) (sym same) (over_with u can s sends).1);
    alone = old.alone;
    ends = changed_each (AreEndsOn w.stations) w.sessions u None tt old.ends;
  }

  -- ---- each step

  accounted_keeps : (step : Step) → refusal plan w step ≡ None → (new : World) → StepsTo plan w step new → AllAccounted plan new
  accounted_keeps (Up u) allowed new e =
      let (known, (off_is, (idle, none))) = none_refuses plan w (Up u) allowed in
      let stations : Stations = changed w.stations u (started (unit_at (units_of plan) u)) in
      let still : AreOnStill w.stations stations = on_still w.stations u (started (unit_at (units_of plan) u)) (λ _. refl) in
      subst (AllAccounted plan) (sym e) (record {
        wire = all_dropped (IsAccounted w.sessions) w.wire old.wire u;
        alone = all_dropped (IsSettledFor plan.live stations _) w.wire (idle_settled stations still _ idle) u;
        ends = ends_then stations still w.claims;
      })
  accounted_keeps (Down u) allowed new e =
      subst (AllAccounted plan) (sym e) (record {
        wire = lists_left u (IsAccounted (sessions_without u w.sessions)) w.wire
            (λ s t other_s other_t. all_weaker (IsAccounted w.sessions s t) (IsAccounted (sessions_without u w.sessions) s t)
            (accounted_left w.sessions u s t other_s other_t) (w.wire s t) (old.wire s t));
        alone = lists_left u (IsSettledFor plan.live (changed w.stations u off) (without_lists_to u w.claims)) w.wire
            (λ s t other_s other_t. all_weaker (IsSettledFor plan.live w.stations w.claims s t)
            (IsSettledFor plan.live (changed w.stations u off) (without_lists_to u w.claims) s t)
            (settled_left plan.live w.stations w.claims u s t other_s other_t) (w.wire s t) (old.alone s t));
        ends = sessions_each u (AreEndsOn (changed w.stations u off)) w.sessions tt (λ x other. ends_left w.stations u x (w.sessions x) other (old.ends x));
      })
  accounted_keeps (Give u v) allowed new leads =
      let (known, (on, (some, none))) = none_refuses plan w (Give u v) allowed in give_accounted u v (not-false _ some) (w.claims u v) new leads
  accounted_keeps (Ask u) allowed new e =
      let (known, (on, (idle, none))) = none_refuses plan w (Ask u) allowed in
      subst (AllAccounted plan) (sym e) (record {
        wire = old.wire;
        alone = idle_settled w.stations (λ x is. is) _ idle;
        ends = old.ends;
      })
  accounted_keeps (Begin f bytes) allowed new leads = begin_accounted f (slice_get (flows_of plan) f) bytes.items allowed new leads
  accounted_keeps (Send f bytes) allowed new leads = send_accounted f (slice_get (flows_of plan) f) bytes.items allowed new leads
  accounted_keeps (Emit u) allowed new (s, p, session, next, e) =
      subst (AllAccounted plan) (sym e) (sends_accounted u s (sender.after_packet (dest_of s.to) s.stage) p session (data_of_sender s.bytes s.stage p next))
  accounted_keeps (Take u v) allowed new leads = take_accounted (windows_of plan) u v (w.wire u v) refl new leads
  accounted_keeps (Lose u v) allowed new leads = lose_accounted u v (w.wire u v) refl new leads
  accounted_keeps (LateSender u) allowed new (s, p, session, packet, e) =
      subst (AllAccounted plan) (sym e) (sends_accounted u s (sender.after_timeout s.stage) p session (timeout_of_sender s.pgn s.stage p packet))
  accounted_keeps (LateReceiver u v) allowed new e =
      let (known, (on, (hears, none))) = none_refuses plan w (LateReceiver u v) allowed in
      subst (AllAccounted plan) (sym e) (late_receiver_accounted (windows_of plan) u v (not-false _ hears))
  accounted_keeps (Rest u) allowed new e =
      let (known, (on, (over, none))) = none_refuses plan w (Rest u) allowed in subst (AllAccounted plan) (sym e) (rest_accounted u (not-false _ over))

pub keeps : (plan : Plan) → IsPreserved plan (IsKept plan)
keeps plan w old step allowed new leads = record {
  transfers = steps_keep plan w old.transfers (untaken plan w old.transfers old.accounted) step allowed new leads;
  accounted = accounted_keeps plan w old.transfers old.accounted step allowed new leads;
}

pub all_kept : (plan : Plan) → Always plan (IsKept plan)
all_kept plan =
    always plan (IsKept plan) (record { transfers = at_first plan; accounted = record { wire = λ s t. tt; alone = λ s t. tt; ends = λ u. tt } }) (keeps plan)

-- a message that is begun
pub begin_kept : (plan : Plan) (w : World) → IsKept plan w → (f : ℕ) (flow : Flow) (bytes : List ℕ)
    → begin_refusal plan.live (count_of plan) w (Some flow) bytes ≡ None
    → IsKept plan (begins (count_of plan) w f flow bytes)
begin_kept plan w kept f flow bytes allowed = record {
  transfers = begin_keeps plan w kept.transfers f (Some flow) bytes allowed (begins (count_of plan) w f flow bytes) refl;
  accounted = begin_accounted plan w kept.transfers kept.accounted f (Some flow) bytes allowed (begins (count_of plan) w f flow bytes) refl;
}

-- a frame that is sent alone
pub send_kept : (plan : Plan) (w : World) → IsKept plan w → (f : ℕ) (flow : Flow) (bytes : List ℕ)
    → send_refusal plan.live (count_of plan) w (Some flow) bytes ≡ None
    → IsKept plan (sends_alone (count_of plan) w f flow bytes)
send_kept plan w kept f flow bytes allowed = record {
  transfers = send_keeps plan w kept.transfers f (Some flow) bytes (sends_alone (count_of plan) w f flow bytes) refl;
  accounted = send_accounted plan w kept.transfers kept.accounted f (Some flow) bytes allowed (sends_alone (count_of plan) w f flow bytes) refl;
}

-- ---- while a message is sent

-- a unit is switched, or sends or hears claims
abbrev pub IsOfClaims : Step → Type 0
IsOfClaims (Up u) = Unit {0}
IsOfClaims (Down u) = Unit {0}
IsOfClaims (Give u v) = Unit {0}
IsOfClaims (Ask u) = Unit {0}
IsOfClaims _ = ⊥

-- none does, unless the plan is live
pub claims_refused : (plan : Plan) (w : World) → IsKept plan w → plan.live ≡ false → (u : ℕ) (o : Outgoing) → w.sessions u ≡ Some o → (step : Step)
    → IsOfClaims step → refusal plan w step ≡ None → ⊥
claims_refused plan w kept quiet u o session step of allowed = refused step of allowed
  where
    open_still : ((x : ℕ) → w.sessions x ≡ None) → ⊥
    open_still none = (let idle = none u in cc (idle, session))

    closed : (not plan.live && is_a_transfer_open (count_of plan) w) ≡ false → ⊥
    closed idle = open_still (none_sends plan w.stations w.claims w.sessions kept.transfers.order
        (units_all plan (λ v. not (is_some (w.sessions v)))
        (and_parts (is_none_sending (count_of plan) w) (is_nothing_undelivered (count_of plan) w.wire)
        (none_open plan w kept.transfers kept.accounted idle quiet)).0))

    refused : (s : Step) → IsOfClaims s → refusal plan w s ≡ None → ⊥
    refused (Up v) is none = (let (known, (off_is, (idle, rest))) = none_refuses plan w (Up v) none in closed idle)
    refused (Down v) is none = (let (known, (on, (idle, rest))) = none_refuses plan w (Down v) none in closed idle)
    refused (Ask v) is none = (let (known, (on, (idle, rest))) = none_refuses plan w (Ask v) none in closed idle)
    refused (Give x y) is none = (let (known, (on, (some, rest))) = none_refuses plan w (Give x y) none in
        open_still (none_sends_while plan w.stations w.claims w.sessions kept.transfers.order quiet x y (not-false _ some)))
    refused (Begin f bytes) is none = is
    refused (Send f bytes) is none = is
    refused (Emit v) is none = is
    refused (Take x y) is none = is
    refused (Lose x y) is none = is
    refused (LateSender v) is none = is
    refused (LateReceiver x y) is none = is
    refused (Rest v) is none = is
