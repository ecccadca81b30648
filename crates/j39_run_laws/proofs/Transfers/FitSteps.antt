-- In every world of every run what is on the wire fits, no message is longer than one can be, and each receiver has gathered what
-- it took.
use Rattle.std.proofs.Common.{◌≡◌, ℕ, zero, suc, ◌≤◌, nat_le, List, [], ◌∷◌, ◌++◌, length, refl, sym, subst, subst₂, arith, inl, inr, Option, Some}
use Rattle.std.proofs.Common.{None}
use Rattle.std.specs.Prelude.{map, slice_get}
use Rattle.std.specs.List.{AllByRecursion}
use Rattle.std.specs.Option.{option_map_or}
use Rattle.std.proofs.lemmas.Bool.{and_parts, cond_both, leb-false, leb-true, not-false}
use Rattle.j39_id.specs.Limits.{message_bytes}
use Rattle.j39_tp.specs.Receiver as receiver
use Rattle.j39_tp.specs.Sender as sender
use Rattle.j39_tp.specs.declared.packet.Packet.{Packet}
use Rattle.j39_tp.specs.declared.receiving.heard.Heard.{Heard}
use Rattle.j39_tp.specs.declared.receiving.manner.Manner.TheVariants.{Answering}
use Rattle.j39_tp.specs.declared.receiving.progress.Progress.{Progress}
use Rattle.j39_tp.specs.declared.receiving.progress.Progress.TheVariants.{Closed}
use Rattle.j39_tp.specs.declared.sending.stage.Stage.{Stage}
use Rattle.j39_tp.proofs.Answering.{IsAnswer, hears_stated, timed_out_aside}
use Rattle.j39_network.specs.declared.plan.Plan.{Plan}
use Rattle.j39_network.specs.declared.plan.flow_plan.FlowPlan.{FlowPlan}
use Rattle.j39_network.specs.declared.plan.group_plan.GroupPlan.{GroupPlan}
use Rattle.j39_network.specs.declared.steps.Step.TheVariants.{Up, Down, Give, Ask, Begin, Send, Emit, Take, Lose, LateSender, LateReceiver, Rest}
use Rattle.j39_world.proofs.Refusals.{none_hold}
use Rattle.j39_world.specs.declared.flow.Flow.{Flow}
use Rattle.j39_world.specs.declared.wired.Wired.{Wired}
use Rattle.j39_world.specs.declared.wired.Wired.TheVariants as wired
use Rattle.j39_claim.specs.declared.item.Item.{Item}
use Rattle.j39_world.specs.ClaimSteps.{GivenFrom, heard_and_answered, without_lists_to, switched_on, asked}
use Rattle.j39_world.specs.Flows.{flows_of, flow_of, windows_of, window_at, dest_of, is_short}
use Rattle.j39_network.specs.PlannedUnits.{units_of}
use Rattle.j39_world.specs.Run.{count_of, begin_refusal, begin_refusals}
use Rattle.j39_world.specs.SoundPlan.{Always}
use Rattle.j39_world.specs.Transfers.{Outgoing, Reported, Sessions, Wire, Receivers, added, closed_if_complete}
use Rattle.j39_world.specs.TransferSteps.{targets_of, outgoing, first_item, BeginsAt, SendsAt, session_after, reaction_of, receiver_replies, sender_replies}
use Rattle.j39_world.specs.TransferSteps.{hearing}
use Rattle.j39_world.specs.TransferSteps.{packet_taken, TakenFrom, LostFrom, packets_in, receiver_timed_out, sent_to_receivers}
use Rattle.j39_world.specs.SwitchingOff.{is_either, session_without, switched_off}
use Rattle.j39_world.specs.World.{World, all_off, changed, changed_pair}
use Rattle.j39_run_laws.proofs.Runs.Always.{IsPreserved, always}
use Rattle.j39_run_laws.proofs.Runs.Changed.{changed_each, pair_here, pair_elsewhere, pair_here_or_elsewhere, pair_each}
use Rattle.j39_run_laws.proofs.Runs.Elements.{all-append, all_map}
use Rattle.j39_run_laws.proofs.Runs.SwitchedOff.{lists_left, sessions_each}
use Rattle.j39_run_laws.proofs.Runs.WiredItems.{all_added, all_dropped, all_less, all_more}
use Rattle.j39_run_laws.proofs.Reports.ExchangeSteps.{asides_answer}
use Rattle.j39_run_laws.proofs.Reports.Hearings.{replies_aside, replies_answer, packets_aside, reaction_aside}
use Rattle.j39_run_laws.proofs.Transfers.Fitting.{IsFit, answer_fit, announcement_fit, data_fit, timeout_fit, IsWithin, hears_within, timed_out_within}
use Rattle.j39_run_laws.proofs.Transfers.Fitting.{closed_within}
use Rattle.j39_run_laws.proofs.Transfers.Fitting.{HasGathered, hears_gathered, timed_out_gathered, closed_gathered}

abbrev pub IsItemFit : Wired → Type 0
IsItemFit (wired.Short bytes) = Unit {0}
IsItemFit (wired.Packet p) = IsFit p
IsItemFit (wired.Alone f bytes) = Unit {0}

abbrev pub IsMessageFit : Option Outgoing → Type 0
IsMessageFit None = Unit {0}
IsMessageFit (Some s) = length s.bytes ≤ message_bytes

abbrev pub IsWireFit : Wire → Type 0
IsWireFit wire = (s t : ℕ) → AllByRecursion IsItemFit (wire s t)

pub record IsWorldFit (w : World) : Type 0 where
  pub wire : IsWireFit w.wire
  pub messages : (u : ℕ) → IsMessageFit (w.sessions u)
  pub within : (v u : ℕ) → IsWithin (w.receivers v u)
  pub gathered : (v u : ℕ) → HasGathered (w.taken v u) (w.receivers v u)

at_first : IsWorldFit all_off
at_first = record { wire = λ s t. tt; messages = λ u. tt; within = λ v u. tt; gathered = λ v u. ([], tt) }

-- ---- what a flow sends

flow_fits_in : (o : Option GroupPlan) → option_map_or (λ (g : GroupPlan). g.most) o 0 ≤ message_bytes
flow_fits_in None = omega arith
flow_fits_in (Some g) = g.most_range

flow_fits : (groups : List GroupPlan) (flows : List FlowPlan) (f : ℕ) (flow : Flow) → slice_get (map (flow_of groups) flows) f ≡ Some flow
    → flow.most ≤ message_bytes
flow_fits groups [] f flow is = absurd (cc is)
flow_fits groups (x ∷ flows) zero flow is =
    let same : flow_of groups x ≡ flow = cc is in subst (λ (y : Flow). y.most ≤ message_bytes) same (flow_fits_in (slice_get groups x.group))
flow_fits groups (x ∷ flows) (suc f) flow is = flow_fits groups flows f flow is

-- ---- packets

packets_fit : (ps : List Packet) → AllByRecursion IsAnswer ps → AllByRecursion IsItemFit (map wired.Packet ps)
packets_fit = all_map wired.Packet IsAnswer IsItemFit answer_fit

pub receiver_answers : (window : ℕ) (pr : Progress) (p : Packet) → AllByRecursion IsAnswer (receiver_replies (receiver.hears (Answering window) pr p).1)
receiver_answers window pr p =
    let h : Heard = (receiver.hears (Answering window) pr p).1 in
    elim (hears_stated window pr p) [
      | inl stated ↦ asides_answer (receiver_replies h) (replies_aside h stated)
      | inr stated ↦ replies_answer h stated.0
    ]

first_fits : (flow : Flow) (bytes : List ℕ) → length bytes ≤ message_bytes → IsItemFit (first_item flow bytes)
first_fits flow bytes most =
    cond_both (is_short (length bytes)) (wired.Short bytes) (wired.Packet (sender.announcement (dest_of flow.to) flow.pgn (length bytes))) IsItemFit
    (λ _. tt)
    (λ long. announcement_fit (dest_of flow.to) flow.pgn (length bytes) (let more = leb-false (length bytes) 8 long in record { above = more; within = most }))

-- ---- each step

module _ (plan : Plan) (w : World) (inv : IsWorldFit w) where
  sent_fits : (u : ℕ) (targets : List ℕ) (item : Wired) → IsItemFit item → IsWireFit (added w.wire u targets item)
  sent_fits u targets item fit = all_added (λ _ _. IsItemFit) w.wire inv.wire u targets item (λ _ _. fit)

  replied_fits : (wire : Wire) → IsWireFit wire → (v u : ℕ) (ps : List Packet) → AllByRecursion IsAnswer ps
      → IsWireFit (changed_pair wire v u (wire v u ++ map wired.Packet ps))
  replied_fits wire fit v u ps answers = all_more (λ _ _. IsItemFit) wire fit v u (map wired.Packet ps) (packets_fit ps answers)

  less_fits : (u v : ℕ) (item : Wired) (rest : List Wired) → w.wire u v ≡ item ∷ rest → IsWireFit (changed_pair w.wire u v rest)
  less_fits = all_less (λ _ _. IsItemFit) w.wire inv.wire

  pub begin_fits : (f : ℕ) (bytes : List ℕ) (o : Option Flow) → slice_get (flows_of plan) f ≡ o → begin_refusal plan.live (count_of plan) w o bytes ≡ None
      → (new : World)
      → BeginsAt (count_of plan) w f o bytes new → IsWorldFit new
  begin_fits f bytes None is allowed new never = absurd never
  begin_fits f bytes (Some flow) is allowed new e =
      let (sendable, (on, (stated, (addressed, (free, (long, rest)))))) = none_hold (begin_refusals plan.live (count_of plan) w (Some flow) bytes) allowed in
      let same : length bytes ≤ flow.most = leb-true (length bytes) flow.most (and_parts (nat_le flow.length (length bytes)) _ (not-false _ long)).1 in
      let within : flow.most ≤ message_bytes = flow_fits plan.groups.items plan.flows.items f flow is in
      let most : length bytes ≤ message_bytes = omega arith in
      let o : Outgoing = outgoing (count_of plan) w.stations f flow bytes in
      subst IsWorldFit (sym e) (record {
        wire = sent_fits flow.sender o.targets (first_item flow bytes) (first_fits flow bytes most);
        messages = changed_each (λ _ x. IsMessageFit x) w.sessions flow.sender (Some o) most inv.messages;
        within = inv.within;
        gathered = inv.gathered;
      })

  pub send_fits : (f : ℕ) (bytes : List ℕ) (o : Option Flow) (new : World) → SendsAt (count_of plan) w f o bytes new → IsWorldFit new
  send_fits f bytes None new never = absurd never
  send_fits f bytes (Some flow) new e = subst IsWorldFit (sym e) (record {
    wire = sent_fits flow.sender (targets_of (count_of plan) w.stations flow.sender flow.to) (wired.Alone f bytes) tt;
    messages = inv.messages;
    within = inv.within;
    gathered = inv.gathered;
  })

  sends_fit : (u : ℕ) (s : Outgoing) (stage : Stage) (p : Packet) → w.sessions u ≡ Some s → IsFit p
      → IsWorldFit (record (sent_to_receivers w u s p) { sessions = changed w.sessions u (Some (record s { stage = stage })) })
  sends_fit u s stage p is fit = record {
    wire = sent_fits u s.targets (wired.Packet p) fit;
    messages = changed_each (λ _ x. IsMessageFit x) w.sessions u (Some (record s { stage = stage })) (subst IsMessageFit is (inv.messages u)) inv.messages;
    within = inv.within;
    gathered = inv.gathered;
  }

  after_fits : (o : Option Outgoing) (u : ℕ) (p : Packet) → IsMessageFit o → IsMessageFit (session_after o u p)
  after_fits None u p fit = tt
  after_fits (Some s) u p fit = fit

  packet_fits : (windows : List ℕ) (u v : ℕ) (p : Packet) (rest : List Wired) (reports : List Reported) → w.wire u v ≡ wired.Packet p ∷ rest
      → IsWorldFit (packet_taken windows w u v rest p reports)
  packet_fits windows u v p rest reports is =
      let window : ℕ = window_at windows v in
      let fit : IsFit p = (subst (AllByRecursion IsItemFit) is (inv.wire u v)).0 in
      let heard : Progress × Heard = hearing windows w u v p in
      let reacted : List Packet = sender_replies (reaction_of (w.sessions v) u p) in
      record {
        wire = replied_fits (changed_pair w.wire u v rest) (less_fits u v (wired.Packet p) rest is) v u (receiver_replies heard.1 ++ reacted)
            (all-append IsAnswer (receiver_replies heard.1) reacted (receiver_answers window (w.receivers v u) p)
            (asides_answer reacted (reaction_aside (w.sessions v) u p)));
        messages =
            changed_each (λ _ x. IsMessageFit x) w.sessions v (session_after (w.sessions v) u p) (after_fits (w.sessions v) u p (inv.messages v)) inv.messages;
        within = pair_each (λ y x (pr : Progress). IsWithin pr) w.receivers v u (closed_if_complete heard.0)
            (closed_within heard.0 (hears_within window (w.receivers v u) p fit (inv.within v u))) inv.within;
        gathered = pair_here_or_elsewhere
            (λ y x. HasGathered (changed_pair w.taken v u (w.taken v u ++ p ∷ []) y x) (changed_pair w.receivers v u (closed_if_complete heard.0) y x)) v u
            (subst₂ HasGathered (sym (pair_here w.taken v u (w.taken v u ++ p ∷ []))) (sym (pair_here w.receivers v u (closed_if_complete heard.0)))
            (closed_gathered (w.taken v u ++ p ∷ []) heard.0 (hears_gathered (w.taken v u) window (w.receivers v u) p fit (inv.gathered v u))))
            (λ y x apart. subst₂ HasGathered (sym (pair_elsewhere w.taken v u (w.taken v u ++ p ∷ []) y x apart))
            (sym (pair_elsewhere w.receivers v u (closed_if_complete heard.0) y x apart)) (inv.gathered y x));
      }

  take_fits : (windows : List ℕ) (u v : ℕ) (list : List Wired) → w.wire u v ≡ list → (new : World) → TakenFrom windows w u v list new → IsWorldFit new
  take_fits windows u v [] is new never = absurd never
  take_fits windows u v (wired.Short bytes ∷ rest) is new e = subst IsWorldFit (sym e) (record {
    wire = less_fits u v (wired.Short bytes) rest is;
    messages = inv.messages;
    within = inv.within;
    gathered = inv.gathered;
  })
  take_fits windows u v (wired.Packet p ∷ rest) is new (reports, reported, e) = subst IsWorldFit (sym e) (packet_fits windows u v p rest reports is)
  take_fits windows u v (wired.Alone f bytes ∷ rest) is new e = subst IsWorldFit (sym e) (record {
    wire = less_fits u v (wired.Alone f bytes) rest is;
    messages = inv.messages;
    within = inv.within;
    gathered = inv.gathered;
  })

  lose_fits : (u v : ℕ) (list : List Wired) → w.wire u v ≡ list → (new : World) → LostFrom w u v list new → IsWorldFit new
  lose_fits u v [] is new never = absurd never
  lose_fits u v (item ∷ rest) is new e = subst IsWorldFit (sym e) (record {
    wire = less_fits u v item rest is;
    messages = inv.messages;
    within = inv.within;
    gathered = inv.gathered;
  })

  late_receiver_fits : (windows : List ℕ) (u v : ℕ) → IsWorldFit (receiver_timed_out windows w u v)
  late_receiver_fits windows u v =
      let window : ℕ = window_at windows v in
      let late : Progress × Option Packet = receiver.timed_out (Answering window) (w.receivers v u) in
      record {
        wire = replied_fits w.wire inv.wire v u (packets_in late.1)
            (asides_answer (packets_in late.1) (packets_aside late.1 (timed_out_aside window (w.receivers v u))));
        messages = inv.messages;
        within = pair_each (λ y x (pr : Progress). IsWithin pr) w.receivers v u (closed_if_complete late.0)
            (closed_within late.0 (timed_out_within window (w.receivers v u) (inv.within v u))) inv.within;
        gathered = pair_each (λ y x (pr : Progress). HasGathered (w.taken y x) pr) w.receivers v u (closed_if_complete late.0)
            (closed_gathered (w.taken v u) late.0 (timed_out_gathered (w.taken v u) window (w.receivers v u) (inv.gathered v u))) inv.gathered;
      }

  switched_fits : (u : ℕ) (new : World) → new.wire ≡ without_lists_to u w.wire → new.sessions ≡ w.sessions → new.receivers ≡ w.receivers → new.taken ≡ w.taken
      → IsWorldFit new
  switched_fits u new wire sessions receivers taken = record {
    wire = subst IsWireFit (sym wire) (all_dropped (λ _ _. IsItemFit) w.wire inv.wire u);
    messages = subst (λ (x : Sessions). (y : ℕ) → IsMessageFit (x y)) (sym sessions) inv.messages;
    within = subst (λ (x : Receivers). (y z : ℕ) → IsWithin (x y z)) (sym receivers) inv.within;
    gathered = λ v x. subst₂ (λ (h : ℕ → ℕ → List Packet) (r : Receivers). HasGathered (h v x) (r v x)) (sym taken) (sym receivers) (inv.gathered v x);
  }

  message_left : (u : ℕ) (o : Option Outgoing) → IsMessageFit o → IsMessageFit (session_without u o)
  message_left u None fit = tt
  message_left u (Some s) fit = fit

  off_fits : (u : ℕ) → IsWorldFit (switched_off w u)
  off_fits u = record {
    wire = lists_left u (λ _ _. IsItemFit) w.wire (λ s t _ _. inv.wire s t);
    messages = sessions_each u (λ _ x. IsMessageFit x) w.sessions tt (λ x _. message_left u (w.sessions x) (inv.messages x));
    within = λ v x. cond_both (is_either u v x) Closed (w.receivers v x) IsWithin (λ _. tt) (λ _. inv.within v x);
    gathered = λ v x. cond_both (is_either u v x) Closed (w.receivers v x) (HasGathered (w.taken v x)) (λ _. ([], tt)) (λ _. inv.gathered v x);
  }

  -- nothing of transfers is changed
  stated_fits : (new : World) → new.wire ≡ w.wire → new.sessions ≡ w.sessions → new.receivers ≡ w.receivers → new.taken ≡ w.taken → IsWorldFit new
  stated_fits new wire sessions receivers taken = record {
    wire = subst IsWireFit (sym wire) inv.wire;
    messages = subst (λ (x : Sessions). (y : ℕ) → IsMessageFit (x y)) (sym sessions) inv.messages;
    within = subst (λ (x : Receivers). (y z : ℕ) → IsWithin (x y z)) (sym receivers) inv.within;
    gathered = λ v x. subst₂ (λ (h : ℕ → ℕ → List Packet) (r : Receivers). HasGathered (h v x) (r v x)) (sym taken) (sym receivers) (inv.gathered v x);
  }

  give_fits : (u v : ℕ) (list : List Item) (new : World) → GivenFrom (units_of plan) w u v list new → IsWorldFit new
  give_fits u v [] new never = absurd never
  give_fits u v (item ∷ rest) new (says, s, answers, e) = subst IsWorldFit (sym e)
      (stated_fits (heard_and_answered (units_of plan) w u v rest says s) refl refl refl refl)

pub steps_fit : (plan : Plan) → IsPreserved plan IsWorldFit
steps_fit plan w inv (Up u) allowed new e = subst IsWorldFit (sym e) (switched_fits plan w inv u (switched_on (units_of plan) w u) refl refl refl refl)
steps_fit plan w inv (Down u) allowed new e = subst IsWorldFit (sym e) (off_fits plan w inv u)
steps_fit plan w inv (Give u v) allowed new leads = give_fits plan w inv u v (w.claims u v) new leads
steps_fit plan w inv (Ask u) allowed new e = subst IsWorldFit (sym e) (stated_fits plan w inv (asked (units_of plan) w u) refl refl refl refl)
steps_fit plan w inv (Begin f bytes) allowed new leads = begin_fits plan w inv f bytes.items (slice_get (flows_of plan) f) refl allowed new leads
steps_fit plan w inv (Send f bytes) allowed new leads = send_fits plan w inv f bytes.items (slice_get (flows_of plan) f) new leads
steps_fit plan w inv (Emit u) allowed new (s, p, session, next, e) =
    subst IsWorldFit (sym e) (sends_fit plan w inv u s (sender.after_packet (dest_of s.to) s.stage) p session (data_fit s.bytes s.stage p next))
steps_fit plan w inv (Take u v) allowed new leads = take_fits plan w inv (windows_of plan) u v (w.wire u v) refl new leads
steps_fit plan w inv (Lose u v) allowed new leads = lose_fits plan w inv u v (w.wire u v) refl new leads
steps_fit plan w inv (LateSender u) allowed new (s, p, session, packet, e) =
    subst IsWorldFit (sym e) (sends_fit plan w inv u s (sender.after_timeout s.stage) p session (timeout_fit s.pgn s.stage p packet))
steps_fit plan w inv (LateReceiver u v) allowed new e = subst IsWorldFit (sym e) (late_receiver_fits plan w inv (windows_of plan) u v)
steps_fit plan w inv (Rest u) allowed new e = subst IsWorldFit (sym e) (record {
  wire = inv.wire;
  messages = changed_each (λ _ x. IsMessageFit x) w.sessions u None tt inv.messages;
  within = inv.within;
  gathered = inv.gathered;
})

pub worlds_fit : (plan : Plan) → Always plan IsWorldFit
worlds_fit plan = always plan IsWorldFit at_first (steps_fit plan)
