-- A measure of what is left of all transfers that each of their steps lowers.
use Rattle.std.proofs.Common.{◌≡◌, ℕ, ◌+◌, ◌*◌, ◌<◌, ◌≤◌, true, false, ◌&&◌, eqb, List, [], ◌∷◌, ◌++◌, length, refl, sym, ap, subst, arith, Option, Some, None}
use Rattle.std.specs.Option.{is_some}
use Rattle.std.specs.List.{list_all, range_with_len}
use Rattle.std.specs.Prelude.{map}
use Rattle.std.proofs.lemmas.Bool.{and_parts, cond_both, ltb-true, ne_eqb, not-false}
use Rattle.j39_tp.specs.Receiver as receiver
use Rattle.j39_tp.specs.Receiver.{is_open_at}
use Rattle.j39_tp.specs.Sender as sender
use Rattle.j39_tp.specs.declared.packet.Packet.{Packet}
use Rattle.j39_tp.specs.declared.receiving.heard.Heard.{Heard}
use Rattle.j39_tp.specs.declared.receiving.manner.Manner.TheVariants.{Answering}
use Rattle.j39_tp.specs.declared.receiving.progress.Progress.{Progress}
use Rattle.j39_tp.specs.declared.sending.stage.Stage.{Stage}
use Rattle.j39_tp.specs.declared.sending.stage.Stage.TheVariants.{Sending, Waiting, Resting}
use Rattle.j39_network.specs.declared.plan.Plan.{Plan}
use Rattle.j39_network.specs.declared.steps.Step.{Step}
use Rattle.j39_network.specs.declared.steps.Step.TheVariants.{Up, Down, Give, Ask, Begin, Send, Emit, Take, Lose, LateSender, LateReceiver, Rest}
use Rattle.j39_world.specs.declared.wired.Wired.{Wired}
use Rattle.j39_world.specs.declared.wired.Wired.TheVariants as wired
use Rattle.j39_world.specs.Ending.{IsOfTransfers}
use Rattle.j39_world.specs.Flows.{windows_of, window_at, dest_of}
use Rattle.j39_world.specs.Resting.{is_over_with}
use Rattle.j39_world.specs.Run.{count_of, refusal, StepsTo}
use Rattle.j39_world.specs.Transfers.{Outgoing, Reported, Sessions, Wire, Receivers, is_among, added, closed_if_complete, outcome_in}
use Rattle.j39_world.specs.TransferSteps.{sent_to_receivers, outgoing_hears, session_after, reaction_of, receiver_replies, sender_replies, hearing}
use Rattle.j39_world.specs.TransferSteps.{packet_taken}
use Rattle.j39_world.specs.TransferSteps.{TakenFrom, LostFrom, packets_in, receiver_timed_out, rested}
use Rattle.j39_world.specs.World.{World, changed, changed_pair}
use Rattle.j39_run_laws.proofs.Runs.Conditions.{is_unit, none_refuses, units_known}
use Rattle.j39_run_laws.proofs.Settling.Totals.{total}
use Rattle.j39_run_laws.proofs.Transfers.FitSteps.{IsMessageFit, IsWorldFit}
use Rattle.j39_run_laws.proofs.Transfers.Pairs.{total_changed, pairs, pairs_changed, pairs_row}
use Rattle.j39_run_laws.proofs.Transfers.Weights.{receiver_weight, clearing, effect, item_weight, list_weight, packets_weight, stage_weight, session_weight}
use Rattle.j39_run_laws.proofs.Transfers.Weights.{weight_append, packets_append, hears_weight, timed_out_weight, ReactsUpTo, reacts_weight, emits_weight}
use Rattle.j39_run_laws.proofs.Transfers.Weights.{gives_up_weight, few_packets}

abbrev pub sessions_measure : ℕ → Sessions → ℕ
sessions_measure n sessions = total n (λ u. session_weight n (sessions u))

abbrev pub wire_measure : ℕ → Wire → ℕ
wire_measure n wire = pairs n (λ s t. list_weight n (wire s t))

abbrev pub receivers_measure : ℕ → Receivers → ℕ
receivers_measure n receivers = pairs n (λ v u. receiver_weight n (receivers v u))

unfoldable pub left_of : ℕ → World → ℕ
left_of n w = sessions_measure n w.sessions + (wire_measure n w.wire + receivers_measure n w.receivers)

packets_list : (n : ℕ) (ps : List Packet) → list_weight n (map wired.Packet ps) ≡ packets_weight n ps
packets_list n [] = refl
packets_list n (p ∷ ps) = omega (arith, packets_list n ps)

some_weight : (n : ℕ) (item : Wired) → 0 < item_weight n item
some_weight n (wired.Short bytes) = omega arith
some_weight n (wired.Packet p) = omega arith
some_weight n (wired.Alone f bytes) = omega arith

-- ---- what a sender hears

module _ (n : ℕ) where
  heard_weight : (s : Outgoing) (u : ℕ) (p : Packet) → IsMessageFit (Some s) → ReactsUpTo n (stage_weight n s.stage + clearing n p) (outgoing_hears s u p)
  heard_weight s u p fit =
      cond_both (is_among s.targets u) _ _ (ReactsUpTo n (stage_weight n s.stage + clearing n p))
      (λ _. reacts_weight n (dest_of s.to) s.pgn (length s.bytes) s.stage p (few_packets (length s.bytes) fit)) (λ _. omega arith)

  after_weight : (o : Option Outgoing) (u : ℕ) (p : Packet) → IsMessageFit o
      → session_weight n (session_after o u p) + packets_weight n (sender_replies (reaction_of o u p)) ≤ session_weight n o + clearing n p
  after_weight None u p fit = omega arith
  after_weight (Some s) u p fit = heard_weight s u p fit

module _ (plan : Plan) (w : World) (inv : IsWorldFit w) where
  abbrev n : ℕ
  n = count_of plan

  below : (u : ℕ) → is_unit plan u ≡ true → u < n
  below u unit = ltb-true u (count_of plan) unit

  -- ---- what a sender sends

  abbrev sends : (u : ℕ) (s : Outgoing) (stage : Stage) (p : Packet) → World
  sends u s stage p = record (sent_to_receivers w u s p) { sessions = changed w.sessions u (Some (record s { stage = stage })) }

  sent_measure : (u : ℕ) (targets : List ℕ) (item : Wired) → u < n
      → wire_measure n (added w.wire u targets item) ≤ wire_measure n w.wire + n * item_weight n item
  sent_measure u targets item in_u = pairs_row n (λ s t. list_weight n (added w.wire u targets item s t)) (λ s t. list_weight n (w.wire s t)) u
      (item_weight n item) in_u
      (λ s t other. let e : eqb s u ≡ false = ne_eqb s u other in rw e refl)
      (λ t. cond_both (eqb u u && is_among targets t) (w.wire u t ++ item ∷ []) (w.wire u t)
      (λ (list : List Wired). list_weight n list ≤ list_weight n (w.wire u t) + item_weight n item)
      (λ _. omega (arith, weight_append n (w.wire u t) (item ∷ []))) (λ _. omega arith))

  sends_lowers : (u : ℕ) (s : Outgoing) (stage : Stage) (p : Packet) → u < n → w.sessions u ≡ Some s
      → stage_weight n stage + n * (1 + effect n p) < stage_weight n s.stage → left_of n (sends u s stage p) < left_of n w
  unfolding left_of
  sends_lowers u s stage p in_u is less =
      let session = total_changed (session_weight n) n w.sessions u (Some (record s { stage = stage })) in_u in
      let was : session_weight n (w.sessions u) ≡ stage_weight n s.stage = ap (session_weight n) is in
      let wire = sent_measure u s.targets (wired.Packet p) in_u in
      omega (arith, session, was, wire, less)

  -- ---- what is taken or lost

  less_measure : (u v : ℕ) (item : Wired) (rest : List Wired) → u < n → v < n → w.wire u v ≡ item ∷ rest
      → wire_measure n (changed_pair w.wire u v rest) + item_weight n item ≡ wire_measure n w.wire
  less_measure u v item rest in_u in_v is =
      let e = pairs_changed (list_weight n) n w.wire u v rest in_u in_v in
      let was : list_weight n (w.wire u v) ≡ item_weight n item + list_weight n rest = ap (list_weight n) is in
      omega (arith, e, was)

  replied_measure : (wire : Wire) (v u : ℕ) (ps : List Packet) → v < n → u < n
      → wire_measure n (changed_pair wire v u (wire v u ++ map wired.Packet ps)) ≡ wire_measure n wire + packets_weight n ps
  replied_measure wire v u ps in_v in_u =
      let e = pairs_changed (list_weight n) n wire v u (wire v u ++ map wired.Packet ps) in_v in_u in
      omega (arith, e, weight_append n (wire v u) (map wired.Packet ps), packets_list n ps)

  packet_lowers : (windows : List ℕ) (u v : ℕ) (p : Packet) (rest : List Wired) (reports : List Reported) → u < n → v < n → w.wire u v ≡ wired.Packet p ∷ rest
      → left_of n (packet_taken windows w u v rest p reports) < left_of n w
  unfolding left_of
  packet_lowers windows u v p rest reports in_u in_v is =
      let heard : Progress × Heard = hearing windows w u v p in
      let reacted : List Packet = sender_replies (reaction_of (w.sessions v) u p) in
      let then : Option Outgoing = session_after (w.sessions v) u p in
      let new : World = packet_taken windows w u v rest p reports in
      let session : sessions_measure n new.sessions + session_weight n (w.sessions v) ≡ sessions_measure n w.sessions + session_weight n then =
      total_changed (session_weight n) n w.sessions v then in_v in
      let receivers : receivers_measure n new.receivers + receiver_weight n (w.receivers v u)
      ≡ receivers_measure n w.receivers + receiver_weight n (closed_if_complete heard.0) =
      pairs_changed (receiver_weight n) n w.receivers v u (closed_if_complete heard.0) in_v in_u in
      let less = less_measure u v (wired.Packet p) rest in_u in_v is in
      let more : wire_measure n new.wire ≡ wire_measure n (changed_pair w.wire u v rest) + packets_weight n (receiver_replies heard.1 ++ reacted) =
      replied_measure (changed_pair w.wire u v rest) v u (receiver_replies heard.1 ++ reacted) in_v in_u in
      let both = packets_append n (receiver_replies heard.1) reacted in
      let hears = hears_weight n (window_at windows v) (w.receivers v u) p (inv.within v u) in
      let reacts = after_weight n (w.sessions v) u p (inv.messages v) in
      omega (arith, session, receivers, less, more, both, hears, reacts)

  item_lowers : (u v : ℕ) (item : Wired) (rest : List Wired) → u < n → v < n → w.wire u v ≡ item ∷ rest → (new : World)
      → new.wire ≡ changed_pair w.wire u v rest → new.sessions ≡ w.sessions → new.receivers ≡ w.receivers → left_of n new < left_of n w
  unfolding left_of
  item_lowers u v item rest in_u in_v is new wire sessions receivers =
      let less = less_measure u v item rest in_u in_v is in
      let now : wire_measure n new.wire ≡ wire_measure n (changed_pair w.wire u v rest) = ap (wire_measure n) wire in
      let same : sessions_measure n new.sessions ≡ sessions_measure n w.sessions = ap (sessions_measure n) sessions in
      let also : receivers_measure n new.receivers ≡ receivers_measure n w.receivers = ap (receivers_measure n) receivers in
      omega (arith, less, now, same, also, some_weight n item)

  abbrev Lowers : World → Type 0
  Lowers new = left_of n new < left_of n w

  take_lowers : (windows : List ℕ) (u v : ℕ) → u < n → v < n → (list : List Wired) → w.wire u v ≡ list → (new : World) → TakenFrom windows w u v list new
      → Lowers new
  take_lowers windows u v in_u in_v [] is new never = absurd never
  take_lowers windows u v in_u in_v (wired.Short bytes ∷ rest) is new e =
      subst Lowers (sym e) (item_lowers u v (wired.Short bytes) rest in_u in_v is _ refl refl refl)
  take_lowers windows u v in_u in_v (wired.Packet p ∷ rest) is new (reports, reported, e) =
      subst Lowers (sym e) (packet_lowers windows u v p rest reports in_u in_v is)
  take_lowers windows u v in_u in_v (wired.Alone f bytes ∷ rest) is new e =
      subst Lowers (sym e) (item_lowers u v (wired.Alone f bytes) rest in_u in_v is _ refl refl refl)

  lose_lowers : (u v : ℕ) → u < n → v < n → (list : List Wired) → w.wire u v ≡ list → (new : World) → LostFrom w u v list new → Lowers new
  lose_lowers u v in_u in_v [] is new never = absurd never
  lose_lowers u v in_u in_v (item ∷ rest) is new e = subst Lowers (sym e) (item_lowers u v item rest in_u in_v is _ refl refl refl)

  -- ---- a receiver hears nothing in time, and a sender rests

  late_receiver_lowers : (windows : List ℕ) (u v : ℕ) → u < n → v < n → is_open_at (w.receivers v u) ≡ true → Lowers (receiver_timed_out windows w u v)
  unfolding left_of
  late_receiver_lowers windows u v in_u in_v is =
      let late : Progress × Option Packet = receiver.timed_out (Answering (window_at windows v)) (w.receivers v u) in
      let receivers = pairs_changed (receiver_weight n) n w.receivers v u (closed_if_complete late.0) in_v in_u in
      let wire = replied_measure w.wire v u (packets_in late.1) in_v in_u in
      let less = timed_out_weight n (window_at windows v) (w.receivers v u) is in
      omega (arith, receivers, wire, less)

  some_session : (o : Option Outgoing) → is_some (outcome_in o) ≡ true → 0 < session_weight n o
  some_session None is = absurd (cc is)
  some_session (Some s) is = some_stage s.stage
    where
      some_stage : (stage : Stage) → 0 < stage_weight n stage
      some_stage (Sending next last) = omega arith
      some_stage Waiting = omega arith
      some_stage (Resting outcome) = omega arith

  rest_lowers : (u : ℕ) → u < n → is_some (outcome_in (w.sessions u)) ≡ true → Lowers (rested w u)
  unfolding left_of
  rest_lowers u in_u is =
      let session = total_changed (session_weight n) n w.sessions u None in_u in
      omega (arith, session, some_session (w.sessions u) is)

  -- ---- each step of transfers

  pub lowers : (step : Step) → IsOfTransfers step → refusal plan w step ≡ None → (new : World) → StepsTo plan w step new → Lowers new
  lowers (Up u) never allowed new leads = absurd never
  lowers (Down u) never allowed new leads = absurd never
  lowers (Give u v) never allowed new leads = absurd never
  lowers (Ask u) never allowed new leads = absurd never
  lowers (Begin f bytes) never allowed new leads = absurd never
  lowers (Send f bytes) never allowed new leads = absurd never
  lowers (Emit u) is allowed new (s, p, session, next, e) =
      let (known, (on, (can, none))) = none_refuses plan w (Emit u) allowed in
      subst Lowers (sym e) (sends_lowers u s (sender.after_packet (dest_of s.to) s.stage) p (below u (not-false _ known)) session
      (emits_weight n (dest_of s.to) s.bytes s.stage p next))
  lowers (Take u v) is allowed new leads =
      let (known, (on, (some, none))) = none_refuses plan w (Take u v) allowed in
      let units = units_known plan u v known in
      take_lowers (windows_of plan) u v (below u units.0) (below v units.1) (w.wire u v) refl new leads
  lowers (Lose u v) is allowed new leads =
      let (known, (on, (some, none))) = none_refuses plan w (Lose u v) allowed in
      let units = units_known plan u v known in
      lose_lowers u v (below u units.0) (below v units.1) (w.wire u v) refl new leads
  lowers (LateSender u) is allowed new (s, p, session, packet, e) =
      let (known, (on, (waits, none))) = none_refuses plan w (LateSender u) allowed in
      subst Lowers (sym e) (sends_lowers u s (sender.after_timeout s.stage) p (below u (not-false _ known)) session (gives_up_weight n s.pgn s.stage p packet))
  lowers (LateReceiver u v) is allowed new e =
      let (known, (on, (hears, none))) = none_refuses plan w (LateReceiver u v) allowed in
      let units = units_known plan u v known in
      subst Lowers (sym e) (late_receiver_lowers (windows_of plan) u v (below u units.0) (below v units.1) (not-false _ hears))
  lowers (Rest u) is allowed new e =
      let (known, (on, (over, none))) = none_refuses plan w (Rest u) allowed in
      let parts = and_parts (is_some (outcome_in (w.sessions u))) (list_all (is_over_with w u) (range_with_len 0 (count_of plan))) (not-false _ over) in
      subst Lowers (sym e) (rest_lowers u (below u (not-false _ known)) parts.0)
