-- In every world of every run each message is of a flow that goes from its sender to whom it is for, and so is each frame that lies and was
-- sent alone.
use Rattle.std.proofs.Common.{◌≡◌, ℕ, true, List, [], ◌∷◌, ◌++◌, length, refl, sym, ◌∙◌, subst, Option, Some, None}
use Rattle.std.specs.Prelude.{map, slice_get}
use Rattle.std.specs.List.{AllByRecursion}
use Rattle.std.proofs.lemmas.Bool.{cond_both}
use Rattle.j39_tp.specs.Receiver as receiver
use Rattle.j39_tp.specs.Sender as sender
use Rattle.j39_tp.specs.declared.packet.Packet.{Packet}
use Rattle.j39_tp.specs.declared.receiving.manner.Manner.TheVariants.{Answering}
use Rattle.j39_claim.specs.declared.item.Item.{Item}
use Rattle.j39_network.specs.declared.plan.Plan.{Plan}
use Rattle.j39_network.specs.declared.plan.to.To.{To}
use Rattle.j39_network.specs.declared.plan.to.To.TheVariants.{All, One}
use Rattle.j39_network.specs.declared.steps.Step.TheVariants.{Up, Down, Give, Ask, Begin, Send, Emit, Take, Lose, LateSender, LateReceiver, Rest}
use Rattle.j39_world.specs.declared.flow.Flow.{Flow}
use Rattle.j39_world.specs.declared.wired.Wired.{Wired}
use Rattle.j39_world.specs.declared.wired.Wired.TheVariants as wired
use Rattle.j39_world.specs.ClaimSteps.{GivenFrom}
use Rattle.j39_world.specs.Flows.{FlowGoes, flows_of, windows_of, window_at, dest_of, is_short}
use Rattle.j39_network.specs.PlannedUnits.{units_of}
use Rattle.j39_world.specs.Run.{count_of}
use Rattle.j39_world.specs.SoundPlan.{Always}
use Rattle.j39_world.specs.SwitchingOff.{session_without}
use Rattle.j39_world.specs.Transfers.{Outgoing, Wire, is_among, added}
use Rattle.j39_world.specs.TransferSteps.{targets_of, outgoing, first_item, BeginsAt, SendsAt, session_after, reaction_of, receiver_replies, sender_replies}
use Rattle.j39_world.specs.TransferSteps.{hearing, TakenFrom, LostFrom, packets_in}
use Rattle.j39_world.specs.World.{World, Stations, changed_pair}
use Rattle.j39_run_laws.proofs.Reports.SenderSteps.{among_one}
use Rattle.j39_run_laws.proofs.Runs.Always.{IsPreserved, always}
use Rattle.j39_run_laws.proofs.Runs.Changed.{changed_each}
use Rattle.j39_run_laws.proofs.Runs.SwitchedOff.{lists_left, sessions_each}
use Rattle.j39_run_laws.proofs.Runs.WiredItems.{AreAll, all_added, all_dropped, all_less, all_more}

abbrev pub IsOfFlow : Plan → ℕ → Option Outgoing → Type 0
IsOfFlow plan u None = Unit {0}
IsOfFlow plan u (Some s) = FlowGoes plan s.flow u s.to

-- a frame that was sent alone
abbrev pub IsSentBy : Plan → ℕ → ℕ → Wired → Type 0
IsSentBy plan s t (wired.Alone f bytes) =
    (flow : Flow) × (slice_get (flows_of plan) f ≡ Some flow) × (flow.sender ≡ s) × ((x : ℕ) → flow.to ≡ One x → x ≡ t)
IsSentBy plan s t _ = Unit {0}

pub record AreOfFlows (plan : Plan) (w : World) : Type 0 where
  pub sessions : (u : ℕ) → IsOfFlow plan u (w.sessions u)
  pub wire : (s t : ℕ) → AllByRecursion (IsSentBy plan s t) (w.wire s t)

-- whom a message is sent to that is for one
reaches_one : (count : ℕ) (stations : Stations) (u t : ℕ) (to : To) → is_among (targets_of count stations u to) t ≡ true → (x : ℕ) → to ≡ One x → x ≡ t
reaches_one count stations u t All among x e = absurd (cc e)
reaches_one count stations u t (One y) among x e = let same : y ≡ x = cc e in sym same ∙ sym (among_one y t among)

module _ (plan : Plan) (w : World) (old : AreOfFlows plan w) where
  less : (u v : ℕ) (item : Wired) (rest : List Wired) → w.wire u v ≡ item ∷ rest → AreAll (IsSentBy plan) (changed_pair w.wire u v rest)
  less = all_less (IsSentBy plan) w.wire old.wire

  packets : (s t : ℕ) (ps : List Packet) → AllByRecursion (IsSentBy plan s t) (map wired.Packet ps)
  packets s t [] = tt
  packets s t (p ∷ ps) = (tt, packets s t ps)

  more : (wire : Wire) → AreAll (IsSentBy plan) wire → (v u : ℕ) (ps : List Packet)
      → AreAll (IsSentBy plan) (changed_pair wire v u (wire v u ++ map wired.Packet ps))
  more wire here v u ps = all_more (IsSentBy plan) wire here v u (map wired.Packet ps) (packets v u ps)

  sent : (u : ℕ) (targets : List ℕ) (item : Wired) → ((t : ℕ) → is_among targets t ≡ true → IsSentBy plan u t item)
      → AreAll (IsSentBy plan) (added w.wire u targets item)
  sent = all_added (IsSentBy plan) w.wire old.wire

  first : (flow : Flow) (bytes : List ℕ) (s t : ℕ) → IsSentBy plan s t (first_item flow bytes)
  first flow bytes s t =
      cond_both (is_short (length bytes)) (wired.Short bytes) (wired.Packet (sender.announcement (dest_of flow.to) flow.pgn (length bytes)))
      (IsSentBy plan s t) (λ _. tt) (λ _. tt)

  begins : (f : ℕ) (o : Option Flow) (bytes : List ℕ) → slice_get (flows_of plan) f ≡ o → (new : World) → BeginsAt (count_of plan) w f o bytes new
      → AreOfFlows plan new
  begins f None bytes is new never = absurd never
  begins f (Some flow) bytes is new e =
      let o : Outgoing = outgoing (count_of plan) w.stations f flow bytes in
      subst (AreOfFlows plan) (sym e) (record {
        sessions = changed_each (IsOfFlow plan) w.sessions flow.sender (Some o) (flow, is, refl, refl) old.sessions;
        wire = sent flow.sender o.targets (first_item flow bytes) (λ t _. first flow bytes flow.sender t);
      })

  sends : (f : ℕ) (o : Option Flow) (bytes : List ℕ) → slice_get (flows_of plan) f ≡ o → (new : World) → SendsAt (count_of plan) w f o bytes new
      → AreOfFlows plan new
  sends f None bytes is new never = absurd never
  sends f (Some flow) bytes is new e =
      let targets : List ℕ = targets_of (count_of plan) w.stations flow.sender flow.to in
      subst (AreOfFlows plan) (sym e) (record {
        sessions = old.sessions;
        wire = sent flow.sender targets (wired.Alone f bytes)
            (λ t among. (flow, is, refl, reaches_one (count_of plan) w.stations flow.sender t flow.to among));
      })

  after : (v u : ℕ) (p : Packet) (o : Option Outgoing) → IsOfFlow plan v o → IsOfFlow plan v (session_after o u p)
  after v u p None of = of
  after v u p (Some s) of = of

  left : (u x : ℕ) (o : Option Outgoing) → IsOfFlow plan x o → IsOfFlow plan x (session_without u o)
  left u x None of = of
  left u x (Some s) of = of

  of_session : (u : ℕ) (s : Outgoing) → w.sessions u ≡ Some s → FlowGoes plan s.flow u s.to
  of_session u s is = subst (IsOfFlow plan u) is (old.sessions u)

  taken : (windows : List ℕ) (u v : ℕ) (list : List Wired) → w.wire u v ≡ list → (new : World) → TakenFrom windows w u v list new → AreOfFlows plan new
  taken windows u v [] is new never = absurd never
  taken windows u v (wired.Short bytes ∷ rest) is new e =
      subst (AreOfFlows plan) (sym e) (record { sessions = old.sessions; wire = less u v (wired.Short bytes) rest is })
  taken windows u v (wired.Packet p ∷ rest) is new (reports, reported, e) = subst (AreOfFlows plan) (sym e) (record {
    sessions = changed_each (IsOfFlow plan) w.sessions v (session_after (w.sessions v) u p) (after v u p (w.sessions v) (old.sessions v)) old.sessions;
    wire = more (changed_pair w.wire u v rest) (less u v (wired.Packet p) rest is) v u
        (receiver_replies (hearing windows w u v p).1 ++ sender_replies (reaction_of (w.sessions v) u p));
  })
  taken windows u v (wired.Alone f bytes ∷ rest) is new e =
      subst (AreOfFlows plan) (sym e) (record { sessions = old.sessions; wire = less u v (wired.Alone f bytes) rest is })

  lost : (u v : ℕ) (list : List Wired) → w.wire u v ≡ list → (new : World) → LostFrom w u v list new → AreOfFlows plan new
  lost u v [] is new never = absurd never
  lost u v (item ∷ rest) is new e = subst (AreOfFlows plan) (sym e) (record { sessions = old.sessions; wire = less u v item rest is })

  given : (u v : ℕ) (list : List Item) (new : World) → GivenFrom (units_of plan) w u v list new → AreOfFlows plan new
  given u v [] new never = absurd never
  given u v (item ∷ rest) new (says, s, reacts, e) = subst (AreOfFlows plan) (sym e) (record { sessions = old.sessions; wire = old.wire })

steps_keep : (plan : Plan) → IsPreserved plan (AreOfFlows plan)
steps_keep plan w old (Up u) allowed new e = subst (AreOfFlows plan) (sym e) (record {
  sessions = old.sessions;
  wire = all_dropped (IsSentBy plan) w.wire old.wire u;
})
steps_keep plan w old (Down u) allowed new e = subst (AreOfFlows plan) (sym e) (record {
  sessions = sessions_each u (IsOfFlow plan) w.sessions tt (λ x _. left plan w old u x (w.sessions x) (old.sessions x));
  wire = lists_left u (IsSentBy plan) w.wire (λ s t _ _. old.wire s t);
})
steps_keep plan w old (Give u v) allowed new leads = given plan w old u v (w.claims u v) new leads
steps_keep plan w old (Ask u) allowed new e = subst (AreOfFlows plan) (sym e) (record { sessions = old.sessions; wire = old.wire })
steps_keep plan w old (Begin f bytes) allowed new leads = begins plan w old f (slice_get (flows_of plan) f) bytes.items refl new leads
steps_keep plan w old (Send f bytes) allowed new leads = sends plan w old f (slice_get (flows_of plan) f) bytes.items refl new leads
steps_keep plan w old (Emit u) allowed new (s, p, session, next, e) = subst (AreOfFlows plan) (sym e) (record {
  sessions = changed_each (IsOfFlow plan) w.sessions u (Some (record s { stage = sender.after_packet (dest_of s.to) s.stage }))
      (of_session plan w old u s session) old.sessions;
  wire = sent plan w old u s.targets (wired.Packet p) (λ t _. tt);
})
steps_keep plan w old (Take u v) allowed new leads = taken plan w old (windows_of plan) u v (w.wire u v) refl new leads
steps_keep plan w old (Lose u v) allowed new leads = lost plan w old u v (w.wire u v) refl new leads
steps_keep plan w old (LateSender u) allowed new (s, p, session, packet, e) = subst (AreOfFlows plan) (sym e) (record {
  sessions =
      changed_each (IsOfFlow plan) w.sessions u (Some (record s { stage = sender.after_timeout s.stage })) (of_session plan w old u s session) old.sessions;
  wire = sent plan w old u s.targets (wired.Packet p) (λ t _. tt);
})
steps_keep plan w old (LateReceiver u v) allowed new e = subst (AreOfFlows plan) (sym e) (record {
  sessions = old.sessions;
  wire = more plan w old w.wire old.wire v u (packets_in (receiver.timed_out (Answering (window_at (windows_of plan) v)) (w.receivers v u)).1);
})
steps_keep plan w old (Rest u) allowed new e = subst (AreOfFlows plan) (sym e) (record {
  sessions = changed_each (IsOfFlow plan) w.sessions u None tt old.sessions;
  wire = old.wire;
})

pub all_of_flows : (plan : Plan) → Always plan (AreOfFlows plan)
all_of_flows plan = always plan (AreOfFlows plan) (record { sessions = λ u. tt; wire = λ s t. tt }) (steps_keep plan)
