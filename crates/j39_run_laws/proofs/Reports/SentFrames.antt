-- In each world of a run what a unit reports of frames that were sent alone, with what of them lies on its way, is part of what was sent.
use Rattle.std.proofs.Common.{◌≡◌, ℕ, inl, inr, true, false, cond, ◌&&◌, eqb, List, [], ◌∷◌, ◌++◌, length, refl, sym, ap, ◌∙◌, subst, append-nil, Option, Some}
use Rattle.std.proofs.Common.{None}
use Rattle.std.specs.Prelude.{map, slice_get}
use Rattle.std.proofs.lemmas.Bool.{cond_both, eqb-true, or_cases}
use Rattle.std.proofs.lemmas.List.{append_assoc}
use Rattle.j39_tp.specs.Sender as sender
use Rattle.j39_tp.specs.Receiver as receiver
use Rattle.j39_tp.specs.declared.packet.Packet.{Packet}
use Rattle.j39_tp.specs.declared.receiving.heard.Heard.{Heard}
use Rattle.j39_tp.specs.declared.receiving.heard.Heard.TheVariants as heards
use Rattle.j39_tp.specs.declared.receiving.manner.Manner.TheVariants.{Answering}
use Rattle.j39_claim.specs.declared.item.Item.{Item}
use Rattle.j39_network.specs.declared.plan.Plan.{Plan}
use Rattle.j39_network.specs.declared.steps.Step.{Step}
use Rattle.j39_network.specs.declared.steps.Step.TheVariants.{Up, Down, Give, Ask, Begin, Send, Emit, Take, Lose, LateSender, LateReceiver, Rest}
use Rattle.j39_world.specs.declared.flow.Flow.{Flow}
use Rattle.j39_world.specs.declared.wired.Wired.{Wired}
use Rattle.j39_world.specs.declared.wired.Wired.TheVariants as wired
use Rattle.j39_world.specs.ClaimSteps.{GivenFrom, without_lists_to}
use Rattle.j39_world.specs.Flows.{flows_of, windows_of, window_at, dest_of, is_short}
use Rattle.j39_network.specs.PlannedUnits.{units_of}
use Rattle.j39_world.specs.Run.{StepsTo, count_of}
use Rattle.j39_world.specs.SentArriving.{lying_alone}
use Rattle.j39_world.specs.Sound.{IsSubsequence, reported_alone}
use Rattle.j39_world.specs.SoundPlan.{Always}
use Rattle.j39_world.specs.Transfers.{Begun, Reported, is_among, added}
use Rattle.j39_world.specs.TransferSteps.{targets_of, first_item, BeginsAt, SendsAt, Reports, ReportsOne, alone_report, report, hearing, flow_in}
use Rattle.j39_world.specs.TransferSteps.{receiver_replies, sender_replies, reaction_of, packets_in, TakenFrom, LostFrom}
use Rattle.j39_world.specs.SwitchingOff.{is_either, without_lists_of}
use Rattle.j39_world.specs.World.{World, changed_pair}
use Rattle.j39_run_laws.proofs.Reports.Reporting.{alone_none, alone_beside, alone_here, alone_elsewhere}
use Rattle.j39_run_laws.proofs.Reports.Subsequences.{subsequence_both, subsequence_front, subsequence_without}
use Rattle.j39_run_laws.proofs.Runs.Always.{IsPreserved, always}
use Rattle.j39_run_laws.proofs.Runs.Changed.{IsElsewhere, pair_here, pair_elsewhere, pair_each, pair_here_or_elsewhere}

-- ---- what lies of frames sent alone

pub lying_more : (xs ys : List Wired) → lying_alone (xs ++ ys) ≡ lying_alone xs ++ lying_alone ys
lying_more [] ys = refl
lying_more (wired.Alone f bytes ∷ xs) ys = ap (λ (zs : List Begun). record { flow = f; bytes = bytes } ∷ zs) (lying_more xs ys)
lying_more (wired.Short bytes ∷ xs) ys = lying_more xs ys
lying_more (wired.Packet p ∷ xs) ys = lying_more xs ys

lying_packets : (ps : List Packet) → lying_alone (map wired.Packet ps) ≡ []
lying_packets [] = refl
lying_packets (p ∷ ps) = lying_packets ps

first_lies : (flow : Flow) (bytes : List ℕ) → lying_alone (first_item flow bytes ∷ []) ≡ []
first_lies flow bytes =
    cond_both (is_short (length bytes)) (wired.Short bytes) (wired.Packet (sender.announcement (dest_of flow.to) flow.pgn (length bytes)))
    (λ (item : Wired). lying_alone (item ∷ []) ≡ []) (λ _. refl) (λ _. refl)

-- ---- what is reported and what lies

-- something is said of what one unit has reported of another, of what lies there, and of what was sent, that stays so where one more is sent and
-- where the oldest that lies is reported
module _ (Part : ℕ → ℕ → List Begun → List Begun → List Begun → Type 0)
    (one_sent : (u v : ℕ) (reports lying sent : List Begun) (x : Begun) → Part u v reports lying sent → Part u v reports (lying ++ x ∷ []) (sent ++ x ∷ []))
    (one_reported : (u v : ℕ) (reports lying sent : List Begun) (x : Begun) → Part u v reports (x ∷ lying) sent → Part u v (reports ++ x ∷ []) lying sent)
  where
    abbrev IsPart : ℕ → ℕ → List Begun → List Wired → List Begun → Type 0
    IsPart u v reports wire sent = Part u v reports (lying_alone wire) sent

    abbrev pub AreParts : World → Type 0
    AreParts w = (u v : ℕ) → IsPart u v (reported_alone w.reports v u) (w.wire u v) (w.sent_alone u v)

    -- of what is added none was sent alone
    part_more : (u v : ℕ) (reports sent : List Begun) (wire items : List Wired) → lying_alone items ≡ [] → IsPart u v reports wire sent
        → IsPart u v reports (wire ++ items) sent
    part_more u v reports sent wire items none part =
        subst (λ (xs : List Begun). Part u v reports xs sent)
        (sym (lying_more wire items ∙ (ap (λ (xs : List Begun). lying_alone wire ++ xs) none ∙ append-nil (lying_alone wire)))) part

    -- one is sent
    part_sent : (u v : ℕ) (reports sent : List Begun) (wire : List Wired) (f : ℕ) (bytes : List ℕ) → IsPart u v reports wire sent
        → IsPart u v reports (wire ++ wired.Alone f bytes ∷ []) (sent ++ record { flow = f; bytes = bytes } ∷ [])
    part_sent u v reports sent wire f bytes part =
        let one : Begun = record { flow = f; bytes = bytes } in
        subst (λ (xs : List Begun). Part u v reports xs (sent ++ one ∷ [])) (sym (lying_more wire (wired.Alone f bytes ∷ [])))
        (one_sent u v reports (lying_alone wire) sent one part)

    -- what is asked of the steps by which something is gone that isn't taken
    abbrev pub AreDropped : World → Step → Type 0
    AreDropped w (Up x) = (u : ℕ) → IsPart u x (reported_alone w.reports x u) (w.wire u x) (w.sent_alone u x)
        → IsPart u x (reported_alone w.reports x u) [] (w.sent_alone u x)
    AreDropped w (Down x) =
        ((u : ℕ) → IsPart u x (reported_alone w.reports x u) (w.wire u x) (w.sent_alone u x)
        → IsPart u x (reported_alone w.reports x u) [] (w.sent_alone u x))
        × ((v : ℕ) → IsPart x v (reported_alone w.reports v x) (w.wire x v) (w.sent_alone x v)
        → IsPart x v (reported_alone w.reports v x) [] (w.sent_alone x v))
    AreDropped w (Lose x y) = (item : Wired) (rest : List Wired) → w.wire x y ≡ item ∷ rest
        → IsPart x y (reported_alone w.reports y x) (item ∷ rest) (w.sent_alone x y)
        → IsPart x y (reported_alone w.reports y x) rest (w.sent_alone x y)
    AreDropped w _ = Unit {0}

    module _ (plan : Plan) (w : World) (old : AreParts w) where
      -- what each pair has of a list that changes
      abbrev PartAt : ℕ → ℕ → List Wired → Type 0
      PartAt u v list = IsPart u v (reported_alone w.reports v u) list (w.sent_alone u v)

      abbrev PartsOf : (ℕ → ℕ → List Wired) → Type 0
      PartsOf wire = (u v : ℕ) → PartAt u v (wire u v)

      dropped : (x : ℕ) → ((u : ℕ) → PartAt u x (w.wire u x) → PartAt u x []) → PartsOf (without_lists_to x w.wire)
      dropped x gone u v = cond_both (eqb v x) [] (w.wire u v) (PartAt u v)
          (λ is. subst (λ (y : ℕ). PartAt u y []) (sym (eqb-true v x is)) (gone u (old u x))) (λ _. old u v)

      -- nothing is left to x nor from it
      left : (x : ℕ) → ((u : ℕ) → PartAt u x (w.wire u x) → PartAt u x []) → ((v : ℕ) → PartAt x v (w.wire x v) → PartAt x v [])
          → PartsOf (without_lists_of x w.wire)
      left x to from u v = cond_both (is_either x u v) [] (w.wire u v) (PartAt u v)
          (λ is. elim (or_cases (eqb u x) (eqb v x) is) [
            | inl here ↦ subst (λ (y : ℕ). PartAt y v []) (sym (eqb-true u x here)) (from v (old x v))
            | inr here ↦ subst (λ (y : ℕ). PartAt u y []) (sym (eqb-true v x here)) (to u (old u x))
          ])
          (λ _. old u v)

      sent_part : (s : ℕ) (targets : List ℕ) (item : Wired) → lying_alone (item ∷ []) ≡ [] → PartsOf (added w.wire s targets item)
      sent_part s targets item none u v = cond_both (eqb u s && is_among targets v) (w.wire u v ++ item ∷ []) (w.wire u v) (PartAt u v)
          (λ _. part_more u v (reported_alone w.reports v u) (w.sent_alone u v) (w.wire u v) (item ∷ []) none (old u v)) (λ _. old u v)

      -- the oldest is gone
      less_part : (x y : ℕ) (item : Wired) (rest : List Wired) → w.wire x y ≡ item ∷ rest → (PartAt x y (item ∷ rest) → PartAt x y rest)
          → PartsOf (changed_pair w.wire x y rest)
      less_part x y item rest is less = pair_each PartAt w.wire x y rest (less (subst (PartAt x y) is (old x y))) old

      more_part : (wire : ℕ → ℕ → List Wired) → PartsOf wire → (y x : ℕ) (ps : List Packet)
          → PartsOf (changed_pair wire y x (wire y x ++ map wired.Packet ps))
      more_part wire here y x ps = pair_each PartAt wire y x (wire y x ++ map wired.Packet ps)
          (part_more y x (reported_alone w.reports x y) (w.sent_alone y x) (wire y x) (map wired.Packet ps) (lying_packets ps) (here y x)) here

      begin_parts : (f : ℕ) (o : Option Flow) (bytes : List ℕ) (new : World) → BeginsAt (count_of plan) w f o bytes new → AreParts new
      begin_parts f None bytes new never = absurd never
      begin_parts f (Some flow) bytes new e = subst AreParts (sym e)
          (sent_part flow.sender (targets_of (count_of plan) w.stations flow.sender flow.to) (first_item flow bytes) (first_lies flow bytes))

      send_parts : (f : ℕ) (o : Option Flow) (bytes : List ℕ) (new : World) → SendsAt (count_of plan) w f o bytes new → AreParts new
      send_parts f None bytes new never = absurd never
      send_parts f (Some flow) bytes new e = subst AreParts (sym e) each
        where
          targets : List ℕ
          targets = targets_of (count_of plan) w.stations flow.sender flow.to

          one : Begun
          one = record { flow = f; bytes = bytes }

          each : (u v : ℕ) → IsPart u v (reported_alone w.reports v u) (added w.wire flow.sender targets (wired.Alone f bytes) u v)
              (added w.sent_alone flow.sender targets one u v)
          each u v =
              elim (eqb u flow.sender && is_among targets v)
              as (λ b. IsPart u v (reported_alone w.reports v u) (cond b (w.wire u v ++ wired.Alone f bytes ∷ []) (w.wire u v))
              (cond b (w.sent_alone u v ++ one ∷ []) (w.sent_alone u v))) [
                | true ↦ part_sent u v (reported_alone w.reports v u) (w.sent_alone u v) (w.wire u v) f bytes (old u v)
                | false ↦ old u v
              ]

      -- ---- something is taken

      -- reports of messages that were begun are none of these
      same_alone : (x y : ℕ) (p : Packet) (h : Heard) (rs : List Reported) → Reports w x y p h rs → (v u : ℕ)
          → reported_alone (w.reports ++ rs) v u ≡ reported_alone w.reports v u
      same_alone x y p h rs stated v u = of_heard h stated
        where
          none : rs ≡ [] → reported_alone (w.reports ++ rs) v u ≡ reported_alone w.reports v u
          none is = ap (λ (xs : List Reported). reported_alone (w.reports ++ xs) v u) is ∙ alone_none w.reports v u

          one : ReportsOne w x y p rs → reported_alone (w.reports ++ rs) v u ≡ reported_alone w.reports v u
          one (pgn, bytes, carried, is) =
              ap (λ (xs : List Reported). reported_alone (w.reports ++ xs) v u) is ∙ alone_beside w.reports x y (flow_in (w.sessions x)) bytes v u

          of_heard : (heard : Heard) → Reports w x y p heard rs → reported_alone (w.reports ++ rs) v u ≡ reported_alone w.reports v u
          of_heard heards.Complete is = one is
          of_heard (heards.CompleteReply q) is = one is
          of_heard (heards.Reply q) is = none is
          of_heard heards.Nothing is = none is
          of_heard heards.Closed is = none is

      -- other reports change nothing
      as_reported : (rs : List Reported) (wire : ℕ → ℕ → List Wired) → ((v u : ℕ) → reported_alone rs v u ≡ reported_alone w.reports v u) → PartsOf wire
          → (u v : ℕ) → IsPart u v (reported_alone rs v u) (wire u v) (w.sent_alone u v)
      as_reported rs wire same parts u v =
          subst (λ (xs : List Begun). IsPart u v xs (wire u v) (w.sent_alone u v)) (sym (same v u)) (parts u v)

      take_parts : (windows : List ℕ) (x y : ℕ) (list : List Wired) → w.wire x y ≡ list → (new : World) → TakenFrom windows w x y list new → AreParts new
      take_parts windows x y [] is new never = absurd never
      take_parts windows x y (wired.Short bytes ∷ rest) is new e = subst AreParts (sym e)
          (as_reported (w.reports ++ report w x y bytes ∷ []) (changed_pair w.wire x y rest)
          (alone_beside w.reports x y (flow_in (w.sessions x)) bytes) (less_part x y (wired.Short bytes) rest is (λ part. part)))
      take_parts windows x y (wired.Packet p ∷ rest) is new (rs, stated, e) =
          let replies : List Packet = receiver_replies (hearing windows w x y p).1 ++ sender_replies (reaction_of (w.sessions y) x p) in
          let less : ℕ → ℕ → List Wired = changed_pair w.wire x y rest in
          subst AreParts (sym e)
          (as_reported (w.reports ++ rs) (changed_pair less y x (less y x ++ map wired.Packet replies)) (same_alone x y p (hearing windows w x y p).1 rs stated)
          (more_part less (less_part x y (wired.Packet p) rest is (λ part. part)) y x replies))
      take_parts windows x y (wired.Alone f bytes ∷ rest) is new e = subst AreParts (sym e) (pair_here_or_elsewhere
          (λ u v. IsPart u v (reported_alone (w.reports ++ alone_report x y f bytes ∷ []) v u) (changed_pair w.wire x y rest u v) (w.sent_alone u v)) x y
          here elsewhere)
        where
          here : IsPart x y (reported_alone (w.reports ++ alone_report x y f bytes ∷ []) y x) (changed_pair w.wire x y rest x y) (w.sent_alone x y)
          here =
              subst (λ (list : List Wired). IsPart x y (reported_alone (w.reports ++ alone_report x y f bytes ∷ []) y x) list (w.sent_alone x y))
              (sym (pair_here w.wire x y rest))
              (subst (λ (xs : List Begun). IsPart x y xs rest (w.sent_alone x y)) (sym (alone_here w.reports x y f bytes))
              (one_reported x y (reported_alone w.reports y x) (lying_alone rest) (w.sent_alone x y) (record { flow = f; bytes = bytes })
              (subst (PartAt x y) is (old x y))))

          elsewhere : (u v : ℕ) → IsElsewhere x y u v
              → IsPart u v (reported_alone (w.reports ++ alone_report x y f bytes ∷ []) v u) (changed_pair w.wire x y rest u v) (w.sent_alone u v)
          elsewhere u v apart =
              subst (λ (list : List Wired). IsPart u v (reported_alone (w.reports ++ alone_report x y f bytes ∷ []) v u) list (w.sent_alone u v))
              (sym (pair_elsewhere w.wire x y rest u v apart))
              (subst (λ (xs : List Begun). IsPart u v xs (w.wire u v) (w.sent_alone u v)) (sym (alone_elsewhere w.reports x y f bytes u v apart)) (old u v))

      lose_parts : (x y : ℕ) → AreDropped w (Lose x y) → (list : List Wired) → w.wire x y ≡ list → (new : World) → LostFrom w x y list new → AreParts new
      lose_parts x y gone [] is new never = absurd never
      lose_parts x y gone (item ∷ rest) is new e = subst AreParts (sym e) (less_part x y item rest is (gone item rest is))

      give_parts : (u v : ℕ) (list : List Item) (new : World) → GivenFrom (units_of plan) w u v list new → AreParts new
      give_parts u v [] new never = absurd never
      give_parts u v (item ∷ rest) new (says, s, answers, e) = subst AreParts (sym e) old

      -- ---- each step

      pub step_parts : (step : Step) → AreDropped w step → (new : World) → StepsTo plan w step new → AreParts new
      step_parts (Up u) gone new e = subst AreParts (sym e) (dropped u gone)
      step_parts (Down u) gone new e = subst AreParts (sym e) (left u gone.0 gone.1)
      step_parts (Give u v) gone new leads = give_parts u v (w.claims u v) new leads
      step_parts (Ask u) gone new e = subst AreParts (sym e) old
      step_parts (Begin f bytes) gone new leads = begin_parts f (slice_get (flows_of plan) f) bytes.items new leads
      step_parts (Send f bytes) gone new leads = send_parts f (slice_get (flows_of plan) f) bytes.items new leads
      step_parts (Emit u) gone new (s, p, session, next, e) = subst AreParts (sym e) (sent_part u s.targets (wired.Packet p) refl)
      step_parts (Take u v) gone new leads = take_parts (windows_of plan) u v (w.wire u v) refl new leads
      step_parts (Lose u v) gone new leads = lose_parts u v gone (w.wire u v) refl new leads
      step_parts (LateSender u) gone new (s, p, session, packet, e) = subst AreParts (sym e) (sent_part u s.targets (wired.Packet p) refl)
      step_parts (LateReceiver u v) gone new e = subst AreParts (sym e)
          (more_part w.wire old v u (packets_in (receiver.timed_out (Answering (window_at (windows_of plan) v)) (w.receivers v u)).1))
      step_parts (Rest u) gone new e = subst AreParts (sym e) old

-- ---- what is reported is part of what was sent

abbrev InOrder : ℕ → ℕ → List Begun → List Begun → List Begun → Type 0
InOrder u v reports lying sent = IsSubsequence (reports ++ lying) sent

sent_in_order_too : (u v : ℕ) (reports lying sent : List Begun) (x : Begun) → InOrder u v reports lying sent
    → InOrder u v reports (lying ++ x ∷ []) (sent ++ x ∷ [])
sent_in_order_too u v reports lying sent x part =
    subst (λ (xs : List Begun). IsSubsequence xs (sent ++ x ∷ [])) (append_assoc reports lying (x ∷ [])) (subsequence_both (reports ++ lying) sent x part)

reported_in_order : (u v : ℕ) (reports lying sent : List Begun) (x : Begun) → InOrder u v reports (x ∷ lying) sent → InOrder u v (reports ++ x ∷ []) lying sent
reported_in_order u v reports lying sent x part = subst (λ (xs : List Begun). IsSubsequence xs sent) (sym (append_assoc reports (x ∷ []) lying)) part

-- the oldest is gone
less_in_order : (u v : ℕ) (reports sent : List Begun) (item : Wired) (rest : List Wired) → InOrder u v reports (lying_alone (item ∷ rest)) sent
    → InOrder u v reports (lying_alone rest) sent
less_in_order u v reports sent (wired.Alone f bytes) rest part =
    subsequence_without reports (lying_alone rest) sent (record { flow = f; bytes = bytes }) part
less_in_order u v reports sent (wired.Short bytes) rest part = part
less_in_order u v reports sent (wired.Packet p) rest part = part

-- all are gone
none_in_order : (u v : ℕ) (reports lying sent : List Begun) → InOrder u v reports lying sent → InOrder u v reports [] sent
none_in_order u v reports lying sent part =
    subst (λ (xs : List Begun). IsSubsequence xs sent) (sym (append-nil reports)) (subsequence_front reports lying sent part)

abbrev AreInOrder : World → Type 0
AreInOrder = AreParts InOrder sent_in_order_too reported_in_order

dropped_in_order : (w : World) (step : Step) → AreDropped InOrder sent_in_order_too reported_in_order w step
dropped_in_order w (Up x) = λ u part. none_in_order u x (reported_alone w.reports x u) (lying_alone (w.wire u x)) (w.sent_alone u x) part
dropped_in_order w (Down x) = (
  λ u part. none_in_order u x (reported_alone w.reports x u) (lying_alone (w.wire u x)) (w.sent_alone u x) part,
  λ v part. none_in_order x v (reported_alone w.reports v x) (lying_alone (w.wire x v)) (w.sent_alone x v) part,
)
dropped_in_order w (Lose x y) = λ item rest is part. less_in_order x y (reported_alone w.reports y x) (w.sent_alone x y) item rest part
dropped_in_order w (Give u v) = tt
dropped_in_order w (Ask u) = tt
dropped_in_order w (Begin f bytes) = tt
dropped_in_order w (Send f bytes) = tt
dropped_in_order w (Emit u) = tt
dropped_in_order w (Take u v) = tt
dropped_in_order w (LateSender u) = tt
dropped_in_order w (LateReceiver u v) = tt
dropped_in_order w (Rest u) = tt

parts_keep : (plan : Plan) → IsPreserved plan AreInOrder
parts_keep plan w old step allowed new leads =
    step_parts InOrder sent_in_order_too reported_in_order plan w old step (dropped_in_order w step) new leads

-- in each world of each run
pub sent_in_order : (plan : Plan) → Always plan (λ w. (v u : ℕ) → IsSubsequence (reported_alone w.reports v u) (w.sent_alone u v))
sent_in_order plan steps w run v u =
    let part : IsSubsequence (reported_alone w.reports v u ++ lying_alone (w.wire u v)) (w.sent_alone u v) =
    always plan AreInOrder (λ x y. tt) (parts_keep plan) steps w run u v in
    subsequence_front (reported_alone w.reports v u) (lying_alone (w.wire u v)) (w.sent_alone u v) part
