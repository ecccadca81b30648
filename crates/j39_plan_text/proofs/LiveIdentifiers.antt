-- On a live bus the ends of two flows hold different addresses in each world of a run, and so their frames have different identifiers.
use Rattle.std.proofs.Common.{◌≡◌, ◌≢◌, ℕ, arith, Bool, true, false, ◌&&◌, eqb, List, [], ◌∷◌, ◌++◌, refl, sym, ap, ◌∙◌, subst, inl, inr, Some}
use Rattle.std.proofs.lemmas.Bool.{and_from, and_parts, eq-eqb, eqb-true, or_cases, or_left, or_right, true≢false}
use Rattle.std.specs.List.{slice_get}
use Rattle.j39_findings.specs.Findings.{Clean, IsAloneInPlan}
use Rattle.j39_findings.proofs.CleanLaws.{parts_of}
use Rattle.j39_findings.proofs.WhoStays.{placed}
use Rattle.j39_network.specs.declared.plan.Plan.{Plan}
use Rattle.j39_network.specs.declared.plan.flow_plan.FlowPlan.{FlowPlan}
use Rattle.j39_network.specs.declared.plan.group_plan.GroupPlan.{GroupPlan}
use Rattle.j39_network.specs.declared.plan.to.To.{To}
use Rattle.j39_network.specs.declared.plan.to.To.TheVariants.{All, One}
use Rattle.j39_network.specs.declared.steps.Step.{Step}
use Rattle.j39_load.proofs.Different.{different}
use Rattle.j39_load.specs.Loads.{group_ident}
use Rattle.j39_load.specs.Ranks.{AreHeldApart, AreTwinFlows, IsShortFlow}
use Rattle.j39_run_laws.proofs.Addresses.CleanEnds.{flow_at}
use Rattle.j39_run_laws.proofs.Transfers.LiveEnds.{undisturbed_on}
use Rattle.j39_world.specs.LiveEnds.{StandsAlone}
use Rattle.j39_network.specs.PlannedUnits.{unit_at, units_of}
use Rattle.j39_claim.specs.ClaimRule.{PlannedUnit}
use Rattle.j39_world.specs.Run.{Run, is_on}
use Rattle.j39_world.specs.Sent.{source_of}
use Rattle.j39_world.specs.SentTransfers.{address_of}
use Rattle.j39_network.specs.Staying.{IsAloneThere}
use Rattle.j39_world.specs.Transfers.{is_among}
use Rattle.j39_world.specs.World.{World, all_off}

abbrev receivers : To → List ℕ
receivers All = []
receivers (One v) = v ∷ []

-- the ends of a flow
abbrev ends_of : FlowPlan → List ℕ
ends_of flow = flow.sender ∷ receivers flow.to

among_more : (xs ys : List ℕ) (u : ℕ) → is_among (xs ++ ys) u ≡ true → (P : Type 0) → (is_among xs u ≡ true → P) → (is_among ys u ≡ true → P) → P
among_more [] ys u among P first second = second among
among_more (x ∷ xs) ys u among P first second = elim (or_cases (eqb u x) (is_among (xs ++ ys) u) among) [
  | inl here ↦ first (or_left (eqb u x) (is_among xs u) here)
  | inr later ↦ among_more xs ys u later P (λ there. first (or_right (eqb u x) (is_among xs u) there)) second
]

among_first : (xs ys : List ℕ) (u : ℕ) → is_among xs u ≡ true → is_among (xs ++ ys) u ≡ true
among_first [] ys u among = absurd (true≢false (sym among))
among_first (x ∷ xs) ys u among = elim (or_cases (eqb u x) (is_among xs u) among) [
  | inl here ↦ or_left (eqb u x) (is_among (xs ++ ys) u) here
  | inr later ↦ or_right (eqb u x) (is_among (xs ++ ys) u) (among_first xs ys u later)
]

among_second : (xs ys : List ℕ) (u : ℕ) → is_among ys u ≡ true → is_among (xs ++ ys) u ≡ true
among_second [] ys u among = among
among_second (x ∷ xs) ys u among = or_right (eqb u x) (is_among (xs ++ ys) u) (among_second xs ys u among)

module _ (plan : Plan) (clean : Clean plan) (live : plan.live ≡ true) (steps : List Step) (w : World) (run : Run plan all_off steps w) where
  -- an end of a planned flow is alone
  end_alone : (f : ℕ) (flow : FlowPlan) → slice_get plan.flows.items f ≡ Some flow → (u : ℕ) → is_among (ends_of flow) u ≡ true
      → IsAloneThere plan.keep_free (units_of plan) u
  end_alone f flow is u among = elim (or_cases (eqb u flow.sender) (is_among (receivers flow.to) u) among) [
    | inl here ↦
        subst (IsAloneThere plan.keep_free (units_of plan)) (sym (eqb-true u flow.sender here))
        (flow_at (λ y. IsAloneInPlan plan y.sender) plan ((parts_of plan clean).senders_alone live) f flow is).0
    | inr there ↦ of_receiver flow.to refl there
  ]
    where
      of_receiver : (to : To) → flow.to ≡ to → is_among (receivers to) u ≡ true → IsAloneThere plan.keep_free (units_of plan) u
      of_receiver All to none = absurd (true≢false (sym none))
      of_receiver (One v) to is_one = elim (or_cases (eqb u v) false is_one) [
        | inl same ↦
            subst (IsAloneThere plan.keep_free (units_of plan)) (sym (eqb-true u v same))
            (flow_at (λ y. (r : ℕ) → y.to ≡ One r → IsAloneInPlan plan r) plan ((parts_of plan clean).receivers_alone live) f flow is v to).0
        | inr never ↦ absurd (true≢false (sym never))
      ]

  module _ (f h : ℕ) (flow other : FlowPlan) (group second : GroupPlan) (is : IsShortFlow plan (is_on w.stations) f flow group)
      (its : IsShortFlow plan (is_on w.stations) h other second) where
    -- the ends of the two that are on
    abbrev is_end : ℕ → Bool
    is_end u = is_on w.stations u && is_among (ends_of flow ++ ends_of other) u

    undisturbed : (u : ℕ) → is_end u ≡ true → IsAloneThere plan.keep_free (units_of plan) u × StandsAlone plan w u
    undisturbed u end =
        let parts = and_parts (is_on w.stations u) (is_among (ends_of flow ++ ends_of other) u) end in
        let alone = among_more (ends_of flow) (ends_of other) u parts.1 (IsAloneThere plan.keep_free (units_of plan) u)
        (end_alone f flow is.its u) (end_alone h other its.its u) in
        (alone, undisturbed_on plan clean steps w run u alone parts.0)

    holds : (u : ℕ) → is_end u ≡ true → address_of w.stations u ≡ (unit_at (units_of plan) u).preferred
    holds u end = ap source_of (undisturbed u end).1.held

    held_apart : AreHeldApart is_end (address_of w.stations)
    held_apart = record {
      range = λ u end.
          let (p, is_p, at) = placed plan.keep_free plan.units.items u (undisturbed u end).0.inside in
          let planned : (unit_at (units_of plan) u).preferred ≡ p.address = ap (λ (c : PlannedUnit). c.preferred) at in
          omega (arith, holds u end, planned, p.address_range);
      apart = λ u v other_unit end_u end_v same.
          let (alone_v, now_v) = undisturbed v end_v in
          (undisturbed u end_u).1.alone v alone_v.inside other_unit now_v.on
          (now_v.held ∙ ap (λ a. Some a) (sym (holds v end_v) ∙ sym same ∙ holds u end_u));
    }

    receiver_among : (to : To) (v : ℕ) → to ≡ One v → is_among (receivers to) v ≡ true
    receiver_among All v e = absurd (cc e)
    receiver_among (One x) v e = let same : x ≡ v = cc e in or_left (eqb v x) false (eq-eqb v x (sym same))

    still_short : (k : ℕ) (flow_k : FlowPlan) (group_k : GroupPlan) → IsShortFlow plan (is_on w.stations) k flow_k group_k
        → ((u : ℕ) → is_among (ends_of flow_k) u ≡ true → is_among (ends_of flow ++ ends_of other) u ≡ true) → IsShortFlow plan is_end k flow_k group_k
    still_short k flow_k group_k short among = record {
      its = short.its;
      sent = short.sent;
      short = short.short;
      sender = and_from (is_on w.stations flow_k.sender) (is_among (ends_of flow ++ ends_of other) flow_k.sender) short.sender
          (among flow_k.sender (or_left (eqb flow_k.sender flow_k.sender) (is_among (receivers flow_k.to) flow_k.sender)
          (eq-eqb flow_k.sender flow_k.sender refl)));
      receiver = λ v to. and_from (is_on w.stations v) (is_among (ends_of flow ++ ends_of other) v) (short.receiver v to)
          (among v (or_right (eqb v flow_k.sender) (is_among (receivers flow_k.to) v) (receiver_among flow_k.to v to)));
    }

    pub identifiers_differ : f ≢ h → group_ident (address_of w.stations) group flow ≡ group_ident (address_of w.stations) second other
        → AreTwinFlows group flow second other
    identifiers_differ apart same = different plan clean is_end (address_of w.stations) held_apart f h flow other group second apart
        (still_short f flow group is (among_first (ends_of flow) (ends_of other)))
        (still_short h other second its (among_second (ends_of flow) (ends_of other))) same
