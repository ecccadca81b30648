-- In every world of every run of a clean plan each end of a flow that is alone at its planned address is undisturbed while it is on, and so
-- are those between which messages go where each end is alone.
use Rattle.std.proofs.Common.{◌≡◌, ◌≢◌, ℕ, arith, true, List, [], ◌∷◌, ◌++◌, refl, sym, ap, ◌∙◌, subst, inl, inr, Some}
use Rattle.std.proofs.lemmas.Bool.{and_parts, cases_Bool, cases_eq}
use Rattle.std.proofs.lemmas.List.Elements.{All-contains, All-from_recursion}
use Rattle.std.proofs.lemmas.Option.{same_Some}
use Rattle.std.specs.List.{AllByRecursion, Contains, slice_get}
use Rattle.j39_claim.specs.declared.item.Say.TheVariants.{Claim}
use Rattle.j39_claim.specs.declared.item.Item.{Item}
use Rattle.j39_claim.specs.declared.item.Item.TheVariants.{AddressClaimed}
use Rattle.j39_findings.specs.Findings.{Clean}
use Rattle.j39_network.specs.declared.plan.Plan.{Plan}
use Rattle.j39_network.specs.declared.plan.to.To.TheVariants.{One}
use Rattle.j39_network.specs.declared.steps.Step.{Step}
use Rattle.j39_network.specs.declared.steps.Step.TheVariants.{Down}
use Rattle.j39_world.specs.declared.flow.Flow.{Flow}
use Rattle.j39_world.specs.declared.wired.Wired.{Wired}
use Rattle.j39_world.specs.declared.wired.Wired.TheVariants.{Alone}
use Rattle.j39_world.specs.Flows.{FlowGoes, flows_of}
use Rattle.j39_world.specs.LiveEnds.{AreEndsAlone, AreEndsUndisturbed, StandsAlone}
use Rattle.j39_network.specs.PlannedUnits.{unit_at, units_of}
use Rattle.j39_world.specs.Run.{Follows, Run, both}
use Rattle.j39_network.specs.Staying.{IsAloneThere}
use Rattle.j39_world.specs.Transfers.{Outgoing, is_among}
use Rattle.j39_world.specs.World.{World, all_off}
use Rattle.j39_run_laws.proofs.Addresses.Alone.{undisturbed, unclaimed}
use Rattle.j39_run_laws.proofs.Addresses.CleanUnits.{clean_units}
use Rattle.j39_run_laws.proofs.Addresses.SoundAddresses.{invariant}
use Rattle.j39_run_laws.proofs.Runs.Always.{one_more}
use Rattle.j39_run_laws.proofs.Runs.Conditions.{is_unit}
use Rattle.j39_run_laws.proofs.Runs.Units.{in_units}
use Rattle.j39_run_laws.proofs.Transfers.Accounted.{AreEndsOn, IsAccounted, IsSettledFor}
use Rattle.j39_run_laws.proofs.Transfers.AccountedSteps.{IsKept, all_kept, lies_on}
use Rattle.j39_run_laws.proofs.Transfers.StillOn.{on_after}
use Rattle.j39_run_laws.proofs.Transfers.OfFlows.{IsOfFlow, IsSentBy, all_of_flows}

none_in : (x : Item) → Contains [] x → ⊥
none_in x (k, inside, is) = absurd (omega (arith, inside))

module _ (plan : Plan) (clean : Clean plan) (steps : List Step) (w : World) (run : Run plan all_off steps w) where
  kept : IsKept plan w
  kept = all_kept plan steps w run

  -- a unit that is alone at its planned address
  module _ (u : ℕ) (alone : IsAloneThere plan.keep_free (units_of plan) u) where
    abbrev its_claim : Item
    its_claim = AddressClaimed (Claim (unit_at (units_of plan) u).preferred)

    none_claims : (v : ℕ) → Contains (w.claims v u) its_claim → ⊥
    none_claims v claim = elim (cases_Bool (both (is_unit plan) v u)) [
      | inr outside ↦ none_in its_claim (subst (λ (xs : List Item). Contains xs its_claim) (kept.transfers.order.between v u outside) claim)
      | inl inside ↦ elim (cases_eq u v) [
        | inl same ↦
            let none : w.claims v u ≡ [] = ap (λ k. w.claims k u) (sym same) ∙ (invariant plan (clean_units plan clean) steps w run).itself u in
            none_in its_claim (subst (λ (xs : List Item). Contains xs its_claim) none claim)
        | inr other ↦ unclaimed plan clean u alone steps w run v (in_units plan v (and_parts (is_unit plan v) (is_unit plan u) inside).0) other claim
      ]
    ]

    pub undisturbed_on : (w.stations u).on ≡ true → StandsAlone plan w u
    undisturbed_on on =
        let holds = undisturbed plan clean steps w run u alone in
        record { on = on; held = holds.held on; alone = holds.alone; unclaimed = none_claims }

  -- ---- each end of a flow is alone

  module _ (ends : AreEndsAlone plan) where
    goes : (u : ℕ) (s : Outgoing) → w.sessions u ≡ Some s → FlowGoes plan s.flow u s.to
    goes u s is = subst (IsOfFlow plan u) is ((all_of_flows plan steps w run).sessions u)

    on_at : (u : ℕ) (s : Outgoing) → w.sessions u ≡ Some s → AreEndsOn w.stations u (Some s)
    on_at u s is = subst (AreEndsOn w.stations u) is (kept.accounted.ends u)

    sender_at : (u : ℕ) (s : Outgoing) → w.sessions u ≡ Some s → StandsAlone plan w u
    sender_at u s is =
        let (flow, planned, by, to) = goes u s is in
        undisturbed_on u (subst (IsAloneThere plan.keep_free (units_of plan)) by (ends s.flow flow planned).0) (on_at u s is).0

    receiver_at : (u v : ℕ) (s : Outgoing) → w.sessions u ≡ Some s → s.to ≡ One v → is_among s.targets v ≡ true → StandsAlone plan w v
    receiver_at u v s is one among =
        let (flow, planned, by, to) = goes u s is in
        undisturbed_on v ((ends s.flow flow planned).1 v (to ∙ one)) ((on_at u s is).1 v among)

    between_at : (u v : ℕ) → (list : List Wired) → w.wire u v ≡ list → list ≢ [] → ((w.stations u).on ≡ true) × ((w.stations v).on ≡ true)
    between_at u v [] is some = absurd (some refl)
    between_at u v (item ∷ rest) is some = lies_on plan w kept.transfers kept.accounted u v item
        (subst (AllByRecursion (IsAccounted w.sessions u v)) is (kept.accounted.wire u v)).0
        (subst (AllByRecursion (IsSettledFor plan.live w.stations w.claims u v)) is (kept.accounted.alone u v)).0

    module _ (u v f : ℕ) (bytes : List ℕ) (lies : Contains (w.wire u v) (Alone f bytes)) where
      settled : IsSettledFor plan.live w.stations w.claims u v (Alone f bytes)
      settled = All-contains (IsSettledFor plan.live w.stations w.claims u v) (w.wire u v) (Alone f bytes)
          (All-from_recursion (IsSettledFor plan.live w.stations w.claims u v) (w.wire u v) (kept.accounted.alone u v)) lies

      sent_by : IsSentBy plan u v (Alone f bytes)
      sent_by = All-contains (IsSentBy plan u v) (w.wire u v) (Alone f bytes)
          (All-from_recursion (IsSentBy plan u v) (w.wire u v) ((all_of_flows plan steps w run).wire u v)) lies

      sent_at : StandsAlone plan w u
      sent_at =
          let (flow, planned, by, reaches) = sent_by in
          undisturbed_on u (subst (IsAloneThere plan.keep_free (units_of plan)) by (ends f flow planned).0) settled.0

      sent_to_at : (flow : Flow) (x : ℕ) → slice_get (flows_of plan) f ≡ Some flow → flow.to ≡ One x → (x ≡ v) × StandsAlone plan w v
      sent_to_at flow x planned one =
          let (other, planned_too, by, reaches) = sent_by in
          let same : other ≡ flow = same_Some _ _ (sym planned_too ∙ planned) in
          let here : x ≡ v = reaches x (ap (λ (g : Flow). g.to) same ∙ one) in
          (here, undisturbed_on v (subst (IsAloneThere plan.keep_free (units_of plan)) here ((ends f flow planned).1 x one)) settled.1)

    pub ends_undisturbed : AreEndsUndisturbed plan w
    ends_undisturbed = record {
      sender = sender_at;
      receiver = receiver_at;
      targets = λ u v s is among. (on_at u s is).1 v among;
      between = λ u v some. between_at u v (w.wire u v) refl some;
      sent = λ u v f bytes lies. sent_at u v f bytes lies;
      sent_to = λ u v f bytes flow x lies planned one. sent_to_at u v f bytes lies flow x planned one;
    }

-- a unit that is alone at its planned address is undisturbed after each step but its own Down
pub stays_undisturbed : (plan : Plan) → Clean plan → (steps : List Step) (w : World) → Run plan all_off steps w → (u : ℕ)
    → IsAloneThere plan.keep_free (units_of plan) u → (w.stations u).on ≡ true → (step : Step) (after : World) → step ≢ Down u → Follows plan w step after
    → StandsAlone plan after u
stays_undisturbed plan clean steps w run u alone on step after other follows =
    undisturbed_on plan clean (steps ++ step ∷ []) after (one_more plan all_off w after steps step run follows) u alone
    (on_after plan w u on step after other follows)
