-- The flows that a message fits, as `follow` looks for them.
use Rattle.std.proofs.Common.{◌≡◌, ◌⊎◌, ℕ, zero, suc, ◌<◌, ◌==◌, ◌&&◌, true, false, Bool, List, [], ◌∷◌, length, map}
use Rattle.std.proofs.Common.{Option, Some, None, inl, inr, refl, sym, ap, subst, ◌∙◌, arith, get_or, eq-eqb, eqb-true}
use Rattle.std.specs.List.{position, slice_get}
use Rattle.std.specs.Option.{option_or}
use Rattle.std.proofs.lemmas.Bool.{and_parts, true≢false, and_from}
use Rattle.std.proofs.lemmas.List.Quantifiers.{position-Some}
use Rattle.std.proofs.lemmas.Option.{get_or_from_slice_get, slice_get-get_or, slice_get_within, none-some, same_Some}
use Rattle.j39_network.specs.declared.plan.Plan.{Plan}
use Rattle.j39_network.specs.declared.plan.flow_plan.FlowPlan.{FlowPlan}
use Rattle.j39_network.specs.declared.plan.group_plan.GroupPlan.{GroupPlan}
use Rattle.j39_network.specs.declared.plan.to.To.{To}
use Rattle.j39_network.specs.declared.plan.to.To.TheVariants.{All as ToAll, One as ToOne}
use Rattle.j39_world.specs.Flows.{flow_of}
use Rattle.j39_world.specs.declared.flow.Flow.{Flow}
use Rattle.j39_follow.specs.Fits.{fits, fits_all, fitting_flow, is_for_all, is_unit, reaches}
use Rattle.j39_follow.specs.declared.flow.sending.Aim.{Aim}
use Rattle.j39_follow.specs.declared.flow.sending.Aim.TheVariants as aims
use Rattle.j39_follow.specs.declared.flow.sending.Sending.{Sending}
use Rattle.j39_follow.proofs.Flows.ToAll.{none_fits}

-- ---- flows

pub planned_flow : (groups : List GroupPlan) (flows : List FlowPlan) (k : ℕ) (flow : Flow) → slice_get (map (flow_of groups) flows) k ≡ Some flow
    → (planned : FlowPlan) × (slice_get flows k ≡ Some planned) × (flow ≡ flow_of groups planned)
planned_flow groups [] k flow e = absurd (none-some flow e)
planned_flow groups (x ∷ flows) zero flow e = (x, refl, same_Some flow (flow_of groups x) (sym e))
planned_flow groups (x ∷ flows) (suc k) flow e = planned_flow groups flows k flow e

-- a flow of a group, with what the group has
abbrev pub of_group : GroupPlan → FlowPlan → Flow
of_group group planned = record {
  pgn = group.pgn;
  priority = group.priority;
  length = group.length;
  most = group.most;
  when = group.when;
  sender = planned.sender;
  to = planned.to;
}

pub some_there : (groups : List GroupPlan) (g : ℕ) → g < length groups → (group : GroupPlan) × (slice_get groups g ≡ Some group)
some_there [] g less = absurd (omega (arith, less))
some_there (x ∷ groups) zero less = (x, refl)
some_there (x ∷ groups) (suc g) less = some_there groups g (omega (arith, less))

-- the first that passes is found where some does
pub found_where : (p : FlowPlan → Bool) (flows : List FlowPlan) (k : ℕ) (flow : FlowPlan) → slice_get flows k ≡ Some flow → p flow ≡ true
    → position p flows ≡ None → ⊥
found_where p flows k flow is passes none =
    let fails = none_fits p flows k flow none (slice_get_within flows k flow is) in
    let here = get_or_from_slice_get flows k flow flow is in
    true≢false (sym passes ∙ sym (ap p here) ∙ fails)

pub passing : (p : FlowPlan → Bool) (flows : List FlowPlan) (n : ℕ) (d : FlowPlan) → position p flows ≡ Some n
    → (flow : FlowPlan) × (slice_get flows n ≡ Some flow) × (p flow ≡ true)
passing p flows n d is =
    let at = position-Some p flows n d is in
    (get_or flows n d, slice_get-get_or flows n d at.0, at.1)

-- the flow that a message fits is there, and fits
pub fitting_there : (plan : Plan) (g : ℕ) (sent : Sending) (n : ℕ) (d : FlowPlan) → fitting_flow plan g sent ≡ Some n
    → (flow : FlowPlan) × (slice_get plan.flows.items n ≡ Some flow) × (fits g sent flow ≡ true)
fitting_there plan g sent n d is = go (position (fits_all g sent) plan.flows.items) refl is
  where
    go : (o : Option ℕ) → position (fits_all g sent) plan.flows.items ≡ o → option_or o (position (fits g sent) plan.flows.items) ≡ Some n
        → (flow : FlowPlan) × (slice_get plan.flows.items n ≡ Some flow) × (fits g sent flow ≡ true)
    go (Some m) at e =
        let same : m ≡ n = same_Some m n e in
        let (flow, there, passes) = passing (fits_all g sent) plan.flows.items n d (at ∙ ap Some same) in
        (flow, there, (and_parts (is_for_all flow.to) (fits g sent flow) passes).1)
    go None at e = passing (fits g sent) plan.flows.items n d e

pub fitting_some : (plan : Plan) (g : ℕ) (sent : Sending) (k : ℕ) (flow : FlowPlan) → slice_get plan.flows.items k ≡ Some flow
    → fits g sent flow ≡ true → (n : ℕ) × (fitting_flow plan g sent ≡ Some n)
fitting_some plan g sent k flow is passes = go (position (fits_all g sent) plan.flows.items) (position (fits g sent) plan.flows.items) refl
  where
    go : (a b : Option ℕ) → position (fits g sent) plan.flows.items ≡ b → (n : ℕ) × (option_or a b ≡ Some n)
    go (Some n) b at = (n, refl)
    go None (Some n) at = (n, refl)
    go None None at = absurd (found_where (fits g sent) plan.flows.items k flow is passes at)

-- what fits came from the flow's sender, and went to its receivers
pub record FitParts (g : ℕ) (sent : Sending) (flow : FlowPlan) : Type 0 where
  pub group : flow.group ≡ g
  pub sender : sent.sender ≡ Some flow.sender
  pub reached : reaches flow.to sent.aim sent.unaddressed ≡ true

pub same_unit : (o : Option ℕ) (u : ℕ) → is_unit o u ≡ true → o ≡ Some u
same_unit None u e = absurd (true≢false (sym e))
same_unit (Some v) u e = ap Some (eqb-true v u e)

pub unit_itself : (o : Option ℕ) (u : ℕ) → o ≡ Some u → is_unit o u ≡ true
unit_itself o u e = subst (λ (x : Option ℕ). is_unit x u ≡ true) (sym e) (eq-eqb u u refl)

pub fit_parts : (g : ℕ) (sent : Sending) (flow : FlowPlan) → fits g sent flow ≡ true → FitParts g sent flow
fit_parts g sent flow e =
    let first = and_parts (flow.group == g) (is_unit sent.sender flow.sender && reaches flow.to sent.aim sent.unaddressed) e in
    let second = and_parts (is_unit sent.sender flow.sender) (reaches flow.to sent.aim sent.unaddressed) first.1 in
    record { group = eqb-true flow.group g first.0; sender = same_unit sent.sender flow.sender second.0; reached = second.1 }

pub fit_whole : (g : ℕ) (sent : Sending) (flow : FlowPlan) → flow.group ≡ g → sent.sender ≡ Some flow.sender
    → reaches flow.to sent.aim sent.unaddressed ≡ true → fits g sent flow ≡ true
fit_whole g sent flow group from reached =
    and_from (flow.group == g) (is_unit sent.sender flow.sender && reaches flow.to sent.aim sent.unaddressed) (eq-eqb flow.group g group)
    (and_from (is_unit sent.sender flow.sender) (reaches flow.to sent.aim sent.unaddressed) (unit_itself sent.sender flow.sender from) reached)

-- two that one message reaches go to the same, or it names no receiver
pub same_receivers : (a b : To) (aim : Aim) (unaddressed : Bool) → reaches a aim unaddressed ≡ true → reaches b aim unaddressed ≡ true
    → (a ≡ b) ⊎ (unaddressed ≡ true)
same_receivers ToAll ToAll aims.All u x y = inl refl
same_receivers (ToOne v) b aims.All u x y = inr x
same_receivers ToAll (ToOne v) aims.All u x y = inr y
same_receivers (ToOne v) (ToOne t) (aims.One r) u x y = inl (ap ToOne (eqb-true v r x ∙ sym (eqb-true t r y)))
same_receivers ToAll b (aims.One r) u x y = absurd (true≢false (sym x))
same_receivers (ToOne v) ToAll (aims.One r) u x y = absurd (true≢false (sym y))
same_receivers ToAll b aims.Neither u x y = absurd (true≢false (sym x))
same_receivers (ToOne v) b aims.Neither u x y = absurd (true≢false (sym x))
