-- Flows to all.
use Rattle.std.proofs.Common.{◌≡◌, ◌==◌, ◌<◌, ◌≤◌, ◌&&◌, ℕ, Bool, nat_lt, cond, true, false, Some, None, List, length, get_or, refl, sym, ap, subst, ◌∙◌, arith}
use Rattle.std.specs.List.{position, position_or_len}
use Rattle.std.proofs.lemmas.Bool.{ltb-false}
use Rattle.std.proofs.lemmas.List.Sums.{fails_before_first}
use Rattle.j39_network.specs.declared.plan.Plan.{Plan}
use Rattle.j39_network.specs.declared.plan.flow_plan.FlowPlan.{FlowPlan}
use Rattle.j39_network.specs.declared.plan.to.To.{To}
use Rattle.j39_network.specs.declared.plan.to.To.TheVariants.{All as ToAll, One as ToOne}
use Rattle.j39_log.proofs.Indexes.{first_place, no_place}
use Rattle.j39_follow.specs.Fits.{fits, fits_all, is_for_all, is_unit, reaches}
use Rattle.j39_follow.specs.declared.flow.sending.Aim.{Aim}
use Rattle.j39_follow.specs.declared.flow.sending.Aim.TheVariants.{All, One, Neither}
use Rattle.j39_follow.specs.declared.flow.sending.Sending.{Sending}
use Rattle.j39_follow.specs.inside.Reporting.{is_all}

and_never : (a b c : Bool) → c ≡ false → (a && (b && c)) ≡ false
and_never true true c e = e
and_never true false c e = refl
and_never false b c e = refl

not_reached : (to : To) (aim : Aim) (unaddressed : Bool) → is_all aim ≡ false → is_for_all to ≡ true → reaches to aim unaddressed ≡ false
not_reached ToAll All u e d = cc
not_reached ToAll (One r) u e d = refl
not_reached ToAll Neither u e d = refl
not_reached (ToOne v) aim u e d = cc

left_false : (a b : Bool) → (a ≡ true → b ≡ false) → (a && b) ≡ false
left_false true b e = e refl
left_false false b e = refl

-- a flow to all fits no message that went to one unit
pub none_for_all : (group : ℕ) (sent : Sending) (flow : FlowPlan) → is_all sent.aim ≡ false → fits_all group sent flow ≡ false
none_for_all group sent flow one =
    left_false (is_for_all flow.to) (fits group sent flow)
    (λ to. and_never (flow.group == group) (is_unit sent.sender flow.sender) (reaches flow.to sent.aim sent.unaddressed)
    (not_reached flow.to sent.aim sent.unaddressed one to))

-- nor one that fits nothing
pub unfit_for_all : (group : ℕ) (sent : Sending) (flow : FlowPlan) → fits group sent flow ≡ false → fits_all group sent flow ≡ false
unfit_for_all group sent flow unfit = left_false (is_for_all flow.to) (fits group sent flow) (λ to. unfit)

none_there : (b : Bool) (n : ℕ) → cond b (Some n) None ≡ None → b ≡ false
none_there true n e = cc
none_there false n e = refl

-- where no place is found none fits
pub none_fits : (p : FlowPlan → Bool) (flows : List FlowPlan) (k : ℕ) (d : FlowPlan) → position p flows ≡ None → k < length flows
    → p (get_or flows k d) ≡ false
none_fits p flows k d none less =
    let past = ltb-false (position_or_len p flows) (length flows)
    (none_there (nat_lt (position_or_len p flows) (length flows)) (position_or_len p flows) none) in
    fails_before_first p flows k d (omega (arith, past, less))

-- the first flow of a plan that passes a test
pub first_that_passes : (test : FlowPlan → Bool) (own plan : Plan) (place : ℕ) (flow : FlowPlan) → own ≡ plan → place < length own.flows.items
    → flow ≡ get_or own.flows.items place flow → test flow ≡ true
    → ((k : ℕ) (d : FlowPlan) → k < place → test (get_or plan.flows.items k d) ≡ false) → Some place ≡ position test plan.flows.items
first_that_passes test own plan place flow same less there passes below =
    let room : place < length plan.flows.items = subst (λ (p : Plan). place < length p.flows.items) same less in
    let here : flow ≡ get_or plan.flows.items place flow = subst (λ (p : Plan). flow ≡ get_or p.flows.items place flow) same there in
    sym (first_place test place plan.flows.items flow room (ap test (sym here) ∙ passes) below)

-- or none passes
pub none_that_passes : (test : FlowPlan → Bool) (own plan : Plan) (place : ℕ) → own ≡ plan → length own.flows.items ≤ place
    → ((k : ℕ) (d : FlowPlan) → k < place → test (get_or plan.flows.items k d) ≡ false) → None ≡ position test plan.flows.items
none_that_passes test own plan place same all below =
    let past : length plan.flows.items ≤ place = subst (λ (p : Plan). length p.flows.items ≤ place) same all in
    sym (no_place test plan.flows.items (λ k d less. below k d (omega (arith, less, past))))
