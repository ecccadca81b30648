-- When a step is refused.
use Rattle.std.proofs.Common.{◌≡◌, ℕ, ◌<◌, Bool, true, false, not, nat_lt, List, [], ◌∷◌, ◌++◌, length, refl, sym}
use Rattle.std.proofs.Common.{arith, Option, Some, None}
use Rattle.std.specs.Prelude.{if◌then◌else◌}
use Rattle.std.proofs.lemmas.Bool.{ltb-true, not-false, or_parts}
use Rattle.std.specs.List.{slice_get}
use Rattle.j39_id.specs.FirstFault.{first_fault}
use Rattle.j39_claim.specs.ClaimerValue.{ClaimerValue}
use Rattle.j39_network.specs.declared.plan.Plan.{Plan}
use Rattle.j39_network.specs.declared.steps.Step.{Step}
use Rattle.j39_network.specs.declared.steps.Step.TheVariants.{Up, Down, Give, Ask, Begin, Send, Emit, Take, Lose, LateSender, LateReceiver, Rest}
use Rattle.j39_bus.specs.declared.network.Network.{Network}
use Rattle.j39_world.specs.declared.step_error.StepError.{StepError}
use Rattle.j39_world.specs.declared.step_error.StepError.TheVariants.{UnknownUnit}
use Rattle.j39_world.specs.declared.flow.Flow.{Flow}
use Rattle.j39_bus.specs.BusState.{Histories}
use Rattle.j39_bus.specs.inside.Network.{IsOfPlan, planned_units, refusal_in, world_in}
use Rattle.j39_world.specs.World.{World}
use Rattle.j39_world.specs.Run.{begin_refusals, send_refusals, cause_of, either, is_unknown, refusal, refusal_among, step_refusals}
use Rattle.j39_world.proofs.Refusals.{NoneHold, none_hold}
use Rattle.j39_bus.proofs.Rested.{units_count}

pub length-planned_units : (cs : List ClaimerValue) → length (planned_units cs) ≡ length cs
length-planned_units [] = refl
length-planned_units (c ∷ cs) = omega (arith, length-planned_units cs)

-- ---- the refusals of a step in turn

-- the first of some is the first of all that begin with them
pub earlier : (refusals more : List (StepError × Bool)) (x : StepError) → Some x ≡ first_fault refusals → Some x ≡ first_fault (refusals ++ more)
earlier [] more x none = absurd (cc none)
earlier ((e, true) ∷ rest) more x is = is
earlier ((e, false) ∷ rest) more x is = earlier rest more x is

-- where none of the others holds, it is the last one's
pub last_decides : (refusals : List (StepError × Bool)) (c x : Bool) (g : StepError) → c ≡ x → None ≡ first_fault refusals
    → first_fault ((g, not x) ∷ []) ≡ first_fault (refusals ++ (g, not c) ∷ [])
last_decides [] c x g c_is none = rw c_is refl
last_decides ((e, true) ∷ rest) c x g c_is some = absurd (cc some)
last_decides ((e, false) ∷ rest) c x g c_is none = last_decides rest c x g c_is none

-- none holds of a step that is not refused
pub none_refuses : (net : Network) (h : Histories) (step : Step) → refusal_in net h step ≡ None
    → NoneHold (step_refusals net.live (length net.claimers.items) net.flows.items (world_in h net) step)
none_refuses net h step = none_hold (step_refusals net.live (length net.claimers.items) net.flows.items (world_in h net) step)

-- ---- no cause is want of memory

abbrev pub IsOwnCause : Option StepError → Type 0
IsOwnCause None = Unit {0}
IsOwnCause (Some e) = Some e ≡ cause_of e

-- each cause of a table is one of the world's
abbrev AreOwn : List (StepError × Bool) → Type 0
AreOwn [] = Unit {0}
AreOwn (refusal ∷ rest) = (Some refusal.0 ≡ cause_of refusal.0) × AreOwn rest

own_first : (refusals : List (StepError × Bool)) → AreOwn refusals → IsOwnCause (first_fault refusals)
own_first [] own = tt
own_first ((e, true) ∷ rest) own = own.0
own_first ((e, false) ∷ rest) own = own_first rest own.1

own_by_flow : (live : Bool) (count : ℕ) (w : World) (flow : Option Flow) (bytes : List ℕ) → AreOwn (begin_refusals live count w flow bytes)
own_by_flow live count w None bytes = (refl, tt)
own_by_flow live count w (Some flow) bytes = (refl, (refl, (refl, (refl, (refl, (refl, (refl, tt)))))))

own_by_send : (live : Bool) (count : ℕ) (w : World) (flow : Option Flow) (bytes : List ℕ) → AreOwn (send_refusals live count w flow bytes)
own_by_send live count w None bytes = (refl, tt)
own_by_send live count w (Some flow) bytes = (refl, (refl, (refl, (refl, (refl, (refl, (refl, tt)))))))

own_by_step : (live : Bool) (count : ℕ) (flows : List Flow) (w : World) (step : Step) → AreOwn (step_refusals live count flows w step)
own_by_step live count flows w (Up u) = (refl, (refl, (refl, tt)))
own_by_step live count flows w (Down u) = (refl, (refl, (refl, tt)))
own_by_step live count flows w (Give u v) = (refl, (refl, (refl, tt)))
own_by_step live count flows w (Ask u) = (refl, (refl, (refl, tt)))
own_by_step live count flows w (Begin f bytes) = own_by_flow live count w (slice_get flows f) bytes.items
own_by_step live count flows w (Send f bytes) = own_by_send live count w (slice_get flows f) bytes.items
own_by_step live count flows w (Emit u) = (refl, (refl, (refl, tt)))
own_by_step live count flows w (Take u v) = (refl, (refl, (refl, tt)))
own_by_step live count flows w (Lose u v) = (refl, (refl, (refl, tt)))
own_by_step live count flows w (LateSender u) = (refl, (refl, (refl, tt)))
own_by_step live count flows w (LateReceiver u v) = (refl, (refl, (refl, tt)))
own_by_step live count flows w (Rest u) = (refl, (refl, (refl, tt)))

pub own_cause : (live : Bool) (count : ℕ) (flows : List Flow) (w : World) (step : Step) → IsOwnCause (refusal_among live count flows w step)
own_cause live count flows w step = own_first (step_refusals live count flows w step) (own_by_step live count flows w step)

-- ---- the refusal of a network's step is the definition's
pub refusal_is : (plan : Plan) (net : Network) → IsOfPlan plan net → (w : World) (step : Step)
    → refusal plan w step ≡ refusal_among net.live (length net.claimers.items) net.flows.items w step
refusal_is plan net of w step = λ i. refusal_among (sym of.live i) (units_count plan net of i) (sym of.flows i) w step

-- ---- what holds of a step that is not refused

-- the first refusal of a table does not hold
met : (t : Bool) (e : StepError) (more : Option StepError) → (if t then Some e else more) ≡ None → t ≡ false
met false e more none = refl
met true e more some = absurd (cc some)

pub unit_inside : (count u : ℕ) (more : Option StepError) → (if is_unknown count u then Some UnknownUnit else more) ≡ None → u < count
unit_inside count u more allowed = ltb-true u count (not-false (nat_lt u count) (met (is_unknown count u) UnknownUnit more allowed))

pub pair_inside : (count u v : ℕ) (more : Option StepError) → (if either (is_unknown count) u v then Some UnknownUnit else more) ≡ None
    → (u < count) × (v < count)
pair_inside count u v more allowed =
    let known = or_parts (is_unknown count u) (is_unknown count v) (met (either (is_unknown count) u v) UnknownUnit more allowed) in
    (ltb-true u count (not-false (nat_lt u count) known.0), ltb-true v count (not-false (nat_lt v count) known.1))
