-- What a unit needs arrives: what another unit writes is what it reads. How messages arrive and how signals read back, put together.
use Rattle.std.specs.Prelude.{◌≡◌, ℕ, ◌⊎◌, ℤ, true, List, [], ◌∷◌, ◌++◌, length, None, Some}
use Rattle.std.specs.List.{HoldsAt, slice_get}
use Rattle.j39_signal.specs.Bits.{all_ones, raw_of}
use Rattle.j39_signal.specs.Laid.{Chain, Write, last_payload}
use Rattle.j39_signal.specs.State.{IsRawOf, state_of}
use Rattle.j39_signal.specs.declared.state.State.TheVariants.{Value}
use Rattle.j39_network.specs.Serving.{Meets}
use Rattle.j39_network.specs.Records.{signals_in}
use Rattle.j39_network.specs.SoundSignals.{IsBlankOf, LeaveAlone, unset_state}
use Rattle.j39_network.specs.declared.plan.Plan.{Plan}
use Rattle.j39_network.specs.declared.plan.flow_plan.FlowPlan.{FlowPlan}
use Rattle.j39_network.specs.declared.plan.group_plan.GroupPlan.{GroupPlan}
use Rattle.j39_network.specs.declared.plan.need_plan.NeedPlan.{NeedPlan}
use Rattle.j39_network.specs.declared.steps.Step.{Step}
use Rattle.j39_world.specs.Arriving.{Answered, IsAlone, IsThrough, IsUnanswered, RunSparing}
use Rattle.j39_world.specs.Flows.{flow_of, flows_of}
use Rattle.j39_world.specs.Run.{begin_refusal, count_of, is_on}
use Rattle.j39_world.specs.Sound.{reported}
use Rattle.j39_world.specs.TransferSteps.{begins}
use Rattle.j39_world.specs.World.{World}
use Rattle.j39_world.specs.declared.flow.Flow.{Flow}

-- a message of a flow that meets a need, whose bytes were written signal after signal, from a blank one of its group on
pub record NeededMessage (plan : Plan) : Type 0 where
  pub need_place : ℕ
  pub need : NeedPlan
  pub needed : slice_get plan.needs.items need_place ≡ Some need
  pub place : ℕ
  pub flow : FlowPlan
  pub its : slice_get plan.flows.items place ≡ Some flow
  pub meets : Meets plan.requests.items need flow
  pub group : GroupPlan
  pub of : slice_get plan.groups.items flow.group ≡ Some group
  pub start : List ℕ
  pub blank : IsBlankOf group start
  pub writes : List Write
  pub chain : Chain (signals_in group (length start)) start writes

-- its bytes
abbrev pub bytes_of : {plan : Plan} → NeededMessage plan → List ℕ
bytes_of m = last_payload m.start m.writes

-- it is begun in the first of two worlds, and nothing of it is lost up to the second at the need's unit, where its sender can send no more and
-- this unit can take no more of it: it is one that no receiver answers and steps that spare it lead there, or one that its receiver answers
abbrev pub IsDelivered : (plan : Plan) → NeededMessage plan → World → World → Type 0
IsDelivered plan m w after =
    ((flow : Flow) × (steps : List Step) × (slice_get (flows_of plan) m.place ≡ Some flow) × IsUnanswered flow (bytes_of m)
    × (begin_refusal plan.live (count_of plan) w (Some flow) (bytes_of m) ≡ None)
    × RunSparing plan flow.sender (m.need.unit ∷ []) (begins (count_of plan) w m.place flow (bytes_of m)) steps after
    × IsThrough plan after flow.sender (m.need.unit ∷ []))
    ⊎ ((a : Answered plan w) × IsAlone plan w a × (a.passage.place ≡ m.place) × (a.passage.bytes ≡ bytes_of m)
    × (a.passage.after ≡ after))

-- such a message that is begun in this world, while the need's unit is on, and the world in which it has arrived
pub record Delivered (plan : Plan) (w : World) : Type 0 where
  pub message : NeededMessage plan
  pub after : World
  pub on : is_on w.stations message.need.unit ≡ true
  pub through : IsDelivered plan message w after

-- the need's unit has reported its bytes once since
abbrev pub ReportsNeeded : (plan : Plan) (w : World) → Delivered plan w → Type 0
ReportsNeeded plan w d = let m = d.message in
    reported d.after.reports m.need.unit m.flow.sender
    ≡ reported w.reports m.need.unit m.flow.sender ++ record { flow = m.place; bytes = bytes_of m } ∷ []

-- the last of its writes for some signal
pub record LastWrite {plan : Plan} (m : NeededMessage plan) : Type 0 where
  pub write : Write
  pub earlier : List Write
  pub later : List Write
  pub among : m.writes ≡ earlier ++ write ∷ later
  pub last : LeaveAlone later write.place

-- the signal at this place, read in its bytes, has the value that was written last, or is unset where it was given up
abbrev pub ReadsAsWritten : {plan : Plan} (m : NeededMessage plan) → LastWrite m → ℕ → Type 0
ReadsAsWritten m x place = HoldsAt
    (λ s. ((value : ℤ) → IsRawOf s value x.write.raw → state_of s (raw_of (bytes_of m) s) ≡ Value value)
    × (x.write.raw ≡ all_ones s → state_of s (raw_of (bytes_of m) s) ≡ unset_state s))
    (signals_in m.group (length m.start)) place

-- each such message is reported, and each signal in it reads as it was written
abbrev pub NeededValuesArrive : Plan → World → Type 0
NeededValuesArrive plan w = (d : Delivered plan w) → ReportsNeeded plan w d × ((x : LastWrite d.message) → ReadsAsWritten d.message x x.write.place)
