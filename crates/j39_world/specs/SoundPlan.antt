-- What a plan without findings has: its addresses, its signals and its reports are sound, addresses also with strangers, planned ones that
-- differ stay, what units have noted of one another is right where no claim is undelivered, what it keeps free stays free, its claims die
-- down, its messages come to their end, and on a live bus nobody disturbs their ends; one of which nothing is lost arrives; some flow of
-- it answers each request, and some flow brings each unit what it needs; and a message of such a flow of which nothing is lost reads there
-- as it was written.
use Rattle.std.specs.Prelude.{◌≡◌, ℕ, ◌<◌, ◌⊎◌, false, true, List, length, Some}
use Rattle.j39_network.specs.Needs.{AreNeedsMet}
use Rattle.j39_network.specs.PlannedRequests.{AreAnsweredWell, AreRequestsServed}
use Rattle.j39_network.specs.SoundSignals.{SoundSignals}
use Rattle.j39_network.specs.VehiclePlans.{IsVehicleOf}
use Rattle.j39_network.specs.declared.plan.Plan.{Plan}
use Rattle.j39_network.specs.declared.plan.unit_plan.UnitPlan.{UnitPlan}
use Rattle.j39_network.specs.declared.steps.Step.{Step}
use Rattle.j39_world.specs.Transfers.{Outgoing}
use Rattle.j39_world.specs.World.{World, all_off}
use Rattle.j39_world.specs.Run.{Run}
use Rattle.j39_network.specs.PlannedUnits.{unit_at, units_of}
use Rattle.j39_world.specs.Settling.{Settles}
use Rattle.j39_world.specs.Ending.{TransfersEnd}
use Rattle.j39_world.specs.LiveEnds.{AreEndsUndisturbed}
use Rattle.j39_world.specs.Arriving.{ArrivesUnanswered, ArrivesAnswered}
use Rattle.j39_world.specs.Needed.{NeededValuesArrive}
use Rattle.j39_world.specs.SentArriving.{SentFramesArrive, SentValuesArrive}
use Rattle.j39_world.specs.Sound.{AreAddressesSound, AreAddressesDifferent, AreAllDelivered, AreNotesRight, AreKeptFree, DoesOneLie, IsQuiet}
use Rattle.j39_world.specs.Sound.{AreReportsSound, AreSentFramesSound, IsAcknowledgedReported}
use Rattle.j39_network.specs.Staying.{IsAloneThere}
use Rattle.j39_world.specs.HeldAddresses.{ArePlannedApart, HoldsAlone, HoldsPlanned}
use Rattle.j39_world.specs.Strangers.{HasStrangers}

-- it holds in every world of every run of the plan, with all lawful choices and whatever is lost
abbrev pub Always : Plan → (World → Type 0) → Type 0
Always plan Holds = (steps : List Step) (w : World) → Run plan all_off steps w → Holds w

-- it holds in every world of every run of the plan with strangers, of which at most so many come as it has
abbrev pub AlwaysBeside : Plan → (Plan → World → Type 0) → Type 0
AlwaysBeside plan Holds = (joined : Plan) (strangers : List UnitPlan) → HasStrangers plan joined strangers → Always joined (Holds joined)

-- a unit is between the beginning of a message and its rest
abbrev pub IsSending : World → Type 0
IsSending w = (u : ℕ) × (o : Outgoing) × (w.sessions u ≡ Some o)

pub record IsSound (plan : Plan) : Type 0 where
  -- each unit that is on holds an address, a fixed one its planned address; two hold one only while one is still to hear the other's claim
  pub addresses : Always plan (AreAddressesSound plan)
  -- where no claim is undelivered no two units hold one address; nor, of a plan that isn't live, while any message is sent
  pub quiet : Always plan (λ w. IsQuiet w.claims → AreAddressesDifferent w)
  pub sending : plan.live ≡ false → Always plan (λ w. IsSending w → AreAddressesDifferent w)
  -- where no two units are planned with one address, each that is on holds its planned address
  pub planned : ArePlannedApart (units_of plan) → Always plan (λ w. (u : ℕ) → HoldsPlanned (units_of plan) w u)
  -- a unit that is alone at its planned address holds it while it is on, and no other one that is on does
  pub alone : Always plan (λ w. (u : ℕ) → IsAloneThere plan.keep_free (units_of plan) u → HoldsAlone (units_of plan) w u)
  -- a unit that never claims holds its planned address while it is on, and no other one that is on does
  pub silent : Always plan (λ w. (u : ℕ) → u < length (units_of plan) → (unit_at (units_of plan) u).claims ≡ false → HoldsAlone (units_of plan) w u)
  -- with strangers, addresses are sound too, and differ where no claim is undelivered
  pub strangers : AlwaysBeside plan AreAddressesSound
  pub strangers_quiet : AlwaysBeside plan (λ joined w. IsQuiet w.claims → AreAddressesDifferent w)
  -- where no claim is undelivered, what a unit has noted of another that is on is the address that this one holds
  pub notes : Always plan (λ w. IsQuiet w.claims → AreNotesRight plan w)
  -- no arbitrary unit holds an address that is kept free
  pub kept : Always plan (AreKeptFree plan)
  -- whoever goes on delivering claims comes to an end, where nothing is undelivered
  pub settles : Always plan (Settles plan)
  -- whatever is written to a group's signals, each reads back what it was last given
  pub signals : SoundSignals plan
  -- what a unit reports of another was begun by that one, in this order, and nothing twice
  pub reports : Always plan AreReportsSound
  -- what it reports of frames that were sent alone was sent by that one, in this order, and nothing twice
  pub sent_frames : Always plan AreSentFramesSound
  -- of a plan that isn't live no address moves while any message is sent, or while a frame is undelivered that was sent alone
  pub delivered : plan.live ≡ false → Always plan (λ w. IsSending w ⊎ DoesOneLie w → AreAllDelivered w.claims)
  -- where a sender rests acknowledged, its receiver has reported the message
  pub acknowledged : Always plan IsAcknowledgedReported
  -- of a live plan nobody disturbs the ends of messages: they hold their planned addresses, and nobody else does
  pub undisturbed : plan.live ≡ true → Always plan (AreEndsUndisturbed plan)
  -- whoever goes on with messages comes to an end, where no unit is between its Begin and its Rest
  pub ends : Always plan (TransfersEnd plan)
  -- a message to all or of one frame of which nothing is lost is reported once by each receiver
  pub arrives : Always plan (ArrivesUnanswered plan)
  -- one of several frames to one unit of which nothing is lost is reported once and acknowledged, where its receiver has none of its group
  -- for its sender alone between its beginning and its rest
  pub arrives_answered : Always plan (ArrivesAnswered plan)
  -- a frame that is sent alone is reported by each receiver that doesn't lose it, between those that were sent before it and those that were since
  pub sent_arrive : Always plan (SentFramesArrive plan)
  -- some flow answers each request, to one unit or to all as it was asked
  pub served : AreRequestsServed plan
  pub answered : AreAnsweredWell plan
  -- some flow brings each unit what it needs
  pub needs : AreNeedsMet plan
  -- and a message of it of which nothing is lost is reported once by this unit, and its signals read there what they were last given
  pub needed : Always plan (NeededValuesArrive plan)
  -- and so is one that is sent in a frame alone
  pub needed_sent : Always plan (SentValuesArrive plan)

-- and so is the plan of each vehicle, whatever the serial numbers of its boxes are
abbrev pub AreVehiclesSound : Plan → Type 0
AreVehiclesSound plan = (vehicle : Plan) → IsVehicleOf plan vehicle → IsSound vehicle
