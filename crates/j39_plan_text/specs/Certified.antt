-- What a plan has in which nothing is wrong: it is sound, and where something is known of its bus, the messages of its flows are in time,
-- and of each need that asks for an age some flow brings what is as young, while it keeps its `pause`, and reads as it was written. All of it
-- holds of the plan of each vehicle too.
use Rattle.std.specs.Prelude.{◌≡◌, Some}
use Rattle.j39_network.specs.VehiclePlans.{IsVehicleOf}
use Rattle.j39_network.specs.declared.plan.Plan.{Plan}
use Rattle.j39_network.specs.declared.plan.timing.Timing.{Timing}
use Rattle.j39_load.specs.BusTimes.{timing_of}
use Rattle.j39_load.specs.FreshNeeds.{AreNeedsFresh}
use Rattle.j39_load.specs.KeepsErrors.{AreInTimeWithErrors, AreInTimeWithErrorsInAnyOrder}
use Rattle.j39_load.specs.KeepsPlan.{AreFramesInTime}
use Rattle.j39_load.specs.KeptDeadlines.{AreEachInTime}
use Rattle.j39_load.specs.KeptReceivers.{AreNotGivenUp}
use Rattle.j39_load.specs.PlannedFrames.{ArePlannedFramesInTime}
use Rattle.j39_load.specs.ReadInTime.{AreNeedsRead}
use Rattle.j39_load.specs.ValuesInTime.{AreValuesInTime}
use Rattle.j39_world.specs.SoundPlan.{IsSound}

pub record IsSoundInTime (plan : Plan) : Type 0 where
  -- what holds in every run of the plan, and of its signals
  pub sound : IsSound plan
  -- each flow whose messages go in one frame has a delay within its limit, which bounds its frames' time in every schedule of such flows,
  -- whether units keep order or don't; and each with long messages to all and a written deadline has a time within it, which bounds that of each
  -- message at whose release none of its flow waits or is under way
  pub in_time : (timing : Timing) → timing_of plan ≡ Some timing → ArePlannedFramesInTime plan timing
  -- of each need that asks for an age some flow that meets it brings nothing older while it keeps its `pause`, in every schedule of such flows
  pub fresh : (timing : Timing) → timing_of plan ≡ Some timing → AreNeedsFresh plan timing
  -- and where the frames of this flow carry bytes that were written signal after signal, each signal reads as it was written in those that
  -- were received last, which are no older than that
  pub read : (timing : Timing) → timing_of plan ≡ Some timing → AreNeedsRead plan timing
  -- in the plan's own words: on every bus that keeps to it each frame that is a whole message is sent in time, also where frames are damaged, and
  -- each value that is needed arrives within its age, while the flow that brings it keeps its `pause`
  pub kept : (timing : Timing) → timing_of plan ≡ Some timing → AreFramesInTime plan timing
  pub damaged : (timing : Timing) → timing_of plan ≡ Some timing → AreInTimeWithErrors plan timing
  pub damaged_in_any_order : (timing : Timing) → timing_of plan ≡ Some timing → AreInTimeWithErrorsInAnyOrder plan timing
  -- each long message to all of a flow with a deadline is whole within it, where its unit takes turns
  pub broadcasts : (timing : Timing) → timing_of plan ≡ Some timing → AreEachInTime plan timing
  -- nor does a receiver give up a long message to all that has a deadline, where each packet is queued soon enough behind the frame before
  pub receivers : (timing : Timing) → timing_of plan ≡ Some timing → AreNotGivenUp plan timing
  pub values : (timing : Timing) → timing_of plan ≡ Some timing → AreValuesInTime plan timing

pub record IsCertified (plan : Plan) : Type 0 where
  -- what holds of the plan
  pub plan_holds : IsSoundInTime plan
  -- and of the plan of each vehicle, whatever the serial numbers of its boxes are
  pub vehicles_hold : (vehicle : Plan) → IsVehicleOf plan vehicle → IsSoundInTime vehicle
