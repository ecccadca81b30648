-- What holds of what each flow, each unit and each request asks of the bus, so that waits can be computed from it.
use Rattle.std.specs.Prelude.{◌^◌, ◌<◌, ◌≤◌, Option, Some, None, IfSome}
use Rattle.j39_load.specs.declared.frames.broadcast.Broadcast.{Broadcast}
use Rattle.j39_load.specs.declared.frames.flow_frames.FlowFrames.{FlowFrames}
use Rattle.j39_load.specs.declared.loads.flow_load.FlowLoad.{FlowLoad}
use Rattle.j39_load.specs.declared.frames.messages.Messages.{Messages}
use Rattle.j39_load.specs.declared.frames.messages.Messages.TheVariants.{Short, ToAll, ToOne}
use Rattle.j39_load.specs.declared.loads.request_load.RequestLoad.{RequestLoad}
use Rattle.j39_load.specs.declared.loads.unit_load.UnitLoad.{UnitLoad}
use Rattle.j39_load.specs.Asked.{own_frames}
use Rattle.j39_timing.specs.Waits.{IsStream}

abbrev pub IsSoundBroadcast : Broadcast → Type 0
IsSoundBroadcast broadcast = (1 ≤ broadcast.period) × (2 ≤ broadcast.least_packets) × (broadcast.jitter < 2 ^ 31) × (1 ≤ broadcast.apart) × (broadcast.late < 2 ^ 31) × (broadcast.askers ≤ 2 ^ 16)

abbrev pub AreSound : FlowFrames → Type 0
AreSound frames = IsStream frames.stream × (frames.stream.jitter < 2 ^ 30) × (frames.stream.bits ≤ 160) × IfSome frames.want IsSoundBroadcast

-- where they are queued later
abbrev pub FitIfAny : Option FlowFrames → Type 0
FitIfAny frames = IfSome frames (λ (f : FlowFrames). IsStream f.stream)

abbrev pub AreSoundIfAny : Option FlowFrames → Type 0
AreSoundIfAny frames = IfSome frames AreSound

abbrev pub broadcast_part : Messages → Option Broadcast
broadcast_part (Short frames) = None
broadcast_part (ToOne frames) = None
broadcast_part (ToAll broadcast) = Some broadcast

abbrev pub short_part : Messages → Option FlowFrames
short_part (Short frames) = Some frames
short_part (ToOne frames) = None
short_part (ToAll broadcast) = None

-- what goes in one frame each has a period of milliseconds
abbrev pub HaveFitPeriod : Messages → Type 0
HaveFitPeriod messages = IfSome (short_part messages) (λ (f : FlowFrames). f.stream.period < 2 ^ 31)

abbrev pub AreSoundMessages : Messages → Type 0
AreSoundMessages messages = AreSoundIfAny (own_frames messages) × IfSome (broadcast_part messages) IsSoundBroadcast

pub record IsSoundLoad (load : FlowLoad) : Type 0 where
  pub messages : AreSoundMessages load.messages
  pub paced : HaveFitPeriod load.messages
  pub singles : AreSoundIfAny load.singles
  pub limit : load.limit < 2 ^ 31

abbrev pub IsSoundIfKnown : Option FlowLoad → Type 0
IsSoundIfKnown load = IfSome load IsSoundLoad

pub record IsSoundUnit (load : UnitLoad) : Type 0 where
  pub packets : AreSound load.packets
  pub announcements : AreSound load.announcements
  pub few : load.bits_per_second < 2 ^ 34
  pub few_flows : load.flows ≤ 2 ^ 16
  pub few_packets : load.all_packets ≤ 2 ^ 24

abbrev pub IsSoundIfSent : Option UnitLoad → Type 0
IsSoundIfSent load = IfSome load IsSoundUnit

abbrev pub IsSoundRequest : RequestLoad → Type 0
IsSoundRequest load = AreSound load.frames

abbrev pub IsSoundIfAsked : Option RequestLoad → Type 0
IsSoundIfAsked load = IfSome load IsSoundRequest
