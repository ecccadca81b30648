-- What is asked of the bus by a flow that answers requests: as many messages as are asked for, each of them so long behind its request at most.
use Rattle.std.specs.Prelude.{ℕ, zero, suc, ◌-◌, max, Bool, if◌then◌else◌, List, length, Option, Some, is_some}
use Rattle.std.specs.Option.{option_map}
use Rattle.j39_network.specs.declared.plan.flow_plan.FlowPlan.{FlowPlan}
use Rattle.j39_network.specs.declared.plan.pace.Pace.{Pace}
use Rattle.j39_network.specs.declared.plan.request_plan.RequestPlan.{RequestPlan}
use Rattle.j39_network.specs.declared.plan.timing.Timing.{Timing}
use Rattle.j39_load.specs.declared.frames.broadcast.Broadcast.{Broadcast}
use Rattle.j39_load.specs.declared.frames.flow_frames.FlowFrames.{FlowFrames}
use Rattle.j39_load.specs.declared.frames.messages.Messages.{Messages}
use Rattle.j39_load.specs.declared.frames.messages.Messages.TheVariants.{Short, ToAll, ToOne}
use Rattle.j39_load.specs.declared.loads.flow_load.FlowLoad.{FlowLoad}
use Rattle.j39_load.specs.AskedFlows.{asking_periods}
use Rattle.j39_load.specs.Loads.{bits_at_least, bits_at_most}
use Rattle.j39_timing.specs.Waits.{askers_want}
use Rattle.j39_timing.specs.declared.stream.Stream.{Stream}
use Rattle.j39_timing.specs.declared.stream.WantedBy.{WantedBy}
use Rattle.j39_timing.specs.declared.stream.WantedBy.TheVariants.{Askers}
use Rattle.j39_timing.specs.declared.wants.Want.{Want}

-- how many requests that have a period ask for a flow with a period, where it comes only as an answer
abbrev pub askers_of : List RequestPlan → FlowPlan → ℕ
askers_of requests flow = if flow.on_request then length (asking_periods requests flow) else 0

-- in so many milliseconds a unit answers: 200 from the end of the request (SAE J1939-21, requests), and 50 that the request has for its way; longer
-- where its jitter is
abbrev pub answer_time : ℕ
answer_time = 250

abbrev pub answered_within : Pace → ℕ
answered_within pace = max pace.jitter answer_time

-- of messages of so many frames, which are ready within the jitter of their moment, what is wanted by those that ask: one more for each of them but one
abbrev pub answers_want : Timing → Pace → ℕ → ℕ → Want
answers_want timing pace frames more = record {
  frames = frames;
  period = bits_at_least timing pace.period;
  jitter = bits_at_most timing (answered_within pace) - bits_at_most timing pace.jitter;
  more = more;
}

-- what is wanted of a stream for whose messages so many ask
abbrev pub wanted_for : Timing → Pace → ℕ → Stream → Option WantedBy
wanted_for timing pace zero stream = stream.wanted
wanted_for timing pace (suc more) stream = Some (Askers (answers_want timing pace stream.frames more))

-- the frames of a flow for which so many ask
abbrev pub frames_for : Timing → Pace → ℕ → FlowFrames → FlowFrames
frames_for timing pace askers frames = record frames { stream = record frames.stream { wanted = wanted_for timing pace askers frames.stream } }

-- how far behind its moment a message to all is wanted at most: that of its request, where it answers one
abbrev pub late_for : Timing → Pace → ℕ → ℕ
late_for timing pace zero = bits_at_most timing pace.jitter
late_for timing pace (suc more) = bits_at_most timing (answered_within pace)

abbrev pub broadcast_for : Timing → Pace → ℕ → Broadcast → Broadcast
broadcast_for timing pace askers broadcast = record broadcast { late = late_for timing pace askers; askers = askers }

abbrev pub messages_for : Timing → Pace → ℕ → Messages → Messages
messages_for timing pace askers (Short frames) = Short (frames_for timing pace askers frames)
messages_for timing pace askers (ToOne frames) = ToOne (frames_for timing pace askers frames)
messages_for timing pace askers (ToAll broadcast) = ToAll (broadcast_for timing pace askers broadcast)

abbrev pub load_for : Timing → Pace → ℕ → FlowLoad → FlowLoad
load_for timing pace askers load = record {
  messages = messages_for timing pace askers load.messages;
  singles = option_map (frames_for timing pace askers) load.singles;
  limit = load.limit;
  bits_per_second = load.bits_per_second;
}

-- others ask for these frames, so that several may be queued at once
abbrev pub are_asked_for : FlowFrames → Bool
are_asked_for frames = is_some (askers_want frames.stream)
