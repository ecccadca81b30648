-- The parts of the list of all frames.
use Rattle.std.specs.Prelude.{ℕ, List, length, map, Option}
use Rattle.j39_load.specs.Asked.{Asked, announcements_of_unit, frames_of_flow, frames_of_request, packets_of_unit, singles_of_flow}
use Rattle.j39_load.specs.declared.frames.flow_frames.FlowFrames.{FlowFrames}
use Rattle.j39_load.specs.declared.loads.parts.FramePart.{FramePart}
use Rattle.j39_load.specs.declared.loads.parts.FramePart.TheVariants.{Announcements, Flows, Packets, Requests, Singles}

-- how many places a part has
abbrev pub places_in : FramePart → Asked → ℕ
places_in Flows asked = length asked.flows
places_in Singles asked = length asked.flows
places_in Packets asked = length asked.units
places_in Announcements asked = length asked.units
places_in Requests asked = length asked.requests

-- what stands at them
abbrev pub frames_in : FramePart → Asked → List (Option FlowFrames)
frames_in Flows asked = map frames_of_flow asked.flows
frames_in Singles asked = map singles_of_flow asked.flows
frames_in Packets asked = map packets_of_unit asked.units
frames_in Announcements asked = map announcements_of_unit asked.units
frames_in Requests asked = map frames_of_request asked.requests
