-- What the log of a run of one vehicle reports, as it is followed by the plan of its type, in which units may be of any serial number.
use Rattle.std.specs.Prelude.{◌≡◌, ℕ, false, List, [], ◌∷◌, ◌++◌, Option, Some}
use Rattle.j39_id.specs.declared.frame.Frame.{Frame}
use Rattle.j39_network.specs.declared.plan.Plan.{Plan}
use Rattle.j39_network.specs.declared.plan.to.To.{To}
use Rattle.j39_network.specs.declared.steps.Step.{Step}
use Rattle.j39_world.specs.Run.{Follows}
use Rattle.j39_world.specs.World.{World}
use Rattle.j39_follow.specs.FollowReports.{IsMessageReport, in_frame}
use Rattle.j39_follow.specs.VehicleLogs.{ReportOfVehicle}
use Rattle.j39_follow.specs.declared.message.Sort.TheVariants.{Grouped}
use Rattle.j39_log_laws.specs.Between.{GoesToHolder, IsKnownAt, IsOfStep, IsSentBehind, IsSentBy, reports_of_addresses}
use Rattle.j39_log_laws.specs.HolderReports.{IsLogOf}
use Rattle.j39_log_laws.specs.ReportedFlows.{IsBegunBy, LooksLike, untimed}

-- the frames that were sent so far report of no other box of a unit than the vehicle's
abbrev pub FramesReportOfVehicle : Plan → Plan → World → Type 0
FramesReportOfVehicle plan vehicle w = (log : List Frame) → IsLogOf w log → ReportOfVehicle plan vehicle log

-- each other frame that a step of the vehicle sends is of the flow's group or a transport frame; it comes from the address of the unit that sends
-- it and goes to that of the unit that it is for, and by the plan of the type the frames up to it report that these units hold them
abbrev pub VehicleMessagesGoBetweenHolders : Plan → Plan → World → Type 0
VehicleMessagesGoBetweenHolders plan vehicle w =
    (step : Step) (after : World) (log : List Frame) (f : Frame)
    → Follows vehicle w step after → IsSentBehind w after log f → reports_of_addresses f ≡ false
    → (u : ℕ) × (to : To) × IsSentBy plan w step u to × IsOfStep plan step f.ident × IsKnownAt plan w (log ++ f ∷ []) u f.ident.sa
    × GoesToHolder plan w (log ++ f ∷ []) to f.ident

-- a message of a group that `follow`, by the plan of the type, reports of one frame which a step of the vehicle sends was begun or sent by this
-- step, byte for byte, by the flow that it is reported with, or by one that looks like it
abbrev pub AreVehiclesReportedAsBegun : Plan → Plan → World → Type 0
AreVehiclesReportedAsBegun plan vehicle w =
    (step : Step) (after : World) (log : List Frame) (f : Frame) (front : List ℕ) (group : ℕ) (stated : Option ℕ) (text : List ℕ)
    → Follows vehicle w step after → IsSentBehind w after log f
    → IsMessageReport plan (untimed (log ++ f ∷ [])) front (in_frame f) (Grouped group stated) text
    → (k : ℕ) × (other : ℕ) × IsBegunBy step k f.payload.items × (stated ≡ Some other) × LooksLike plan group k other
