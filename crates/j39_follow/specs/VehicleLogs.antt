-- What `follow` reports of the log of one vehicle by the plan of its type, in which units may be of any serial number.
use Rattle.std.specs.Prelude.{◌≡◌, ◌⊎◌, ℕ, Bool, true, if◌then◌else◌, List, [], ◌∷◌, ◌++◌, codes, length, Option, Some}
use Rattle.std.specs.List.{All, flat_map, slice_get}
use Rattle.j39_id.specs.FrameMeaning.{cannot_claim, claims_address, name_in}
use Rattle.j39_id.specs.Lines.{lines}
use Rattle.j39_id.specs.declared.frame.Frame.{Frame}
use Rattle.j39_network.specs.Kinds.{AreDistinctUnits, kind_of_name}
use Rattle.j39_network.specs.VehiclePlans.{IsVehicleOf}
use Rattle.j39_network.specs.declared.plan.Plan.{Plan}
use Rattle.j39_network.specs.declared.plan.unit_plan.UnitPlan.{UnitPlan}
use Rattle.j39_stream.specs.declared.verdict.Verdict.{Verdict}
use Rattle.j39_text.specs.Texts.{field}
use Rattle.j39_follow.specs.Contests.{Timed}
use Rattle.j39_follow.specs.FollowReports.{IsNotice, named_text, notice_text}
use Rattle.j39_follow.specs.FollowText.{IsFollowText, IsFollowedLog, frames_seen}
use Rattle.j39_follow.specs.Holders.{ClaimsOrCannot}

-- ---- the NAMEs of a vehicle

-- where a unit of any serial number is of the kind of this NAME, the NAME is that of its box in the vehicle
abbrev pub IsOfVehicle : Plan → Plan → ℕ → Type 0
IsOfVehicle plan vehicle name =
    (u : ℕ) (unit box : UnitPlan) → slice_get plan.units.items u ≡ Some unit → slice_get vehicle.units.items u ≡ Some box
    → unit.any_identity ≡ true → kind_of_name unit.name ≡ kind_of_name name → box.name ≡ name

-- so is each NAME of which these frames report
abbrev pub ReportOfVehicle : Plan → Plan → List Frame → Type 0
ReportOfVehicle plan vehicle frames =
    (before : List Frame) (f : Frame) (behind : List Frame) → frames ≡ before ++ f ∷ behind → (name : ℕ) → ClaimsOrCannot f name
    → IsOfVehicle plan vehicle name

-- by this plan the log is followed, and its frames report of no other box of a unit than the vehicle's
abbrev pub IsLogOfVehicle : Plan → Plan → Bool → List ℕ → Type 0
IsLogOfVehicle plan vehicle all_frames log =
    (text : List ℕ) (followed : IsFollowedLog plan all_frames log text) → ReportOfVehicle plan vehicle (frames_seen followed.past.seen)

-- ---- lines without serial numbers

unfoldable pub claim_alone : Plan → List ℕ → ℕ → ℕ → List ℕ
claim_alone plan front name address = front ++ (codes "claim " ++ (named_text plan name ++ (field (codes "@") address ++ 10 ∷ [])))

unfoldable pub cannot_alone : Plan → List ℕ → ℕ → List ℕ
cannot_alone plan front name = front ++ (codes "cannot " ++ (named_text plan name ++ 10 ∷ []))

-- what is written first at a frame, but for the serial number of a box
abbrev pub notice_alone : Plan → List ℕ → Frame → List ℕ → Option ℕ → List ℕ → List ℕ
notice_alone plan front f way asked back =
    if claims_address f then claim_alone plan front (name_in f) f.ident.sa
    else if cannot_claim f then cannot_alone plan front (name_in f)
    else notice_text plan front f way asked back

-- what is written at a line of a log: what its frame reports of addresses and requests, with serial numbers and without, and what follows that
pub record NumberedLine : Type 0 where
  pub notice : List ℕ
  pub alone : List ℕ
  pub rest : List ℕ

unfoldable pub with_numbers : List NumberedLine → List ℕ
with_numbers = flat_map (λ line. line.notice ++ line.rest)

unfoldable pub without_numbers : List NumberedLine → List ℕ
without_numbers = flat_map (λ line. line.alone ++ line.rest)

-- some frame reports so
pub record IsNoticeAlone (plan : Plan) (line : NumberedLine) : Type 0 where
  pub log : List Timed
  pub front : List ℕ
  pub frame : Frame
  pub notice : IsNotice plan log front frame line.notice
  pub alone : line.alone ≡ notice_alone plan front frame notice.way notice.asked notice.back

-- the line reports nothing of addresses and requests, or the same but for the serial number
abbrev pub IsButForNumber : Plan → NumberedLine → Type 0
IsButForNumber plan line = ((line.notice ≡ []) × (line.alone ≡ [])) ⊎ IsNoticeAlone plan line

-- two texts of one log, a row for each of its lines, and behind them what is reported of the whole log: the one text is the other one with the
-- serial numbers of boxes behind claims and Cannots
pub record DifferInNumbers (plan : Plan) (log numbered alone : List ℕ) : Type 0 where
  pub rows : List NumberedLine
  pub ends : List ℕ
  pub numbered_is : numbered ≡ with_numbers rows ++ ends
  pub alone_is : alone ≡ without_numbers rows ++ ends
  pub each : length rows ≡ length (lines log)
  pub but_for_numbers : All (IsButForNumber plan) rows

-- ---- a law

-- of a plan in which no two units may be one, the plan of a vehicle, and a log of this vehicle: `follow` by the plan writes what it writes by
-- the vehicle's plan, and the serial numbers of boxes
abbrev pub TypesStandForVehicles : Type 0
TypesStandForVehicles = (plan vehicle : Plan) (all_frames : Bool) (log numbered alone : List ℕ) (verdict outcome : Verdict) → IsVehicleOf plan vehicle
    → AreDistinctUnits plan → IsLogOfVehicle plan vehicle all_frames log → IsFollowText plan all_frames log numbered verdict
    → IsFollowText vehicle all_frames log alone outcome
    → (verdict ≡ outcome) × DifferInNumbers plan log numbered alone
