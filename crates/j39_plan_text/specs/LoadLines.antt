-- The lines of findings on what a plan asks of its bus, and those of the times of its flows and of the ages of what its units need.
use Rattle.std.specs.Prelude.{ℕ, ◌*◌, min, nat_le, if◌then◌else◌, List, [], ◌∷◌, ◌++◌, codes, slice_index_or, Option, Some, None}
use Rattle.std.specs.Option.{option_map, option_map_or}
use Rattle.j39_findings.specs.Found.{is_unmet}
use Rattle.j39_network.specs.declared.plan.Plan.{Plan}
use Rattle.j39_network.specs.declared.plan.flow_plan.FlowPlan.{FlowPlan}
use Rattle.j39_network.specs.declared.plan.need_plan.NeedPlan.{NeedPlan}
use Rattle.j39_network.specs.declared.plan.pace.Pace.{Pace}
use Rattle.j39_network.specs.declared.plan.timing.Timing.{Timing}
use Rattle.j39_network.specs.declared.plan.to.To.{To}
use Rattle.j39_network.specs.declared.plan.to.To.TheVariants.{All, One}
use Rattle.j39_load.specs.declared.waits.delay.Delay.{Delay}
use Rattle.j39_load.specs.declared.waits.delay.Delay.TheVariants.{Within, Beyond, Late, Long, Whole}
use Rattle.j39_load.specs.declared.waits.whole_time.WholeTime.{WholeTime}
use Rattle.j39_load.specs.declared.findings.load_finding.LoadFinding.{LoadFinding}
use Rattle.j39_load.specs.declared.findings.load_finding.LoadFinding.TheVariants.{NoPeriod, Overload, LateFlow, NeedTooOld, AskedTooOften}
use Rattle.j39_load.specs.Ages.{has_several, least_age, youngest_flow}
use Rattle.j39_load.specs.Asked.{Asked, total_load}
use Rattle.j39_load.specs.LoadFindings.{load_finding_number, time_of_each}
use Rattle.j39_load.specs.Loads.{bits_of_second, deadline_of, us_of_bits}
use Rattle.j39_load.specs.LineLists.{lines_of_each}
use Rattle.j39_plan_text.specs.FindingLines.{is_between}
use Rattle.j39_text.specs.Labels.{group_label, need_text, unit_label}
use Rattle.j39_text.specs.Texts.{field, place_field}

-- ---- findings

unfoldable pub load_finding_text : LoadFinding → List ℕ
load_finding_text (NoPeriod f) = place_field (codes "F16 NoPeriod ") f
load_finding_text (Overload bits) = field (codes "F17 Overload ") bits
load_finding_text (LateFlow f) = place_field (codes "F18 LateFlow ") f
load_finding_text (NeedTooOld n) = place_field (codes "F20 NeedTooOld ") n
load_finding_text (AskedTooOften f) = place_field (codes "F31 AskedTooOften ") f

unfoldable pub load_finding_line : LoadFinding → List ℕ
load_finding_line finding = load_finding_text finding ++ 10 ∷ []

-- one whose number is between these
unfoldable pub load_finding_part : ℕ → ℕ → LoadFinding → List ℕ
load_finding_part from below finding = if is_between from below (load_finding_number finding) then load_finding_line finding else []

-- those of the findings whose numbers are between these
abbrev pub load_finding_lines : ℕ → ℕ → List LoadFinding → List ℕ
load_finding_lines from below = lines_of_each (λ _. load_finding_part from below) 0

-- ---- delays

-- so many microseconds
unfoldable pub time_text : List ℕ → ℕ → List ℕ
time_text word us = field word us ++ codes " us"

-- of a limit
unfoldable pub within_text : List ℕ → ℕ → ℕ → List ℕ
within_text word limit us = field word us ++ time_text (codes " of ") limit

-- the same of a time that is known, with another word where it is beyond its limit; of others this word and the limit alone
unfoldable pub limited_text : List ℕ → List ℕ → ℕ → Option ℕ → List ℕ
limited_text within beyond limit None = beyond ++ time_text (codes "of ") limit
limited_text within beyond limit (Some us) = if nat_le us limit then within_text within limit us else within_text beyond limit us

-- when long messages are whole: each of them, where a deadline is written
unfoldable pub whole_text : Timing → WholeTime → Option ℕ → Option ℕ → List ℕ
whole_text timing whole (Some deadline) bits =
    limited_text (codes " whole within ") (codes " late ") (1000 * deadline) (option_map (us_of_bits timing) (time_of_each whole))
whole_text timing whole None (Some bits) = time_text (codes " whole within ") (us_of_bits timing bits)
whole_text timing whole None None = []

-- so many microseconds are allowed of each frame
abbrev pub us_allowed : Pace → ℕ
us_allowed pace = 1000 * min (deadline_of pace) pace.period

-- a delay, of what is allowed
unfoldable pub delay_text : Timing → Pace → Delay → List ℕ
delay_text timing pace (Within bits) = within_text (codes " within ") (us_allowed pace) (us_of_bits timing bits)
delay_text timing pace (Beyond bits) = within_text (codes " late ") (us_allowed pace) (us_of_bits timing bits)
delay_text timing pace Late = time_text (codes " late of ") (us_allowed pace)
delay_text timing pace (Long frames) = field (codes " frames ") frames
delay_text timing pace (Whole whole) = field (codes " frames ") whole.frames ++ whole_text timing whole pace.deadline whole.bits

-- that of a flow, where it is known how often it is sent
unfoldable pub known_delay_text : Timing → Option Pace → Option Delay → List ℕ
known_delay_text timing (Some pace) (Some delay) = delay_text timing pace delay
known_delay_text timing _ _ = codes " no period"

unfoldable pub receiver_text : Plan → To → List ℕ
receiver_text plan All = codes "all"
receiver_text plan (One v) = unit_label plan v

-- a flow: its place, its group, its sender and its receiver
unfoldable pub flow_text : Plan → ℕ → FlowPlan → List ℕ
flow_text plan place flow = place_field (codes "flow ") place ++ (codes " " ++ (group_label plan flow.group
    ++ (codes " " ++ (unit_label plan flow.sender ++ (codes " " ++ receiver_text plan flow.to)))))

-- a flow and its delay
unfoldable pub flow_line : Plan → Timing → List (Option Delay) → ℕ → FlowPlan → List ℕ
flow_line plan timing delays place flow = flow_text plan place flow
    ++ (known_delay_text timing flow.pace (slice_index_or delays place None) ++ 10 ∷ [])

-- ---- needs

-- how old what is needed is at most, of a limit, which may be less
unfoldable pub age_text : ℕ → Option ℕ → List ℕ
age_text limit age = limited_text (codes " age ") (codes " old ") limit age

-- which flow's age it is, where several meet the need
unfoldable pub age_flow_text : Plan → Timing → List (Option Delay) → NeedPlan → List ℕ
age_flow_text plan timing delays need =
    if has_several plan.requests.items plan.flows.items need
    then option_map_or (place_field (codes " flow ")) (youngest_flow timing plan.requests.items plan.flows.items delays need) [] else []

-- the age of what is needed, or that no flow meets the need
unfoldable pub known_age_text : Plan → Timing → List (Option Delay) → NeedPlan → ℕ → List ℕ
known_age_text plan timing delays need limit =
    if is_unmet plan.requests.items plan.flows.items need then time_text (codes " unmet of ") limit
    else age_text limit (least_age timing plan.requests.items plan.flows.items delays need)
    ++ age_flow_text plan timing delays need

-- a need and its age, where it asks for one
unfoldable pub need_line : Plan → Timing → List (Option Delay) → ℕ → NeedPlan → List ℕ
need_line plan timing delays place need = option_map_or
    (λ within. need_text plan place need ++ (known_age_text plan timing delays need (1000 * within) ++ 10 ∷ [])) need.within []

-- ---- all of it

-- how many bits of those that the bus carries in a second all of it takes
unfoldable pub load_line : Timing → Asked → List ℕ
load_line timing asked = field (codes "load ") (total_load timing asked) ++ (field (codes " of ") (bits_of_second timing.bitrate) ++ 10 ∷ [])

-- each flow with its delay, each need that asks for an age with it, and the load
unfoldable pub loads_text : Plan → Timing → Asked → List (Option Delay) → List ℕ
loads_text plan timing asked delays = lines_of_each (flow_line plan timing delays) 0 plan.flows.items
    ++ (lines_of_each (need_line plan timing delays) 0 plan.needs.items ++ load_line timing asked)
