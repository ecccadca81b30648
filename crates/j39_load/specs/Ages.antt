-- How old what a unit needs is at most, where it is received: the time for which a flow that brings it is silent at most, and the delay of
-- this flow together.
use Rattle.std.specs.Prelude.{ℕ, ◌+◌, ◌*◌, min, nat_le, nat_lt, Bool, false, not, ◌&&◌, ◌==◌, if◌then◌else◌, List, [], ◌∷◌, count_by, slice_index_or, Option, Some, None}
use Rattle.std.specs.Option.{option_and_then, option_map_or}
use Rattle.j39_findings.specs.Found.{is_unmet}
use Rattle.j39_network.specs.Serving.{meets}
use Rattle.j39_network.specs.declared.plan.flow_plan.FlowPlan.{FlowPlan}
use Rattle.j39_network.specs.declared.plan.need_plan.NeedPlan.{NeedPlan}
use Rattle.j39_network.specs.declared.plan.request_plan.RequestPlan.{RequestPlan}
use Rattle.j39_network.specs.declared.plan.timing.Timing.{Timing}
use Rattle.j39_load.specs.declared.waits.delay.Delay.{Delay}
use Rattle.j39_load.specs.declared.waits.delay.Delay.TheVariants.{Within}
use Rattle.j39_load.specs.declared.findings.load_finding.LoadFinding.{LoadFinding}
use Rattle.j39_load.specs.declared.findings.load_finding.LoadFinding.TheVariants.{NeedTooOld}
use Rattle.j39_load.specs.Loads.{us_of_bits, us_of_unit_ms}
use Rattle.j39_load.specs.LineLists.{lines_of_each}

-- the age of what a flow brings, in microseconds: that of one with a pause and with a delay that is reported, which isn't sent as an answer
abbrev pub ages_of : Timing → FlowPlan → Option Delay → List ℕ
ages_of timing flow (Some (Within bits)) =
    if flow.on_request then [] else option_map_or (λ pause. (us_of_unit_ms timing pause + us_of_bits timing bits) ∷ []) flow.pause []
ages_of timing flow _ = []

-- the same of the flow at a place, where it meets the need
abbrev pub ages_for : Timing → List RequestPlan → List (Option Delay) → NeedPlan → ℕ → FlowPlan → List ℕ
ages_for timing requests delays need place flow =
    if meets requests need flow then ages_of timing flow (slice_index_or delays place None) else []

-- the smaller one of two numbers that may be known
abbrev pub smaller_known : Option ℕ → Option ℕ → Option ℕ
smaller_known None b = b
smaller_known (Some a) None = Some a
smaller_known (Some a) (Some b) = Some (min a b)

-- the least of these numbers
abbrev pub least : List ℕ → Option ℕ
least [] = None
least (x ∷ xs) = smaller_known (Some x) (least xs)

-- how old what a unit needs is at most: by that of the flows that meet the need of which it is youngest
abbrev pub least_age : Timing → List RequestPlan → List FlowPlan → List (Option Delay) → NeedPlan → Option ℕ
least_age timing requests flows delays need = least (lines_of_each (ages_for timing requests delays need) 0 flows)

-- the one that is known, and it is this
abbrev pub is_age : ℕ → Option ℕ → Bool
is_age age known = option_map_or (λ n. n == age) known false

-- the place of a flow, where it meets the need and brings what is so old
abbrev pub place_of_age : Timing → List RequestPlan → List (Option Delay) → NeedPlan → ℕ → ℕ → FlowPlan → List ℕ
place_of_age timing requests delays need age place flow =
    if is_age age (least (ages_for timing requests delays need place flow)) then place ∷ [] else []

-- the first of these
abbrev pub first_of : List ℕ → Option ℕ
first_of [] = None
first_of (x ∷ xs) = Some x

-- the place of the first of the flows that bring what is so old
abbrev pub first_of_age : Timing → List RequestPlan → List FlowPlan → List (Option Delay) → NeedPlan → ℕ → Option ℕ
first_of_age timing requests flows delays need age = first_of (lines_of_each (place_of_age timing requests delays need age) 0 flows)

-- the flow of which what is needed is youngest, the first one where there are several, by its place
abbrev pub youngest_flow : Timing → List RequestPlan → List FlowPlan → List (Option Delay) → NeedPlan → Option ℕ
youngest_flow timing requests flows delays need =
    option_and_then (first_of_age timing requests flows delays need) (least_age timing requests flows delays need)

-- several flows meet the need
abbrev pub has_several : List RequestPlan → List FlowPlan → NeedPlan → Bool
has_several requests flows need = nat_lt 1 (count_by (meets requests need) flows)

-- a time is known, and within this limit
abbrev pub is_in_limit : ℕ → Option ℕ → Bool
is_in_limit limit None = false
is_in_limit limit (Some time) = nat_le time limit

-- some flow meets the need, and what none of these brings is shown to be within so many milliseconds
abbrev pub is_too_old : Timing → List RequestPlan → List FlowPlan → List (Option Delay) → NeedPlan → ℕ → Bool
is_too_old timing requests flows delays need within =
    not (is_unmet requests flows need) && not (is_in_limit (1000 * within) (least_age timing requests flows delays need))

-- what is wrong with the need at a place: nothing where it asks for no age
abbrev pub oldness : Timing → List RequestPlan → List FlowPlan → List (Option Delay) → ℕ → NeedPlan → List LoadFinding
oldness timing requests flows delays place need =
    option_map_or (λ within. if is_too_old timing requests flows delays need within then NeedTooOld place ∷ [] else []) need.within []

-- what is wrong with the ages of what units need
abbrev pub old_needs : Timing → List RequestPlan → List FlowPlan → List (Option Delay) → List NeedPlan → List LoadFinding
old_needs timing requests flows delays needs = lines_of_each (oldness timing requests flows delays) 0 needs
