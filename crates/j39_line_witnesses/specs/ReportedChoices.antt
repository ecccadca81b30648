-- Which alternatives of the witness of a finding are reported: those of the choices by which it meets a condition of the finding.
use Rattle.std.specs.Prelude.{ℕ, List, [], ◌∷◌, ◌++◌, Bool, true, not, if◌then◌else◌, is_some, map, unwrap_or}
use Rattle.std.specs.List.{list_all, list_any, slice_get}
use Rattle.std.specs.Option.{option_map_or}
use Rattle.j39_load.specs.AskedFlows.{asked_every}
use Rattle.j39_load.specs.LineLists.{lines_of_each}
use Rattle.j39_load.specs.declared.findings.load_finding.LoadFinding.TheVariants.{AskedTooOften}
use Rattle.j39_network.specs.declared.plan.flow_plan.FlowPlan.{FlowPlan}
use Rattle.j39_network.specs.declared.plan.request_plan.RequestPlan.{RequestPlan}
use Rattle.j39_variants.specs.declared.line.ProductLine.{ProductLine}
use Rattle.j39_line_findings.specs.Conditions.{Condition, conditions_of, goes_by_conditions, meets_condition}
use Rattle.j39_line_findings.specs.declared.line_finding.LineFinding.{LineFinding}
use Rattle.j39_line_findings.specs.declared.line_finding.LineFinding.TheVariants.{OfLoad}
use Rattle.j39_line_findings.specs.declared.part.LinePart.{LinePart}
use Rattle.j39_line_findings.specs.declared.part.LinePart.TheVariants.{Flow, Request}
use Rattle.j39_line_witnesses.specs.PartBoxes.{parts_box}

-- ---- of some parts

-- a box has an alternative of each choice: some variant, possible or not, is in it
abbrev pub is_in_some : List (List Bool) → Bool
is_in_some box = list_all (λ choice. list_any (λ has. has) choice) box

-- of each choice, whether a box lacks an alternative
abbrev pub lacking_choices : List (List Bool) → List Bool
lacking_choices box = map (λ choice. list_any not choice) box

-- of each choice, whether one of these parts isn't there with each of its alternatives
abbrev pub choices_of_parts : ProductLine → List LinePart → List Bool
choices_of_parts line parts = lacking_choices (parts_box line parts)

-- ---- of a condition

-- each list of which some part has to lack counts where all of it may be there together with what has to be there
abbrev pub counted_with : ProductLine → List LinePart → List LinePart → List LinePart
counted_with line together parts = if is_in_some (parts_box line (together ++ parts)) then parts else []

abbrev pub counted_parts : ProductLine → Condition → List LinePart
counted_parts line condition = condition.together ++ lines_of_each (λ _ parts. counted_with line condition.together parts) 0 condition.lacking

abbrev pub choices_of_condition : ProductLine → Condition → List Bool
choices_of_condition line condition = choices_of_parts line (counted_parts line condition)

-- ---- of all conditions that a variant meets

abbrev pub choices_if_met : ProductLine → List ℕ → Condition → List (List Bool)
choices_if_met line variant condition = if meets_condition line variant condition then choices_of_condition line condition ∷ [] else []

abbrev pub choices_met : ProductLine → List ℕ → List Condition → List (List Bool)
choices_met line variant conditions = lines_of_each (λ _ condition. choices_if_met line variant condition) 0 conditions

abbrev pub is_none : List Bool → Bool
is_none choices = not (list_any (λ is. is) choices)

-- those of the first one; none where one of the conditions is met whatever a variant takes
abbrev pub choices_by : List (List Bool) → List Bool
choices_by met = if list_any is_none met then [] else unwrap_or (slice_get met 0) []

-- ---- of a finding

-- a flow, and each request with a period that it answers
abbrev pub asking_part : FlowPlan → ℕ → RequestPlan → List LinePart
asking_part flow r request = if is_some (asked_every flow request) then Request r ∷ [] else []

abbrev pub asking_parts : ProductLine → FlowPlan → List LinePart
asking_parts line flow = lines_of_each (asking_part flow) 0 line.plan.requests.items

abbrev pub parts_of_asked : ProductLine → ℕ → List LinePart
parts_of_asked line f = Flow f ∷ option_map_or (asking_parts line) (slice_get line.plan.flows.items f) []

-- of one that counts what is there all choices; of a flow that is asked for too often those by which it and what asks for it are there
abbrev pub choices_counted : ProductLine → LineFinding → List Bool
choices_counted line (OfLoad (AskedTooOften f)) = choices_of_parts line (parts_of_asked line f)
choices_counted line finding = map (λ choice. true) line.choices.items

-- of each choice, whether the alternative that the witness of a finding takes is reported
abbrev pub reported_choices : ProductLine → List ℕ → LineFinding → List Bool
reported_choices line witness finding = if goes_by_conditions line finding
    then choices_by (choices_met line witness (conditions_of line finding)) else choices_counted line finding
