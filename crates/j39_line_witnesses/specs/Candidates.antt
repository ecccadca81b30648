-- Which findings of a line are asked for: each that some variant can have by what is there and what isn't.
use Rattle.std.specs.Prelude.{ℕ, List, ◌++◌, Bool, true, false, not, filter, length, map}
use Rattle.std.specs.List.{range_with_len}
use Rattle.j39_findings.specs.Found.{found}
use Rattle.j39_findings.specs.declared.checking.finding.Finding.{Finding}
use Rattle.j39_findings.specs.declared.checking.finding.Finding.TheVariants.{AnswerAstray, FlowContested, NeedUnmet, PrivateUnsent}
use Rattle.j39_findings.specs.declared.checking.finding.Finding.TheVariants.{RequestUnanswered, RequestUnheard, TooFewAddresses}
use Rattle.j39_load.specs.declared.findings.load_finding.LoadFinding.TheVariants.{NoPeriod}
use Rattle.j39_variants.specs.declared.line.ProductLine.{ProductLine}
use Rattle.j39_line_findings.specs.FlowEnds.{has_end_in_pool}
use Rattle.j39_line_findings.specs.declared.line_finding.LineFinding.{LineFinding}
use Rattle.j39_line_findings.specs.declared.line_finding.LineFinding.TheVariants.{OfPlan, OfLoad}

-- one of the whole file: it is one of each variant in which all that it names is there
abbrev pub is_of_parts : ProductLine → Finding → Bool
is_of_parts line (TooFewAddresses n) = false
is_of_parts line (PrivateUnsent g) = false
is_of_parts line (NeedUnmet d) = false
is_of_parts line (RequestUnanswered r) = false
is_of_parts line (RequestUnheard r) = false
is_of_parts line (AnswerAstray r) = false
is_of_parts line (FlowContested f) = not (has_end_in_pool line f)
is_of_parts line finding = true

abbrev pub candidates_of_parts : ProductLine → List LineFinding
candidates_of_parts line = map OfPlan (filter (is_of_parts line) (found line.plan))

-- the others, of each group, need, request and flow of the file
abbrev pub of_each_place : (ℕ → LineFinding) → ℕ → List LineFinding
of_each_place make count = map make (range_with_len 0 count)

abbrev pub candidates_of_requests : ProductLine → List LineFinding
candidates_of_requests line =
    of_each_place (λ r. OfPlan (RequestUnanswered r)) (length line.plan.requests.items)
    ++ (of_each_place (λ r. OfPlan (RequestUnheard r)) (length line.plan.requests.items)
    ++ of_each_place (λ r. OfPlan (AnswerAstray r)) (length line.plan.requests.items))

abbrev pub candidates : ProductLine → List LineFinding
candidates line =
    candidates_of_parts line
    ++ (of_each_place (λ g. OfPlan (PrivateUnsent g)) (length line.plan.groups.items)
    ++ (of_each_place (λ f. OfLoad (NoPeriod f)) (length line.plan.flows.items)
    ++ (of_each_place (λ d. OfPlan (NeedUnmet d)) (length line.plan.needs.items) ++ candidates_of_requests line)))
