use Rattle.std.proofs.Common.{◌++◌}
use Rattle.j39_search.specs.ListPlaces.{each, pairs}
use Rattle.j39_findings.specs.Found.{ask_the_same, goes_unanswered, goes_unheard, is_answered_astray, is_selector_outside, request_findings}
use Rattle.j39_findings.specs.declared.checking.finding.Finding.TheVariants.{RequestUnanswered, RequestUnheard, AnswerAstray, WhenOutside, RequestRepeated}
use Rattle.j39_search.proofs.AddingLemmas.{refuses, adds_behind, some_left, some_right}
use Rattle.j39_findings.proofs.checking.requests.find_in_requests.Goals as goal

pub returns-in_err-find_tested : goal.returns-in_err-find_tested
unfolding request_findings each
returns-in_err-find_tested c = refuses _ _ _ _ _ c.from_residual.ensures.1 (some_left _ _ c.in_err-find_tested.ensures)

pub returns-in_err-find_tested-2 : goal.returns-in_err-find_tested-2
unfolding request_findings each
returns-in_err-find_tested-2 c = refuses _ _ _ _ _ c.from_residual-in_err-find_tested-2.ensures.1
    (some_right _ _ (some_left _ _ c.in_err-find_tested-2.ensures))

pub returns-in_err-find_tested-3 : goal.returns-in_err-find_tested-3
unfolding request_findings each
returns-in_err-find_tested-3 c =
    refuses _ _ _ _ _ c.from_residual-in_err-find_tested-3.ensures.1 (some_right _ _ (some_right _ _ (some_left _ _ c.in_err-find_tested-3.ensures)))

pub returns-in_err-find_tested-4 : goal.returns-in_err-find_tested-4
unfolding request_findings each
returns-in_err-find_tested-4 c =
    let groups = c.args.groups.now in
    let flows = c.args.flows.now in
    let requests = c.args.requests.now in
    let unanswered = each (goes_unanswered flows) RequestUnanswered 0 requests in
    let unheard = each (goes_unheard flows) RequestUnheard 0 requests in
    let astray = each (is_answered_astray groups flows) AnswerAstray 0 requests in
    let selectors = each is_selector_outside WhenOutside 0 groups in
    let repeated = pairs (ask_the_same groups) RequestRepeated requests in
    refuses _ _ _ _ _ c.from_residual-in_err-find_tested-4.ensures.1
    (some_right unanswered (unheard ++ (astray ++ (selectors ++ repeated))) (some_right unheard (astray ++ (selectors ++ repeated))
    (some_right astray (selectors ++ repeated) (some_left selectors repeated c.in_err-find_tested-4.ensures))))

pub returns : goal.returns
unfolding request_findings each
returns c =
    adds_behind _ _ _ _ _ _ c.in_ok-find_tested.ensures
    (adds_behind _ _ _ _ _ _ c.in_ok-find_tested-2.ensures (adds_behind _ _ _ _ _ _ c.in_ok-find_tested-3.ensures
    (adds_behind _ _ _ _ _ _ c.in_ok-find_tested-4.ensures c.find_pairs.ensures)))
