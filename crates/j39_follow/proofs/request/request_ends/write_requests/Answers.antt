use Rattle.std.proofs.Common.{◌<◌, length, sym, subst, ◌∙◌, arith, ap, refl, ◌++◌, ℕ, List}
use Rattle.std.proofs.lemmas.Option.{slice_get_read}
use Rattle.j39_network.specs.declared.plan.request_plan.RequestPlan.{RequestPlan}
use Rattle.j39_follow.specs.FollowText.{request_end, request_end_line}
use Rattle.j39_follow.specs.LoggedRequests.{times_answered, times_asked}
use Rattle.j39_follow.specs.declared.request.exchange.Exchange.{Exchange}
use Rattle.j39_follow.specs.inside.Exchanging.{IsExchange}
use Rattle.j39_follow.proofs.Flows.EndLines.{all_lines, one_more_line}
use Rattle.j39_follow.proofs.request.request_ends.write_requests.Goals as goal

pub loop-place-preserved : goal.loop-place-preserved
loop-place-preserved c = λ events are.
    let plan = c.args.plan.now in
    let requests = plan.requests.items in
    let k = c.loop-place.place in
    let request : RequestPlan = c.index-request.result.now in
    let test = c.loop-place-test.true in
    let count = c.len-place-end.ensures in
    let more : k < length requests = omega (arith, test, count) in
    let is = subst (λ (x : Exchange). IsExchange plan k request x events) (sym c.exchange.ensures)
    (are k request (slice_get_read requests (length requests) k request refl more c.index-request.ensures)) in
    let x : Exchange = c.exchange.result in
    let line : ℕ → ℕ → ℕ → List ℕ = λ a b d. c.loop-place.text ++ request_end_line plan k request a b d in
    let written =
    c.in_ok-write_request_end.ensures ∙ ap (λ (n : ℕ). line n x.answered x.refused) is.asked
    ∙ ap (λ (n : ℕ). line (times_asked k events) n x.refused) is.answered
    ∙ ap (λ (n : ℕ). line (times_asked k events) (times_answered plan k request events) n) is.refused in
    one_more_line (request_end plan events) requests _ _ _ k request more c.index-request.ensures written (c.loop-place.invariant events are)

pub returns : goal.returns
returns c = λ events are.
    let test = c.loop-place-test.false in
    let count = c.len-place-end.ensures in
    all_lines (request_end c.args.plan.now events) c.args.plan.now.requests.items _ _ c.loop-place.place (omega (arith, test, count))
    (c.loop-place.invariant events are)
