use Rattle.std.proofs.Common.{◌≡◌, ◌<◌, ◌∙◌, arith, ap, ℕ, List, if◌then◌else◌, length, drop}
use Rattle.std.proofs.lemmas.List.{drop_all}
use Rattle.j39_network.specs.Serving.{meets}
use Rattle.j39_network.specs.declared.plan.flow_plan.FlowPlan.{FlowPlan}
use Rattle.j39_network.specs.declared.plan.request_plan.RequestPlan.{RequestPlan}
use Rattle.j39_follow.specs.FollowText.{met_by, times_met}
use Rattle.j39_follow.specs.inside.Tallies.{tally_at}
use Rattle.j39_follow.proofs.Flows.EndLines.{none_met, one_more_met}
use Rattle.j39_follow.proofs.flow.needs.times_met.Goals as goal

pub loop-place-preserved : goal.loop-place-preserved
loop-place-preserved c =
    let flows = c.args.plan.now.flows.items in
    let need = c.args.need.now in
    let requests = c.args.plan.now.requests.items in
    let flow : FlowPlan = c.index.result.now in
    let k = c.loop-place.place in
    let test = c.loop-place-test.true in
    let count = c.len-place-end.ensures in
    let more : k < length flows = omega (arith, test, count) in
    let few = c.loop-place.invariant.0 in
    let fits = c.met_by.type_inv in
    let same = c.from-times.ensures in (
      omega (arith, few, fits, same),
      λ sent of.
          let met : c.from-times.result ≡ met_by requests sent need k flow =
          same ∙ c.met_by.ensures
          ∙ ap (λ (rs : List RequestPlan). if meets rs need flow then tally_at c.args.tally.now.flows k else 0) c.deref.ensures.value
          ∙ ap (λ (n : ℕ). if meets requests need flow then n else 0) (of.flows k more) in
          let step = one_more_met requests sent need flows k flow more c.index.ensures in
          let before = c.loop-place.invariant.1 sent of in
          omega (arith, met, step, before),
    )

pub returns : goal.returns
returns c = λ sent of.
    let flows = c.args.plan.now.flows.items in
    let need = c.args.need.now in
    let requests = c.args.plan.now.requests.items in
    let k = c.loop-place.place in
    let test = c.loop-place-test.false in
    let count = c.len-place-end.ensures in
    let done = drop_all k flows (omega (arith, test, count)) in
    let none : times_met requests sent need k (drop k flows) ≡ 0 = ap (times_met requests sent need k) done ∙ none_met requests sent need k in
    let before = c.loop-place.invariant.1 sent of in
    omega (arith, none, before)
