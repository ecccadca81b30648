use Rattle.std.proofs.Common.{rules, ◌≡◌, ◌<◌, length, refl, subst, arith}
use Rattle.std.proofs.lemmas.Option.{slice_get_read, slice_get_within}
use Rattle.j39_network.specs.declared.plan.request_plan.RequestPlan.{RequestPlan}
use Rattle.j39_follow.specs.declared.request.exchange.Exchange.{Exchange}
use Rattle.j39_follow.specs.inside.Exchanging.{IsAfter}
use Rattle.j39_follow.proofs.Requests.Exchanged.{none_heard, one_heard}
use Rattle.j39_follow.proofs.request.exchanges.note_event.Goals as goal

pub loop-place-init : goal.loop-place-init
loop-place-init c =
    let size : length c.args.table.now ≡ 512 = search rules in
    none_heard c.args.plan.now c.args.event c.args.table.now size

pub loop-place-preserved : goal.loop-place-preserved
loop-place-preserved c =
    let plan = c.args.plan.now in
    let requests = plan.requests.items in
    let event = c.args.event in
    let k = c.loop-place.place in
    let request : RequestPlan = c.index-request.result.now in
    let next : Exchange = c.after-exchange.result in
    let test = c.loop-place-test.true in
    let count = c.len-place-end.ensures in
    let most = plan.request_count in
    let more : k < length requests = omega (arith, test, count) in
    let here = slice_get_read requests (length requests) k request refl more c.index-request.ensures in
    one_heard plan event c.args.table.now c.loop-place.table k request next (omega (arith, more, most)) here
    (subst (λ (x : Exchange). IsAfter plan k request event x next) c.exchange_in.ensures c.after-exchange.ensures) c.loop-place.invariant

pub returns : goal.returns
returns c = λ place r at.
    let requests = c.args.plan.now.requests.items in
    let test = c.loop-place-test.false in
    let count = c.len-place-end.ensures in
    let within = slice_get_within requests place r at in
    c.loop-place.invariant.heard place r (omega (arith, test, count, within)) at
