use Rattle.std.proofs.Common.{ℕ, ◌+◌, List, take, sym, ap, ◌∙◌, arith}
use Rattle.j39_load.specs.AskedFlows.{asked_every, asking_periods, is_more_than_one}
use Rattle.j39_load.proofs.AskedParts.{more_of_all, none_asked, periods_with, periods_without, share_more, share_with}
use Rattle.j39_load.proofs.findings.asking.is_more_asked.Goals.{in-Some+else-add, in_default}
use Rattle.j39_load.proofs.findings.asking.is_more_asked.Goals as goal

pub loop-request-init : goal.loop-request-init
loop-request-init c =
    let one = c.none-share.ensures.count in
    (c.none-share.ensures.share c.args.period, omega (arith, one), none_asked c.args.period)

pub returns-then-add : goal.returns-then-add
returns-then-add c =
    let k = c.loop-request.request-index in
    let requests = c.args.requests.now in
    let flow = c.args.flow.now in
    let asked = ap (asked_every flow) (sym c.request-item.is) ∙ sym c.asked_every.ensures ∙ c.in-Some.is in
    let more = share_more c.args.period (asking_periods (take k requests) flow) c.loop-request.share c.in-Some.every c.loop-request.invariant.0
    ∙ sym c.add.ensures.more ∙ c.if-add.true in
    sym (more_of_all flow c.args.period requests (k + 1)
    (ap (is_more_than_one c.args.period) (periods_with flow requests k c.request-item.result c.in-Some.every c.loop-request-test.true asked) ∙ more))

pub loop-request-preserved : goal.loop-request-preserved
loop-request-preserved c =
    let k = c.loop-request.request-index in
    let requests = c.args.requests.now in
    let flow = c.args.flow.now in
    let before = c.loop-request.invariant in
    let xs : List ℕ = asking_periods (take k requests) flow in
    elim (c.match-asked_every.branch) [
      | in-Some+else-add w ↦
          let asked = ap (asked_every flow) (sym c.request-item.is) ∙ sym c.asked_every.ensures ∙ w.in-Some.is in
          let periods = periods_with flow requests k c.request-item.result w.in-Some.every c.loop-request-test.true asked in
          let more = share_more c.args.period xs c.loop-request.share w.in-Some.every before.0 ∙ sym w.add.ensures.more ∙ w.if-add.false in
          let share = share_with c.args.period xs c.loop-request.share w.add.new.self w.in-Some.every before.0
          (w.add.ensures.asked w.if-add.false) (w.add.ensures.whole w.if-add.false) in
          let count = w.add.ensures.count w.if-add.false in
          let few = before.1 in
          rw (w.share-is, periods) (share, omega (arith, count, few), more)
      | in_default w ↦
          let asked = ap (asked_every flow) (sym c.request-item.is) ∙ sym c.asked_every.ensures ∙ w.in_default.is in
          let few = before.1 in
          rw (w.share-is, periods_without flow requests k c.request-item.result c.loop-request-test.true asked) (before.0, omega (arith, few), before.2)
    ]
