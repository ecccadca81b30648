use Rattle.std.proofs.Common.{refl, sym, ap, ◌∙◌}
use Rattle.std.specs.Option.{option_to_list}
use Rattle.j39_id.specs.FrameMeaning.{requests_group}
use Rattle.j39_follow.specs.LoggedRequests.{acknowledges}
use Rattle.j39_follow.proofs.Addresses.Ways.{if_not, if_so}
use Rattle.j39_follow.proofs.request.noting.noticed.Goals as goal

pub returns-then-requests_group : goal.returns-then-requests_group
returns-then-requests_group c =
    ap option_to_list c.asked.ensures ∙ if_so (requests_group c.args.frame.now) _ _ (sym c.requests_group.ensures ∙ c.if-requests_group.true)

pub returns-then-acknowledges : goal.returns-then-acknowledges
returns-then-acknowledges c =
    let f = c.args.frame.now in
    c.refused.ensures
    ∙ if_not (requests_group f) _ _ _ (sym c.requests_group.ensures ∙ c.if-requests_group.false)
    (if_so (acknowledges c.args.plan.now f) _ _ (sym c.acknowledges.ensures.same ∙ c.if-acknowledges.true))

pub returns : goal.returns
returns c =
    let f = c.args.frame.now in
    if_not (requests_group f) _ _ _ (sym c.requests_group.ensures ∙ c.if-requests_group.false)
    (if_not (acknowledges c.args.plan.now f) _ _ _ (sym c.acknowledges.ensures.same ∙ c.if-acknowledges.false) refl)
