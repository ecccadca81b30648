use Rattle.std.proofs.Common.{◌≡◌, ℕ, Some, None, sym, ap, ◌∙◌}
use Rattle.std.specs.Prelude.{option_map}
use Rattle.j39_id.specs.FrameMeaning.{requested_group}
use Rattle.j39_follow.specs.LoggedRequests.{asked_request}
use Rattle.j39_follow.specs.declared.request.event.Event.TheVariants.{Asked}
use Rattle.j39_follow.proofs.request.noting.asked.Goals as goal

pub returns-in-Some : goal.returns-in-Some
returns-in-Some c =
    let found : asked_request c.args.plan.now (requested_group c.args.frame.now) c.args.sent ≡ Some c.in-Some.place =
    sym (c.asked_request.ensures ∙ ap (λ (n : ℕ). asked_request c.args.plan.now n c.args.sent) c.requested_group.ensures) ∙ c.in-Some.is in
    sym (ap (option_map Asked) found)

pub returns-in-None : goal.returns-in-None
returns-in-None c =
    let none : asked_request c.args.plan.now (requested_group c.args.frame.now) c.args.sent ≡ None =
    sym (c.asked_request.ensures ∙ ap (λ (n : ℕ). asked_request c.args.plan.now n c.args.sent) c.requested_group.ensures) ∙ c.in-None.is in
    sym (ap (option_map Asked) none)
