use Rattle.std.proofs.Common.{◌≡◌, ◌∷◌, [], ℕ, refl, sym, ap, ◌∙◌}
use Rattle.j39_follow.specs.FollowReports.{answer_aim, reply_of}
use Rattle.j39_follow.specs.LoggedRequests.{acknowledged_group, is_refusal, asker_or_source}
use Rattle.j39_follow.specs.declared.request.event.Event.TheVariants.{Refused}
use Rattle.j39_follow.specs.declared.request.event.Reply.{Reply}
use Rattle.j39_follow.specs.declared.flow.sending.Aim.{Aim}
use Rattle.j39_follow.proofs.Addresses.Ways.{if_not, if_so}
use Rattle.j39_follow.proofs.request.noting.refused.Goals as goal

pub returns-then-not-is_refusal : goal.returns-then-not-is_refusal
returns-then-not-is_refusal c =
    if_not (is_refusal c.args.frame.now) _ _ _ (sym c.is_refusal.ensures ∙ c.if-not-is_refusal.true) refl

pub returns : goal.returns
returns c =
    let plan = c.args.plan.now in
    let f = c.args.frame.now in
    let sent = c.args.sent in
    let aim : c.answer_aim.result ≡ answer_aim (asker_or_source plan f) c.args.asker =
    c.answer_aim.ensures ∙ ap (λ (a : ℕ). answer_aim a c.args.asker) c.asker_or_source.ensures in
    let same : reply_of c.acknowledged_group.result sent.sender c.answer_aim.result
    ≡ reply_of (acknowledged_group f) sent.sender (answer_aim (asker_or_source plan f) c.args.asker) =
    ap (λ (n : ℕ). reply_of n sent.sender c.answer_aim.result) c.acknowledged_group.ensures
    ∙ ap (λ (a : Aim). reply_of (acknowledged_group f) sent.sender a) aim in
    ap (λ (r : Reply). Refused r ∷ []) same ∙ if_so (is_refusal f) _ _ (sym c.is_refusal.ensures ∙ c.if-not-is_refusal.false)
