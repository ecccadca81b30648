use Rattle.std.proofs.Common.{◌≡◌, ◌&&◌, ℕ, Bool, true, false, List, Option, Some, None, cond, refl, sym, ap, ◌∙◌}
use Rattle.std.specs.List.{list_any, position, position_or_len}
use Rattle.j39_network.specs.declared.plan.flow_plan.FlowPlan.{FlowPlan}
use Rattle.j39_audit.specs.Claiming.{Knowledge}
use Rattle.j39_audit.specs.SentMessages.{SentMessage, deviates, deviation, flow_group, has_priority, is_fit, is_of, with_fit_flow}
use Rattle.j39_audit.specs.Settings.{Settings}
use Rattle.j39_audit.specs.declared.mark.Word.TheVariants.{Priority}
use Rattle.j39_audit.specs.inside.Recalling.{known_by, sent_as, settings_of}
use Rattle.j39_audit.specs.inside.Singling.{without_priority}
use Rattle.j39_audit.proofs.Singling.{first_also}
use Rattle.j39_audit.proofs.messages.deviation.Goals as goal

left_of : (a b : Bool) → (a && b) ≡ true → a ≡ true
left_of true b is = refl
left_of false b is = is

fits_of : (s : Settings) (k : Knowledge) (m : SentMessage) (f : FlowPlan) → is_of s k m f ≡ true → is_fit s k m f ≡ true
unfolding is_of
fits_of s k m f is = left_of (is_fit s k m f) (has_priority s m f.group) is

none_of : (s : Settings) (k : Knowledge) (m : SentMessage) (o : Option ℕ) → list_any (is_of s k m) s.plan.flows.items ≡ false
    → without_priority s m o ≡ with_fit_flow s k m o
none_of s k m None none = refl
none_of s k m (Some f) none = sym (ap (λ (b : Bool). cond b None (deviates m.unit Priority (flow_group s f))) none)

pub returns-then-is_any : goal.returns-then-is_any
unfolding deviation
returns-then-is_any c =
    let s = settings_of c.args.basis.now in
    let k = known_by c.args.known.now in
    let m = sent_as c.args.message.now in
    let flows : List FlowPlan = c.args.basis.now.plan.now.flows.items in
    let any : list_any (is_of s k m) flows ≡ true = c.requires ∙ sym c.is_any.ensures ∙ c.if-is_any.true in
    sym
    (ap (with_fit_flow s k m) (first_also (is_of s k m) (is_fit s k m) (fits_of s k m) flows any)
    ∙ ap (λ (b : Bool). cond b None (deviates m.unit Priority (flow_group s (position_or_len (is_fit s k m) flows)))) any)

pub returns-else-is_any : goal.returns-else-is_any
unfolding deviation
returns-else-is_any c =
    let s = settings_of c.args.basis.now in
    let k = known_by c.args.known.now in
    let m = sent_as c.args.message.now in
    c.without_priority.ensures ∙ ap (without_priority s m) c.first_fit.ensures
    ∙ none_of s k m (position (is_fit s k m) s.plan.flows.items) (c.requires ∙ sym c.is_any.ensures ∙ c.if-is_any.false)
