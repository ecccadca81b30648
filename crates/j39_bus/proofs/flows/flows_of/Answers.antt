use Rattle.std.proofs.Common.{◌≡◌, ℕ, ◌<◌, All, length, get_or, refl, ap, sym, ◌∙◌, subst, arith}
use Rattle.std.proofs.lemmas.List.Elements.{All-push}
use Rattle.j39_network.specs.declared.plan.flow_plan.FlowPlan.{FlowPlan}
use Rattle.j39_network.specs.declared.plan.to.To.{To}
use Rattle.j39_network.specs.declared.plan.to.To.TheVariants.{All as ToAll, One}
use Rattle.j39_world.specs.Flows.{flow_of}
use Rattle.j39_world.specs.declared.flow.Flow.{Flow}
use Rattle.j39_bus.specs.inside.KeptMessages.{GoesToUnits, IsFlow}
use Rattle.j39_bus.proofs.Opened.{mapped_more}
use Rattle.j39_bus.proofs.flows.flows_of.Goals as goal

inside_by : (n : ℕ) (to : To) → ((v : ℕ) → to ≡ One v → v < n) → GoesToUnits n to
inside_by n ToAll is = tt
inside_by n (One v) is = is v refl

pub loop-flow-preserved : goal.loop-flow-preserved
loop-flow-preserved c =
    let plan = c.args.plan.now in
    let n = length plan.units.items in
    let xs = c.deref-flow-items.result.now in
    let k = c.loop-flow.flow-index in
    let d = c.flow-item.result in
    let inside : k < length xs = omega arith in
    let planned : k < length plan.flows.items = omega (arith, inside, ap length c.deref-flow-items.ensures.value) in
    let at : get_or xs k d ≡ get_or plan.flows.items k d = ap (λ ys. get_or ys k d) c.deref-flow-items.ensures.value in
    let flow : c.flow_of.result ≡ flow_of plan.groups.items (get_or xs k d) = c.flow_of.ensures.flow
    ∙ ap (λ gs. flow_of gs d) c.as_slice.ensures.value ∙ ap (flow_of plan.groups.items) c.flow-item.is in
    let sender : c.flow_of.result.sender ≡ (get_or plan.flows.items k d).sender = ap (λ (f : Flow). f.sender) flow ∙ ap (λ (f : FlowPlan). f.sender) at in
    let to : c.flow_of.result.to ≡ (get_or plan.flows.items k d).to = ap (λ (f : Flow). f.to) flow ∙ ap (λ (f : FlowPlan). f.to) at in
    let fits : IsFlow n c.flow_of.result = record {
      sender = subst (λ s. s < n) (sym sender) (plan.flow_senders k d planned);
      receiver = subst (GoesToUnits n) (sym to) (inside_by n (get_or plan.flows.items k d).to (plan.flow_receivers k d planned));
      length = c.flow_of.ensures.length;
      priority = c.flow_of.ensures.priority;
    } in
    record {
      flows = mapped_more (flow_of plan.groups.items) xs k d inside c.loop-flow.flows.items c.push_reserved.new.self.items c.flow_of.result
          c.push_reserved.ensures.items c.loop-flow.invariant.flows flow;
      len = omega arith;
      room = omega arith;
      fit = subst (All (IsFlow n)) (sym c.push_reserved.ensures.items)
          (All-push (IsFlow n) c.loop-flow.flows.items c.flow_of.result c.loop-flow.invariant.fit fits);
    }
