use Rattle.std.proofs.Common.{◌≡◌, Option, ℕ, List, None, get_or, sym, ap, ◌∙◌}
use Rattle.std.specs.List.{position}
use Rattle.std.specs.Option.{option_or}
use Rattle.j39_network.specs.declared.plan.flow_plan.FlowPlan.{FlowPlan}
use Rattle.j39_log.proofs.Indexes.{no_place}
use Rattle.j39_follow.specs.Fits.{fits, fits_all}
use Rattle.j39_follow.proofs.Flows.ToAll.{none_fits, none_for_all, unfit_for_all}
use Rattle.j39_follow.proofs.flow.sending.flow_of.Goals as goal

pub flow_of_all-requires : goal.flow_of_all-requires
flow_of_all-requires c = sym c.first_flow.ensures ∙ c.in-Some.is

pub returns-then-is_to_all : goal.returns-then-is_to_all
returns-then-is_to_all c = sym c.flow_of_all.ensures

pub returns-else-is_to_all : goal.returns-else-is_to_all
returns-else-is_to_all c =
    let flows : List FlowPlan = c.args.groups.now.flows.items in
    let fit = position (fits c.args.group c.args.sent) flows in
    let none = no_place (fits_all c.args.group c.args.sent) flows
    (λ k flow less. none_for_all c.args.group c.args.sent (get_or flows k flow) (sym c.is_to_all.ensures ∙ c.if-is_to_all.false)) in
    sym (ap (λ (o : Option ℕ). option_or o fit) none ∙ sym c.first_flow.ensures ∙ c.in-Some.is)

pub returns-in-None : goal.returns-in-None
returns-in-None c =
    let flows : List FlowPlan = c.args.groups.now.flows.items in
    let fit : Option ℕ = position (fits c.args.group c.args.sent) flows in
    let unfit : fit ≡ None = sym c.first_flow.ensures ∙ c.in-None.is in
    let none = no_place (fits_all c.args.group c.args.sent) flows
    (λ k flow less. unfit_for_all c.args.group c.args.sent (get_or flows k flow) (none_fits (fits c.args.group c.args.sent) flows k flow unfit less)) in
    sym (ap (λ (o : Option ℕ). option_or o fit) none ∙ unfit)
