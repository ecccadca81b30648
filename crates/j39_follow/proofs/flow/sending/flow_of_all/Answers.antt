use Rattle.std.proofs.Common.{Option, ℕ, sym, ap, ◌∙◌}
use Rattle.std.specs.List.{position}
use Rattle.std.specs.Option.{option_or}
use Rattle.std.proofs.lemmas.List.Quantifiers.{position-Some}
use Rattle.j39_follow.specs.Fits.{fits}
use Rattle.j39_follow.proofs.flow.sending.flow_of_all.Goals as goal

pub flow_to_all-requires : goal.flow_to_all-requires
flow_to_all-requires c = λ k flow less.
    (position-Some (fits c.args.group c.args.sent) c.args.groups.now.flows.items c.args.first flow c.requires).2 k less

pub returns-in-Some : goal.returns-in-Some
returns-in-Some c =
    let fit = position (fits c.args.group c.args.sent) c.args.groups.now.flows.items in
    ap (λ (o : Option ℕ). option_or o fit) (sym c.flow_to_all.ensures ∙ c.in-Some.is)

pub returns-in-None : goal.returns-in-None
returns-in-None c =
    let fit = position (fits c.args.group c.args.sent) c.args.groups.now.flows.items in
    ap (λ (o : Option ℕ). option_or o fit) (sym c.flow_to_all.ensures ∙ c.in-None.is) ∙ c.requires
