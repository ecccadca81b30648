use Rattle.std.proofs.Common.{◌++◌, Option, sym, subst}
use Rattle.std.specs.Option.{option_to_list}
use Rattle.std.proofs.lemmas.List.{append-nil}
use Rattle.j39_follow.specs.declared.request.event.Event.{Event}
use Rattle.j39_follow.specs.inside.Exchanging.{AreExchanges}
use Rattle.j39_follow.proofs.request.exchanges.Exchanges.hear_any.Goals as goal

pub returns-in-Some : goal.returns-in-Some
returns-in-Some c = λ events few are.
    subst (λ (o : Option Event). AreExchanges c.args.plan.now c.hear.new.self (events ++ option_to_list o)) (sym c.in-Some.is)
    (c.hear.ensures events few are)

pub returns-in-None : goal.returns-in-None
returns-in-None c = λ events few are.
    subst (λ (o : Option Event). AreExchanges c.args.plan.now c.args.self.now (events ++ option_to_list o)) (sym c.in-None.is)
    (subst (AreExchanges c.args.plan.now c.args.self.now) (sym (append-nil events)) are)
