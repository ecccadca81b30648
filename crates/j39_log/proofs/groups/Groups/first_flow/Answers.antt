use Rattle.std.proofs.Common.{◌<◌, ℕ, subst}
use Rattle.std.proofs.lemmas.List.Sums.{fails_before_first}
use Rattle.j39_log.specs.inside.FirstFlows.{is_flow_of}
use Rattle.j39_log.proofs.groups.Groups.first_flow.Goals as goal

pub returns-then-place-lt-GROUP_LIMIT-clause-before : goal.returns-then-place-lt-GROUP_LIMIT-clause-before
returns-then-place-lt-GROUP_LIMIT-clause-before c = λ k flow less.
    rw (← c.self.view_is) (fails_before_first (is_flow_of c.args.place) c.self.inside.plan.now.flows.items k flow
    (subst (λ (n : ℕ). k < n) (c.self.invariant.flows c.args.place c.if-place-lt-GROUP_LIMIT.true) less))
