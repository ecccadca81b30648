use Rattle.j39_follow.proofs.Addresses.Standing.{earlier_next, later_next, not_next}
use Rattle.j39_follow.proofs.address.holders.Holders.later.Goals as goal

pub returns-then-not-is_of-clause-latest : goal.returns-then-not-is_of-clause-latest
returns-then-not-is_of-clause-latest c = λ of.
    not_next c.args.plan.now c.args.self.now c.args.place c.args.unit.now c.args.best c.args.address (c.is_of.ensures.not c.if-not-is_of.true) of

pub returns-then-not-is_later-clause-latest : goal.returns-then-not-is_later-clause-latest
returns-then-not-is_later-clause-latest c = λ of.
    let other = c.is_later.ensures.not c.if-not-is_later.true in
    earlier_next c.args.plan.now c.args.self.now c.args.place c.args.unit.now c.args.best c.args.address other.0 other.1 other.2 of

pub returns-clause-latest : goal.returns-clause-latest
returns-clause-latest c = λ of.
    later_next c.args.plan.now c.args.self.now c.args.place c.args.unit.now c.args.best c.args.address
    (c.is_of.ensures.held c.if-not-is_of.false) (c.is_later.ensures.later c.if-not-is_later.false) of
