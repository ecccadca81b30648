use Rattle.j39_bus.proofs.session.Session.leave_out.Goals as goal

pub invariant_of-self : goal.invariant_of-self
invariant_of-self c = c.give_up.ensures.goes c.self.inside.to c.self.invariant
