use Rattle.std.proofs.Common.{rules, ◌+◌, ◌*◌, sym, ◌∙◌, arith}
use Rattle.j39_load.specs.inside.AskedShares.{parts_asked_in, whole_in}
use Rattle.j39_load.proofs.AskedShares.{added, is_more}
use Rattle.j39_load.proofs.findings.asked_share.AskedShare.add.Goals as goal

pub returns-then-is_less_with-clause-more : goal.returns-then-is_less_with-clause-more
returns-then-is_less_with-clause-more c =
    sym c.if-is_less_with.true ∙ c.is_less_with.ensures
    ∙ is_more c.combine-whole.new.number c.combine-asked.new.number c.args.self.now.count c.combine-whole.result c.combine-asked.result
    (c.args.every * whole_in c.args.self.now) (c.args.period * whole_in c.args.self.now + c.args.every * parts_asked_in c.args.self.now) c.is_less.result
    c.is_less.ensures c.combine-whole.ensures.small c.combine-asked.ensures.small
    (let sum = c.combine-whole.ensures.sum in omega (arith, sum)) (let sum = c.combine-asked.ensures.sum in omega (arith, sum))

pub returns-clause-more : goal.returns-clause-more
returns-clause-more c =
    sym c.if-is_less_with.false ∙ c.is_less_with.ensures
    ∙ is_more c.combine-whole.new.number c.combine-asked.new.number c.args.self.now.count c.combine-whole.result c.combine-asked.result
    (c.args.every * whole_in c.args.self.now) (c.args.period * whole_in c.args.self.now + c.args.every * parts_asked_in c.args.self.now) c.is_less.result
    c.is_less.ensures c.combine-whole.ensures.small c.combine-asked.ensures.small
    (let sum = c.combine-whole.ensures.sum in omega (arith, sum)) (let sum = c.combine-asked.ensures.sum in omega (arith, sum))

pub returns-clause-asked : goal.returns-clause-asked
returns-clause-asked c = λ none.
    let sum = c.combine-asked.ensures.sum in
    added c.combine-asked.new.number c.args.self.now.count c.combine-asked.result _ (search rules) (omega (arith, sum))

pub returns-clause-whole : goal.returns-clause-whole
returns-clause-whole c = λ none.
    let sum = c.combine-whole.ensures.sum in
    added c.combine-whole.new.number c.args.self.now.count c.combine-whole.result _ (search rules) (omega (arith, sum))
