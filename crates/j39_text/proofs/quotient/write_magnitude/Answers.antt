use Rattle.std.proofs.Common.{append_assoc, rules, arith}
use Rattle.j39_text.proofs.Quotients.{point-text, positive, whole, whole-text}
use Rattle.j39_text.proofs.quotient.write_magnitude.Goals as goal

pub returns-then-rest-eq0 : goal.returns-then-rest-eq0
returns-then-rest-eq0 c =
    rw (whole-text c.args.magnitude c.args.per (positive c.args.per c.requires) (omega arith)) (search rules)

pub write_decimals-requires-clause-whole : goal.write_decimals-requires-clause-whole
write_decimals-requires-clause-whole c = whole _ c.args.per c.requires

pub returns : goal.returns
returns c =
    let parts = point-text c.args.magnitude c.args.per c.requires (omega arith) in
    rw parts (rw (c.in_ok-word.ensures {u = tt}, c.in_ok-number.ensures {u = tt}, append_assoc, append_assoc) at c.write_decimals.ensures)
