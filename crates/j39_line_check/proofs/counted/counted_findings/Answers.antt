use Rattle.std.proofs.Common.{map}
use Rattle.j39_line_check.proofs.CountedOfVariants.{in_plain_words}
use Rattle.j39_line_check.proofs.counted.counted_findings.Goals as goal

pub returns-clause-counted : goal.returns-clause-counted
returns-clause-counted c =
    in_plain_words c.args.line.now c.args.full.now (map (λ v. v.items) c.args.variants.now) c.in_ok-found.found.0.items c.requires
    c.in_ok-found.ensures.counted

pub returns-clause-times : goal.returns-clause-times
returns-clause-times c = c.in_ok-found.ensures.times
