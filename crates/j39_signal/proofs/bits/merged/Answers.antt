use Rattle.j39_signal.proofs.Merging.{merged_inside, merged_below, merged_above}
use Rattle.j39_signal.proofs.bits.merged.Goals as goal

pub returns-clause-inside : goal.returns-clause-inside
returns-clause-inside c =
    merged_inside c.args.number c.args.bits c.args.shift c.args.width c.mask.result c.requires.shift c.requires.width c.requires.range c.mask.ensures

pub returns-clause-below : goal.returns-clause-below
returns-clause-below c =
    merged_below c.args.number c.args.bits c.args.shift c.args.width c.mask.result c.requires.shift c.requires.width c.requires.range c.mask.ensures

pub returns-clause-above : goal.returns-clause-above
returns-clause-above c =
    merged_above c.args.number c.args.bits c.args.shift c.args.width c.mask.result c.requires.shift c.requires.width c.requires.range c.mask.ensures
