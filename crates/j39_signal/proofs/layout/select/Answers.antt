use Rattle.j39_signal.proofs.Blanks.{selector_blank}
use Rattle.j39_signal.proofs.layout.select.Goals as goal

pub returns : goal.returns
returns c = λ bytes ones.
    selector_blank c.args.selector c.args.payload.now c.set_bits.new.payload bytes ones c.set_bits.auto.payload c.requires
    c.set_bits.ensures.written c.set_bits.ensures.others
