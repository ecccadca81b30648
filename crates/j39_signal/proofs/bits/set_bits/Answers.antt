use Rattle.std.proofs.Common.{◌+◌, ◌%◌, ap, ◌∙◌, arith}
use Rattle.std.specs.Int.{bit_at}
use Rattle.j39_signal.specs.Bits.{bit}
use Rattle.j39_signal.proofs.Numbers.{number_at-same}
use Rattle.j39_signal.proofs.Outside.{kept_outside}
use Rattle.j39_signal.proofs.bits.set_bits.Goals as goal

pub returns-clause-written : goal.returns-clause-written
returns-clause-written c =
    number_at-same c.set_window.new.payload c.args.start c.args.number c.args.width c.requires.range
    (λ j h. ap (bit c.set_window.new.payload) (omega arith) ∙ c.set_window.ensures.inside (c.args.start % 8 + j) (omega arith)
    ∙ c.merged-new.ensures.inside j h ∙ ap (λ n. bit_at n j) c.from.ensures)

pub returns-clause-others : goal.returns-clause-others
returns-clause-others c j h =
    kept_outside c.args.payload.now c.set_window.new.payload c.args.start c.args.width c.from-first.result c.byte_count-count.result
    c.window-old.result c.merged-new.result
    c.from-first.ensures c.window-old.ensures c.set_window.ensures.inside c.set_window.ensures.outside c.merged-new.ensures.below
    c.merged-new.ensures.above (omega arith) j h
