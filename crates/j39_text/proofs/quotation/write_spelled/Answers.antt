use Rattle.std.proofs.Common.{append_assoc}
use Rattle.std.proofs.lemmas.List.{append-nil, drop_all}
use Rattle.j39_text.specs.Quotations.{spelled}
use Rattle.j39_text.proofs.Quotations.{spelled_from}
use Rattle.j39_text.proofs.quotation.write_spelled.Goals as goal

pub loop-byte-preserved : goal.loop-byte-preserved
loop-byte-preserved c =
    let next = spelled_from c.args.bytes.now c.loop-byte.byte-index 0 c.loop-byte-test.true in
    rw (c.in_ok-write_byte.ensures, append_assoc) (rw next at c.loop-byte.invariant)

pub returns : goal.returns
unfolding spelled
returns c =
    let done = drop_all c.loop-byte.byte-index c.args.bytes.now c.loop-byte-test.false in
    rw (done, append-nil) at c.loop-byte.invariant
