use Rattle.std.proofs.Common.{◌≡◌, drop, sym, ap, ◌∙◌, arith}
use Rattle.std.proofs.lemmas.List.{at_drop_all, drop_more}
use Rattle.j39_schedule.specs.inside.Checksums.{checksum_from}
use Rattle.j39_schedule.proofs.unit_index.checksum.Goals as goal

pub loop-byte-preserved : goal.loop-byte-preserved
unfolding checksum_from
loop-byte-preserved c =
    sym (ap (checksum_from c.loop-byte.sum) (drop_more c.args.label.now c.loop-byte.byte-index 0 (omega arith))) ∙ c.loop-byte.invariant

pub returns : goal.returns
unfolding checksum_from
returns c = sym (at_drop_all (checksum_from c.loop-byte.sum) c.args.label.now c.loop-byte.byte-index (omega arith)) ∙ c.loop-byte.invariant
