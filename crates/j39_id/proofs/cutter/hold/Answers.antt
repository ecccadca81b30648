use Rattle.std.proofs.Common.{◌≡◌, ◌-◌, ◌++◌, take, sym, ap, ◌∙◌, arith}
use Rattle.std.proofs.lemmas.Grind.{common_steps}
use Rattle.j39_id.specs.Lines.{line_limit}
use Rattle.j39_id.proofs.CutLines.{inside, beyond, part_inside, part_full}
use Rattle.j39_id.proofs.cutter.hold.Goals as goal

pub returns-then-part-room-clause-yielded : goal.returns-then-part-room-clause-yielded
returns-then-part-room-clause-yielded c = (part_inside c.args.bytes.now.items c.args.part.now c.requires.none (omega arith)).0

pub returns-then-part-room-clause-pending : goal.returns-then-part-room-clause-pending
returns-then-part-room-clause-pending c =
    let items : c.try_extend_from_slice.new.self.items ≡ c.args.bytes.now.items ++ c.args.part.now = grind (arith, common_steps) in
    ap inside items ∙ sym (part_inside c.args.bytes.now.items c.args.part.now c.requires.none (omega arith)).1

pub returns-clause-yielded : goal.returns-clause-yielded
returns-clause-yielded c = (part_full c.args.bytes.now.items c.args.part.now (line_limit - c.len-room.result) c.requires.none (omega arith) (omega arith)).0

pub returns-clause-pending : goal.returns-clause-pending
returns-clause-pending c =
    let items : c.try_extend_from_slice-2.new.self.items ≡ c.args.bytes.now.items ++ take (line_limit - c.len-room.result) c.args.part.now =
    grind (arith, common_steps) in
    ap beyond items ∙ sym (part_full c.args.bytes.now.items c.args.part.now (line_limit - c.len-room.result) c.requires.none (omega arith) (omega arith)).1
