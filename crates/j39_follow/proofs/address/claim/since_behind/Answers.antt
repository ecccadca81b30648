use Rattle.std.proofs.Common.{sym, ◌∙◌}
use Rattle.j39_follow.specs.Contests.{frames_of}
use Rattle.j39_follow.proofs.Addresses.Beginning.{held_so, not_held, since_anew, since_held}
use Rattle.j39_follow.proofs.address.claim.since_behind.Goals as goal

pub returns-then-is_name : goal.returns-then-is_name
returns-then-is_name c = λ plan before x knows at.
    since_held plan before x c.args.claim at c.args.old
    (held_so plan before x c.args.claim at c.holder.result (c.holder.ensures plan (frames_of before) knows)
    (sym c.is_name.ensures ∙ c.if-is_name.true))

pub returns-else-is_name : goal.returns-else-is_name
returns-else-is_name c = λ plan before x knows at.
    since_anew plan before x c.args.claim at c.args.old
    (not_held plan before x c.args.claim at c.holder.result (c.holder.ensures plan (frames_of before) knows)
    (sym c.is_name.ensures ∙ c.if-is_name.false))
