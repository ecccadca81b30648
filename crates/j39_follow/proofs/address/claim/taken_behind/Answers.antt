use Rattle.std.proofs.Common.{◌≡◌, ℕ, true, false, Option, sym, subst, ◌∙◌}
use Rattle.j39_follow.specs.Contests.{frames_of}
use Rattle.j39_follow.specs.inside.Contesting.{is_defended}
use Rattle.j39_follow.proofs.Addresses.Beginning.{held_so, not_held, taken_anew, taken_defended, taken_held}
use Rattle.j39_follow.proofs.address.claim.taken_behind.Goals as goal

pub returns-then-is_name : goal.returns-then-is_name
returns-then-is_name c = λ plan before x knows at.
    taken_held plan before x c.args.claim at c.args.old
    (held_so plan before x c.args.claim at c.holder-holder.result (c.holder-holder.ensures plan (frames_of before) knows)
    (sym c.is_name.ensures ∙ c.if-is_name.true))

pub returns-then-defends : goal.returns-then-defends
returns-then-defends c = λ plan before x knows at.
    taken_defended plan before x c.args.claim at c.args.old c.holder-holder.result (c.holder-holder.ensures plan (frames_of before) knows)
    (not_held plan before x c.args.claim at c.holder-holder.result (c.holder-holder.ensures plan (frames_of before) knows)
    (sym c.is_name.ensures ∙ c.if-is_name.false))
    (subst (λ (t : Option ℕ). is_defended c.args.old.contest t c.args.claim ≡ true) c.since_of.ensures (sym c.defends.ensures ∙ c.if-defends.true))

pub returns-else-defends : goal.returns-else-defends
returns-else-defends c = λ plan before x knows at.
    taken_anew plan before x c.args.claim at c.args.old c.holder-holder.result (c.holder-holder.ensures plan (frames_of before) knows)
    (not_held plan before x c.args.claim at c.holder-holder.result (c.holder-holder.ensures plan (frames_of before) knows)
    (sym c.is_name.ensures ∙ c.if-is_name.false))
    (subst (λ (t : Option ℕ). is_defended c.args.old.contest t c.args.claim ≡ false) c.since_of.ensures (sym c.defends.ensures ∙ c.if-defends.false))
