use Rattle.std.proofs.Common.{length, subst}
use Rattle.j39_follow.specs.Holders.{IsHolder}
use Rattle.j39_follow.specs.inside.Likeliest.{IsBestOf}
use Rattle.j39_follow.proofs.Addresses.Likeliest.{likeliest_of, none_likely}
use Rattle.j39_follow.proofs.address.who.who_at.Goals as goal

pub returns-in-Some-likeliest : goal.returns-in-Some-likeliest
returns-in-Some-likeliest c = λ frames of. (
  subst (IsHolder frames c.args.address) c.in_default.is (c.holder.ensures c.args.plan.now frames of),
  likeliest_of c.args.plan.now frames c.args.address c.in-Some-likeliest.unit
      (subst (IsBestOf c.args.plan.now (length c.args.plan.now.units.items) frames c.args.address) c.in-Some-likeliest.is
      (c.likeliest.ensures frames of)),
)

pub returns-in-None-likeliest : goal.returns-in-None-likeliest
returns-in-None-likeliest c = λ frames of. (
  subst (IsHolder frames c.args.address) c.in_default.is (c.holder.ensures c.args.plan.now frames of),
  none_likely c.args.plan.now frames c.args.address
      (subst (IsBestOf c.args.plan.now (length c.args.plan.now.units.items) frames c.args.address) c.in-None-likeliest.is
      (c.likeliest.ensures frames of)),
)
