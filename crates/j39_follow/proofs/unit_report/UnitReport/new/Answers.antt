use Rattle.std.proofs.Common.{[], refl, sym, subst, arith}
use Rattle.j39_follow.specs.declared.flow.tally.Tally.{Tally}
use Rattle.j39_follow.specs.inside.Tallies.{IsTally}
use Rattle.j39_follow.proofs.Addresses.Heard.{nothing_heard_since}
use Rattle.j39_follow.proofs.unit_report.UnitReport.new.Goals as goal

pub returns-clause-past : goal.returns-clause-past
returns-clause-past c = record {
  remembers = record {
    knows = c.in_ok-new-3.ensures;
    contests = c.in_ok-new-4.ensures c.args.plan.now;
    frames = refl;
    heard = nothing_heard_since c.args.plan.now c.new-6.result c.new-6.ensures.listeners c.new-6.ensures.collections;
    ranges = λ k d less. absurd (omega arith);
    tally = subst (λ (t : Tally). IsTally c.args.plan.now t []) (sym c.in_ok-new.ensures.ok) (c.new.ensures c.args.plan.now);
    few = omega arith;
    exchanges = c.in_ok-new-2.ensures c.args.plan.now;
    few_noted = omega arith;
  };
  interface_is = refl;
  frames_are = refl;
  skipped_are = refl;
  bad_are = refl;
  elsewhere_are = refl;
}
