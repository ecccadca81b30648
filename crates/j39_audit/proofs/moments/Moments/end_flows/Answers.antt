use Rattle.std.proofs.Common.{◌≡◌, ℕ, length, sym, subst, arith}
use Rattle.j39_audit.specs.Moments.{pauses_ended}
use Rattle.j39_audit.specs.inside.Recalling.{RecallsMoments, settings_of}
use Rattle.j39_audit.proofs.Pausing.{ended_more, ended_none}
use Rattle.j39_audit.proofs.moments.Moments.end_flows.Goals as goal

pub loop-place-init : goal.loop-place-init
loop-place-init c = record {
  near = c.requires.near;
  moments = λ m recalls. subst (RecallsMoments c.args.self.now) (sym (ended_none (settings_of c.args.basis.now) c.args.timing c.args.unit m)) recalls;
}

pub loop-place-preserved : goal.loop-place-preserved
loop-place-preserved c =
    let before = c.loop-place.invariant in
    record {
      near = c.in_ok-end_with.ensures.near;
      moments = λ m recalls. subst (RecallsMoments c.end_with.new.self)
          (sym (ended_more (settings_of c.args.basis.now) c.args.timing c.args.unit c.loop-place.place m))
          (c.in_ok-end_with.ensures.moments _ (before.moments m recalls));
    }

pub returns : goal.returns
returns c =
    let before = c.loop-place.invariant in
    let count = c.len-place-end.ensures in
    let done = c.loop-place-test.false in
    let end : c.loop-place.place ≡ length c.args.basis.now.plan.now.flows.items = omega (arith, count, done) in
    record {
      near = before.near;
      moments = λ m recalls. subst (λ (n : ℕ). RecallsMoments c.loop-place.self (pauses_ended (settings_of c.args.basis.now) c.args.timing c.args.unit n m)) end
          (before.moments m recalls);
    }
