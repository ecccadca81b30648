use Rattle.std.proofs.Common.{◌≡◌, ℕ, length, sym, subst, arith}
use Rattle.j39_audit.specs.Moments.{listed_pauses_ended}
use Rattle.j39_audit.specs.inside.Recalling.{RecallsMoments, settings_of}
use Rattle.j39_audit.proofs.Pausing.{listed_more, listed_none}
use Rattle.j39_audit.proofs.moments.Moments.end_listed.Goals as goal

pub loop-at-init : goal.loop-at-init
loop-at-init c = record {
  near = c.requires.near;
  moments = λ m recalls. subst (RecallsMoments c.args.self.now) (sym (listed_none (settings_of c.args.basis.now) c.args.timing c.args.places.now m)) recalls;
}

pub loop-at-preserved : goal.loop-at-preserved
loop-at-preserved c =
    let before = c.loop-at.invariant in
    record {
      near = c.in_ok-end_pause.ensures.near;
      moments = λ m recalls. subst (RecallsMoments c.end_pause.new.self)
          (sym (listed_more (settings_of c.args.basis.now) c.args.timing c.args.places.now c.loop-at.at m))
          (c.in_ok-end_pause.ensures.moments _ (before.moments m recalls));
    }

pub returns : goal.returns
returns c =
    let before = c.loop-at.invariant in
    let done = c.loop-at-test.false in
    let end : c.loop-at.at ≡ length c.args.places.now = omega (arith, done) in
    record {
      near = before.near;
      moments = λ m recalls. subst (λ (n : ℕ). RecallsMoments c.loop-at.self
          (listed_pauses_ended (settings_of c.args.basis.now) c.args.timing c.args.places.now n m)) end
          (before.moments m recalls);
    }
