use Rattle.std.proofs.Common.{List, None, length, sym, subst, ◌∙◌}
use Rattle.j39_audit.specs.Counting.{Noted}
use Rattle.j39_audit.specs.inside.Recalling.{AreCounted, settings_of}
use Rattle.j39_audit.proofs.Keeping.{kept_closed, kept_none}
use Rattle.j39_audit.proofs.Pausing.{near_with, none_ended, none_near, recalls_with}
use Rattle.j39_audit.proofs.moments.Moments.end_known.Goals as goal

pub returns-clause-near : goal.returns-clause-near
returns-clause-near c =
    let near = c.in_ok-end_flows.ensures.near in
    let forgot = c.forget.ensures in
    near_with near (none_near c.end_flows.new.self.pauses c.forget.new.self forgot.newest forgot.last forgot.newest_size forgot.last_size near.pauses)

pub returns-clause-moments : goal.returns-clause-moments
returns-clause-moments c = λ m recalls.
    let ended = c.in_ok-end_flows.ensures.moments m recalls in
    let forgot = c.forget.ensures in
    recalls_with ended ended.counted (kept_none forgot.newest) (kept_none forgot.last)

pub returns-then-not-self-clause-moments : goal.returns-then-not-self-clause-moments
returns-then-not-self-clause-moments c = λ m recalls.
    let s = settings_of c.args.basis.now in
    let old = c.args.self.now in
    let pauses = recalls.pauses in
    let as_before = none_ended s c.args.timing None m (pauses.newest.closed c.if-not-self.true) (length c.args.basis.now.plan.now.flows.items) in
    record {
      before = recalls.before ∙ sym as_before.before;
      since = recalls.since ∙ sym as_before.since;
      earliest = λ key. recalls.earliest key ∙ sym (as_before.earliest key);
      counted = subst (λ (l : List Noted). AreCounted old.untimely l) (sym as_before.untimely) recalls.counted;
      pauses = record { newest = kept_closed c.if-not-self.true pauses.newest; last = kept_closed c.if-not-self.true pauses.last };
    }
