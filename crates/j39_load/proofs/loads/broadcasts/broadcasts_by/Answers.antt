use Rattle.std.proofs.Common.{sym}
use Rattle.j39_load.specs.Broadcasts.{broadcast_by}
use Rattle.j39_load.proofs.Broadcasting.{none_kept, one_kept}
use Rattle.j39_load.proofs.loads.broadcasts.broadcasts_by.Goals.{in-Some+in_ok-push, in_default}
use Rattle.j39_load.proofs.loads.broadcasts.broadcasts_by.Goals as goal

pub loop-load-preserved : goal.loop-load-preserved
loop-load-preserved c =
    let keep = broadcast_by c.args.unit in
    let all = c.args.loads.now in
    let k = c.loop-load.load-index in
    let kept = c.loop-load.broadcasts.items in
    elim (c.match-broadcast_by.branch) [
      | in-Some+in_ok-push w ↦ rw (w.broadcasts-is, w.in_ok-push.ensures.items)
          (one_kept keep all k c.loop-load-test.true kept c.loop-load.invariant w.in-Some.broadcast (sym (w.in-Some.ensures {u = tt}).broadcast)
          (w.in-Some.ensures {u = tt}).sound)
      | in_default w ↦ rw (w.broadcasts-is)
          (none_kept keep all k c.loop-load-test.true kept c.loop-load.invariant (sym (w.in_default.ensures {u = tt}).broadcast))
    ]
