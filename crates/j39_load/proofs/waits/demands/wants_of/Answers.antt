use Rattle.std.proofs.Common.{sym}
use Rattle.j39_load.specs.Demands.{wanted_by}
use Rattle.j39_load.proofs.Broadcasting.{none_kept, one_kept}
use Rattle.j39_load.proofs.waits.demands.wants_of.Goals.{in-Some+in_ok-push, in_default}
use Rattle.j39_load.proofs.waits.demands.wants_of.Goals as goal

pub loop-frames-preserved : goal.loop-frames-preserved
loop-frames-preserved c =
    let keep = wanted_by c.args.unit in
    let all = c.args.all.now in
    let k = c.loop-frames.frames-index in
    let kept = c.loop-frames.wants.items in
    elim (c.match-wanted_by.branch) [
      | in-Some+in_ok-push w ↦ rw (w.wants-is, w.in_ok-push.ensures.items)
          (one_kept keep all k c.loop-frames-test.true kept c.loop-frames.invariant w.in-Some.broadcast (sym (w.in-Some.ensures {u = tt}).wanted)
          (w.in-Some.ensures {u = tt}).sound)
      | in_default w ↦ rw (w.wants-is)
          (none_kept keep all k c.loop-frames-test.true kept c.loop-frames.invariant (sym (w.in_default.ensures {u = tt}).wanted))
    ]
