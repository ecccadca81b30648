use Rattle.std.proofs.Common.{append_assoc}
use Rattle.std.proofs.lemmas.List.{append-nil, drop_all}
use Rattle.j39_run.specs.RunText.{sent_lines}
use Rattle.j39_run.proofs.RunLists.{frames_from}
use Rattle.j39_run.proofs.run_lines.write_frames.Goals as goal

pub loop-place-preserved : goal.loop-place-preserved
loop-place-preserved c =
    let next = frames_from c.args.frames.now c.loop-place.place c.index-frames-place.result c.loop-place-test.true in
    rw (c.in_ok-write_frame.ensures, append_assoc, c.index-frames-place.is) (rw next at c.loop-place.invariant)

pub returns : goal.returns
unfolding sent_lines
returns c =
    let done = drop_all c.loop-place.place c.args.frames.now c.loop-place-test.false in
    rw (done, append-nil) at c.loop-place.invariant
