use Rattle.std.proofs.Common.{◌++◌, ◌∷◌, [], List, Option, take, length, length-append, None, sym, ap, ◌∙◌, arith}
use Rattle.std.proofs.lemmas.List.Elements.{All-append, All-cons}
use Rattle.j39_load.specs.declared.frames.flow_frames.FlowFrames.{FlowFrames}
use Rattle.j39_load.specs.AnyQueues.{buffered_at}
use Rattle.j39_load.specs.LineLists.{lines_of_each}
use Rattle.j39_load.specs.SoundLoads.{FitIfAny}
use Rattle.j39_load.proofs.Before.{more}
use Rattle.j39_load.proofs.queues.buffering_delays.buffered.Goals as goal

pub loop-place-preserved : goal.loop-place-preserved
loop-place-preserved c =
    let k = c.loop-place.place in
    let all = c.args.all.now in
    let report = buffered_at c.args.waits.now in
    let old = c.loop-place.invariant in
    let later = c.loop-place.later.items in
    let one = c.buffered_at.result in
    record {
      frames = c.in_ok-push.ensures.items
          ∙ ap (λ (xs : List (Option FlowFrames)). xs ++ one ∷ []) old.frames
          ∙ ap (λ (xs : List (Option FlowFrames)). lines_of_each report 0 (take k all) ++ xs) c.buffered_at.ensures.frames
          ∙ sym (more report k all None c.loop-place-test.true);
      fit = rw (c.in_ok-push.ensures.items)
          (All-append FitIfAny later (one ∷ []) old.fit
          (All-cons FitIfAny one [] c.buffered_at.ensures.fit (λ j d below. absurd (omega arith))));
      count = ap length c.in_ok-push.ensures.items ∙ omega (arith, length-append later (one ∷ []), old.count);
    }
