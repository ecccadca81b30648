use Rattle.std.proofs.Common.{◌<◌, ◌≤◌, ◌++◌, ◌∷◌, [], List, Option, None, length, take, append_assoc, sym, ap, ◌∙◌, arith}
use Rattle.std.proofs.lemmas.List.{take_all, take_more}
use Rattle.std.proofs.lemmas.List.Elements.{All-append, All-cons}
use Rattle.j39_load.specs.declared.frames.flow_frames.FlowFrames.{FlowFrames}
use Rattle.j39_load.specs.AskedLoads.{asked_in}
use Rattle.j39_load.specs.SoundLoads.{AreSoundIfAny}
use Rattle.j39_load.specs.inside.FrameParts.{frames_in}
use Rattle.j39_load.proofs.PartFrames.{part_length}
use Rattle.j39_load.proofs.loads.Loads.add_part.Goals as goal

pub loop-place-preserved : goal.loop-place-preserved
loop-place-preserved c =
    let asked = asked_in c.args.self.now in
    let frames = frames_in c.args.part asked in
    let k = c.loop-place.place in
    let before = c.args.all.now.items in
    let here = c.frames_at.result in
    let inside : k < length frames = omega (arith, part_length c.args.part asked, c.places_in-place-end.ensures) in
    record {
      frames = c.in_ok-push.ensures.items ∙ ap (λ (xs : List (Option FlowFrames)). xs ++ here ∷ []) c.loop-place.invariant.frames
          ∙ append_assoc before (take k frames) (here ∷ [])
          ∙ ap (λ (x : Option FlowFrames). before ++ (take k frames ++ x ∷ [])) c.frames_at.ensures.frames
          ∙ ap (λ (xs : List (Option FlowFrames)). before ++ xs) (sym (take_more frames k None inside));
      fit = rw (c.in_ok-push.ensures.items)
          (All-append AreSoundIfAny c.loop-place.all.items (here ∷ []) c.loop-place.invariant.fit
          (All-cons AreSoundIfAny here [] c.frames_at.ensures.fit (λ j d below. absurd (omega arith))));
    }

pub returns-clause-frames : goal.returns-clause-frames
returns-clause-frames c =
    let asked = asked_in c.args.self.now in
    let frames = frames_in c.args.part asked in
    let over : length frames ≤ c.loop-place.place = omega (arith, part_length c.args.part asked, c.places_in-place-end.ensures) in
    c.loop-place.invariant.frames ∙ ap (λ (xs : List (Option FlowFrames)). c.args.all.now.items ++ xs) (take_all c.loop-place.place frames over)
