use Rattle.std.proofs.Common.{◌≡◌, ℕ, ◌≤◌, List, length, map, true, false, nat_le, refl, sym, ap, ◌∙◌, subst, leb-true}
use Rattle.std.proofs.lemmas.Bool.{le-leb, false≢true}
use Rattle.std.proofs.lemmas.List.{length-map}
use Rattle.j39_id.specs.declared.frame.Frame.{Frame}
use Rattle.j39_bus.specs.BusState.{BusState}
use Rattle.j39_world.specs.Sent.{Sent, sent_of}
use Rattle.j39_run.specs.RunText.{most_frames}
use Rattle.j39_run.specs.inside.Doing.{HasSentAll}
use Rattle.j39_run.proofs.Done.{has_stepped}
use Rattle.j39_run.proofs.Runs.{full_run, refused_run, step_run}
use Rattle.j39_run.proofs.running.Running.step.Goals as goal

-- as many frames as these are what the bus has sent
count_of : (frames : List Frame) (b : BusState) → map sent_of frames ≡ b.frames → length frames ≡ length b.frames
count_of frames b is = sym (length-map frames sent_of) ∙ ap (λ (s : List Sent). length s) is

all_sent : (frames : List Frame) (b : BusState) → map sent_of frames ≡ b.frames → nat_le most_frames (length frames) ≡ true → HasSentAll b
all_sent frames b is full = subst (λ (n : ℕ). most_frames ≤ n) (count_of frames b is) (leb-true most_frames (length frames) full)

room_left : (frames : List Frame) (b : BusState) → map sent_of frames ≡ b.frames → nat_le most_frames (length frames) ≡ false → ¬ HasSentAll b
room_left frames b is room all =
    false≢true (sym room ∙ le-leb most_frames (length frames) (subst (λ (n : ℕ). most_frames ≤ n) (sym (count_of frames b is)) all))

pub returns-then-is_full-clause-run : goal.returns-then-is_full-clause-run
returns-then-is_full-clause-run g c plan line reads =
    full_run plan c.args.self.now c.requires.goes line c.args.step.now reads
    (all_sent c.frames-shown.result.now c.args.self.now.bus c.frames-shown.ensures (sym c.is_full.ensures ∙ c.if-is_full.true))

pub returns-in_ok-write_frames-in-Ok-clause-run : goal.returns-in_ok-write_frames-in-Ok-clause-run
returns-in_ok-write_frames-in-Ok-clause-run g c plan line reads =
    step_run plan c.args.self.now c.requires.goes line c.args.step.now c.step.new.self c.write_frames.new.text reads
    (room_left c.frames-shown.result.now c.args.self.now.bus c.frames-shown.ensures (sym c.is_full.ensures ∙ c.if-is_full.false))
    (has_stepped c.args.step.now _ _ _ _ c.frames-shown.result.now c.frames.result.now _ c.in-Ok.ensures.ok c.frames-shown.ensures c.frames.ensures refl
    c.in_ok-write_frames-in-Ok.ensures)

pub returns-in_ok-self-in-Err-clause-run : goal.returns-in_ok-self-in-Err-clause-run
returns-in_ok-self-in-Err-clause-run g c plan line reads =
    refused_run plan c.args.self.now c.requires.goes line c.args.step.now c.step.new.self c.in_ok-self-in-Err.field-0 c.in-Err.error reads
    (room_left c.frames-shown.result.now c.args.self.now.bus c.frames-shown.ensures (sym c.is_full.ensures ∙ c.if-is_full.false))
    c.in-Err.ensures.same c.in-Err.ensures.refused c.in_ok-self-in-Err.ensures.halt
