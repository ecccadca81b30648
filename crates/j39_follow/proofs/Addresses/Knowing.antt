-- What a directory knows behind a frame that reports of no address, and the frames of lines.
use Rattle.std.proofs.Common.{◌≡◌, ◌++◌, ◌∷◌, [], ℕ, List, refl, ap, ◌∙◌}
use Rattle.j39_id.specs.declared.frame.Frame.{Frame}
use Rattle.j39_network.specs.declared.plan.Plan.{Plan}
use Rattle.j39_follow.specs.Contests.{Timed, frames_of}
use Rattle.j39_follow.specs.FollowText.{FollowedPast, frames_seen, lines_with}
use Rattle.j39_follow.specs.LogLines.{moment_of}
use Rattle.j39_follow.specs.declared.address.directory.Directory.{Directory}
use Rattle.j39_follow.specs.inside.FrameWriting.{frames_with}
use Rattle.j39_follow.specs.inside.Recounting.{Knows, party_at}
use Rattle.j39_follow.proofs.Addresses.Parties.{who_as_well}
use Rattle.j39_follow.proofs.Addresses.Recounts.{HoldsNothing, nothing_reported}

pub knows_on : (plan : Plan) (directory : Directory) (frames : List Frame) (f : Frame) → HoldsNothing f → Knows plan directory frames
    → Knows plan directory (frames ++ f ∷ [])
knows_on plan directory frames f silent of =
    let stated = nothing_reported plan directory.holders.value frames f silent of.recounts in
    record {
      recounts = stated;
      parties = λ a less.
          who_as_well plan directory.holders.value frames (frames ++ f ∷ []) a (party_at directory.parties.all a) of.recounts stated (of.parties a less);
      names = of.names;
    }

-- the frames of the lines are those that were seen
pub timed_more : (log : List Timed) (x : Timed) → frames_of (log ++ x ∷ []) ≡ frames_of log ++ x.frame ∷ []
timed_more [] x = refl
timed_more (y ∷ log) x = ap (λ (t : List Frame). y.frame ∷ t) (timed_more log x)

pub frames_as_well : (past : FollowedPast) (f : Frame) (time : List ℕ) → frames_of past.timed ≡ frames_seen past.seen
    → frames_of (lines_with past f time) ≡ frames_with past.seen f
frames_as_well past f time same =
    timed_more past.timed (record { frame = f; time = moment_of time }) ∙ ap (λ (t : List Frame). t ++ f ∷ []) same
