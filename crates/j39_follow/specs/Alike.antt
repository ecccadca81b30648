-- What `follow` and `read` see in one log.
use Rattle.std.specs.Prelude.{◌≡◌, ℕ, Bool, List}
use Rattle.std.specs.List.{All}
use Rattle.j39_id.specs.Lines.{Line, Short, Long, lines}
use Rattle.j39_network.specs.declared.plan.Plan.{Plan}
use Rattle.j39_log.specs.ReadText.{Past, ReadsLines, nothing_yet}
use Rattle.j39_follow.specs.FollowText.{FollowedPast, FollowsLines, frames_seen, nothing_followed}
use Rattle.j39_follow.specs.LogLines.{EndsInDirection}

-- the line doesn't end in a word of direction
abbrev pub IsUndirected : Line → Type 0
IsUndirected (Short line) = (front : List ℕ) → ¬ EndsInDirection line front
IsUndirected Long = Unit {0}

-- the same frames came, and as many lines were skipped and bad
pub record SawAlike (followed : FollowedPast) (read : Past) : Type 0 where
  pub frames : frames_seen followed.seen ≡ frames_seen read.seen
  pub skipped : followed.skipped ≡ read.skipped
  pub bad : followed.bad ≡ read.bad

-- ---- a law

-- of a log in which no line ends in a direction and none is elsewhere both see the same frames, and count alike
abbrev pub FollowAndReadSeeAlike : Type 0
FollowAndReadSeeAlike = (plan : Plan) (all_frames : Bool) (log : List ℕ) (followed : FollowedPast) (read : Past) (reports texts : List ℕ)
    → All IsUndirected (lines log) → FollowsLines plan all_frames nothing_followed (lines log) followed reports → followed.elsewhere ≡ 0
    → ReadsLines plan nothing_yet (lines log) read texts → SawAlike followed read
