-- What an audit doesn't say of the frames of a run.
use Rattle.std.specs.Prelude.{◌≡◌, ◌≢◌, ◌⊎◌, ℕ, true, List, [], ◌∷◌, ◌++◌, Contains, All, Option, None}
use Rattle.j39_id.specs.FrameLine.{HasLineFault, Spells}
use Rattle.j39_id.specs.Lines.{Line, Short as ShortLine, Long}
use Rattle.j39_id.specs.declared.frame.Frame.{Frame}
use Rattle.j39_id.specs.declared.line_error.LineError.{LineError}
use Rattle.j39_id.specs.declared.line_error.LineError.TheVariants.{ShortIdent}
use Rattle.j39_network.specs.declared.plan.Plan.{Plan}
use Rattle.j39_world.specs.World.{World}
use Rattle.j39_follow.specs.LogLines.{IsElsewhere, IsReadPart, NamesInterface, interface_behind}
use Rattle.j39_log_laws.specs.HolderReports.{IsLogOf}
use Rattle.j39_audit.specs.AuditPasts.{AuditPast, AuditsLines, nothing_read}
use Rattle.j39_audit.specs.AuditText.{look_at, word_lines}
use Rattle.j39_audit.specs.Settings.{AreMoving, Settings}
use Rattle.j39_audit.specs.declared.mark.Word.{Word}
use Rattle.j39_audit_laws.specs.OwnPart.{EachKeepsItsPart}

-- ---- the frames of a log

-- these frames are read of the lines, in order, with any times; what else there is spells none, and has no identifier
-- of 11 bits
abbrev pub AreReadAs : Option (List ℕ) → List Line → List Frame → Type 0
AreReadAs interface [] frames = frames ≡ []
AreReadAs interface (Long ∷ log) frames = AreReadAs interface log frames
AreReadAs interface (ShortLine line ∷ log) frames =
    (part : List ℕ) × (named : Option (List ℕ)) × IsReadPart line part × NamesInterface part named
    × ((IsElsewhere interface part named × AreReadAs interface log frames)
    ⊎ (((f : Frame) × (more : List Frame) × (¬ IsElsewhere interface part named) × Spells part f × (frames ≡ f ∷ more)
    × AreReadAs (interface_behind interface named) log more)
    ⊎ ((e : LineError) × HasLineFault part e × (e ≢ ShortIdent) × AreReadAs interface log frames)))

-- they are those of the world's log behind a cut, or of a part of a log any of them
abbrev pub AreFramesOf : Settings → World → List Frame → Type 0
AreFramesOf s w frames =
    ((front : List Frame) × IsLogOf w (front ++ frames))
    ⊎ ((s.part ≡ true) × ((all : List Frame) × IsLogOf w all × All (Contains all) frames))

-- ---- what isn't written

-- no line of this word is written
abbrev pub IsNotWritten : Settings → List Line → Word → Type 0
IsNotWritten s log word = (end : AuditPast) → AuditsLines s nothing_read log end → word_lines s (look_at end) word ≡ []

-- no such line is written of the frames of the world
abbrev pub IsNotWrittenOf : Word → Plan → World → Type 0
IsNotWrittenOf word plan w = (s : Settings) (log : List Line) (frames : List Frame) → s.plan ≡ plan → AreMoving s.plan s.moving
    → AreReadAs None log frames → AreFramesOf s w frames → IsNotWritten s log word

-- ---- that all can be kept

-- who sent the frames of the world can be reported so that each unit keeps its part
abbrev pub ArePartsKept : Plan → World → Type 0
ArePartsKept plan w = (s : Settings) (log : List Line) (frames : List Frame) (end : AuditPast) → s.plan ≡ plan → AreMoving s.plan s.moving
    → AreReadAs None log frames → AreFramesOf s w frames → AuditsLines s nothing_read log end → EachKeepsItsPart s log
