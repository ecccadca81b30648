-- What the phase and the bytes of a cutter stand for.
use Rattle.std.specs.Prelude.{ℕ, true, false, List, []}
use Rattle.j39_id.specs.Lines.{Pending, at_start}
use Rattle.j39_id.specs.declared.cut.Cut.{Cut}
use Rattle.j39_id.specs.declared.cut.Cut.TheVariants.{Long}
use Rattle.j39_id.specs.declared.cutter.CutterPhase.{CutterPhase}
use Rattle.j39_id.specs.declared.cutter.CutterPhase.TheVariants.{Inside, Beyond, Ended}

-- the line that it is in
abbrev pub pending_of : CutterPhase → List ℕ → Pending
pending_of Inside bytes = record { held = bytes; reported_long = false }
pending_of Beyond bytes = record { held = bytes; reported_long = true }
pending_of Ended bytes = at_start

-- the line that it gives
abbrev pub line_in : CutterPhase → List ℕ → List ℕ
line_in Ended bytes = bytes
line_in _ bytes = []

-- where it is within a line once it answered so
abbrev pub phase_after : Cut → CutterPhase
phase_after Long = Beyond
phase_after _ = Inside
