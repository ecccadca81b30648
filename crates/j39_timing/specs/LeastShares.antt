-- What is queued at least in each time from one on: so many bits, and beside these a part of the time.
use Rattle.std.specs.Prelude.{ℕ, ◌+◌, ◌*◌, ◌/◌, ◌^◌, ◌<◌, ◌≤◌, List}
use Rattle.j39_timing.specs.Waits.{Demand, need}
use Rattle.j39_timing.specs.declared.lines.Line.{Line}
use Rattle.j39_timing.specs.declared.lines.Stretch.{Stretch}
use Rattle.j39_timing.specs.declared.stream.Stream.{Stream}

-- the stream's part of the bus, of 2 ^ 32
abbrev pub part_of : Stream → ℕ
part_of stream = stream.frames * stream.bits * 2 ^ 32 / stream.period

-- 2 ^ 32 times the bits that a line has in a time
abbrev pub line_at : ℕ → Line → ℕ
line_at x line = 2 ^ 32 * line.known + line.part * x

-- in each time from one on no fewer bits are queued than a line has
abbrev pub IsLineBelow : Line → ℕ → (ℕ → ℕ) → Type 0
IsLineBelow line span bits = (x : ℕ) → span ≤ x → line_at x line ≤ 2 ^ 32 * bits x

-- the same up to where it ends
abbrev pub IsStretchBelow : Stretch → ℕ → (ℕ → ℕ) → Type 0
IsStretchBelow stretch span bits = (x : ℕ) → span ≤ x → x ≤ stretch.until → line_at x stretch.line ≤ 2 ^ 32 * bits x

-- from a wait on, up to another one, none has room
abbrev pub NoneFitsFrom : List Demand → ℕ → List Stream → ℕ → ℕ → Type 0
NoneFitsFrom demands blocking streams from to = (v : ℕ) → from ≤ v → v < to → v < need demands blocking streams v
