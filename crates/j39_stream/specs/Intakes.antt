-- How much of an input was read, piece by piece.
use Rattle.std.specs.Prelude.{◌≡◌, ◌≤◌, ◌⊎◌, ℕ, List, [], ◌++◌, Option, length}
use Rattle.std.specs.Io.KnownBytes.{Consumes}
use Rattle.j39_id.specs.Lines.{at_start, lines, yielded}
use Rattle.j39_stream.specs.Streams.{SourceState, after_calls}
use Rattle.j39_stream.specs.declared.limits.Limits.{Limits}
use Rattle.j39_stream.specs.declared.verdict.Verdict.{Verdict}
use Rattle.j39_stream.specs.declared.verdict.Verdict.TheVariants.{Done}

-- the most bytes of a piece
abbrev pub piece_bytes : ℕ
piece_bytes = 4096

-- how many bytes were read, and by how many calls, of those that may be
pub record Counts : Type 0 where
  pub limits : Limits
  pub bytes : ℕ
  pub calls : ℕ

abbrev pub no_counts : Limits → Counts
no_counts limits = record { limits = limits; bytes = 0; calls = 0 }

-- what was counted is this text: each call gave some of it
pub record HasRead (limits : Limits) (old new : SourceState) (counts : Counts) (text : List ℕ) : Type 0 where
  pub limits_are : counts.limits ≡ limits
  pub consumed : Consumes old.left new.left text
  pub bytes_are : counts.bytes ≡ length text
  pub within : length text ≤ limits.bytes
  pub calls_gave : counts.calls ≤ length text
  pub pulls_are : new.pulls ≡ after_calls old.pulls counts.calls

-- nothing was read, or what was read ends with a piece before which nothing ends the text: what stands there is an input with the verdict
-- Done, up to a line that it only begins
abbrev pub EndsWithItsPiece : (List ℕ → List ℕ → Verdict → Type 0) → Option (List ℕ) → Option (List ℕ) → Type 0
EndsWithItsPiece IsText old new =
    Consumes old new []
    ⊎ ((front : List ℕ) × (begun : List ℕ) × (piece : List ℕ) × (text : List ℕ) × Consumes old new ((front ++ begun) ++ piece)
    × (length piece ≤ piece_bytes) × (lines front ≡ yielded at_start (front ++ begun)) × IsText front text Done)
