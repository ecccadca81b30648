-- Which payloads have a signal.
use Rattle.std.proofs.Common.{◌≡◌, ℕ, ◌+◌, ◌*◌, ◌/◌, ◌≤◌, Bool, true, false, ℤ, arith, inl, inr, refl, sym, ◌∙◌}
use Rattle.std.specs.Prelude.{nat_le, not, ◌||◌}
use Rattle.std.proofs.lemmas.Bool.{cases_lt, le-leb, lt-leb, leb-true}
use Rattle.j39_signal.specs.declared.signal_parts.SignalParts.{SignalParts}
use Rattle.j39_signal.specs.Places.{IsAlwaysInside, IsInside, IsThere, end_of}
use Rattle.j39_signal.specs.State.{RefusesValue, RefusesWrite}
use Rattle.j39_signal.specs.declared.write_error.WriteError.{WriteError}
use Rattle.j39_signal.specs.declared.write_error.WriteError.TheVariants.{NotOnStep, OutOfRange, NotThere}

-- a signal ends within so many bytes where the bytes up to its end are no more
pub within_bytes : (last bytes : ℕ) → nat_le ((last + 7) / 8) bytes ≡ nat_le last (8 * bytes)
within_bytes last bytes = elim (cases_lt (8 * bytes) last) [
  | inl behind ↦ lt-leb ((last + 7) / 8) bytes (omega (arith, behind)) ∙ sym (lt-leb last (8 * bytes) behind)
  | inr within ↦ le-leb ((last + 7) / 8) bytes (omega (arith, within)) ∙ sym (le-leb last (8 * bytes) within)
]

inside_by : (o : Bool) (s : SignalParts) (least bytes : ℕ) → s.optional ≡ o → least ≤ bytes → (s.optional ≡ false → IsInside least s)
    → (not o || nat_le (end_of s) (8 * bytes)) ≡ true → IsInside bytes s
inside_by false s least bytes is longer always there = omega (arith, always is, longer)
inside_by true s least bytes is longer always there = leb-true _ _ there

-- a signal that a payload has ends inside it
pub inside_there : (s : SignalParts) (least bytes : ℕ) → least ≤ bytes → IsAlwaysInside least s → IsThere bytes s → IsInside bytes s
inside_there s least bytes longer always there = inside_by s.optional s least bytes refl longer always there

-- a value that is refused of a signal that is there
pub refused_there : (s : SignalParts) (bytes : ℕ) (value : ℤ) (e : WriteError) → IsThere bytes s → RefusesValue s value e → RefusesWrite bytes s value e
refused_there s bytes value NotOnStep there refused = (there, refused)
refused_there s bytes value OutOfRange there refused = (there, refused)
refused_there s bytes value NotThere there refused = absurd refused
