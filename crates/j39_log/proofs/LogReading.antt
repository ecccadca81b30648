-- A log that is read line after line, whatever reports its lines.
use Rattle.std.proofs.Common.{◌≡◌, ◌+◌, ◌<◌, ◌≤◌, ℕ, true, List, [], ◌∷◌, ◌++◌, length, refl, sym, ap, ◌∙◌, subst, append_assoc, arith}
use Rattle.std.proofs.lemmas.List.{append-nil, length_push}
use Rattle.j39_id.specs.Lines.{Line}
use Rattle.j39_stream.specs.LineReading.{IsSoFar}
use Rattle.j39_stream.specs.declared.verdict.Verdict.TheVariants.{Done}
use Rattle.j39_log.specs.LineCounting.{AreWithin, IsLineMore}
use Rattle.j39_log.specs.ReportedLogs.{HasEnd}
use Rattle.j39_log.specs.declared.line_counts.LineCounts.{LineCounts}

-- ---- counts of lines

pub within_more : (counts : LineCounts) (m n : ℕ) → m ≤ n → AreWithin counts m → AreWithin counts n
within_more counts m n more within =
    let frames = within.frames in
    let skipped = within.skipped in
    let bad = within.bad in
    let elsewhere = within.elsewhere in
    record {
      frames = omega (arith, frames, more);
      skipped = omega (arith, skipped, more);
      bad = omega (arith, bad, more);
      elsewhere = omega (arith, elsewhere, more);
    }

pub within_line : (old new : LineCounts) (m n : ℕ) → m < n → IsLineMore old new → AreWithin old m → AreWithin new n
within_line old new m n more line within = record {
  frames = omega (arith, line.frames, within.frames, more);
  skipped = omega (arith, line.skipped, within.skipped, more);
  bad = omega (arith, line.bad, within.bad, more);
  elsewhere = omega (arith, line.elsewhere, within.elsewhere, more);
}

-- ---- lines after lines

-- what a reader keeps of these lines: so many there are, and of what is reported of them this much was written, and this is to be written next
abbrev pub Keeps : (List Line → List ℕ → Type 0) → ℕ → List ℕ → List Line → List ℕ → Type 0
Keeps Reported number text ls written = (number ≡ length ls) × Reported ls (written ++ text)

module _ (Reported : List Line → List ℕ → Type 0) (IsText : List ℕ → List ℕ → Type 0)
    (ends : (ls : List Line) (reports : List ℕ) → Reported ls reports → HasEnd IsText ls reports) where
  -- a text of these lines begins with what is written of them
  pub so_far : (number : ℕ) (text : List ℕ) (ls : List Line) (written : List ℕ) → Keeps Reported number text ls written
      → IsSoFar (Keeps Reported number text) (λ log text verdict. IsText log text × (verdict ≡ Done)) true text ls written
  so_far number text ls written kept = record {
    read = kept;
    begins = λ log all.
        let end = ends ls (written ++ text) kept.1 log all in
        (end.0, Done, (subst (IsText log) (append_assoc written text end.0) end.1, refl), λ _. refl);
  }

  -- nothing more was read
  pub none_more : (number : ℕ) (text : List ℕ) (ls : List Line) (written : List ℕ) → Keeps Reported number text ls written
      → IsSoFar (Keeps Reported number text) (λ log text verdict. IsText log text × (verdict ≡ Done)) true text (ls ++ []) written
  none_more number text ls written kept =
      subst (λ (all : List Line). IsSoFar (Keeps Reported number text) (λ log text verdict. IsText log text × (verdict ≡ Done)) true text all written)
      (sym (append-nil ls)) (so_far number text ls written kept)

  -- one line more was read, of which this is to be written
  pub one_more : (Old : List Line → List ℕ → Type 0) (number : ℕ) (line : Line) (old new : List ℕ) (ls : List Line) (written : List ℕ)
      → (Old ls (written ++ old) → (piece : List ℕ) × Reported (ls ++ line ∷ []) ((written ++ old) ++ piece) × (new ≡ old ++ piece))
      → Keeps Old number old ls written
      → IsSoFar (Keeps Reported (number + 1) new) (λ log text verdict. IsText log text × (verdict ≡ Done)) true new (ls ++ line ∷ []) written
  one_more Old number line old new ls written step kept =
      let one = step kept.1 in
      let (piece, reported, is) = one in
      let many = length_push ls line in
      let before = kept.0 in
      let same : (written ++ old) ++ piece ≡ written ++ new = append_assoc written old piece ∙ ap (λ (t : List ℕ). written ++ t) (sym is) in
      so_far (number + 1) new (ls ++ line ∷ []) written (omega (arith, many, before), subst (Reported (ls ++ line ∷ [])) same reported)

  -- what was to be written is written
  pub put : (number : ℕ) (old new : List ℕ) (ls : List Line) (written : List ℕ) → new ≡ [] → Keeps Reported number old ls written
      → IsSoFar (Keeps Reported number new) (λ log text verdict. IsText log text × (verdict ≡ Done)) true new ls (written ++ old)
  put number old new ls written empty kept =
      let same : written ++ old ≡ (written ++ old) ++ new =
      sym (append-nil (written ++ old)) ∙ sym (ap (λ (t : List ℕ). (written ++ old) ++ t) empty) in
      so_far number new ls (written ++ old) (kept.0, subst (Reported ls) same kept.1)
