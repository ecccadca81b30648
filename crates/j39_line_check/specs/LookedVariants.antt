-- At which full variants of a line is looked, and that there may be too many.
use Rattle.std.specs.Prelude.{◌≡◌, ◌≢◌, ◌⊎◌, ℕ, ◌-◌, ◌^◌, ◌<◌, ◌≤◌, Bool, true, false, [], map, min, None}
use Rattle.std.specs.List.{list_any}
use Rattle.j39_findings.specs.Found.{found}
use Rattle.j39_findings.specs.declared.checking.finding.Finding.{Finding}
use Rattle.j39_findings.specs.declared.checking.finding.Finding.TheVariants.{BadPgn}
use Rattle.j39_load.specs.BusTimes.{timing_of}
use Rattle.j39_network.specs.declared.plan.Plan.{Plan}
use Rattle.j39_variants.specs.declared.line.ProductLine.{ProductLine}
use Rattle.j39_line_bounds.specs.LineTimes.{AreTimesAmong}
use Rattle.j39_line_findings.specs.FullVariants.{AreFullAlternatives, line_with}
use Rattle.j39_line_findings.specs.declared.full.FullAlternatives.{FullAlternatives}
use Rattle.j39_line_findings.specs.declared.full.LineNevers.{LineNevers}
use Rattle.j39_line_findings.specs.declared.full.LineNevers.TheVariants.{Kept, LeftOut}
use Rattle.j39_line_check.specs.CountedFindings.{AreCountedFindings}
use Rattle.j39_line_check.specs.FullSets.{AreLookedAt, IsNumberOfVariants}
use Rattle.j39_line_check.specs.declared.looking.FullVariants.{FullVariants}
use Rattle.j39_line_check.specs.declared.looking.Looking.{Looking}
use Rattle.j39_line_check.specs.declared.looking.Looking.TheVariants.{Few, Many}

-- at so many is looked
abbrev pub looked_limit : ℕ
looked_limit = 1024

-- a line, with or without its nevers, has so many full variants
pub record HasFullVariants (line : ProductLine) (nevers : LineNevers) (n : ℕ) : Type 0 where
  pub full : FullAlternatives
  pub are_full : AreFullAlternatives (line_with nevers line) full
  pub is_number : IsNumberOfVariants line full n

-- these are they, with what is found of them
pub record AreFullVariants (line : ProductLine) (nevers : LineNevers) (x : FullVariants) : Type 0 where
  pub are_full : AreFullAlternatives (line_with nevers line) x.full
  pub are_looked_at : AreLookedAt (line_with nevers line) x.full (map (λ v. v.items) x.variants.items)
  pub are_found : AreCountedFindings line x.full (map (λ v. v.items) x.variants.items) x.reported.items
  pub few : (n : ℕ) × IsNumberOfVariants line x.full n × (n ≤ looked_limit)

-- too many with its nevers
abbrev pub AreManyVariants : ProductLine → LineNevers → ℕ → Type 0
AreManyVariants line nevers n = HasFullVariants line nevers n × (looked_limit < n)

-- these are looked at, or so many are too many, at most so many as 64 bits hold
abbrev pub IsLookingWith : ProductLine → LineNevers → Looking → Type 0
IsLookingWith line nevers (Few x) = AreFullVariants line nevers x
IsLookingWith line nevers (Many m) = (n : ℕ) × AreManyVariants line nevers n × (m ≡ min n (2 ^ 64 - 1))

-- a group of the file has a bad number
abbrev pub is_bad_number : Finding → Bool
is_bad_number (BadPgn g) = true
is_bad_number _ = false

abbrev pub has_bad_number : Plan → Bool
has_bad_number plan = list_any is_bad_number (found plan)

-- of the line without its nevers there are too many, or something is found of them; or a bad number, with which times aren't compared
abbrev pub IsOfNoUse : ProductLine → Type 0
IsOfNoUse line = (has_bad_number line.plan ≡ true)
    ⊎ (((n : ℕ) × AreManyVariants line LeftOut n) ⊎ ((x : FullVariants) × AreFullVariants line LeftOut x × (x.reported.items ≢ [])))

-- The full variants of the line are looked at. Where they are too many, those of it without its nevers, where nothing is found of them, and no
-- group of the file has a bad number.
abbrev pub IsLooking : ProductLine → Looking → Type 0
IsLooking line (Few x) = IsLookingWith line Kept (Few x)
    ⊎ (((n : ℕ) × AreManyVariants line Kept n) × IsLookingWith line LeftOut (Few x) × (x.reported.items ≡ []) × (has_bad_number line.plan ≡ false))
IsLooking line (Many m) = IsLookingWith line Kept (Many m) × IsOfNoUse line

-- those that are looked at have these times, where the bus of the line is known
abbrev pub HasTimes : ProductLine → Looking → Type 0
HasTimes line (Few x) = timing_of line.plan ≢ None → AreTimesAmong line (map (λ v. v.items) x.variants.items) x.times
HasTimes line (Many m) = Unit {0}
