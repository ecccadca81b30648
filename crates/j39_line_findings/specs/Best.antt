-- The best witness of each finding.
use Rattle.std.specs.Prelude.{◌≡◌, ℕ, ◌==◌, List, [], ◌∷◌, Bool, true, false, ◌&&◌, ◌||◌, not, nat_lt}
use Rattle.j39_line_findings.specs.AllVariants.{IsOneOf}
use Rattle.j39_line_findings.specs.Boxes.{are_one_answer}
use Rattle.j39_line_findings.specs.InFile.{amount_of, is_below, rank_of}
use Rattle.j39_line_findings.specs.declared.rank.Rank.{Rank}
use Rattle.j39_line_findings.specs.declared.witnessed.Witnessed.{Witnessed}

-- by what it is reported, and its number of addresses or bits
abbrev pub rank_in : Witnessed → Rank
rank_in w = rank_of w.finding

abbrev pub amount_in : Witnessed → ℕ
amount_in w = amount_of w.finding

-- one is reported rather than the other: it counts and the other doesn't, or its variant is earlier
abbrev pub is_earlier_witness : Witnessed → Witnessed → Bool
is_earlier_witness w x = (w.counted && not x.counted) || (are_one_answer w.counted x.counted && nat_lt w.variant x.variant)

-- it has the greater number of addresses or bits; of one number, it is reported rather than the other
abbrev pub is_better : Witnessed → Witnessed → Bool
is_better w x = nat_lt (amount_in x) (amount_in w) || ((amount_in w == amount_in x) && is_earlier_witness w x)

abbrev pub IsReportedBefore : Witnessed → Witnessed → Type 0
IsReportedBefore w x = is_below (rank_in w) (rank_in x) ≡ true

-- it is one of these
abbrev pub IsWitnessAmong : List Witnessed → Witnessed → Type 0
IsWitnessAmong = IsOneOf

-- each is reported before those behind it
abbrev pub AreInOrder : List Witnessed → Type 0
AreInOrder [] = Unit {0}
AreInOrder (w ∷ reported) = ((x : Witnessed) → IsWitnessAmong reported x → IsReportedBefore w x) × AreInOrder reported

-- of all these findings each once, with the best of its witnesses, by number and then by places
pub record AreBest (all reported : List Witnessed) : Type 0 where
  pub sound : (w : Witnessed) → IsWitnessAmong reported w → IsWitnessAmong all w
  pub best : (w x : Witnessed) → IsWitnessAmong reported w → IsWitnessAmong all x → rank_in x ≡ rank_in w → is_better x w ≡ false
  pub complete : (x : Witnessed) → IsWitnessAmong all x → (w : Witnessed) × IsWitnessAmong reported w × (rank_in w ≡ rank_in x)
  pub in_order : AreInOrder reported
