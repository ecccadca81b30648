-- What a claimer is seen as: what is planned of its unit, and its state.
use Rattle.std.specs.Prelude.{ℕ, Bool, ◌||◌, nat_lt, Option, is_some, refl}
use Rattle.std.specs.Ordering.{nat_cmp}
use Rattle.std.specs.FinMap.{FinMap, get, len, code}
use Rattle.std.specs.FinSet as set
use Rattle.std.specs.FinSet.{FinSet}
use Rattle.std.specs.Coded.{Coded, code_by, coded×, coded_ℕ, coded_bool, coded_option}
use Rattle.j39_id.specs.Limits.{unit_limit}
use Rattle.j39_claim.specs.ClaimRule.{PlannedUnit, ClaimState}

pub record ClaimerValue : Type 0 where
  pub planned : PlannedUnit
  pub state : ClaimState

-- n is noted already, or fewer NAMEs are than a network has units
abbrev pub can_note : FinMap nat_cmp ℕ → ℕ → Bool
can_note notes n = is_some (get notes n) || nat_lt (len notes) unit_limit

abbrev pub coded_planned_unit : Coded PlannedUnit
coded_planned_unit =
    code_by (ℕ × (ℕ × (FinSet nat_cmp × Bool))) (coded× coded_ℕ (coded× coded_ℕ (coded× (set.code coded_ℕ) coded_bool)))
    (λ c. (c.name, (c.preferred, (c.kept, c.claims))))
    (λ p. record { name = p.0; preferred = p.1.0; kept = p.1.1.0; claims = p.1.1.1 }) (λ _. refl)

abbrev pub coded_claim_state : Coded ClaimState
coded_claim_state =
    code_by (Bool × (Option ℕ × FinMap nat_cmp ℕ)) (coded× coded_bool (coded× (coded_option coded_ℕ) (code coded_ℕ coded_ℕ)))
    (λ s. (s.on, (s.address, s.notes)))
    (λ p. record { on = p.0; address = p.1.0; notes = p.1.1 }) (λ _. refl)

abbrev pub coded_claimer : Coded ClaimerValue
coded_claimer =
    code_by (PlannedUnit × ClaimState) (coded× coded_planned_unit coded_claim_state)
    (λ c. (c.planned, c.state))
    (λ p. record { planned = p.0; state = p.1 }) (λ _. refl)
