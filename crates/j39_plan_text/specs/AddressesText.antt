-- What the addresses command writes for a plan.
use Rattle.std.specs.Prelude.{◌≡◌, ◌<◌, ℕ, Bool, true, false, List, [], ◌∷◌, ◌++◌, codes, count_by, length}
use Rattle.j39_network.specs.declared.plan.Plan.{Plan}
use Rattle.j39_network.specs.declared.plan.unit_plan.UnitPlan.{UnitPlan}
use Rattle.j39_findings.specs.declared.checking.finding.Finding.{Finding}
use Rattle.j39_findings.specs.declared.checking.finding.Finding.TheVariants.{SameName, SameFixedAddress, TooFewAddresses, KeptAddress, SilentAddress}
use Rattle.j39_findings.specs.declared.checking.finding.Finding.TheVariants.{SilentInPool}
use Rattle.j39_findings.specs.Findings.{Holds}
use Rattle.j39_findings.specs.Standing.{DecidesWhoStays}
use Rattle.j39_network.specs.PlannedUnits.{units_of}
use Rattle.j39_world.specs.SoundPlan.{Always, AlwaysBeside}
use Rattle.j39_network.specs.Staying.{StaysBeside}
use Rattle.j39_world.specs.HeldAddresses.{HoldsPlanned}
use Rattle.j39_plan_text.specs.CheckText.{IsReport}
use Rattle.j39_text.specs.Texts.{field}
use Rattle.j39_stream.specs.declared.verdict.Verdict.{Verdict}
use Rattle.j39_stream.specs.declared.verdict.Verdict.TheVariants.{Done, Findings, Refused, Unreadable}

-- a finding on the NAMEs or the addresses of units
abbrev pub is_of_addresses : Finding → Bool
is_of_addresses (SameName i j) = true
is_of_addresses (SameFixedAddress i j) = true
is_of_addresses (TooFewAddresses n) = true
is_of_addresses (KeptAddress i) = true
is_of_addresses (SilentAddress u v) = true
is_of_addresses (SilentInPool u) = true
is_of_addresses _ = false

-- ---- who stays

-- a unit that stays holds its planned address whenever it is on, among the plan's units and with strangers, where the plan reports of some
pub record StayingHolds (plan : Plan) : Type 0 where
  pub planned : (u : ℕ) → StaysBeside plan.strangers (units_of plan) u → Always plan (λ w. HoldsPlanned (units_of plan) w u)
  pub with_strangers : (u : ℕ) → u < length plan.units.items → StaysBeside plan.strangers (units_of plan) u
      → AlwaysBeside plan (λ joined w. HoldsPlanned (units_of joined) w u)

abbrev pub stays_word : Bool → List ℕ
stays_word true = codes " stays "
stays_word false = codes " may move from "

unfoldable pub staying_line : (UnitPlan → Bool) → UnitPlan → List ℕ
staying_line stays unit =
    codes "unit " ++ (unit.label.bytes ++ (field (stays_word (stays unit)) unit.address ++ 10 ∷ []))

unfoldable pub staying_lines : (UnitPlan → Bool) → List UnitPlan → List ℕ
staying_lines stays [] = []
staying_lines stays (unit ∷ units) = staying_line stays unit ++ staying_lines stays units

-- a line for each unit, and how many of them stay
unfoldable pub stays_text : (UnitPlan → Bool) → List UnitPlan → List ℕ
stays_text stays units =
    staying_lines stays units ++ (field (codes "stay ") (count_by stays units) ++ (field (codes " of ") (length units) ++ 10 ∷ []))

-- ---- what is written

-- what is written for a plan, with the verdict: where nothing is wrong with NAMEs and addresses who stays, else what check writes
abbrev pub IsAddressesReport : Plan → List ℕ → Verdict → Type 0
IsAddressesReport plan text Done = ((finding : Finding) → is_of_addresses finding ≡ true → ¬ Holds plan finding)
    × StayingHolds plan × (stays : UnitPlan → Bool) × DecidesWhoStays plan stays × (text ≡ stays_text stays plan.units.items)
IsAddressesReport plan text Findings =
    ((finding : Finding) × (is_of_addresses finding ≡ true) × Holds plan finding) × IsReport plan text Findings
IsAddressesReport plan text Refused = ⊥
IsAddressesReport plan text Unreadable = ⊥

-- ---- laws

-- a plan has one report of addresses
abbrev pub HasOneAddressesReport : Plan → Type 0
HasOneAddressesReport plan = (text other : List ℕ) (verdict another : Verdict)
    → IsAddressesReport plan text verdict → IsAddressesReport plan other another → (text ≡ other) × (verdict ≡ another)
