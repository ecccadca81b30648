-- The text that the variant command writes for a plan file.
use Rattle.std.specs.Prelude.{◌≡◌, ◌⊎◌, ◌==◌, ℕ, List, [], ◌∷◌, ◌++◌, Bool, true, false, ◌||◌, codes, map, None, Some}
use Rattle.std.specs.List.{AllZip, Any, list_any}
use Rattle.j39_network.specs.declared.plan.Plan.{Plan}
use Rattle.j39_variants.specs.declared.line.Alternative.{Alternative}
use Rattle.j39_variants.specs.declared.line.Choice.{Choice}
use Rattle.j39_variants.specs.declared.line.ProductLine.{ProductLine}
use Rattle.j39_variants.specs.ChoiceTables.{choice_labels}
use Rattle.j39_variants.specs.ListTables.{named_in}
use Rattle.j39_variants.specs.VariantPlans.{IsVariantPlan}
use Rattle.j39_variants.specs.Variants.{IsFirstTaking, NoneTakes}
use Rattle.j39_plan_text.specs.PlanText.{IsReportedText}
use Rattle.j39_plan_text.specs.ShowText.{show_text}
use Rattle.j39_stream.specs.declared.verdict.Verdict.{Verdict}
use Rattle.j39_stream.specs.declared.verdict.Verdict.TheVariants.{Done, Findings, Refused, Unreadable}

-- the line of a refusal
unfoldable pub refused_variant : List ℕ → List ℕ
refused_variant cause = codes "refused variant " ++ (cause ++ 10 ∷ [])

-- a word names an alternative, or none
abbrev pub NamesOf : List Choice → List ℕ → Alternative → Type 0
NamesOf choices word a = named_in (map choice_labels choices) word ≡ Some (a.choice, a.place)

abbrev pub IsUnknown : List Choice → List ℕ → Type 0
IsUnknown choices word = named_in (map choice_labels choices) word ≡ None

-- two are of one choice
abbrev pub has_two : List Alternative → Bool
has_two [] = false
has_two (a ∷ rest) = list_any (λ b. b.choice == a.choice) rest || has_two rest

-- the words name some alternatives, no two of one choice
pub record AreWanted (words : List (List ℕ)) (line : ProductLine) (wanted : List Alternative) : Type 0 where
  pub names : AllZip (NamesOf line.choices.items) words wanted
  pub apart : has_two wanted ≡ false

-- the values of the plan of the first possible variant that takes them
pub record IsShownVariant (words : List (List ℕ)) (line : ProductLine) (text : List ℕ) : Type 0 where
  pub wanted : List Alternative
  pub are_wanted : AreWanted words line wanted
  pub variant : List ℕ
  pub is_first : IsFirstTaking line wanted variant
  pub plan : Plan
  pub is_plan : IsVariantPlan line variant plan
  pub shown : text ≡ show_text plan

-- why there is none: a word names no alternative, two are of one choice, or no possible variant takes them
abbrev pub IsUnknownWord : List (List ℕ) → ProductLine → List ℕ → Type 0
IsUnknownWord words line text = Any (IsUnknown line.choices.items) words × (text ≡ refused_variant (codes "UnknownLabel"))

abbrev pub IsRepeated : List (List ℕ) → ProductLine → List ℕ → Type 0
IsRepeated words line text = (wanted : List Alternative) × AllZip (NamesOf line.choices.items) words wanted × (has_two wanted ≡ true)
    × (text ≡ refused_variant (codes "Repeated"))

abbrev pub IsNever : List (List ℕ) → ProductLine → List ℕ → Type 0
IsNever words line text = (wanted : List Alternative) × AreWanted words line wanted × NoneTakes line wanted []
    × (text ≡ refused_variant (codes "Never"))

-- what is written for a line of vehicles
abbrev pub IsVariantReport : List (List ℕ) → ProductLine → List ℕ → Verdict → Type 0
IsVariantReport words line text Done = IsShownVariant words line text
IsVariantReport words line text Refused = IsUnknownWord words line text ⊎ (IsRepeated words line text ⊎ IsNever words line text)
IsVariantReport words line text Findings = ⊥
IsVariantReport words line text Unreadable = ⊥

-- what is written for a file
abbrev pub IsVariantText : List (List ℕ) → List ℕ → List ℕ → Verdict → Type 0
IsVariantText words = IsReportedText (IsVariantReport words)
