-- The lines that say which units of a line of vehicles stay.
use Rattle.std.specs.Prelude.{ℕ, List, [], ◌∷◌, ◌++◌, Bool, true, false, codes, count_by, if◌then◌else◌, length, map, slice_index_or}
use Rattle.std.specs.List.{range_with_len}
use Rattle.j39_load.specs.LineLists.{lines_of_each}
use Rattle.j39_network.specs.declared.plan.unit_plan.UnitPlan.{UnitPlan}
use Rattle.j39_line_bounds.specs.declared.standing.LineStanding.{LineStanding}
use Rattle.j39_line_bounds.specs.declared.standing.LineStanding.TheVariants.{NoVariant, Stays, MayMove}
use Rattle.j39_plan_text.specs.AddressesText.{stays_word}
use Rattle.j39_text.specs.Texts.{field}

-- that no possible variant has a unit, or whether it stays at its address
unfoldable pub standing_text : LineStanding → ℕ → List ℕ
standing_text NoVariant address = codes " no variant"
standing_text Stays address = field (stays_word true) address
standing_text MayMove address = field (stays_word false) address

unfoldable pub line_unit_text : LineStanding → UnitPlan → List ℕ
line_unit_text standing unit = codes "unit " ++ (unit.label.bytes ++ (standing_text standing unit.address ++ 10 ∷ []))

-- of a unit that no possible variant has, this; else what is reported of it
abbrev pub shown_standing : List Bool → List LineStanding → ℕ → LineStanding
shown_standing possible standings u = if slice_index_or possible u false then slice_index_or standings u NoVariant else NoVariant

abbrev pub shown_standings : List Bool → List LineStanding → List LineStanding
shown_standings possible standings = map (shown_standing possible standings) (range_with_len 0 (length standings))

-- of the unit at a place
abbrev pub line_unit_at : List LineStanding → ℕ → UnitPlan → List ℕ
line_unit_at standings u unit = line_unit_text (slice_index_or standings u NoVariant) unit

abbrev pub is_staying : LineStanding → Bool
is_staying Stays = true
is_staying _ = false

-- a line for each unit of the file, and how many of them stay
unfoldable pub standings_text : List LineStanding → List UnitPlan → List ℕ
standings_text standings units = lines_of_each (line_unit_at standings) 0 units
    ++ (field (codes "stay ") (count_by is_staying standings) ++ (field (codes " of ") (length units) ++ 10 ∷ []))
