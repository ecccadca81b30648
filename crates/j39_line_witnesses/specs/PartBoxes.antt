-- Boxes of variants by flags: of each choice, of each of its alternatives, whether the box has it.
use Rattle.std.specs.declared.alloc.Global.{Global}
use Rattle.std.specs.Prelude.{ℕ, List, [], ◌∷◌, Bool, length, map, if◌then◌else◌, Vec}
use Rattle.std.specs.List.{range_with_len}
use Rattle.j39_load.specs.LineLists.{lines_of_each}
use Rattle.j39_variants.specs.declared.line.Alternative.{Alternative}
use Rattle.j39_variants.specs.declared.line.Choice.{Choice}
use Rattle.j39_variants.specs.declared.line.ProductLine.{ProductLine}
use Rattle.j39_line_findings.specs.Boxes.{admits}
use Rattle.j39_line_findings.specs.FullVariants.{alternative_at}
use Rattle.j39_line_findings.specs.KnownParts.{names_known_choices, do_all_admit, is_list_known}
use Rattle.j39_line_findings.specs.declared.part.LinePart.{LinePart}
use Rattle.j39_line_witnesses.specs.declared.boxes.BoxTest.{BoxTest}
use Rattle.j39_line_witnesses.specs.declared.boxes.BoxTest.TheVariants.{OfList, OfParts}

abbrev pub flags_of_choice : (Alternative → Bool) → ℕ → Choice → List Bool
flags_of_choice test c choice = map (λ p. test (alternative_at c p)) (range_with_len 0 (length choice.alternatives.items))

abbrev pub flags_by : (Alternative → Bool) → List Choice → List (List Bool)
flags_by test choices = lines_of_each (λ c choice. flags_of_choice test c choice ∷ []) 0 choices

-- the box of a list
abbrev pub list_box : ProductLine → List Alternative → List (List Bool)
list_box line list = flags_by (admits list) line.choices.items

-- the intersection of the boxes of parts
abbrev pub parts_box : ProductLine → List LinePart → List (List Bool)
parts_box line parts = flags_by (do_all_admit line parts) line.choices.items

-- ---- boxes of either kind

abbrev pub box_test : ProductLine → BoxTest → Alternative → Bool
box_test line (OfList list) = admits list.now
box_test line (OfParts parts) = do_all_admit line parts.now

abbrev pub is_test_known : ProductLine → BoxTest → Bool
is_test_known line (OfList list) = is_list_known line list.now
is_test_known line (OfParts parts) = names_known_choices line parts.now

-- ---- boxes to be left

abbrev pub hole_of : ProductLine → BoxTest → List (List (List Bool))
hole_of line test = if is_test_known line test then flags_by (box_test line test) line.choices.items ∷ [] else []

abbrev pub never_hole : ProductLine → List Alternative → List (List (List Bool))
never_hole line never = if is_list_known line never then list_box line never ∷ [] else []

abbrev pub parts_hole : ProductLine → List LinePart → List (List (List Bool))
parts_hole line parts = if names_known_choices line parts then parts_box line parts ∷ [] else []

abbrev pub never_holes : ProductLine → List (Vec Alternative Global) → List (List (List Bool))
never_holes line nevers = lines_of_each (λ n never. never_hole line never.items) 0 nevers

abbrev pub holes_of_parts : ProductLine → List (Vec LinePart Global) → List (List (List Bool))
holes_of_parts line lacking = lines_of_each (λ n parts. parts_hole line parts.items) 0 lacking
