-- Who is in the box of a part: the variants in which it is there.
use Rattle.std.specs.declared.alloc.Global.{Global}
use Rattle.std.specs.Prelude.{◌≡◌, ◌↔◌, ℕ, ◌<◌, List, true, length, Some, Vec}
use Rattle.std.specs.List.{slice_get}
use Rattle.toml.specs.Data.{Members}
use Rattle.j39_variants.specs.declared.line.Alternative.{Alternative}
use Rattle.j39_variants.specs.declared.line.ProductLine.{ProductLine}
use Rattle.j39_variants.specs.DescribedLines.{DescribesProductLine}
use Rattle.j39_variants.specs.Variants.{is_in, IsVariant}
use Rattle.j39_line_findings.specs.Boxes.{admits, part_admits}
use Rattle.j39_line_findings.specs.Conditions.{is_part_there}
use Rattle.j39_line_findings.specs.FullVariants.{alternative_at}
use Rattle.j39_line_findings.specs.declared.part.LinePart.{LinePart}
use Rattle.j39_line_findings.specs.declared.part.LinePart.TheVariants.{Unit as AUnit, Group, Flow, Need, Request}

-- a list names alternatives of so many choices
abbrev pub NamesChoices : ℕ → List Alternative → Type 0
NamesChoices count list = (i : ℕ) (a : Alternative) → slice_get list i ≡ Some a → a.choice < count

abbrev pub NameChoices : ℕ → List (Vec Alternative Global) → Type 0
NameChoices count lists = (k : ℕ) (list : Vec Alternative Global) → slice_get lists k ≡ Some list → NamesChoices count list.items

-- and so do all lists of a line, of its choices
pub record ListsNameChoices (line : ProductLine) : Type 0 where
  pub nevers : NameChoices (length line.choices.items) line.nevers.items
  pub units : NameChoices (length line.choices.items) line.lists.units.items
  pub groups : NameChoices (length line.choices.items) line.lists.groups.items
  pub flows : NameChoices (length line.choices.items) line.lists.flows.items
  pub needs : NameChoices (length line.choices.items) line.lists.needs.items
  pub requests : NameChoices (length line.choices.items) line.lists.requests.items

-- those of a line that was read do
abbrev pub ReadListsNameChoices : Type 0
ReadListsNameChoices = (tree : Members) (line : ProductLine) → DescribesProductLine tree line → ListsNameChoices line

-- the part stands in the file
abbrev pub HasPart : ProductLine → LinePart → Type 0
HasPart line (AUnit u) = u < length line.plan.units.items
HasPart line (Group g) = g < length line.plan.groups.items
HasPart line (Flow f) = f < length line.plan.flows.items
HasPart line (Need d) = d < length line.plan.needs.items
HasPart line (Request r) = r < length line.plan.requests.items

-- its box has each alternative that the variant takes
abbrev pub IsInPartBox : ProductLine → List ℕ → LinePart → Type 0
IsInPartBox line variant part = (c k : ℕ) → slice_get variant c ≡ Some k → part_admits line (alternative_at c k) part ≡ true

-- that of a list does
abbrev pub IsLetIn : List ℕ → List Alternative → Type 0
IsLetIn variant list = (c k : ℕ) → slice_get variant c ≡ Some k → admits list (alternative_at c k) ≡ true

-- ---- the laws

abbrev pub ListsAreBoxes : Type 0
ListsAreBoxes = (line : ProductLine) (variant : List ℕ) → IsVariant line.choices.items variant → (list : List Alternative)
    → NamesChoices (length line.choices.items) list → (is_in variant list ≡ true) ↔ IsLetIn variant list

abbrev pub ThereInBoxes : Type 0
ThereInBoxes = (line : ProductLine) (variant : List ℕ) → IsVariant line.choices.items variant → ListsNameChoices line → (part : LinePart) → HasPart line part
    → (is_part_there line variant part ≡ true) ↔ IsInPartBox line variant part
