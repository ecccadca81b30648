-- What the reader of a log keeps of the groups of a plan.
use Rattle.std.specs.Prelude.{◌≡◌, ◌≢◌, ◌+◌, ℕ, nat_eq, List, [], map, Option, Some, None}
use Rattle.std.specs.HashMap.{HashMap, get}
use Rattle.j39_network.specs.PlannedGroups.{IsFirstRefused, layout_of}
use Rattle.j39_network.specs.declared.plan.Plan.{Plan}
use Rattle.j39_network.specs.declared.plan.group_plan.GroupPlan.{GroupPlan}
use Rattle.j39_log.specs.GroupSpans.{IsSpanOf}
use Rattle.j39_log.specs.ReportHeads.{report_head}
use Rattle.j39_log.specs.declared.catalog.CatalogError.{CatalogError}
use Rattle.j39_log.specs.declared.catalog.CatalogError.TheVariants.{BadGroup, Memory}
use Rattle.j39_log.specs.declared.catalog.Catalog.{Catalog}
use Rattle.j39_log.specs.declared.catalog.Span.{Span}
use Rattle.j39_log.specs.inside.FirstFlows.{AreFirstFlows}
use Rattle.j39_log.specs.inside.NameTables.{AreNamesOf}
use Rattle.j39_log.specs.inside.ValueLines.{items_of, value_lines_of}

-- the first group that is refused, or memory is
abbrev pub IsBadCatalog : List GroupPlan → CatalogError → Type 0
IsBadCatalog groups (BadGroup g) = IsFirstRefused groups g
IsBadCatalog groups Memory = groups ≢ []

-- the span of a number with one more group behind the others
abbrev pub extended : Option Span → ℕ → Span
extended None place = record { first = place; end = place + 1 }
extended (Some span) place = record { first = span.first; end = place + 1 }

-- the index has the span of each number
abbrev pub IsIndex : {S : Type 0} → List GroupPlan → HashMap ℕ Span S → Type 0
IsIndex groups spans = (pgn : ℕ) → IsSpanOf groups pgn (get nat_eq spans pgn)

-- a catalog has the groups of the plan
pub record IsCatalogOf (plan : Plan) (catalog : Catalog) : Type 0 where
  pub heads : catalog.heads.items ≡ map report_head plan.groups.items
  pub layouts : catalog.layouts.items ≡ map layout_of plan.groups.items
  pub lines : map items_of catalog.lines.items ≡ map value_lines_of plan.groups.items
  pub names : AreNamesOf plan catalog.names
  pub index : IsIndex plan.groups.items catalog.spans
  pub flows : AreFirstFlows plan.flows.items catalog.flows
