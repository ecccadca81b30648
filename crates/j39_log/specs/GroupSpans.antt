-- Where the groups of a number stand in a plan.
use Rattle.std.specs.Prelude.{◌≡◌, ◌==◌, ◌<◌, ◌≤◌, ◌⊎◌, Bool, true, false, ℕ, List, length, get_or, All, Option, Some, None}
use Rattle.j39_network.specs.declared.plan.group_plan.GroupPlan.{GroupPlan}
use Rattle.j39_log.specs.declared.catalog.Span.{Span}

abbrev pub has_number : ℕ → GroupPlan → Bool
has_number pgn group = group.pgn == pgn

-- the span begins with a group of the number, and outside of it there is none
pub record HasAllOf (groups : List GroupPlan) (pgn : ℕ) (span : Span) : Type 0 where
  pub some : span.first < span.end
  pub inside : span.end ≤ length groups
  pub begins : (d : GroupPlan) → has_number pgn (get_or groups span.first d) ≡ true
  pub others : (place : ℕ) (d : GroupPlan) → place < length groups → (place < span.first) ⊎ (span.end ≤ place)
      → has_number pgn (get_or groups place d) ≡ false

-- all groups of the number are in the span, or there are none
abbrev pub IsSpanOf : List GroupPlan → ℕ → Option Span → Type 0
IsSpanOf groups pgn None = All (λ group. has_number pgn group ≡ false) groups
IsSpanOf groups pgn (Some span) = HasAllOf groups pgn span
