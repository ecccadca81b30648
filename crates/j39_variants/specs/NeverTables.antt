-- The tables of what isn't built.
use Rattle.std.specs.declared.alloc.Global.{Global}
use Rattle.std.specs.Prelude.{Vec, option_to_list, ◌≡◌, ℕ, ◌==◌, List, [], ◌∷◌, ◌++◌, true, false, not, Some, None, map}
use Rattle.std.specs.List.{filter, list_any, range_with_len}
use Rattle.std.specs.Option.{option_map_or}
use Rattle.toml.specs.Data.{Data, Items, no_items, item, Members, as_table}
use Rattle.j39_toml.specs.InOrder.{inside}
use Rattle.j39_toml.specs.Rules.{elements_found}
use Rattle.j39_toml.specs.TableFaults.{table_only_faults, unknown_faults}
use Rattle.j39_plan.specs.declared.reading.key.Key.TheVariants as key
use Rattle.j39_plan.specs.declared.reading.place.Table.TheVariants as at
use Rattle.j39_plan.specs.PlanErrors.{PlanFault}
use Rattle.j39_plan.specs.Schema.{PlanRule}
use Rattle.j39_plan.specs.Words.{word_of}
use Rattle.j39_variants.specs.declared.line.Alternative.{Alternative}
use Rattle.j39_variants.specs.ListTables.{IsList, choice_named, list_faults, list_rule, label_text_in, size_of}

abbrev pub of_rule : PlanRule
of_rule = list_rule key.Of 1 true

abbrev pub but_rule : PlanRule
but_rule = list_rule key.But 1 false

-- the choices of the alternatives that some elements name
unfoldable pub choices_named : List (List (List ℕ)) → Items → List ℕ
choices_named choices no_items = []
choices_named choices (item d ds) = option_to_list (choice_named choices (label_text_in d)) ++ choices_named choices ds

unfoldable pub never_table_faults : List (List (List ℕ)) → ℕ → Members → List PlanFault
never_table_faults choices i ms = unknown_faults word_of (at.Never i) (key.Of ∷ key.But ∷ []) ms
    ++ (list_faults (at.Never i) of_rule choices None ms
    ++ list_faults (at.Never i) but_rule choices (Some (choices_named choices (elements_found word_of key.Of ms))) ms)

-- the faults of the i-th table
unfoldable pub never_faults : List (List (List ℕ)) → ℕ → Data → List PlanFault
never_faults choices i d =
    table_only_faults (at.Never i) d ++ option_map_or (never_table_faults choices i) (as_table d) []

-- the alternatives of a choice whose places none of a list has
abbrev pub alternatives_left : List (List (List ℕ)) → List Alternative → ℕ → List Alternative
alternatives_left choices but c =
    map (λ p. record { choice = c; place = p }) (filter (λ p. not (list_any (λ a. a.place == p) but)) (range_with_len 0 (size_of choices c)))

-- the alternatives of one choice that some alternatives of it aren't
unfoldable pub others : List (List (List ℕ)) → List Alternative → List Alternative
others choices [] = []
others choices (b ∷ but) = alternatives_left choices (b ∷ but) b.choice

-- the box that a table reports: what its `of` names, and of the choice of its `but` each alternative that this doesn't name
pub record DescribesNever (choices : List (List (List ℕ))) (ms : Members) (list : List Alternative) : Type 0 where
  pub named : List Alternative
  pub but : List Alternative
  pub has_of : IsList key.Of choices ms named
  pub has_but : IsList key.But choices ms but
  pub has_both : list ≡ named ++ others choices but

abbrev pub IsNeverOf : List (List (List ℕ)) → Data → Vec Alternative Global → Type 0
IsNeverOf choices d v = DescribesNever choices (inside d) v.items
