-- Where reading a line asks for room: not of an empty tree.
use Rattle.std.proofs.Common.{◌≡◌, ◌⊎◌, List, [], Some, Result, Ok, Err, length, inl, inr, refl, sym, ap, subst, ◌∙◌}
use Rattle.toml.specs.Data.{Data, Items, Members, no_members}
use Rattle.j39_plan.specs.declared.reading.top_table.TopTable.{TopTable}
use Rattle.j39_toml.specs.declared.file_error.FileError.{FileError}
use Rattle.j39_toml.specs.declared.file_error.FileError.TheVariants as errors
use Rattle.j39_toml.specs.InOrder.{Each}
use Rattle.j39_toml.proofs.FirstFaults.{fails_on}
use Rattle.j39_toml.specs.Outcome.{FailsGrowing, GivesGrowing, first}
use Rattle.j39_toml.specs.Rules.{items_count, number_of}
use Rattle.j39_toml.specs.TableFaults.{unknown_faults, key_faults}
use Rattle.j39_plan.specs.Described.{DescribesTop}
use Rattle.j39_plan.specs.PlanErrors.{PlanError, PlanFault}
use Rattle.j39_plan.specs.PlanFaults.{faults, top_faults, version_of}
use Rattle.j39_plan.proofs.EmptyTree.{never_grows}
use Rattle.j39_plan.proofs.NoFaults.{length-Each, none_left}
use Rattle.j39_variants.specs.DescribedLines.{LineGrows, tables_found, tables_in}

empty_faults : top_faults no_members ≡ [] → ⊥
unfolding unknown_faults key_faults version_of number_of
empty_faults none = cc

pub line_never_grows : ¬ LineGrows no_members
line_never_grows grows = elim grows [
  | inl plan ↦ never_grows plan
  | inr none ↦ empty_faults (none_left _ _ none)
]

-- ---- the tables of what may go with alternatives

pub tables_are : (tree : Members) (t : TopTable) → DescribesTop tree t → tables_in t ≡ tables_found tree
tables_are tree t stated = rw (stated.has_units, stated.has_groups, stated.has_flows, stated.has_needs, stated.has_requests) refl

pub same_count : {A B : Type 0} (IsA : Data → A → Type 0) (IsB : Data → B → Type 0) (ds es : Items) (xs : List A) (ys : List B)
    → Each IsA ds xs → Each IsB es ys → ds ≡ es → length xs ≡ length ys
same_count IsA IsB ds es xs ys a b same = length-Each IsA ds xs a ∙ ap items_count same ∙ sym (length-Each IsB es ys b)

-- the top table has no fault where there is none
pub never_fails : (e : PlanError) (fs : List PlanFault) → fs ≡ [] → FailsGrowing ⊥ e fs → ⊥
never_fails errors.Text fs none fails = fails
never_fails (errors.Fault f) fs none fails = let stated : first [] ≡ Some f = subst (λ (gs : List PlanFault). first gs ≡ Some f) none fails in cc stated
never_fails errors.Memory fs none fails = fails

-- what may want memory under a condition may want it
pub given_room : {X F : Type 0} (Inner : Type 0) (r : Result X (FileError F)) (faults : List F) (Is : X → Type 0)
    → GivesGrowing Inner r faults Is → GivesGrowing (Unit {0}) r faults Is
given_room Inner (Ok x) faults Is gives = gives
given_room Inner (Err e) faults Is gives = fails_on Inner (Unit {0}) e faults faults (λ grows. tt) (λ f is. is) gives
