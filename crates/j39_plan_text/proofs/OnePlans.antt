-- Nothing is shown of choices where there are none.
use Rattle.std.proofs.Common.{◌≡◌, ℕ, ◌+◌, List, [], ◌∷◌, ◌++◌, refl}
use Rattle.std.specs.declared.alloc.Global.{Global}
use Rattle.std.specs.Prelude.{Vec}
use Rattle.std.proofs.lemmas.List.{append-nil}
use Rattle.j39_load.specs.LineLists.{lines_of_each}
use Rattle.j39_plan.specs.declared.reading.key.Key.TheVariants as key
use Rattle.j39_plan.specs.declared.reading.place.Table.TheVariants as at
use Rattle.j39_variants.specs.declared.line.Alternative.{Alternative}
use Rattle.j39_variants.specs.declared.line.Choice.{Choice}
use Rattle.j39_variants.specs.declared.line.ProductLine.{ProductLine}
use Rattle.j39_variants.specs.declared.reading.item.ListedItem.{ListedItem}
use Rattle.j39_variants.specs.declared.reading.item.ListedItem.TheVariants as items
use Rattle.j39_variants.specs.ListTables.{item_table}
use Rattle.j39_plan_text.specs.ChoiceLines.{choice_lines, choices_lines, item_lines, items_lines, list_lines, lists_lines, named_alternative_lines, never_lines}
use Rattle.j39_plan_text.specs.ShowText.{show_text}
use Rattle.j39_plan_text.specs.ShownLines.{ShowsOnePlan, line_text}

none_of_each : {X Y : Type 0} (report : ℕ → X → List Y) (place : ℕ) (xs : List X) → ((p : ℕ) (x : X) → report p x ≡ []) → lines_of_each report place xs ≡ []
unfolding lines_of_each
none_of_each report place [] none = refl
none_of_each report place (x ∷ xs) none = rw (none place x) (none_of_each report (place + 1) xs none)

of_nothing : {X Y : Type 0} (report : ℕ → X → List Y) (place : ℕ) (xs : List X) → xs ≡ [] → lines_of_each report place xs ≡ []
unfolding lines_of_each
of_nothing report place [] none = refl
of_nothing report place (x ∷ xs) none = cc

no_items : (choices : List Choice) → choices ≡ [] → (item : ListedItem) (lists : List (Vec Alternative Global)) → items_lines choices item lists ≡ []
unfolding items_lines item_lines list_lines
no_items choices none item lists =
    none_of_each (item_lines choices item) 0 lists
    (λ p list. of_nothing (named_alternative_lines (item_table item p) key.With list.items) 0 choices none)

no_nevers : (choices : List Choice) → choices ≡ [] → (nevers : List (Vec Alternative Global)) → lines_of_each (never_lines choices) 0 nevers ≡ []
unfolding never_lines list_lines
no_nevers choices none nevers =
    none_of_each (never_lines choices) 0 nevers
    (λ n list. of_nothing (named_alternative_lines (at.Never n) key.Of list.items) 0 choices none)

no_lists : (line : ProductLine) → line.choices.items ≡ [] → lists_lines line ≡ []
unfolding lists_lines
no_lists line none =
    rw (
      no_items line.choices.items none items.Unit line.lists.units.items,
      no_items line.choices.items none items.Group line.lists.groups.items,
      no_items line.choices.items none items.Flow line.lists.flows.items,
      no_items line.choices.items none items.Need line.lists.needs.items,
    ) (no_items line.choices.items none items.Request line.lists.requests.items)

no_choices : (line : ProductLine) → line.choices.items ≡ [] → choices_lines line ≡ []
unfolding choices_lines
no_choices line none =
    rw (of_nothing choice_lines 0 line.choices.items none, no_nevers line.choices.items none line.nevers.items) (no_lists line none)

pub shows_one : (line : ProductLine) → ShowsOnePlan line
unfolding line_text
shows_one line none = rw (no_choices line none) (append-nil (show_text line.plan))
