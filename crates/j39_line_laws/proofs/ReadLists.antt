-- Lists that were read name alternatives of the choices that were read.
use Rattle.std.specs.declared.alloc.Global.{Global}
use Rattle.std.proofs.Common.{◌≡◌, ℕ, zero, suc, ◌<◌, List, [], ◌∷◌, ◌++◌, map, length, Option, Some, None, option_map, option_and_then, Vec, refl, sym, ap}
use Rattle.std.proofs.Common.{subst, arith}
use Rattle.std.specs.Prelude.{position}
use Rattle.std.specs.List.{slice_get}
use Rattle.std.proofs.lemmas.Option.{same_Some, slice_get_within}
use Rattle.toml.specs.Data.{Data, Items, item, Members, no_items}
use Rattle.j39_plan.specs.FlowTables.{place_of}
use Rattle.j39_plan.specs.LabelsSeen.{is_label_among}
use Rattle.j39_toml.specs.InOrder.{Each, labels_of}
use Rattle.j39_part_laws.proofs.Places.{no_value}
use Rattle.j39_variants.specs.ChoiceTables.{choice_labels_in, IsChoiceOf}
use Rattle.j39_variants.specs.DescribedLines.{AreLists, choice_tables, DescribesProductLine, labels_of_choices}
use Rattle.j39_variants.specs.ListTables.{IsWith, label_text_in, named_in, NamesAlternative, place_in}
use Rattle.j39_variants.specs.NeverTables.{IsNeverOf, others}
use Rattle.j39_variants.specs.declared.line.Alternative.{Alternative}
use Rattle.j39_variants.specs.declared.line.Choice.{Choice}
use Rattle.j39_variants.specs.declared.line.ProductLine.{ProductLine}
use Rattle.j39_line_laws.specs.BoxedParts.{ListsNameChoices, NameChoices, NamesChoices, ReadListsNameChoices}

-- ---- elements

each_at : {T : Type 0} (Is : Data → T → Type 0) (ds : Items) (xs : List T) → Each Is ds xs → (i : ℕ) (x : T) → slice_get xs i ≡ Some x → (d : Data) × Is d x
unfolding Each
each_at Is no_items [] all i x at = absurd (no_value i x at)
each_at Is no_items (y ∷ ys) all i x at = absurd all
each_at Is (item d ds) [] all i x at = absurd all
each_at Is (item d ds) (y ∷ ys) all zero x at = (d, subst (Is d) (same_Some y x at) all.0)
each_at Is (item d ds) (y ∷ ys) all (suc i) x at = each_at Is ds ys all.1 i x at

choice_count : (ds : Items) (choices : List Choice) → Each IsChoiceOf ds choices → length (labels_of choice_labels_in ds) ≡ length choices
unfolding Each labels_of
choice_count no_items [] all = refl
choice_count no_items (c ∷ cs) all = absurd all
choice_count (item d ds) [] all = absurd all
choice_count (item d ds) (c ∷ cs) all = ap suc (choice_count ds cs all.1)

-- ---- alternatives that are named

-- one that is named is of one of the choices
named_below : (choices : List (List (List ℕ))) (label : List ℕ) (c p : ℕ) → named_in choices label ≡ Some (c, p) → c < length choices
unfolding named_in
named_below choices label c p named = go (position (λ labels. is_label_among labels label) choices) named
  where
    with_choice : ℕ → ℕ → ℕ × ℕ
    with_choice q r = (q, r)

    its_choice : (q : ℕ) (o : Option ℕ) → option_map (with_choice q) o ≡ Some (c, p) → q ≡ c
    its_choice q None none = cc
    its_choice q (Some r) same = ap (λ (pair : ℕ × ℕ). pair.0) (same_Some (q, r) (c, p) same)

    within : (q : ℕ) (o : Option (List (List ℕ))) → slice_get choices q ≡ o → option_map (with_choice q) (option_and_then (λ labels. place_of labels label) o)
        ≡ Some (c, p)
        → c < length choices
    within q None is none = cc
    within q (Some labels) is some =
        let below = slice_get_within choices q labels is in
        let same = its_choice q (place_of labels label) some in
        omega (arith, below, same)

    go : (o : Option ℕ) → option_and_then (place_in choices label) o ≡ Some (c, p) → c < length choices
    go None none = cc
    go (Some q) some = within q (slice_get choices q) refl some

list_names : (choices : List (List (List ℕ))) (ds : Items) (list : List Alternative) → Each (NamesAlternative choices) ds list
    → NamesChoices (length choices) list
list_names choices ds list all i a at =
    let (d, named) = each_at (NamesAlternative choices) ds list all i a at in
    named_below choices (label_text_in d) a.choice a.place named

both_name : (n : ℕ) (list more : List Alternative) → NamesChoices n list → NamesChoices n more → (i : ℕ) (a : Alternative) → slice_get (list ++ more) i ≡ Some a
    → a.choice < n
both_name n [] more one other i a at = other i a at
both_name n (b ∷ list) more one other zero a at = one zero a at
both_name n (b ∷ list) more one other (suc i) a at = both_name n list more (λ j x at_x. one (suc j) x at_x) other i a at

-- the others of a choice that some of a list are of
others_name : (choices : List (List (List ℕ))) (n : ℕ) (but : List Alternative) → NamesChoices n but → NamesChoices n (others choices but)
unfolding others
others_name choices n [] names i a at = absurd (no_value i a at)
others_name choices n (b ∷ but) names i a at = subst (λ c. c < n) (sym (made_of _ i a at)) (names 0 b refl)
  where
    made_of : (places : List ℕ) (k : ℕ) (x : Alternative) → slice_get (map (λ p. record { choice = b.choice; place = p }) places) k ≡ Some x
        → x.choice ≡ b.choice
    made_of [] k x at_x = absurd (no_value k x at_x)
    made_of (p ∷ places) zero x at_x = sym (ap (λ (y : Alternative). y.choice) (same_Some _ x at_x))
    made_of (p ∷ places) (suc k) x at_x = made_of places k x at_x

-- ---- the line

module _ (tree : Members) (line : ProductLine) (describes : DescribesProductLine tree line) where
  abbrev choices : List (List (List ℕ))
  choices = labels_of_choices tree

  counted : length choices ≡ length line.choices.items
  counted = choice_count (choice_tables tree) line.choices.items describes.has_choices

  lists_name : (ds : Items) (lists : List (Vec Alternative Global)) → AreLists choices ds lists → NameChoices (length line.choices.items) lists
  lists_name ds lists are k list at =
      let (d, is) = each_at (IsWith choices) ds lists are k list at in
      subst (λ n. NamesChoices n list.items) counted (list_names choices _ list.items is)

  nevers_name : (ds : Items) (lists : List (Vec Alternative Global)) → Each (IsNeverOf choices) ds lists → NameChoices (length line.choices.items) lists
  nevers_name ds lists are k list at =
      let (d, is) = each_at (IsNeverOf choices) ds lists are k list at in
      subst (λ n. NamesChoices n list.items) counted (subst (NamesChoices (length choices)) (sym is.has_both)
      (both_name (length choices) is.named (others choices is.but) (list_names choices _ is.named is.has_of)
      (others_name choices (length choices) is.but (list_names choices _ is.but is.has_but))))

  names : ListsNameChoices line
  names = record {
    nevers = nevers_name _ line.nevers.items describes.has_nevers;
    units = lists_name _ line.lists.units.items describes.has_lists.has_units;
    groups = lists_name _ line.lists.groups.items describes.has_lists.has_groups;
    flows = lists_name _ line.lists.flows.items describes.has_lists.has_flows;
    needs = lists_name _ line.lists.needs.items describes.has_lists.has_needs;
    requests = lists_name _ line.lists.requests.items describes.has_lists.has_requests;
  }

pub read_lists_name_choices : ReadListsNameChoices
read_lists_name_choices = names
