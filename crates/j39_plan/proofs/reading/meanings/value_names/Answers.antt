use Rattle.std.proofs.Common.{◌≡◌, ◌+◌, ◌∷◌, [], string_bytes, subst, arith}
use Rattle.std.proofs.lemmas.Bool.{and_parts}
use Rattle.std.proofs.lemmas.List.{append-nil, length_push}
use Rattle.std.proofs.lemmas.Map.Iter.{rest_all, rest_more}
use Rattle.std.specs.Option.{option_map_or}
use Rattle.std.specs.Map.Iter.{deref_pair}
use Rattle.toml.specs.Data.{as_str}
use Rattle.toml.specs.View.{members_view, table_view, view}
use Rattle.j39_id.specs.LabelForm.{is_label}
use Rattle.j39_plan.specs.MeaningTables.{AreValueNames}
use Rattle.j39_plan.specs.ValueCauses.{has_labels, has_numbers, is_number_below}
use Rattle.j39_plan.proofs.Numbers.{few_names, one_more_name}
use Rattle.j39_plan.proofs.reading.meanings.value_names.Goals as goal

pub loop-name-preserved : goal.loop-name-preserved
loop-name-preserved c =
    let e = rest_more deref_pair c.loop-name.name-iterator c.next.new.self c.next.result (c.in-Some.name, c.in-Some.value) c.in-Some.is c.next.ensures.steps in
    let before = rw e at c.loop-name.invariant in
    let stated = rw c.as_str.ensures.value at c.in-Some-value_name.ensures in
    let left = members_view c.next.new.self in
    let numbers = and_parts (is_number_below c.args.limit (string_bytes c.in-Some.name.now)) (has_numbers c.args.limit left) before.1 in
    let labels = and_parts (option_map_or is_label (as_str (view c.in-Some.value.now)) Rattle.std.proofs.Common.false) (has_labels left) before.2 in
    let items = c.in_ok-push-in-Some-value_name.ensures.items in
    let count = before.3 in
    let more = length_push c.loop-name.values.items c.in-Some-value_name.named in (
      rw items (one_more_name (table_view c.args.names.now) left (string_bytes c.in-Some.name.now) (view c.in-Some.value.now) c.loop-name.values.items
          c.in-Some-value_name.named before.0 stated.1 stated.2),
      numbers.1,
      labels.1,
      rw items (omega (arith, count, more)),
    )

pub returns-clause-names : goal.returns-clause-names
unfolding AreValueNames
returns-clause-names c =
    let e = rest_all deref_pair c.loop-name.name-iterator c.next.new.self c.next.result c.in-None.is c.next.ensures.steps in
    let before = rw e at c.loop-name.invariant in
    subst (AreValueNames (table_view c.args.names.now)) (append-nil c.loop-name.values.items) (before.0 [] tt)

pub returns-clause-count : goal.returns-clause-count
returns-clause-count c =
    let e = rest_all deref_pair c.loop-name.name-iterator c.next.new.self c.next.result c.in-None.is c.next.ensures.steps in
    let before = rw e at c.loop-name.invariant in
    let count = before.3 in
    let few = few_names c.args.limit c.args.names.now.entries c.requires.named in
    omega (arith, count, few)
