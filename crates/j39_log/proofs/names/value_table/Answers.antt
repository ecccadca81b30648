use Rattle.std.proofs.Common.{◌++◌, ◌∷◌, [], ℕ, List, take, sym, ap, ◌∙◌}
use Rattle.std.proofs.lemmas.List.{take_more}
use Rattle.j39_network.specs.declared.plan.meaning.ValueName.{ValueName}
use Rattle.j39_log.specs.NamedReports.{NumberNames, value_names}
use Rattle.j39_log.specs.inside.NameTables.{names_in, with_name}
use Rattle.j39_log.proofs.Naming.{value_pushed}
use Rattle.j39_log.proofs.names.value_table.Goals as goal

pub loop-named-preserved : goal.loop-named-preserved
loop-named-preserved c =
    let values : List ValueName = c.args.values.now in
    let i = c.loop-named.named-index in
    let v : ValueName = c.named-item.result in
    let more = take_more values i v c.loop-named-test.true ∙ ap (λ (x : ValueName). take i values ++ x ∷ []) (sym c.named-item.is) in
    c.in_ok-add.ensures
    ∙ ap (λ (t : List ℕ). with_name (names_in c.loop-named.table) v.raw t) (c.in_ok-value_name.ensures ∙ c.as_str.ensures.value)
    ∙ ap (λ (f : NumberNames). with_name f v.raw v.name.bytes) c.loop-named.invariant
    ∙ value_pushed (take i values) v
    ∙ ap value_names (sym more)
