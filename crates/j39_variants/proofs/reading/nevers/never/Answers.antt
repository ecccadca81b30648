use Rattle.std.proofs.lemmas.Result.{err_from_is_err_and}
use Rattle.j39_toml.proofs.FirstFaults.{fails_on}
use Rattle.j39_variants.specs.NeverTables.{never_table_faults}
use Rattle.j39_variants.proofs.NamedChoices.{choices_are, names}
use Rattle.j39_variants.proofs.reading.nevers.never.Goals as goal

pub returns-in_err-but_named : goal.returns-in_err-but_named
unfolding never_table_faults
returns-in_err-but_named c =
    let p = err_from_is_err_and c.from_residual-in_err-but_named.result c.from_residual-in_err-but_named.ensures.1 in
    let of_named = rw c.in_ok-of_values.ensures.1 at c.in_ok-of_named.ensures.gives in
    let fails = rw (c.as_slice.ensures.value, choices_are _ _ _ of_named.1, c.in_ok-but_values.ensures.1) at c.in_err-but_named.ensures.gives in
    rw (p.1, p.2, c.in_ok-only.ensures.0, c.in_ok-of_values.ensures.0, of_named.0, c.in_ok-but_values.ensures.0)
    (fails_on _ _ c.in_err-but_named.field-0.0 _ _ (λ grows. tt) (λ f is. is) fails)

pub returns : goal.returns
unfolding never_table_faults
returns c =
    let of_named = rw c.in_ok-of_values.ensures.1 at c.in_ok-of_named.ensures.gives in
    let but_named = rw (c.as_slice.ensures.value, choices_are _ _ _ of_named.1, c.in_ok-but_values.ensures.1) at c.in_ok-but_named.ensures.gives in (
      rw (c.in_ok-only.ensures.0, c.in_ok-of_values.ensures.0, of_named.0, c.in_ok-but_values.ensures.0) but_named.0,
      record {
        named = c.in_ok-box_of.box_of.items;
        but = c.in_ok-but.but.items;
        has_of = rw (c.in_ok-box_of.ensures, c.deref.ensures.value) (names _ _ _ of_named.1);
        has_but = rw (c.in_ok-but.ensures, c.deref-2.ensures.value) (names _ _ _ but_named.1);
        has_both = rw (c.in_ok-extend_from_slice.ensures.items, c.deref-4.ensures.value, c.in_ok-others.ensures, c.deref-3.ensures.value);
      },
    )
