use Rattle.std.proofs.Common.{◌≡◌, true, Option, refl, sym, ap, ◌∙◌}
use Rattle.std.specs.Prelude.{unwrap_or}
use Rattle.toml.specs.Data.{Members, no_members}
use Rattle.j39_toml.specs.Rules.{table_found}
use Rattle.j39_plan.specs.declared.reading.version.Version.TheVariants.{Fourth}
use Rattle.j39_plan.specs.Since.{is_known}
use Rattle.j39_plan.proofs.reading.meanings.meaning_keys.Goals as goal

pub returns-clause-gives : goal.returns-clause-gives
unfolding table_found
returns-clause-gives c =
    let is : is_known Fourth c.args.version ≡ true = sym c.knows.ensures ∙ c.if-not-knows.false in
    let names = rw c.raw_limit.ensures.value at c.in_ok-names.ensures.gives in (
      rw (is, c.in_ok-optional.ensures.0, c.in_ok-spn.ensures.gives.0, names.0) refl,
      record {
        has_optional = rw is c.in_ok-optional.ensures.1;
        has_spn = rw is c.in_ok-spn.ensures.gives.1;
        has_names = rw is (ap (λ (o : Option Members). unwrap_or o no_members) names.1);
      },
    )
