-- A NAME whose identity number is left open has 0 there.
use Rattle.std.proofs.Common.{◌≡◌, ℕ, ◌^◌, ◌%◌, Bool, true, not, None, Option, Some, refl, sym, ap, ◌∙◌, arith}
use Rattle.std.proofs.lemmas.Bool.{false≢true}
use Rattle.std.specs.Prelude.{is_some}
use Rattle.toml.specs.Data.{Data, Members, get_member}
use Rattle.j39_id.specs.declared.name_fields.NameFields.{NameFields}
use Rattle.j39_id.specs.Name.{name_number}
use Rattle.j39_plan.specs.declared.reading.version.Version.{Version}
use Rattle.j39_plan.specs.declared.reading.version.Version.TheVariants.{First, Second, Third, Fourth}
use Rattle.j39_plan.specs.declared.reading.key.Key.TheVariants as key
use Rattle.j39_plan.specs.Words.{word_of}
use Rattle.j39_plan.specs.Schema.{has_key}
use Rattle.j39_toml.specs.Rules.{number_of}
use Rattle.j39_plan.specs.UnitTables.{identity_rule, lacks_identity, name_fields_of}

none_there : (o : Option Data) → not (is_some o) ≡ true → o ≡ None
none_there None e = refl
none_there (Some d) e = absurd (false≢true e)

zero_there : (ms : Members) → get_member (word_of key.Identity) ms ≡ None → number_of (identity_rule Fourth) ms ≡ 0
unfolding number_of
zero_there ms none = rw none refl

of_fields : (f : NameFields) → f.identity ≡ 0 → name_number f % 2 ^ 21 ≡ 0
of_fields f zero = omega (arith, zero)

at_zero : (version : Version) (ms : Members) → lacks_identity version ms ≡ true → name_number (name_fields_of version ms) % 2 ^ 21 ≡ 0
unfolding has_key name_fields_of
at_zero Fourth ms lacks = of_fields (name_fields_of Fourth ms) (zero_there ms (none_there (get_member (word_of key.Identity) ms) lacks))
at_zero First ms lacks = absurd (false≢true lacks)
at_zero Second ms lacks = absurd (false≢true lacks)
at_zero Third ms lacks = absurd (false≢true lacks)

pub open_number : (version : Version) (ms : Members) (n : ℕ) (is_open : Bool) → n ≡ name_number (name_fields_of version ms)
    → is_open ≡ lacks_identity version ms
    → is_open ≡ true → n % 2 ^ 21 ≡ 0
open_number version ms n is_open is lacks stated = ap (λ k. k % 2 ^ 21) is ∙ at_zero version ms (sym lacks ∙ stated)
