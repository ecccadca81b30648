-- The number of the version in a tree.
use Rattle.std.proofs.Common.{◌≡◌, ◌≤◌, ℕ, pos, negsuc, ap, arith, [], Option, Some, None, unwrap_or}
use Rattle.std.specs.Option.{option_and_then, option_or}
use Rattle.std.proofs.lemmas.Bool.{le-ltb}
use Rattle.toml.specs.Data.{Data, string, integer, float, boolean, datetime, array, table, Members, get_member, as_integer}
use Rattle.j39_plan.specs.declared.reading.key.Key.TheVariants as key
use Rattle.j39_plan.specs.declared.reading.place.Table.TheVariants as at
use Rattle.j39_plan.specs.Words.{word_of}
use Rattle.j39_toml.specs.Rules.{natural, number_of, integer_in}
use Rattle.j39_toml.specs.TableFaults.{standing_cause, key_faults}
use Rattle.j39_plan.specs.PlanFaults.{version_rule, version_of, version_numbered}

no_version : (n : ℕ) → 1 ≤ n → 0 ≡ n → ⊥
no_version n some is = omega (arith, is)

version_cause : (n : ℕ) (found : Option Data) → 1 ≤ n → n ≤ 4 → natural (unwrap_or (option_and_then as_integer (option_or found None)) (pos 0)) ≡ n
    → standing_cause version_rule (option_or found None) ≡ None
unfolding integer_in
version_cause n None some few is = absurd (no_version n some is)
version_cause n (Some (integer (pos m))) some few is =
    let same : m ≡ n = is in
    rw (le-ltb m 1 (omega (arith, same)), le-ltb 4 m (omega (arith, same)))
version_cause n (Some (integer (negsuc m))) some few is = absurd (no_version n some is)
version_cause n (Some (string s)) some few is = absurd (no_version n some is)
version_cause n (Some (float x)) some few is = absurd (no_version n some is)
version_cause n (Some (boolean x)) some few is = absurd (no_version n some is)
version_cause n (Some (datetime x)) some few is = absurd (no_version n some is)
version_cause n (Some (array ds)) some few is = absurd (no_version n some is)
version_cause n (Some (table ms)) some few is = absurd (no_version n some is)

pub version_unfaulted : (n : ℕ) (tree : Members) → 1 ≤ n → n ≤ 4 → number_of version_rule tree ≡ n → key_faults at.Top tree version_rule ≡ []
unfolding key_faults number_of
version_unfaulted n tree some few is = rw (version_cause n (get_member (word_of key.Version) tree) some few is)

pub knows : (n : ℕ) (tree : Members) → number_of version_rule tree ≡ n → version_of tree ≡ version_numbered n
unfolding version_of
knows n tree is = ap version_numbered is
