-- Every fault of a table by its rules, in order.
use Rattle.std.specs.Prelude.{ℕ, List, [], ◌∷◌, ◌++◌, Bool, true, ◌&&◌, if◌then◌else◌, Option, Some, None, map}
use Rattle.std.specs.List.{list_any}
use Rattle.std.specs.Str.{bytes_eq}
use Rattle.std.specs.Option.{option_map_or}
use Rattle.toml.specs.Data.{Data, table, Members, no_members, member}
use Rattle.j39_toml.specs.declared.cause.Cause.{Cause}
use Rattle.j39_toml.specs.declared.cause.Cause.TheVariants.{UnknownKey, Missing, WrongType}
use Rattle.j39_toml.specs.declared.fault.TableFault.{TableFault}
use Rattle.j39_toml.specs.Rules.{Rule, standing}

abbrev pub fault : {T K : Type 0} → Cause → T → Option K → TableFault T K
fault cause at key = record { cause = cause; place = record { table = at; key = key } }

-- the cause for which what stands at a key is refused
abbrev pub standing_cause : {K : Type 0} → Rule K → Option Data → Option Cause
standing_cause r None = if r.is_required then Some Missing else None
standing_cause r (Some d) = r.kind d

unfoldable pub key_faults : {T K : Type 0} → T → Members → Rule K → List (TableFault T K)
key_faults at ms r = option_map_or (λ cause. fault cause at (Some r.key) ∷ []) (standing_cause r (standing r ms)) []

abbrev pub keys_faults : {T K : Type 0} → T → Members → List (Rule K) → List (TableFault T K)
keys_faults at ms [] = []
keys_faults at ms (r ∷ rules) = key_faults at ms r ++ keys_faults at ms rules

-- one of the keys is spelled so
abbrev pub is_key_word : {K : Type 0} → (K → List ℕ) → List K → List ℕ → Bool
is_key_word word keys name = list_any (λ k. bytes_eq (word k) name) keys

-- each key of the table is one of these
abbrev pub has_only : {K : Type 0} → (K → List ℕ) → List K → Members → Bool
has_only word keys no_members = true
has_only word keys (member k d ms) = is_key_word word keys k && has_only word keys ms

unfoldable pub unknown_faults : {T K : Type 0} → (K → List ℕ) → T → List K → Members → List (TableFault T K)
unknown_faults word at keys ms = if has_only word keys ms then [] else fault UnknownKey at None ∷ []

-- a key that no rule names, and then the faults of each key in the order of the rules
abbrev pub table_faults : {T K : Type 0} → (K → List ℕ) → T → List (Rule K) → Members → List (TableFault T K)
table_faults word at rules ms = unknown_faults word at (map (λ r. r.key) rules) ms ++ keys_faults at ms rules

-- a value that is to be a table
unfoldable pub table_only_faults : {T K : Type 0} → T → Data → List (TableFault T K)
table_only_faults at (table ms) = []
table_only_faults at _ = fault WrongType at None ∷ []
