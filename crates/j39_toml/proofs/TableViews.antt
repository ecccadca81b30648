-- A table and an array of TOML, as the definitions see them.
use Rattle.std.proofs.Common.{◌≡◌, ℕ, suc, List, [], ◌∷◌, length, refl, ap, String, Global, string_bytes}
use Rattle.std.specs.List.{list_all}
use Rattle.std.specs.Map.{keys_of}
use Rattle.toml.specs.declared.value.Value.{Value}
use Rattle.toml.specs.View.{items_view, members_view}
use Rattle.j39_toml.specs.Rules.{items_count}
use Rattle.j39_toml.specs.TableFaults.{is_key_word, has_only}

pub items_count_view : (vs : List Value) → items_count (items_view vs) ≡ length vs
items_count_view [] = refl
items_count_view (v ∷ vs) = ap suc (items_count_view vs)

pub has_only_view : {K : Type 0} (word : K → List ℕ) (keys : List K) (es : List (String Global × Value))
    → has_only word keys (members_view es) ≡ list_all (λ k. is_key_word word keys (string_bytes k)) (keys_of es)
has_only_view word keys [] = refl
has_only_view word keys (e ∷ es) = rw (has_only_view word keys es)
