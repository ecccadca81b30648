-- Tables of names, and the numbers that their keys are.
use Rattle.std.proofs.Common.{◌≡◌, ◌<◌, ◌≤◌, ◌^◌, ℕ, suc, Bool, true, false, ◌&&◌, ◌||◌, ◌==◌, not, if◌then◌else◌, nat_le, nat_lt, List, [], ◌∷◌, ◌++◌, length}
use Rattle.std.proofs.Common.{append_assoc, Option, Some, None, Result, Ok, Err, is_some, refl, ap, String, Global, string_bytes, arith}
use Rattle.std.specs.List.{list_all}
use Rattle.std.specs.Map.{keys_of, values_of}
use Rattle.std.specs.Option.{option_map_or}
use Rattle.std.specs.Char.{is_ascii_digit}
use Rattle.std.specs.Str.{all_ascii_digits}
use Rattle.std.specs.Str.Parse.{ParsesUnsigned, digits_value}
use Rattle.std.proofs.lemmas.Bool.{and_parts, leb-true, ltb-true}
use Rattle.std.proofs.lemmas.Str.Parse.{IsNumeralModel, numerals_by_value, parse_digits, tells_all_ascii_digits}
use Rattle.toml.specs.Data.{Data, Members, member, as_str}
use Rattle.toml.specs.declared.value.Value.{Value}
use Rattle.toml.specs.View.{members_view, view}
use Rattle.j39_id.specs.LabelForm.{is_label}
use Rattle.j39_plan.specs.ValueCauses.{members_count, has_labels, has_numbers, has_texts, is_decimal, is_number_below, names_cause}
use Rattle.j39_network.specs.PlanLimits.{value_limit}
use Rattle.j39_network.specs.declared.plan.meaning.ValueName.{ValueName}
use Rattle.j39_plan.specs.MeaningTables.{AreValueNames}
use Rattle.j39_toml.specs.declared.cause.Cause.{Cause}
use Rattle.j39_toml.specs.declared.cause.Cause.TheVariants.{TooMany}

pub are_digits_view : (bytes : List ℕ) → all_ascii_digits bytes ≡ list_all is_ascii_digit bytes
are_digits_view [] = refl
are_digits_view (b ∷ bytes) = ap (λ rest. is_ascii_digit b && rest) (are_digits_view bytes)

pub has_texts_view : (es : List (String Global × Value)) → has_texts (members_view es) ≡ list_all (λ value. is_some (as_str (view value))) (values_of es)
has_texts_view [] = refl
has_texts_view (e ∷ es) = ap (λ rest. is_some (as_str (view e.1)) && rest) (has_texts_view es)

pub has_labels_view : (es : List (String Global × Value))
    → has_labels (members_view es) ≡ list_all (λ value. option_map_or is_label (as_str (view value)) false) (values_of es)
has_labels_view [] = refl
has_labels_view (e ∷ es) = ap (λ rest. option_map_or is_label (as_str (view e.1)) false && rest) (has_labels_view es)

pub has_numbers_view : (limit : ℕ) (es : List (String Global × Value))
    → has_numbers limit (members_view es) ≡ list_all (λ name. is_number_below limit (string_bytes name)) (keys_of es)
has_numbers_view limit [] = refl
has_numbers_view limit (e ∷ es) = ap (λ rest. is_number_below limit (string_bytes e.0) && rest) (has_numbers_view limit es)

pub members_count_view : (es : List (String Global × Value)) → members_count (members_view es) ≡ length es
members_count_view [] = refl
members_count_view (e ∷ es) = ap suc (members_count_view es)

-- ---- a number that isn't read

own : IsNumeralModel (λ ds. all_ascii_digits ds ≡ true) (digits_value 10)
own = numerals_by_value (λ ds. all_ascii_digits ds ≡ true) tells_all_ascii_digits

some_bytes : (name : List ℕ) (rest : Bool) → (length name == 1 || (nat_lt 1 (length name) && rest)) ≡ true → 0 < length name
some_bytes [] rest is = cc
some_bytes (c ∷ cs) rest is = omega arith

not_below : {E : Type 0} (limit : ℕ) (name : List ℕ) (e : E) → limit ≤ 2 ^ 32 → ParsesUnsigned {E = E} 32 10 name (Err e) → (below : Bool)
    → is_number_below limit name ≡ below → below ≡ false
not_below limit name e small parses true is =
    let parts = and_parts (is_decimal name) (nat_lt (digits_value 10 name) limit) is in
    let digits = and_parts (all_ascii_digits name) _ parts.0 in
    let fails : ¬ ((0 < length name) × (digits_value 10 name < 2 ^ 32)) = parse_digits own 32 name (Err e) parses digits.0 in
    let less : digits_value 10 name < limit = ltb-true (digits_value 10 name) limit parts.1 in
    absurd (fails (some_bytes name _ digits.1, omega (arith, less, small)))
not_below limit name e small parses false is = refl

-- a text of decimal digits that isn't read as a number of 32 bits is none below a limit
pub unread : {E : Type 0} (limit : ℕ) (name : List ℕ) (r : Result ℕ E) (e : E) → limit ≤ 2 ^ 32 → ParsesUnsigned 32 10 name r → r ≡ Err e
    → is_number_below limit name ≡ false
unread limit name (Ok n) e small parses is = cc
unread limit name (Err f) e small parses is = not_below limit name f small parses (is_number_below limit name) refl

-- ---- names

few_if : (few : Bool) (rest : Option Cause) → (if not few then Some TooMany else rest) ≡ None → few ≡ true
few_if true rest none = refl
few_if false rest none = cc

-- a table that isn't refused has few names
pub few_names : (limit : ℕ) (es : List (String Global × Value)) → names_cause limit (members_view es) ≡ None → length es ≤ value_limit
few_names limit es none =
    rw (members_count_view es) at (leb-true (members_count (members_view es)) value_limit
    (few_if (nat_le (members_count (members_view es)) value_limit) _ none))

-- one more name is read
pub one_more_name : (all rest : Members) (k : List ℕ) (d : Data) (so_far : List ValueName) (n : ValueName)
    → ((more : List ValueName) → AreValueNames (member k d rest) more → AreValueNames all (so_far ++ more))
    → n.raw ≡ digits_value 10 k → as_str d ≡ Some n.name.bytes
    → (more : List ValueName) → AreValueNames rest more → AreValueNames all ((so_far ++ n ∷ []) ++ more)
unfolding AreValueNames
one_more_name all rest k d so_far n before raw name more are =
    rw (append_assoc so_far (n ∷ []) more) (before (n ∷ more) (raw, name, are))
