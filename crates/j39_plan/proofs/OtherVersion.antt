-- A tree with another version: all that stands at other keys stays.
use Rattle.std.proofs.Common.{◌≡◌, ◌≢◌, ℕ, pos, Bool, true, false, if◌then◌else◌, List, Option, Some, None, option_map, unwrap_or, refl, sym, subst, ◌∙◌}
use Rattle.std.proofs.Common.{Ordering, Less, Equal, Greater, nat_cmp, is_eq}
use Rattle.std.specs.Option.{option_or, option_and_then}
use Rattle.std.specs.Ordering.{match_ordering}
use Rattle.std.specs.Cmp.Lexicographic.{slice_cmp}
use Rattle.std.specs.Str.{bytes_eq}
use Rattle.std.proofs.lemmas.Slice.Eq.{bytes_eq-Decides}
use Rattle.std.proofs.lemmas.Map.Text.{is_eq-slice_cmp}
use Rattle.toml.specs.Data.{Data, integer, Members, no_members, member, get_member, as_integer}
use Rattle.j39_plan.specs.declared.reading.key.Key.{Key}
use Rattle.j39_plan.specs.declared.reading.key.Key.TheVariants as key
use Rattle.j39_plan.specs.declared.reading.place.Table.{Table}
use Rattle.j39_plan.specs.Words.{word_of}
use Rattle.j39_plan.specs.Schema.{PlanRule, table_of, tables_of, addresses_of}
use Rattle.j39_toml.specs.Rules.{natural, standing, number_of, flag_of, table_found, array_found}
use Rattle.j39_toml.specs.TableFaults.{has_only, key_faults}
use Rattle.j39_plan.specs.PlanFaults.{version_rule}
use Rattle.j39_plan.specs.Versions.{with_version}

-- the word of the version
abbrev version_word : List ℕ
version_word = word_of key.Version

-- ---- other keys

-- an entry that is found, or those behind it
passed : (o : Ordering) (is : Bool) (n : ℕ) (d : Data) (rest rest' : Option Data) → (is_eq o ≡ true → is ≡ false) → rest' ≡ rest
    → match_ordering o rest' (Some (if is then integer (pos n) else d)) rest' ≡ match_ordering o rest (Some d) rest
passed Less is n d rest rest' other same = same
passed Equal is n d rest rest' other same = rw (other refl)
passed Greater is n d rest rest' other same = same

-- a word that isn't the version's is none of an entry that is the version's
no_version : (k l : List ℕ) → bytes_eq version_word k ≡ false → is_eq (slice_cmp nat_cmp k l) ≡ true → bytes_eq version_word l ≡ false
no_version k l other is =
    let same : k ≡ l = (bytes_eq-Decides k l).0 (sym (is_eq-slice_cmp k l) ∙ is) in
    subst (λ (w : List ℕ). bytes_eq version_word w ≡ false) same other

pub get_other : (n : ℕ) (k : List ℕ) (ms : Members) → bytes_eq version_word k ≡ false → get_member k (with_version n ms) ≡ get_member k ms
unfolding with_version
get_other n k no_members other = refl
get_other n k (member l d ms) other =
    passed (slice_cmp nat_cmp k l) (bytes_eq version_word l) n d (get_member k ms) (get_member k (with_version n ms))
    (no_version k l other) (get_other n k ms other)

pub only_other : (n : ℕ) (keys : List Key) (ms : Members) → has_only word_of keys (with_version n ms) ≡ has_only word_of keys ms
unfolding with_version
only_other n keys no_members = refl
only_other n keys (member l d ms) = rw (only_other n keys ms)

-- the key of the rule isn't the version
abbrev pub IsOther : PlanRule → Type 0
IsOther r = bytes_eq version_word (r.word r.key) ≡ false

standing_other : (n : ℕ) (r : PlanRule) (ms : Members) → IsOther r → standing r (with_version n ms) ≡ standing r ms
standing_other n r ms other = rw (get_other n (r.word r.key) ms other)

pub key_faults_other : (n : ℕ) (at : Table) (r : PlanRule) (ms : Members) → IsOther r → key_faults at (with_version n ms) r ≡ key_faults at ms r
unfolding key_faults
key_faults_other n at r ms other = rw (standing_other n r ms other)

pub table_other : (n : ℕ) (r : PlanRule) (ms : Members) → IsOther r → table_of r (with_version n ms) ≡ table_of r ms
unfolding table_found
table_other n r ms other = rw (get_other n (r.word r.key) ms other)

pub tables_other : (n : ℕ) (r : PlanRule) (ms : Members) → IsOther r → tables_of r (with_version n ms) ≡ tables_of r ms
unfolding tables_of array_found
tables_other n r ms other = rw (get_other n (r.word r.key) ms other)

pub number_other : (n : ℕ) (r : PlanRule) (ms : Members) → IsOther r → number_of r (with_version n ms) ≡ number_of r ms
unfolding number_of
number_other n r ms other = rw (standing_other n r ms other)

pub flag_other : (n : ℕ) (r : PlanRule) (ms : Members) → IsOther r → flag_of r (with_version n ms) ≡ flag_of r ms
unfolding flag_of
flag_other n r ms other = rw (standing_other n r ms other)

pub addresses_other : (n : ℕ) (r : PlanRule) (ms : Members) → IsOther r → addresses_of r (with_version n ms) ≡ addresses_of r ms
unfolding addresses_of
addresses_other n r ms other = rw (standing_other n r ms other)

-- ---- the version

found_version : (o : Ordering) (is : Bool) (n : ℕ) (d : Data) (rest rest' : Option Data) → is ≡ is_eq o → rest' ≡ option_map (λ _. integer (pos n)) rest
    → match_ordering o rest' (Some (if is then integer (pos n) else d)) rest' ≡ option_map (λ _. integer (pos n)) (match_ordering o rest (Some d) rest)
found_version Less is n d rest rest' same behind = behind
found_version Equal is n d rest rest' same behind = rw same
found_version Greater is n d rest rest' same behind = behind

get_version : (n : ℕ) (ms : Members) → get_member version_word (with_version n ms) ≡ option_map (λ _. integer (pos n)) (get_member version_word ms)
unfolding with_version
get_version n no_members = refl
get_version n (member l d ms) =
    found_version (slice_cmp nat_cmp version_word l) (bytes_eq version_word l) n d (get_member version_word ms) (get_member version_word (with_version n ms))
    (sym (is_eq-slice_cmp version_word l)) (get_version n ms)

number_found : (n : ℕ) (found : Option Data) → natural (unwrap_or (option_and_then as_integer (option_or found None)) (pos 0)) ≢ 0
    → natural (unwrap_or (option_and_then as_integer (option_or (option_map (λ _. integer (pos n)) found) None)) (pos 0)) ≡ n
number_found n None some = absurd (some refl)
number_found n (Some d) some = refl

-- where there is a version, the other one stands in its place
pub version_other : (n : ℕ) (ms : Members) → number_of version_rule ms ≢ 0 → number_of version_rule (with_version n ms) ≡ n
unfolding number_of
version_other n ms some = rw (get_version n ms) (number_found n (get_member version_word ms) some)
