-- A unit in whose table nothing stands that one of two versions knows and the other doesn't is the same in both.
use Rattle.std.proofs.Common.{◌≡◌, ℕ, pos, Bool, true, false, not, ◌&&◌, if◌then◌else◌, List, [], ◌++◌, Option, None}
use Rattle.std.proofs.Common.{Some, is_some, unwrap_or, IfSome, refl, ap, ◌∙◌}
use Rattle.std.specs.Option.{option_map_or, option_and_then, option_or}
use Rattle.std.proofs.lemmas.Bool.{false≢true}
use Rattle.toml.specs.Data.{Data, integer, Members, no_members, get_member, as_integer}
use Rattle.j39_id.specs.Name.{name_number}
use Rattle.j39_network.specs.declared.plan.queue.Queue.TheVariants.{Priority}
use Rattle.j39_network.specs.declared.plan.unit_plan.UnitPlan.{UnitPlan}
use Rattle.j39_plan.specs.declared.reading.version.Version.{Version}
use Rattle.j39_plan.specs.declared.reading.version.Version.TheVariants.{Fourth}
use Rattle.j39_plan.specs.declared.reading.key.Key.TheVariants as key
use Rattle.j39_plan.specs.declared.reading.place.Table.{Table}
use Rattle.j39_plan.specs.declared.reading.place.Table.TheVariants as at
use Rattle.j39_plan.specs.declared.reading.text_kind.TextKind.TheVariants as texts
use Rattle.j39_plan.specs.Words.{word_of}
use Rattle.j39_toml.specs.Rules.{natural, flag_of, number_of, text_of, truth, text_where}
use Rattle.j39_plan.specs.Schema.{number, has_key, table_of}
use Rattle.j39_toml.specs.TableFaults.{key_faults}
use Rattle.j39_plan.specs.Since.{keys_of, with_key}
use Rattle.j39_toml.specs.InOrder.{inside}
use Rattle.j39_toml.specs.Outcome.{first}
use Rattle.j39_plan.specs.LabelsSeen.{repeated_faults}
use Rattle.j39_plan.specs.UnitTables.{any_identity_of, identity_rule, name_faults, name_fields_of, name_of, name_rule, claims_rule, claims_of, queue_rule}
use Rattle.j39_plan.specs.UnitTables.{queue_in, unit_rules, unit_label_in, unit_table_faults, unit_faults, IsUnitOf}
use Rattle.j39_plan.proofs.Absent.{lacked, Alike, element_alike}
use Rattle.j39_plan.proofs.ChangedKeys.{Differ, LacksChanged, AreFree, never, same_by, same_value, table_same}

-- nothing stands in the table that one of the versions alone knows, and its NAME has an identity number where one of them alone lets it be open
pub record KeepsUnit (changed : Version → Bool) (ms : Members) : Type 0 where
  pub keys : LacksChanged changed (keys_of unit_rules ++ with_key) ms
  pub number : changed Fourth ≡ true → IfSome (table_of name_rule ms) (λ inner. has_key key.Identity inner ≡ true)

claims_is : {changed : Version → Bool} (ms : Members) → KeepsUnit changed ms → changed Fourth ≡ true → flag_of claims_rule ms ≡ true
unfolding flag_of
claims_is ms keeps is = rw (lacked key.Claims ms (keeps.keys.1.1.1.1.1.1.0 is))

queue_is : {changed : Version → Bool} (ms : Members) → KeepsUnit changed ms → changed Fourth ≡ true → queue_in (text_of queue_rule ms) ≡ Priority
unfolding text_of
queue_is ms keeps is = rw (lacked key.Queue ms (keeps.keys.1.1.1.1.0 is))

free : {changed : Version → Bool} {one other : Version} → Differ changed one other → AreFree changed unit_rules
unfolding truth text_where
free apart = (
  never apart,
  (
    never apart,
    (
      never apart,
      (
        never apart,
        (
          λ is. (refl, refl),
          (
            never apart,
            (
              λ is. (refl, refl),
              tt,
            ),
          ),
        ),
      ),
    ),
  ),
)

-- ---- the NAME

has_number : (ms : Members) → has_key key.Identity ms ≡ true → (d : Data) × (get_member (word_of key.Identity) ms ≡ Some d)
unfolding has_key
has_number ms has = go (get_member (word_of key.Identity) ms) refl has where
  go : (o : Option Data) → get_member (word_of key.Identity) ms ≡ o → is_some o ≡ true → (d : Data) × (get_member (word_of key.Identity) ms ≡ Some d)
  go None is e = absurd (false≢true e)
  go (Some d) is e = (d, is)

given : (at : Table) (ms : Members) → has_key key.Identity ms ≡ true
    → key_faults at ms (number key.Identity 0 2097151 (Some 0)) ≡ key_faults at ms (number key.Identity 0 2097151 None)
unfolding key_faults
given at ms has = rw ((has_number ms has).1) refl

name_alike : {changed : Version → Bool} {one other : Version} → Differ changed one other → (i : ℕ) (ms : Members)
    → (changed Fourth ≡ true → has_key key.Identity ms ≡ true) → name_faults one i ms ≡ name_faults other i ms
unfolding name_faults
name_alike {changed} {one} {other} apart i ms has =
    let same : key_faults (at.UnitName i) ms (identity_rule one) ≡ key_faults (at.UnitName i) ms (identity_rule other) =
    same_by apart Fourth (λ knows. key_faults (at.UnitName i) ms (number key.Identity 0 2097151 (if knows then Some 0 else None)))
    (λ is. given (at.UnitName i) ms (has is)) in
    rw same refl

names_alike : {changed : Version → Bool} {one other : Version} → Differ changed one other → (i : ℕ) (found : Option Members)
    → (changed Fourth ≡ true → IfSome found (λ inner. has_key key.Identity inner ≡ true))
    → option_map_or (name_faults one i) found [] ≡ option_map_or (name_faults other i) found []
names_alike apart i None has = refl
names_alike apart i (Some ms) has = name_alike apart i ms has

-- an identity number that is left open counts as 0
open_is : (found : Option Data) → natural (unwrap_or (option_and_then as_integer (option_or found (Some (integer (pos 0))))) (pos 0))
    ≡ natural (unwrap_or (option_and_then as_integer (option_or found None)) (pos 0))
open_is None = refl
open_is (Some d) = refl

number_same : {changed : Version → Bool} {one other : Version} → Differ changed one other → (ms : Members)
    → number_of (identity_rule one) ms ≡ number_of (identity_rule other) ms
unfolding number_of
number_same apart ms =
    same_by apart Fourth (λ knows. number_of (number key.Identity 0 2097151 (if knows then Some 0 else None)) ms)
    (λ is. open_is (get_member (word_of key.Identity) ms))

fields_same : {changed : Version → Bool} {one other : Version} → Differ changed one other → (ms : Members)
    → name_fields_of one ms ≡ name_fields_of other ms
unfolding name_fields_of
fields_same apart ms = rw (number_same apart ms) refl

name_same : {changed : Version → Bool} {one other : Version} → Differ changed one other → (ms : Members) → name_of one ms ≡ name_of other ms
name_same apart ms = ap name_number (fields_same apart (unwrap_or (table_of name_rule ms) no_members))

none_lacks : (found : Option Members) → IfSome found (λ inner. has_key key.Identity inner ≡ true)
    → option_map_or (λ inner. not (has_key key.Identity inner)) found false ≡ option_map_or (λ inner. false) found false
none_lacks None has = refl
none_lacks (Some ms) has = rw has refl

open_same : {changed : Version → Bool} {one other : Version} → Differ changed one other → (ms : Members) → KeepsUnit changed ms
    → any_identity_of one ms ≡ any_identity_of other ms
open_same apart ms keeps =
    same_by apart Fourth (λ knows. option_map_or (λ inner. knows && not (has_key key.Identity inner)) (table_of name_rule ms) false)
    (λ is. none_lacks (table_of name_rule ms) (keeps.number is))

-- ---- the unit

claims_same : {changed : Version → Bool} {one other : Version} → Differ changed one other → (ms : Members) → KeepsUnit changed ms
    → claims_of one ms ≡ claims_of other ms
claims_same apart ms keeps = same_value apart Fourth (flag_of claims_rule ms) true (claims_is ms keeps)

table_alike : {changed : Version → Bool} {one other : Version} → Differ changed one other → (i : ℕ) (ms : Members) → KeepsUnit changed ms
    → unit_table_faults one i ms ≡ unit_table_faults other i ms
unfolding unit_table_faults
table_alike apart i ms keeps =
    rw (
      table_same apart with_key (at.Unit i) unit_rules ms keeps.keys (free apart),
      names_alike apart i (table_of name_rule ms) keeps.number,
      claims_same apart ms keeps,
      name_same apart ms,
    ) refl

pub unit_alike : {changed : Version → Bool} {one other : Version} → Differ changed one other → (i : ℕ) (seen : List (List ℕ)) (d : Data)
    → KeepsUnit changed (inside d) → Alike (unit_faults one i seen d) (unit_faults other i seen d)
unfolding unit_faults
unit_alike {changed} {one} {other} apart i seen d keeps =
    element_alike (at.Unit i) d (unit_table_faults one i) (unit_table_faults other i)
    (repeated_faults (at.Unit i) texts.UnitLabel seen (unit_label_in d)) (ap first (table_alike apart i (inside d) keeps))

pub unit_stated : {changed : Version → Bool} {one other : Version} → Differ changed one other → (d : Data) (u : UnitPlan)
    → KeepsUnit changed (inside d) → IsUnitOf one d u → IsUnitOf other d u
unit_stated apart d u keeps stated = record {
  has_label = stated.has_label;
  has_address = stated.has_address;
  has_way = stated.has_way;
  has_window = stated.has_window;
  has_name = stated.has_name ∙ name_same apart (inside d);
  has_number = stated.has_number ∙ open_same apart (inside d) keeps;
  has_queue = stated.has_queue ∙ same_value apart Fourth (queue_in (text_of queue_rule (inside d))) Priority (queue_is (inside d) keeps);
  has_claims = stated.has_claims ∙ claims_same apart (inside d) keeps;
}
