-- A signal in whose table nothing stands that one of two versions knows and the other doesn't is the same in both.
use Rattle.std.proofs.Common.{◌≡◌, ℕ, Bool, true, false, ◌&&◌, ◌||◌, if◌then◌else◌, List, [], Option, Some, None, unwrap_or, refl, ap, subst, ◌∙◌, codes}
use Rattle.std.specs.Option.{option_and_then}
use Rattle.std.specs.Str.{bytes_eq}
use Rattle.toml.specs.Data.{Data, string, integer, float, boolean, datetime, array, table, Members, no_members, as_str}
use Rattle.j39_signal.specs.declared.signal_parts.SignalParts.{SignalParts}
use Rattle.j39_signal.specs.declared.kind.Kind.TheVariants.{Measured, Discrete, Raw, States, Signed, Dtc}
use Rattle.j39_network.specs.declared.plan.meaning.Meaning.{Meaning}
use Rattle.j39_plan.specs.ValueCauses.{divisor_up_to, truth_where}
use Rattle.j39_plan.specs.declared.reading.version.Version.{Version}
use Rattle.j39_plan.specs.declared.reading.version.Version.TheVariants.{First, Second, Third, Fourth}
use Rattle.j39_plan.specs.declared.reading.key.Key.TheVariants as key
use Rattle.j39_plan.specs.declared.reading.place.Table.{Table}
use Rattle.j39_plan.specs.declared.reading.place.Table.TheVariants as at
use Rattle.j39_plan.specs.declared.reading.text_kind.TextKind.TheVariants as texts
use Rattle.j39_plan.specs.TextKinds.{is_first_kind}
use Rattle.j39_plan.specs.Schema.{text, given_number, table_of}
use Rattle.j39_toml.specs.Rules.{standing, number_of, flag_of, text_of, text_where, number_found, table_found}
use Rattle.j39_toml.specs.TableFaults.{standing_cause, key_faults}
use Rattle.j39_plan.specs.Since.{keys_of}
use Rattle.j39_toml.specs.InOrder.{inside}
use Rattle.j39_toml.specs.Outcome.{first}
use Rattle.j39_plan.specs.LabelsSeen.{label_in, repeated_faults}
use Rattle.j39_plan.specs.MeaningTables.{optional_rule, spn_rule, values_rule, AreValueNames}
use Rattle.j39_plan.specs.SignalTables.{kind_of, is_dtc, kind_rule, is_code, per_rule, repeated_rule, repeated_of, signal_rules, signal_table_faults}
use Rattle.j39_plan.specs.SignalTables.{signal_faults, IsSignalOf, IsMeaningOf}
use Rattle.j39_plan.specs.Versions.{is_later_kind}
use Rattle.j39_plan.proofs.Absent.{lacked, Alike, element_alike}
use Rattle.j39_plan.proofs.ChangedKeys.{Differ, LacksChanged, AreFree, never, same_by, same_value, table_same}

-- nothing stands in the table that one of the versions alone knows
pub record KeepsSignal (changed : Version → Bool) (ms : Members) : Type 0 where
  pub keys : LacksChanged changed (keys_of (signal_rules First false ms)) ms
  pub kind : changed Third ≡ true → is_later_kind (text_of (kind_rule Third) ms) ≡ false

-- ---- its kind

plain_kind : (measured discrete states signed dtc : Bool) → (states || (signed || dtc)) ≡ false
    → is_dtc (if measured then Measured else if discrete then Discrete else if states then States else if signed then Signed else if dtc then Dtc else Raw)
    ≡ false
plain_kind true discrete states signed dtc none = refl
plain_kind false true states signed dtc none = refl
plain_kind false false true signed dtc none = refl
plain_kind false false false true dtc none = refl
plain_kind false false false false true none = cc
plain_kind false false false false false none = refl

no_code : (t : List ℕ) → is_later_kind t ≡ false → is_dtc (kind_of t) ≡ false
no_code t plain =
    plain_kind (bytes_eq t (codes "measured")) (bytes_eq t (codes "discrete")) (bytes_eq t (codes "states")) (bytes_eq t (codes "signed"))
    (bytes_eq t (codes "dtc")) plain

code_same : {changed : Version → Bool} {one other : Version} → Differ changed one other → (ms : Members) → KeepsSignal changed ms
    → is_code one ms ≡ is_code other ms
unfolding is_code text_of
code_same apart ms keeps =
    same_by apart Third (λ knows. knows && is_dtc (kind_of (text_of (kind_rule Third) ms))) (λ is. no_code (text_of (kind_rule Third) ms) (keeps.kind is))

takes_same : (first later : Bool) → later ≡ false → (first || later) ≡ first
takes_same true later none = refl
takes_same false later none = none

kind_cause : (found : Option Data) → is_later_kind (unwrap_or (option_and_then as_str found) []) ≡ false
    → standing_cause (kind_rule Third) found ≡ standing_cause (kind_rule Second) found
unfolding text_where
kind_cause None none = refl
kind_cause (Some (string t)) none = rw (takes_same (is_first_kind t) (is_later_kind t) none)
kind_cause (Some (integer z)) none = refl
kind_cause (Some (float x)) none = refl
kind_cause (Some (boolean x)) none = refl
kind_cause (Some (datetime x)) none = refl
kind_cause (Some (array ds)) none = refl
kind_cause (Some (table ms)) none = refl

kind_faults : (at : Table) (ms : Members) → is_later_kind (text_of (kind_rule Third) ms) ≡ false
    → key_faults at ms (kind_rule Third) ≡ key_faults at ms (kind_rule Second)
unfolding key_faults text_of
kind_faults at ms plain = rw (kind_cause (standing (kind_rule Third) ms) plain)

kind_same : {changed : Version → Bool} {one other : Version} → Differ changed one other → (at : Table) (ms : Members) → KeepsSignal changed ms
    → key_faults at ms (kind_rule one) ≡ key_faults at ms (kind_rule other)
kind_same apart at ms keeps =
    same_by apart Third (λ knows. key_faults at ms (text key.Kind (if knows then texts.AnySignalKind else texts.SignalKind) None))
    (λ is. kind_faults at ms (keeps.kind is))

kind_stated : (one other : Version) (ms : Members) → kind_of (text_of (kind_rule one) ms) ≡ kind_of (text_of (kind_rule other) ms)
unfolding text_of
kind_stated one other ms = refl

-- ---- what stands at its other keys

per_is : {changed : Version → Bool} (ms : Members) → KeepsSignal changed ms → changed Third ≡ true → number_of (per_rule false) ms ≡ 1
unfolding number_of
per_is ms keeps is = rw (lacked key.Per ms (keeps.keys.1.1.1.1.1.1.0 is))

not_repeated : {changed : Version → Bool} (ms : Members) → KeepsSignal changed ms → changed Third ≡ true → flag_of (repeated_rule true) ms ≡ false
unfolding flag_of
not_repeated ms keeps is = rw (lacked key.Repeated ms (keeps.keys.1.1.1.1.1.1.1.1.1.0 is))

not_optional : {changed : Version → Bool} (ms : Members) → KeepsSignal changed ms → changed Fourth ≡ true → flag_of (optional_rule false) ms ≡ false
unfolding flag_of
not_optional ms keeps is = rw (lacked key.Optional ms (keeps.keys.1.1.1.1.1.1.1.1.1.1.0 is))

no_spn : {changed : Version → Bool} (ms : Members) → KeepsSignal changed ms → changed Fourth ≡ true → given_number spn_rule ms ≡ None
unfolding number_found
no_spn ms keeps is = rw (lacked key.Spn ms (keeps.keys.1.1.1.1.1.1.1.1.1.1.1.0 is))

no_names : {changed : Version → Bool} (ms : Members) → KeepsSignal changed ms → changed Fourth ≡ true
    → unwrap_or (table_of (values_rule false 0) ms) no_members ≡ no_members
unfolding table_found
no_names ms keeps is = rw (lacked key.Values ms (keeps.keys.1.1.1.1.1.1.1.1.1.1.1.1.0 is))

repeated_same : {changed : Version → Bool} {one other : Version} → Differ changed one other → (ms : Members) → KeepsSignal changed ms
    → repeated_of one ms ≡ repeated_of other ms
repeated_same apart ms keeps = same_value apart Third (flag_of (repeated_rule true) ms) false (not_repeated ms keeps)

per_free : (code : Bool) → standing_cause (per_rule code) (per_rule code).default ≡ None
unfolding divisor_up_to
per_free true = refl
per_free false = refl

free : {changed : Version → Bool} {one other : Version} → Differ changed one other → (version : Version) (records : Bool) (ms : Members)
    → AreFree changed (signal_rules version records ms)
unfolding truth_where
free apart version records ms = (
  never apart,
  (
    never apart,
    (
      never apart,
      (
        never apart,
        (
          never apart,
          (
            never apart,
            (
              λ is. (refl, per_free (is_code version ms)),
              (
                never apart,
                (
                  never apart,
                  (
                    λ is. (refl, refl),
                    (
                      λ is. (refl, refl),
                      (
                        λ is. (refl, refl),
                        (
                          λ is. (refl, refl),
                          tt,
                        ),
                      ),
                    ),
                  ),
                ),
              ),
            ),
          ),
        ),
      ),
    ),
  ),
)

table_alike : {changed : Version → Bool} {one other : Version} → Differ changed one other → (records : Bool) (at : Table) (ms : Members)
    → KeepsSignal changed ms → signal_table_faults one records at ms ≡ signal_table_faults other records at ms
unfolding signal_table_faults
table_alike {changed} {one} {other} apart records at ms keeps =
    rw (code_same apart ms keeps, repeated_same apart ms keeps, kind_same apart at ms keeps)
    (table_same apart [] at (signal_rules other records ms) ms keeps.keys (free apart other records ms))

pub signal_alike : {changed : Version → Bool} {one other : Version} → Differ changed one other → (records : Bool) (g i : ℕ) (seen : List (List ℕ)) (d : Data)
    → KeepsSignal changed (inside d) → Alike (signal_faults one records g i seen d) (signal_faults other records g i seen d)
unfolding signal_faults
signal_alike {changed} {one} {other} apart records g i seen d keeps =
    let place : Table = at.Signal g i in
    element_alike place d (signal_table_faults one records place) (signal_table_faults other records place)
    (repeated_faults place texts.Label seen (label_in d)) (ap first (table_alike apart records place (inside d) keeps))

-- ---- what is reported

pub signal_stated : {changed : Version → Bool} {one other : Version} → Differ changed one other → (d : Data) (s : SignalParts)
    → KeepsSignal changed (inside d) → IsSignalOf one d s → IsSignalOf other d s
signal_stated {changed} {one} {other} apart d s keeps stated = record {
  has_label = stated.has_label;
  has_start = stated.has_start;
  has_bits = stated.has_bits;
  has_kind = stated.has_kind ∙ kind_stated one other (inside d);
  has_step = stated.has_step;
  has_offset = stated.has_offset;
  has_per = stated.has_per ∙ same_value apart Third (number_of (per_rule false) (inside d)) 1 (per_is (inside d) keeps);
  has_unit = stated.has_unit;
  has_repeated = stated.has_repeated ∙ repeated_same apart (inside d) keeps;
  has_optional = stated.has_optional ∙ same_value apart Fourth (flag_of (optional_rule false) (inside d)) false (not_optional (inside d) keeps);
}

pub meaning_stated : {changed : Version → Bool} {one other : Version} → Differ changed one other → (d : Data) (m : Meaning)
    → KeepsSignal changed (inside d) → IsMeaningOf one d m → IsMeaningOf other d m
meaning_stated apart d m keeps stated = record {
  has_spn = stated.has_spn ∙ same_value apart Fourth (given_number spn_rule (inside d)) None (no_spn (inside d) keeps);
  has_values = subst (λ ms. AreValueNames ms m.values.items)
      (same_value apart Fourth (unwrap_or (table_of (values_rule false 0) (inside d)) no_members) no_members (no_names (inside d) keeps)) stated.has_values;
}
