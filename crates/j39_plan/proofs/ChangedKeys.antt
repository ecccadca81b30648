-- Two versions of a plan file, and tables in which nothing stands at a key that one of them knows and the other doesn't.
use Rattle.std.proofs.Common.{◌≡◌, Bool, true, false, not, ◌&&◌, ◌||◌, None, if◌then◌else◌, List, [], ◌∷◌, ◌++◌, map, refl, sym, ◌∙◌, inl, inr, ℕ}
use Rattle.std.specs.List.{filter}
use Rattle.std.specs.Str.{bytes_eq}
use Rattle.std.proofs.lemmas.Bool.{cases_Bool, false≢true}
use Rattle.std.proofs.lemmas.List.Elements.{All-head, All-tail}
use Rattle.toml.specs.Data.{Data, Members, no_members, member}
use Rattle.j39_plan.specs.declared.reading.key.Key.{Key}
use Rattle.j39_plan.specs.declared.reading.place.Table.{Table}
use Rattle.j39_plan.specs.declared.reading.version.Version.{Version}
use Rattle.j39_plan.specs.declared.reading.version.Version.TheVariants.{First}
use Rattle.j39_plan.specs.Words.{word_of}
use Rattle.j39_plan.specs.Schema.{PlanRule, has_key}
use Rattle.j39_plan.specs.Since.{Since, is_known, keys_of, known_keys, known_faults, faults_beside}
use Rattle.j39_plan.specs.Versions.{Lacks}
use Rattle.j39_toml.specs.TableFaults.{standing_cause, key_faults, is_key_word, has_only, unknown_faults}
use Rattle.j39_plan.proofs.Absent.{lacked, lacks_word, lacks_behind}

-- ---- two versions

abbrev pub differ : Bool → Bool → Bool
differ true b = not b
differ false b = b

differ_turned : (a b : Bool) → differ b a ≡ differ a b
differ_turned true true = refl
differ_turned true false = refl
differ_turned false true = refl
differ_turned false false = refl

-- what is known since a changed version one of these two knows and the other doesn't; what is known since another one both know, or neither does
abbrev pub Differ : (Version → Bool) → Version → Version → Type 0
Differ changed one other = (since : Version) → differ (is_known since one) (is_known since other) ≡ changed since

pub turned : {changed : Version → Bool} {one other : Version} → Differ changed one other → Differ changed other one
turned {changed} {one} {other} apart = λ since. differ_turned (is_known since one) (is_known since other) ∙ apart since

-- the first version isn't changed: all know what is known since it
pub never : {changed : Version → Bool} {one other : Version} {P : Type 0} → Differ changed one other → changed First ≡ true → P
never apart is = absurd (false≢true (apart First ∙ is))

by_both : {X : Type 0} (a b : Bool) (f : Bool → X) → (differ a b ≡ true → f true ≡ f false) → f a ≡ f b
by_both true true f same = refl
by_both true false f same = same refl
by_both false true f same = sym (same refl)
by_both false false f same = refl

-- what goes by whether a version knows it is the same in both where it is the same for one that knows it and for one that doesn't
pub same_by : {changed : Version → Bool} {one other : Version} {X : Type 0} → Differ changed one other → (since : Version) (f : Bool → X)
    → (changed since ≡ true → f true ≡ f false) → f (is_known since one) ≡ f (is_known since other)
same_by {changed} {one} {other} apart since f same =
    by_both (is_known since one) (is_known since other) f (λ e. same (sym (apart since) ∙ e))

-- a value, and what it is in a version that doesn't know its key
pub same_value : {changed : Version → Bool} {one other : Version} {X : Type 0} → Differ changed one other → (since : Version) (x without : X)
    → (changed since ≡ true → x ≡ without)
    → (if is_known since one then x else without) ≡ (if is_known since other then x else without)
same_value apart since x without same = same_by apart since (λ knows. if knows then x else without) same

-- ---- keys

-- nothing stands at those of these keys that are known since a changed version
abbrev pub LacksChanged : (Version → Bool) → List (Key × Version) → Members → Type 0
LacksChanged changed [] ms = Unit {0}
LacksChanged changed (k ∷ keys) ms = (changed k.1 ≡ true → has_key k.0 ms ≡ false) × LacksChanged changed keys ms

abbrev pub changed_keys : (Version → Bool) → List (Key × Version) → List Key
changed_keys changed keys = map (λ k. k.0) (filter (λ k. changed k.1) keys)

pub lacks_changed : (changed : Version → Bool) (keys : List (Key × Version)) (ms : Members) → Lacks (changed_keys changed keys) ms
    → LacksChanged changed keys ms
lacks_changed changed [] ms lacks = tt
lacks_changed changed (k ∷ keys) ms lacks = elim (cases_Bool (changed k.1)) [
  | inl is ↦
      let all : Lacks (k.0 ∷ changed_keys changed keys) ms = rw is at lacks in (
        λ e. All-head (λ l. has_key l ms ≡ false) k.0 (changed_keys changed keys) all,
        lacks_changed changed keys ms (All-tail (λ l. has_key l ms ≡ false) k.0 (changed_keys changed keys) all),
      )
  | inr not ↦
      let all : Lacks (changed_keys changed keys) ms = rw not at lacks in
      (λ e. cc, lacks_changed changed keys ms all)
]

behind : (changed : Version → Bool) (keys : List (Key × Version)) (l : List ℕ) (d : Data) (ms : Members) → LacksChanged changed keys (member l d ms)
    → LacksChanged changed keys ms
behind changed [] l d ms lacks = tt
behind changed (k ∷ keys) l d ms lacks = (λ is. lacks_behind k.0 l d ms (lacks.0 is), behind changed keys l d ms lacks.1)

-- whether a word is one of the keys that a version knows, by the first of them
known_head : (version : Version) (k : Key × Version) (keys : List (Key × Version)) (l : List ℕ)
    → is_key_word word_of (known_keys version (k ∷ keys)) l
    ≡ ((is_known k.1 version && bytes_eq (word_of k.0) l) || is_key_word word_of (known_keys version keys) l)
known_head version k keys l = elim (cases_Bool (is_known k.1 version)) [
  | inl knows ↦ rw knows refl
  | inr not ↦ rw not refl
]

known_word : {changed : Version → Bool} {one other : Version} → Differ changed one other → (keys : List (Key × Version)) (l : List ℕ) (d : Data)
    (ms : Members) → LacksChanged changed keys (member l d ms)
    → is_key_word word_of (known_keys one keys) l ≡ is_key_word word_of (known_keys other keys) l
known_word apart [] l d ms lacks = refl
known_word {changed} {one} {other} apart (k ∷ keys) l d ms lacks =
    let same : ((is_known k.1 one && bytes_eq (word_of k.0) l) || is_key_word word_of (known_keys one keys) l)
    ≡ ((is_known k.1 other && bytes_eq (word_of k.0) l) || is_key_word word_of (known_keys other keys) l) =
    rw (
      same_by apart k.1 (λ knows. knows && bytes_eq (word_of k.0) l) (λ is. lacks_word k.0 l d ms (lacks.0 is)),
      known_word apart keys l d ms lacks.1,
    ) refl in
    known_head one k keys l ∙ same ∙ sym (known_head other k keys l)

-- both versions know each key that stands in the table, or neither does
pub known_same : {changed : Version → Bool} {one other : Version} → Differ changed one other → (keys : List (Key × Version)) (ms : Members)
    → LacksChanged changed keys ms → has_only word_of (known_keys one keys) ms ≡ has_only word_of (known_keys other keys) ms
known_same apart keys no_members lacks = refl
known_same {changed} {one} {other} apart keys (member l d ms) lacks =
    rw (known_word apart keys l d ms lacks, known_same apart keys ms (behind changed keys l d ms lacks)) refl

pub unknown_same : {changed : Version → Bool} {one other : Version} → Differ changed one other → (at : Table) (keys : List (Key × Version)) (ms : Members)
    → LacksChanged changed keys ms → unknown_faults word_of at (known_keys one keys) ms ≡ unknown_faults word_of at (known_keys other keys) ms
unfolding unknown_faults
unknown_same apart at keys ms lacks = rw (known_same apart keys ms lacks) refl

-- ---- rules

-- a key that may be absent, and is
pub unfaulted : (at : Table) (r : PlanRule) (ms : Members) → r.word ≡ word_of → standing_cause r r.default ≡ None → has_key r.key ms ≡ false
    → key_faults at ms r ≡ []
unfolding key_faults
unfaulted at r ms spelled free lacks = rw (spelled, lacked r.key ms lacks, free) refl

-- each key that is known since a changed version may be absent
abbrev pub AreFree : (Version → Bool) → List Since → Type 0
AreFree changed [] = Unit {0}
AreFree changed (s ∷ rules) =
    (changed s.version ≡ true → (s.rule.word ≡ word_of) × (standing_cause s.rule s.rule.default ≡ None)) × AreFree changed rules

pub rules_same : {changed : Version → Bool} {one other : Version} → Differ changed one other → (at : Table) (ms : Members) (rules : List Since)
    (others : List (Key × Version)) → LacksChanged changed (keys_of rules ++ others) ms → AreFree changed rules
    → known_faults at one ms rules ≡ known_faults at other ms rules
rules_same apart at ms [] others lacks free = refl
rules_same apart at ms (s ∷ rules) others lacks free =
    rw (
      same_value apart s.version (key_faults at ms s.rule) [] (λ is. unfaulted at s.rule ms (free.0 is).0 (free.0 is).1 (lacks.0 is)),
      rules_same apart at ms rules others lacks.1 free.1,
    ) refl

-- of all keys of a table
pub table_same : {changed : Version → Bool} {one other : Version} → Differ changed one other → (others : List (Key × Version)) (at : Table)
    (rules : List Since) (ms : Members) → LacksChanged changed (keys_of rules ++ others) ms → AreFree changed rules
    → faults_beside others at one rules ms ≡ faults_beside others at other rules ms
table_same apart others at rules ms lacks free =
    rw (unknown_same apart at (keys_of rules ++ others) ms lacks, rules_same apart at ms rules others lacks free) refl
