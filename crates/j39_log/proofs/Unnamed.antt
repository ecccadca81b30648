-- Plans without names.
use Rattle.std.proofs.Common.{◌≡◌, ◌==◌, ℕ, ◌+◌, Bool, true, false, if◌then◌else◌, ℤ, List, [], ◌∷◌, ◌++◌, map, length, get_or, Option, Some}
use Rattle.std.proofs.Common.{None, All, refl, ap, ◌∙◌, arith}
use Rattle.std.proofs.Math.Path.{fun_ext}
use Rattle.std.specs.Prelude.{is_none, option_map, unsigned_abs}
use Rattle.std.specs.List.{filter, find, list_all, zip}
use Rattle.std.proofs.lemmas.Bool.{and_parts, eqb-true}
use Rattle.std.proofs.lemmas.List.{append-nil, nil_from_length}
use Rattle.std.proofs.lemmas.List.Elements.{All-cons, All-head, All-tail}
use Rattle.j39_signal.specs.Bits.{raw_of}
use Rattle.j39_signal.specs.declared.signal_parts.SignalParts.{SignalParts}
use Rattle.j39_signal.specs.Places.{further}
use Rattle.j39_signal.specs.State.{state_of}
use Rattle.j39_signal.specs.declared.kind.Kind.{Kind}
use Rattle.j39_signal.specs.declared.kind.Kind.TheVariants.{Measured, Discrete, Raw, States, Signed, Dtc}
use Rattle.j39_signal.specs.declared.state.State.{State}
use Rattle.j39_signal.specs.declared.state.State.TheVariants.{Value, Specific, Reserved, Fault, Absent}
use Rattle.j39_network.specs.Records.{record_signals, repeated_signals, single_signals, stands_once}
use Rattle.j39_network.specs.declared.plan.Plan.{Plan}
use Rattle.j39_network.specs.declared.plan.group_plan.GroupPlan.{GroupPlan}
use Rattle.j39_network.specs.declared.plan.meaning.Meaning.{Meaning}
use Rattle.j39_log.specs.LogReports as plain
use Rattle.j39_log.specs.TextLines.{text_lines}
use Rattle.j39_log.specs.NamedReports as named
use Rattle.j39_log.specs.NamedReports.{HasNoMeanings, NamedSignal, NumberNames, Numbered, StatesAlone, all_numbered, is_numbered, meaning_names}
use Rattle.j39_log.specs.NamedReports.{named_signals, numbered_as, parameter_names, named_reading_lines}
use Rattle.j39_log.specs.inside.NameTables.{has_no_meaning, has_no_meanings}

-- no number has a name
abbrev pub nothing : NumberNames
nothing n = None

-- ---- what a raw number reads

abbrev no_text : List ℕ
no_text = []

no_suffix : (b : Bool) → (if b then no_text else no_text) ≡ no_text
no_suffix true = refl
no_suffix false = refl

code_alone : (code : ℕ) → named.named_code_text nothing code ≡ plain.code_text code
unfolding named.named_code_text named.parameter_name_text
code_alone code =
    ap (λ (t : List ℕ). plain.code_text code ++ t) (no_suffix (named.has_parameter code)) ∙ append-nil (plain.code_text code)

value_alone : (kind : Kind) (per : ℕ) (unit : List ℕ) (v : ℤ) → named.named_value_text nothing kind per unit v ≡ plain.value_text kind per unit v
unfolding named.named_value_text plain.value_text
value_alone Dtc per unit v = code_alone (unsigned_abs v)
value_alone Measured per unit v = refl
value_alone Discrete per unit v = refl
value_alone Raw per unit v = refl
value_alone States per unit v = refl
value_alone Signed per unit v = refl

state_alone : (s : SignalParts) (state : State) → named.named_state_text nothing s state ≡ plain.signal_state_text s state
unfolding named.named_state_text plain.signal_state_text
state_alone s (Value v) = value_alone s.kind s.per s.unit.bytes v
state_alone s (Specific n) = refl
state_alone s (Reserved n) = refl
state_alone s (Fault n) = refl
state_alone s Absent = refl

raw_alone : (s : SignalParts) (raw : ℕ) → named.raw_text nothing (s, nothing) raw ≡ plain.signal_state_text s (state_of s raw)
unfolding named.raw_text
raw_alone s raw = state_alone s (state_of s raw)

-- ---- lines

-- signals whose raw numbers have no names
abbrev pub unnamed : List SignalParts → List NamedSignal
unnamed = map (λ s. (s, nothing))

line_alone : (s : SignalParts) (raw : ℕ) → named.named_signal_line s (named.raw_text nothing (s, nothing) raw) ≡ plain.signal_line s (state_of s raw)
unfolding named.named_signal_line plain.signal_line
line_alone s raw = ap (named.named_signal_line s) (raw_alone s raw)

record_line_alone : (place : ℕ) (s : SignalParts) (raw : ℕ)
    → named.named_record_line place s (named.raw_text nothing (s, nothing) raw) ≡ plain.record_line place s (state_of s raw)
unfolding named.named_record_line plain.record_line
record_line_alone place s raw = ap (named.named_record_line place s) (raw_alone s raw)

lines_alone : (signals : List SignalParts) (bytes : List ℕ) → named.named_signal_lines nothing (unnamed signals) bytes ≡ plain.signal_lines signals bytes
unfolding named.named_signal_lines plain.signal_lines
lines_alone [] bytes = refl
lines_alone (s ∷ rest) bytes =
    ap (λ (t : List ℕ). t ++ named.named_signal_lines nothing (unnamed rest) bytes) (line_alone s (raw_of bytes s))
    ∙ ap (λ (t : List ℕ). plain.signal_line s (state_of s (raw_of bytes s)) ++ t) (lines_alone rest bytes)

record_alone : (place : ℕ) (signals : List SignalParts) (bytes : List ℕ)
    → named.named_record_lines nothing place (unnamed signals) bytes ≡ plain.record_lines place signals bytes
unfolding named.named_record_lines plain.record_lines
record_alone place [] bytes = refl
record_alone place (s ∷ rest) bytes =
    ap (λ (t : List ℕ). t ++ named.named_record_lines nothing place (unnamed rest) bytes) (record_line_alone place s (raw_of bytes s))
    ∙ ap (λ (t : List ℕ). plain.record_line place s (state_of s (raw_of bytes s)) ++ t) (record_alone place rest bytes)

chosen : (b : Bool) (s : SignalParts) (xs ys : List NamedSignal) (zs : List SignalParts) → xs ≡ unnamed zs
    → (if b then (s, nothing) ∷ xs else xs) ≡ unnamed (if b then s ∷ zs else zs)
chosen true s xs ys zs is = ap (λ (l : List NamedSignal). (s, nothing) ∷ l) is
chosen false s xs ys zs is = is

singles : (bytes : ℕ) (signals : List SignalParts) → named.named_single_signals bytes (unnamed signals) ≡ unnamed (single_signals bytes signals)
singles bytes [] = refl
singles bytes (s ∷ rest) =
    chosen (stands_once bytes s) s (named.named_single_signals bytes (unnamed rest)) [] (single_signals bytes rest) (singles bytes rest)

repeats : (signals : List SignalParts) → filter (λ (s : NamedSignal). s.0.repeated) (unnamed signals) ≡ unnamed (repeated_signals signals)
repeats [] = refl
repeats (s ∷ rest) = chosen s.repeated s (filter (λ (s : NamedSignal). s.0.repeated) (unnamed rest)) [] (repeated_signals rest) (repeats rest)

moved : (behind : ℕ) (signals : List SignalParts)
    → map (λ (s : NamedSignal). (further behind s.0, s.1)) (unnamed signals) ≡ unnamed (map (further behind) signals)
moved behind [] = refl
moved behind (s ∷ rest) = ap (λ (l : List NamedSignal). (further behind s, nothing) ∷ l) (moved behind rest)

in_record : (behind : ℕ) (signals : List SignalParts) → named.named_record_signals behind (unnamed signals) ≡ unnamed (record_signals behind signals)
in_record behind signals =
    ap (map (λ (s : NamedSignal). (further behind s.0, s.1))) (repeats signals) ∙ moved behind (repeated_signals signals)

records_alone : (group : GroupPlan) (n : ℕ) (signals : List SignalParts) (bytes : List ℕ)
    → plain.lines_of_all_records (λ place behind. named.named_record_lines nothing place (named.named_record_signals behind (unnamed signals)) bytes) group n
    ≡ plain.lines_of_all_records (λ place behind. plain.record_lines place (record_signals behind signals) bytes) group n
records_alone group n signals bytes =
    ap (λ (lines : ℕ → ℕ → List ℕ). plain.lines_of_all_records lines group n)
    (fun_ext (λ place. fun_ext (λ behind. ap (λ (l : List NamedSignal). named.named_record_lines nothing place l bytes) (in_record behind signals)
    ∙ record_alone place (record_signals behind signals) bytes)))

pub reads_alone : (group : GroupPlan) (bytes : List ℕ)
    → named.named_lines nothing (unnamed group.signals.items) group bytes ≡ plain.reading_lines group bytes
unfolding named.named_lines named.all_named_records_lines plain.reading_lines plain.all_records_lines
reads_alone group bytes =
    let signals = group.signals.items in
    let texts = text_lines group.texts.items bytes in
    let n : ℕ = length bytes in
    let first : named.named_signal_lines nothing (named.named_single_signals n (unnamed signals)) bytes ≡ plain.signal_lines (single_signals n signals) bytes =
    ap (λ (l : List NamedSignal). named.named_signal_lines nothing l bytes) (singles n signals) ∙ lines_alone (single_signals n signals) bytes in
    ap (λ (t : List ℕ). t
    ++ (plain.lines_of_all_records (λ place behind. named.named_record_lines nothing place (named.named_record_signals behind (unnamed signals)) bytes) group n
    ++ texts)) first
    ∙ ap (λ (t : List ℕ). plain.signal_lines (single_signals n signals) bytes ++ (t ++ texts)) (records_alone group n signals bytes)

-- ---- names

abbrev IsUnnamed : Meaning → Type 0
IsUnnamed m = (m.spn ≡ None) × (m.values.items ≡ [])

pairs_unnamed : (signals : List SignalParts) (meanings : List Meaning) → length meanings ≡ length signals → All IsUnnamed meanings
    → zip signals (map meaning_names meanings) ≡ unnamed signals
pairs_unnamed [] meanings count all = refl
pairs_unnamed (s ∷ signals) [] count all = absurd (omega (arith, count))
pairs_unnamed (s ∷ signals) (m ∷ meanings) count all =
    let own : meaning_names m ≡ nothing = ap (λ values. named.value_names values) (All-head IsUnnamed m meanings all).1 in
    ap (λ (f : NumberNames). (s, f) ∷ zip signals (map meaning_names meanings)) own
    ∙ ap (λ (l : List NamedSignal). (s, nothing) ∷ l)
    (pairs_unnamed signals meanings (omega (arith, count)) (All-tail IsUnnamed m meanings all))

found_none : (spn : ℕ) (s : Numbered) (rest : List Numbered) → s.number ≡ None → find (is_numbered spn) (s ∷ rest) ≡ find (is_numbered spn) rest
found_none spn s rest none = rw none refl

not_among : (spn : ℕ) (group : GroupPlan) (signals : List SignalParts) (meanings : List Meaning) (rest : List Numbered) → All IsUnnamed meanings
    → find (is_numbered spn) rest ≡ None → find (is_numbered spn) (map (numbered_as group) (zip signals meanings) ++ rest) ≡ None
not_among spn group [] meanings rest all none = none
not_among spn group (s ∷ signals) [] rest all none = none
not_among spn group (s ∷ signals) (m ∷ meanings) rest all none =
    found_none spn (numbered_as group (s, m)) (map (numbered_as group) (zip signals meanings) ++ rest) (All-head IsUnnamed m meanings all).0
    ∙ not_among spn group signals meanings rest (All-tail IsUnnamed m meanings all) none

abbrev IsUnnamedGroup : GroupPlan → Type 0
IsUnnamedGroup group = All IsUnnamed group.meanings.items

none_numbered : (spn : ℕ) (groups : List GroupPlan) → All IsUnnamedGroup groups → find (is_numbered spn) (all_numbered groups) ≡ None
unfolding all_numbered
none_numbered spn [] all = refl
none_numbered spn (group ∷ groups) all =
    not_among spn group group.signals.items group.meanings.items (all_numbered groups) (All-head IsUnnamedGroup group groups all)
    (none_numbered spn groups (All-tail IsUnnamedGroup group groups all))

pub no_parameters : (plan : Plan) → HasNoMeanings plan → parameter_names plan ≡ nothing
no_parameters plan none = fun_ext (λ spn. ap (option_map (λ (s : Numbered). s.name)) (none_numbered spn plan.groups.items none))

pub states_of : (plan : Plan) (group : GroupPlan) (bytes : List ℕ) → HasNoMeanings plan → IsUnnamedGroup group
    → named_reading_lines plan group bytes ≡ plain.reading_lines group bytes
states_of plan group bytes none own =
    ap (λ (f : NumberNames). named.named_lines f (named_signals group) group bytes) (no_parameters plan none)
    ∙ ap (λ (l : List NamedSignal). named.named_lines nothing l group bytes) (pairs_unnamed group.signals.items group.meanings.items group.meaning_count own)
    ∙ reads_alone group bytes

pub states_alone : StatesAlone
states_alone plan bytes none = λ k d less. states_of plan (get_or plan.groups.items k d) bytes none (none k d less)

-- ---- the test

none_there : (o : Option ℕ) → is_none o ≡ true → o ≡ None
none_there None is = refl
none_there (Some n) is = cc

unnamed_meaning : (m : Meaning) → has_no_meaning m ≡ true → IsUnnamed m
unnamed_meaning m is =
    let parts = and_parts (is_none m.spn) (length m.values.items == 0) is in
    (none_there m.spn parts.0, nil_from_length m.values.items (eqb-true (length m.values.items) 0 parts.1))

all_from : {X : Type 0} (p : X → Bool) (P : X → Type 0) (holds : (x : X) → p x ≡ true → P x) (xs : List X) → list_all p xs ≡ true → All P xs
all_from p P holds [] is = λ k d below. absurd (omega arith)
all_from p P holds (x ∷ xs) is =
    let parts = and_parts (p x) (list_all p xs) is in
    All-cons P x xs (holds x parts.0) (all_from p P holds xs parts.1)

pub all_unnamed : (groups : List GroupPlan) → has_no_meanings groups ≡ true → All (λ group. All IsUnnamed group.meanings.items) groups
all_unnamed groups is =
    all_from (λ (group : GroupPlan). list_all has_no_meaning group.meanings.items) IsUnnamedGroup
    (λ group own. all_from has_no_meaning IsUnnamed unnamed_meaning group.meanings.items own) groups is
