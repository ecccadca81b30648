-- The lines of signals and records with names, one after another.
use Rattle.std.proofs.Common.{◌≡◌, ℕ, ◌+◌, ◌<◌, ◌≤◌, Bool, true, false, if◌then◌else◌, List, [], ◌∷◌, ◌++◌, map, length, drop, get_or, Option, Some, None}
use Rattle.std.proofs.Common.{refl, sym, ap, ◌∙◌, append_assoc, arith}
use Rattle.std.specs.List.{filter, zip}
use Rattle.std.proofs.lemmas.List.{drop_all, drop_more, get_or-map, length-map}
use Rattle.std.proofs.lemmas.Slice.Zip.{get_or-zip, length-zip}
use Rattle.j39_signal.specs.Bits.{raw_of}
use Rattle.j39_signal.specs.declared.signal_parts.SignalParts.{SignalParts}
use Rattle.j39_signal.specs.Places.{further}
use Rattle.j39_network.specs.Records.{stands_once}
use Rattle.j39_network.specs.declared.plan.Plan.{Plan}
use Rattle.j39_network.specs.declared.plan.group_plan.GroupPlan.{GroupPlan}
use Rattle.j39_log.specs.LogReports.{signal_state_text}
use Rattle.j39_log.specs.LogReports as plain
use Rattle.j39_log.specs.NamedReports.{HasNoMeanings, NamedSignal, NumberNames, meaning_names, named_lines, parameter_names, raw_text, named_reading_lines}
use Rattle.j39_log.specs.NamedReports.{named_record_line, named_record_lines, named_record_signals, named_signal_line, named_signal_lines}
use Rattle.j39_log.specs.NamedReports.{named_single_signals, named_state_text}
use Rattle.j39_log.specs.declared.name_table.NameTable.{NameTable}
use Rattle.j39_log.specs.declared.names.GroupNames.{GroupNames}
use Rattle.j39_log.specs.inside.NameTables.{AreGroupNames, HasTables, lines_by, named_by, names_in}

-- the signal of a place with the names of the table there
pub named_at : (tables : List NameTable) (signals : List SignalParts) (i : ℕ) (s : SignalParts) (t : NameTable)
    → length tables ≡ length signals → i < length signals → s ≡ get_or signals i s → t ≡ get_or tables i t
    → (s, names_in t) ≡ get_or (named_by tables signals) i (s, names_in t)
named_at tables signals i s t count less signal table =
    sym (get_or-zip signals (map names_in tables) i (s, names_in t) less (omega (arith, count, less, length-map tables names_in))
    ∙ ap (λ (x : SignalParts). (x, get_or (map names_in tables) i (names_in t))) (sym signal)
    ∙ ap (λ (f : NumberNames). (s, f)) (get_or-map names_in tables i t (names_in t) (omega (arith, count, less)) ∙ ap names_in (sym table)))

pub named_count : (tables : List NameTable) (signals : List SignalParts) → length tables ≡ length signals
    → length (named_by tables signals) ≡ length signals
named_count tables signals count = omega (arith, count, length-zip signals (map names_in tables), length-map tables names_in)

-- behind the last signal there is none
pub all_named : (tables : List NameTable) (signals : List SignalParts) (i : ℕ) → length tables ≡ length signals → length signals ≤ i
    → drop i (named_by tables signals) ≡ []
all_named tables signals i count past =
    let same = named_count tables signals count in
    drop_all i (named_by tables signals) (omega (arith, same, past))

-- ---- signals

abbrev read_line : NumberNames → List ℕ → NamedSignal → List ℕ
read_line parameters bytes s = named_signal_line s.0 (raw_text parameters s (raw_of bytes s.0))

-- what is written for a signal, which stands once in the message or doesn't
abbrev pub lines_of : Bool → List ℕ → List ℕ
lines_of stands line = if stands then line else []

with_first : (b : Bool) (parameters : NumberNames) (s : NamedSignal) (rest : List NamedSignal) (bytes : List ℕ)
    → named_signal_lines parameters (if b then s ∷ rest else rest) bytes ≡ lines_of b (read_line parameters bytes s) ++ named_signal_lines parameters rest bytes
unfolding named_signal_lines
with_first true parameters s rest bytes = refl
with_first false parameters s rest bytes = refl

-- one more signal is written
pub one_more_line : (parameters : NumberNames) (signals : List NamedSignal) (bytes old new all : List ℕ) (i : ℕ) (s : NamedSignal) → i < length signals
    → s ≡ get_or signals i s
    → new ≡ old ++ lines_of (stands_once (length bytes) s.0) (named_signal_line s.0 (raw_text parameters s (raw_of bytes s.0)))
    → old ++ named_signal_lines parameters (named_single_signals (length bytes) (drop i signals)) bytes ≡ all
    → new ++ named_signal_lines parameters (named_single_signals (length bytes) (drop (i + 1) signals)) bytes ≡ all
one_more_line parameters signals bytes old new all i s less here written before =
    let n : ℕ = length bytes in
    let rest : List NamedSignal = drop (i + 1) signals in
    let next : named_signal_lines parameters (named_single_signals n (drop i signals)) bytes
    ≡ lines_of (stands_once n s.0) (read_line parameters bytes s) ++ named_signal_lines parameters (named_single_signals n rest) bytes =
    ap (λ (xs : List NamedSignal). named_signal_lines parameters (named_single_signals n xs) bytes)
    (drop_more signals i s less ∙ ap (λ (t : NamedSignal). t ∷ rest) (sym here))
    ∙ with_first (stands_once n s.0) parameters s (named_single_signals n rest) bytes in
    rw (written, append_assoc) (rw next at before)

-- ---- records

abbrev moved : ℕ → NamedSignal → NamedSignal
moved behind s = (further behind s.0, s.1)

-- what is written for a signal of a record, if it is repeated
abbrev pub record_lines_of : Bool → List ℕ → List ℕ
record_lines_of repeated line = if repeated then line else []

with_record : (b : Bool) (parameters : NumberNames) (place behind : ℕ) (s : NamedSignal) (rest : List NamedSignal) (bytes : List ℕ)
    → named_record_lines parameters place (map (moved behind) (if b then s ∷ rest else rest)) bytes
    ≡ record_lines_of b (named_record_line place s.0 (raw_text parameters s (raw_of bytes (further behind s.0))))
    ++ named_record_lines parameters place (map (moved behind) rest) bytes
unfolding named_record_lines named_record_line raw_text named_state_text signal_state_text
with_record true parameters place behind s rest bytes = refl
with_record false parameters place behind s rest bytes = refl

pub one_more_record_line : (parameters : NumberNames) (place behind : ℕ) (signals : List NamedSignal) (bytes old new all : List ℕ) (i : ℕ) (s : NamedSignal)
    → i < length signals → s ≡ get_or signals i s
    → new ≡ old ++ record_lines_of s.0.repeated (named_record_line place s.0 (raw_text parameters s (raw_of bytes (further behind s.0))))
    → old ++ named_record_lines parameters place (named_record_signals behind (drop i signals)) bytes ≡ all
    → new ++ named_record_lines parameters place (named_record_signals behind (drop (i + 1) signals)) bytes ≡ all
one_more_record_line parameters place behind signals bytes old new all i s less here written before =
    let rest : List NamedSignal = drop (i + 1) signals in
    let line : List ℕ = record_lines_of s.0.repeated (named_record_line place s.0 (raw_text parameters s (raw_of bytes (further behind s.0)))) in
    let next : named_record_lines parameters place (named_record_signals behind (drop i signals)) bytes
    ≡ line ++ named_record_lines parameters place (named_record_signals behind rest) bytes =
    ap (λ (xs : List NamedSignal). named_record_lines parameters place (named_record_signals behind xs) bytes)
    (drop_more signals i s less ∙ ap (λ (t : NamedSignal). t ∷ rest) (sym here))
    ∙ with_record s.0.repeated parameters place behind s (filter (λ (t : NamedSignal). t.0.repeated) rest) bytes in
    rw (written, append_assoc) (rw next at before)

-- ---- a group

pub has_tables : (plan : Plan) (group : GroupPlan) (names : Option GroupNames) → AreGroupNames plan group names → HasTables group names
has_tables plan group None are = tt
has_tables plan group (Some names) are =
    let same = ap length are.0 in
    let count = group.meaning_count in
    omega (arith, same, count, length-map names.values.now names_in, length-map group.meanings.items meaning_names)

-- what a group reads by the names of its plan
pub reads_by : (plan : Plan) (group : GroupPlan) (names : Option GroupNames) (bytes : List ℕ) → AreGroupNames plan group names
    → (HasNoMeanings plan → named_reading_lines plan group bytes ≡ plain.reading_lines group bytes)
    → lines_by names group bytes ≡ named_reading_lines plan group bytes
reads_by plan group None bytes are alone = sym (alone are)
reads_by plan group (Some names) bytes are alone =
    ap (λ (f : NumberNames). named_lines f (named_by names.values.now group.signals.items) group bytes) are.1
    ∙ ap (λ (fs : List NumberNames). named_lines (parameter_names plan) (zip group.signals.items fs) group bytes) are.0
