-- What is true of the signals and the texts of a group that was read.
use Rattle.std.proofs.Common.{◌≡◌, ◌≢◌, ℕ, suc, Bool, false, List, [], ◌∷◌, ◌++◌, ◌||◌, ◌≤◌, All, AllPairs, map, refl, inr, sym, subst, ◌∙◌, arith}
use Rattle.std.proofs.lemmas.Bool.{or_parts}
use Rattle.std.proofs.lemmas.List.{length-map, get_or-map}
use Rattle.std.proofs.lemmas.List.Elements.{All-cons}
use Rattle.toml.specs.Data.{Data, Items, no_items, item, Members}
use Rattle.j39_signal.specs.declared.signal_parts.SignalParts.{SignalParts}
use Rattle.j39_network.specs.PlanLimits.{text_limit}
use Rattle.j39_network.specs.declared.plan.text_plan.TextPlan.{TextPlan}
use Rattle.j39_plan.specs.declared.reading.version.Version.{Version}
use Rattle.j39_plan.specs.declared.reading.version.Version.TheVariants.{First, Second, Third, Fourth}
use Rattle.j39_plan.specs.declared.reading.place.Table.TheVariants as at
use Rattle.j39_plan.specs.declared.reading.text_kind.TextKind.TheVariants as texts
use Rattle.j39_plan.specs.declared.reading.key.Key.TheVariants as key
use Rattle.j39_toml.specs.Rules.{items_count}
use Rattle.j39_toml.specs.InOrder.{each_faults, Each, labels_of, EachGrows}
use Rattle.j39_plan.specs.LabelsSeen.{is_label_among, label_in}
use Rattle.j39_plan.specs.SignalTables.{IsMeaningOf, IsSignalOf, IsFit, signal_faults}
use Rattle.j39_plan.specs.Growing.{SignalGrows}
use Rattle.j39_plan.specs.declared.reading.signals.PlannedSignal.{PlannedSignal}
use Rattle.j39_network.specs.declared.plan.meaning.Meaning.{Meaning}
use Rattle.j39_plan.specs.TextTables.{IsTextOf, text_faults}
use Rattle.j39_plan.specs.GroupTables.{text_tables_of}
use Rattle.j39_plan.proofs.Labelled.{is_among_both}
use Rattle.j39_plan.proofs.NoFaults.{Each-map, none_left, none_right, fresh_label, labels_apart, labels_stated, apart_from, tables_count}

abbrev pub IsRead : Version → Bool → Data → SignalParts → Type 0
IsRead version records d s = IsSignalOf version d s × IsFit records s

fresh_signal : (version : Version) (records : Bool) (g i : ℕ) (seen : List (List ℕ)) (d : Data) (s : SignalParts) → IsRead version records d s
    → signal_faults version records g i seen d ≡ []
    → is_label_among seen (label_in d) ≡ false
unfolding signal_faults
fresh_signal version records g i seen d s read none =
    fresh_label (at.Signal g i) texts.Label seen (label_in d) (rw (← read.0.has_label) read.1.label_form) (none_right _ _ none)

pub signals_apart : (version : Version) (records : Bool) (g : ℕ) (ds : Items) (xs : List SignalParts) → Each (IsRead version records) ds xs
    → each_faults (signal_faults version records g) label_in 0 [] ds ≡ [] → AllPairs (λ s t. s.label.bytes ≢ t.label.bytes) xs
signals_apart version records g ds xs each none =
    labels_apart (IsRead version records) (signal_faults version records g) label_in (λ s. s.label.bytes) (λ d s read. read.0.has_label)
    (fresh_signal version records g) ds xs each none

-- a signal with what is said of it besides
abbrev pub IsPlanned : Version → Bool → Data → PlannedSignal → Type 0
IsPlanned version records d x = IsRead version records d x.signal × IsMeaningOf version d x.meaning

pub signals_read : (version : Version) (records : Bool) (ds : Items) (xs : List PlannedSignal) (signals : List SignalParts)
    → signals ≡ map (λ x. x.signal) xs → Each (IsPlanned version records) ds xs → Each (IsRead version records) ds signals
signals_read version records ds xs signals are each =
    rw are (Each-map (λ x. x.signal) (IsPlanned version records) (IsRead version records) (λ d x is. is.0) ds xs each)

pub meanings_read : (version : Version) (records : Bool) (ds : Items) (xs : List PlannedSignal) (meanings : List Meaning)
    → meanings ≡ map (λ x. x.meaning) xs → Each (IsPlanned version records) ds xs → Each (IsMeaningOf version) ds meanings
meanings_read version records ds xs meanings are each =
    rw are (Each-map (λ x. x.meaning) (IsPlanned version records) (IsMeaningOf version) (λ d x is. is.1) ds xs each)

grows_at : (version : Version) (records : Bool) (g : ℕ) (ds : Items) (xs : List PlannedSignal) → xs ≢ [] → Each (IsPlanned version records) ds xs
    → each_faults (signal_faults version records g) label_in 0 [] ds ≡ []
    → EachGrows (signal_faults version records g) (SignalGrows version records g) ds
unfolding Each each_faults
grows_at version records g no_items [] some each none = absurd (some refl)
grows_at version records g no_items (x ∷ xs) some each none = absurd each
grows_at version records g (item d ds) xs some each none = inr (none_left _ _ none)

-- elements without faults of which room was asked for
pub grows_among : (version : Version) (records has : Bool) (g : ℕ) (ds all : Items) (xs : List PlannedSignal) → records ≡ has → ds ≡ all → xs ≢ []
    → Each (IsPlanned version records) ds xs → each_faults (signal_faults version records g) label_in 0 [] ds ≡ []
    → EachGrows (signal_faults version has g) (SignalGrows version has g) all
grows_among version records has g ds all xs is same some each none =
    let Of : Bool → Type 0 = λ r. EachGrows (signal_faults version r g) (SignalGrows version r g) ds in
    let In : Items → Type 0 = λ items. EachGrows (signal_faults version has g) (SignalGrows version has g) items in
    subst In same (subst Of is (grows_at version records g ds xs some each none))

-- the labels of signals
abbrev pub signal_texts : List SignalParts → List (List ℕ)
signal_texts = map (λ s. s.label.bytes)

-- those of signals that were read are those of the file
pub signal_texts_stated : (version : Version) (records : Bool) (ds : Items) (xs : List SignalParts) → Each (IsRead version records) ds xs
    → signal_texts xs ≡ labels_of label_in ds
signal_texts_stated version records = labels_stated (IsRead version records) label_in (λ s. s.label.bytes) (λ d s read. read.0.has_label)

-- ---- texts

pub texts_count : (version : Version) (ms : Members) → items_count (text_tables_of version ms) ≤ text_limit
texts_count Third ms = tables_count key.Text text_limit ms
texts_count Fourth ms = tables_count key.Text text_limit ms
texts_count First ms = omega arith
texts_count Second ms = omega arith

-- a text without a fault has a label that neither a signal nor a text before it has
fresh_text : (taken : List (List ℕ)) (g i : ℕ) (seen : List (List ℕ)) (d : Data) (t : TextPlan) → IsTextOf d t → text_faults taken g i seen d ≡ []
    → (is_label_among taken (label_in d) || is_label_among seen (label_in d)) ≡ false
unfolding text_faults
fresh_text taken g i seen d t is none =
    sym (is_among_both taken seen (label_in d))
    ∙ fresh_label (at.Text g i) texts.Label (taken ++ seen) (label_in d) (rw (← is.has_label) t.label_form) (none_right _ _ none)

pub texts_apart : (taken : List (List ℕ)) (g : ℕ) (ds : Items) (xs : List TextPlan) → Each IsTextOf ds xs
    → each_faults (text_faults taken g) label_in 0 [] ds ≡ [] → AllPairs (λ s t. s.label.bytes ≢ t.label.bytes) xs
texts_apart taken g ds xs each none =
    labels_apart IsTextOf (text_faults taken g) label_in (λ t. t.label.bytes) (λ d t is. is.has_label)
    (λ i seen d t is here. (or_parts _ _ (fresh_text taken g i seen d t is here)).1) ds xs each none

apart_signals : (label : List ℕ) (signals : List SignalParts) → All (λ l. l ≢ label) (signal_texts signals)
    → All (λ s. s.label.bytes ≢ label) signals
apart_signals label signals apart k d below =
    let at = get_or-map (λ (s : SignalParts). s.label.bytes) signals k d d.label.bytes below in
    rw (← at) (apart k d.label.bytes (rw length-map below))

-- texts without faults have labels that no signal has
pub texts_beside : (signals : List SignalParts) (g i : ℕ) (seen : List (List ℕ)) (ds : Items) (xs : List TextPlan) → Each IsTextOf ds xs
    → each_faults (text_faults (signal_texts signals) g) label_in i seen ds ≡ []
    → All (λ t. All (λ s. s.label.bytes ≢ t.label.bytes) signals) xs
unfolding Each each_faults
texts_beside signals g i seen no_items [] each none = λ k d below. absurd (omega arith)
texts_beside signals g i seen no_items (x ∷ xs) each none = absurd each
texts_beside signals g i seen (item d ds) [] each none = absurd each
texts_beside signals g i seen (item d ds) (x ∷ xs) each none =
    let taken = signal_texts signals in
    let fresh = (or_parts _ _ (fresh_text taken g i seen d x each.0 (none_left _ _ none))).0 in
    let here = apart_signals (label_in d) signals (apart_from taken (label_in d) fresh) in
    All-cons (λ t. All (λ s. s.label.bytes ≢ t.label.bytes) signals) x xs (rw (each.0.has_label) here)
    (texts_beside signals g (suc i) (seen ++ label_in d ∷ []) ds xs each.1 (none_right _ _ none))
