use Rattle.std.proofs.Common.{◌≡◌, [], IsTrue, false, is_some, refl, inl, inr, ap, sym, ◌∙◌, ℕ, List}
use Rattle.std.proofs.lemmas.List.{length-map}
use Rattle.std.proofs.lemmas.Result.{err_from_is_err_and}
use Rattle.toml.specs.View.{items_view}
use Rattle.j39_id.specs.LabelForm.{is_label}
use Rattle.j39_network.specs.PlanLimits.{signal_limit}
use Rattle.j39_signal.specs.Parts.{IsDivisor, IsSignal}
use Rattle.j39_plan.specs.declared.reading.key.Key.TheVariants as key
use Rattle.j39_toml.specs.InOrder.{each_faults, Each, NeverGrows, EachGrows}
use Rattle.j39_plan.specs.LabelsSeen.{label_in}
use Rattle.j39_toml.specs.Outcome.{FailsGrowing}
use Rattle.j39_plan.specs.SignalTables.{IsSignalOf}
use Rattle.j39_plan.specs.TextTables.{IsTextOf, text_faults}
use Rattle.j39_plan.specs.GroupTables.{group_table_faults}
use Rattle.j39_toml.proofs.FirstFaults.{fails_on, first-append}
use Rattle.j39_plan.proofs.NoFaults.{tables_count, length-Each, All-from_Each, Each-weaken}
use Rattle.j39_plan.proofs.ReadGroups.{IsRead, grows_among, meanings_read, signals_read, signals_apart, signal_texts, signal_texts_stated, texts_apart}
use Rattle.j39_plan.proofs.ReadGroups.{texts_beside, texts_count}
use Rattle.j39_plan.proofs.reading.groups.group.Goals as goal

pub invariant_of-result-clause-signal_count : goal.invariant_of-result-clause-signal_count
invariant_of-result-clause-signal_count c =
    rw (
      length-Each _ _ _ (signals_read c.args.version c.is_some-records.result _ _ _ c.in_ok-parts.ensures.signals c.in_ok-planned.ensures.gives.1),
      c.in_ok-arrays.ensures.1.0,
    ) (tables_count key.Signal signal_limit _)

pub invariant_of-result-clause-meaning_count : goal.invariant_of-result-clause-meaning_count
invariant_of-result-clause-meaning_count c =
    rw (c.in_ok-parts.ensures.meanings, c.in_ok-parts.ensures.signals)
    (length-map c.in_ok-planned.planned.items (λ x. x.meaning) ∙ sym (length-map c.in_ok-planned.planned.items (λ x. x.signal)))

pub invariant_of-result-clause-signal_forms : goal.invariant_of-result-clause-signal_forms
invariant_of-result-clause-signal_forms c =
    All-from_Each (IsRead c.args.version c.is_some-records.result) (λ s. IsTrue (is_label s.label.bytes)) (λ d s read. read.1.label_form) _ _
    (signals_read c.args.version c.is_some-records.result _ _ _ c.in_ok-parts.ensures.signals c.in_ok-planned.ensures.gives.1)

pub invariant_of-result-clause-signal_ranges : goal.invariant_of-result-clause-signal_ranges
invariant_of-result-clause-signal_ranges c =
    All-from_Each (IsRead c.args.version c.is_some-records.result) (λ s. IsSignal s.start s.bits s.step s.offset) (λ d s read. read.1.ranges) _ _
    (signals_read c.args.version c.is_some-records.result _ _ _ c.in_ok-parts.ensures.signals c.in_ok-planned.ensures.gives.1)

pub invariant_of-result-clause-signal_divisors : goal.invariant_of-result-clause-signal_divisors
invariant_of-result-clause-signal_divisors c =
    All-from_Each (IsRead c.args.version c.is_some-records.result) (λ s. IsDivisor s.per) (λ d s read. read.1.divisor) _ _
    (signals_read c.args.version c.is_some-records.result _ _ _ c.in_ok-parts.ensures.signals c.in_ok-planned.ensures.gives.1)

pub invariant_of-result-clause-signal_labels : goal.invariant_of-result-clause-signal_labels
invariant_of-result-clause-signal_labels c =
    signals_apart c.args.version c.is_some-records.result c.args.index _ _
    (signals_read c.args.version c.is_some-records.result _ _ _ c.in_ok-parts.ensures.signals c.in_ok-planned.ensures.gives.1) c.in_ok-planned.ensures.gives.0

pub invariant_of-result-clause-text_count : goal.invariant_of-result-clause-text_count
invariant_of-result-clause-text_count c =
    rw (length-Each _ _ _ c.in_ok-texts.ensures.gives.1, c.in_ok-arrays.ensures.1.1) (texts_count c.args.version _)

pub invariant_of-result-clause-text_labels : goal.invariant_of-result-clause-text_labels
invariant_of-result-clause-text_labels c = texts_apart _ c.args.index _ _ c.in_ok-texts.ensures.gives.1 c.in_ok-texts.ensures.gives.0

pub invariant_of-result-clause-other_labels : goal.invariant_of-result-clause-other_labels
invariant_of-result-clause-other_labels c =
    texts_beside c.in_ok-parts.parts.0.items c.args.index 0 [] _ _ c.in_ok-texts.ensures.gives.1 (rw c.deref.ensures.value at c.in_ok-texts.ensures.gives.0)

pub invariant_of-result-clause-every_needed : goal.invariant_of-result-clause-every_needed
invariant_of-result-clause-every_needed c none =
    let single : c.is_some-records.result ≡ false = c.is_some-records.ensures ∙ ap is_some (sym c.distance-every.ensures ∙ none) in
    All-from_Each (IsRead c.args.version c.is_some-records.result) (λ s. s.repeated ≡ false) (λ d s read. read.1.single single) _ _
    (signals_read c.args.version c.is_some-records.result _ _ _ c.in_ok-parts.ensures.signals c.in_ok-planned.ensures.gives.1)

pub returns-in_err-planned : goal.returns-in_err-planned
unfolding group_table_faults
returns-in_err-planned c =
    let p = err_from_is_err_and c.from_residual-in_err-planned.result c.from_residual-in_err-planned.ensures.1 in
    let later = rw (c.in_ok-length.ensures.gives.1) at c.in_ok-later.ensures.gives in
    let when = rw (later.1.3) at c.in_ok-when.ensures in
    let records = c.is_some-records.ensures ∙ ap is_some later.1.2 in
    let fails = rw (records, c.in_ok-arrays.ensures.1.0) at c.in_err-planned.ensures.gives in
    rw (p.1, p.2, c.in_ok-only_known.ensures.0, c.in_ok-label.ensures.gives.0, c.in_ok-pgn.ensures.gives.0, c.in_ok-priority.ensures.gives.0)
    (rw (c.in_ok-length.ensures.gives.0, later.0, when.0, c.in_ok-arrays.ensures.0)
    (fails_on _ _ c.in_err-planned.field-0.0 _ _ (λ grows. (refl, inl grows)) (λ f is. first-append _ _ f is) fails))

pub returns-in_err-parts : goal.returns-in_err-parts
unfolding group_table_faults
returns-in_err-parts c =
    let p = err_from_is_err_and c.from_residual-in_err-parts.result c.from_residual-in_err-parts.ensures.1 in
    let later = rw (c.in_ok-length.ensures.gives.1) at c.in_ok-later.ensures.gives in
    let when = rw (later.1.3) at c.in_ok-when.ensures in
    let records = c.is_some-records.ensures ∙ ap is_some later.1.2 in
    let among = grows_among c.args.version c.is_some-records.result _ c.args.index _ _ _ records c.in_ok-arrays.ensures.1.0 c.in_err-parts.ensures.memory
    c.in_ok-planned.ensures.gives.1 c.in_ok-planned.ensures.gives.0 in
    rw (p.1, p.2, c.in_ok-only_known.ensures.0, c.in_ok-label.ensures.gives.0, c.in_ok-pgn.ensures.gives.0, c.in_ok-priority.ensures.gives.0)
    (rw (c.in_ok-length.ensures.gives.0, later.0, when.0, c.in_ok-arrays.ensures.0) (refl, inl among))

pub returns-in_err-texts : goal.returns-in_err-texts
unfolding group_table_faults
returns-in_err-texts c =
    let p = err_from_is_err_and c.from_residual-in_err-texts.result c.from_residual-in_err-texts.ensures.1 in
    let later = rw (c.in_ok-length.ensures.gives.1) at c.in_ok-later.ensures.gives in
    let when = rw (later.1.3) at c.in_ok-when.ensures in
    let records = c.is_some-records.ensures ∙ ap is_some later.1.2 in
    let ss = c.in_ok-parts.parts.0.items in
    let labels = signal_texts_stated c.args.version c.is_some-records.result _ ss
    (signals_read c.args.version c.is_some-records.result _ _ _ c.in_ok-parts.ensures.signals c.in_ok-planned.ensures.gives.1) in
    let none = rw (records, c.in_ok-arrays.ensures.1.0) at c.in_ok-planned.ensures.gives.0 in
    let ds = items_view c.in_ok-arrays.arrays.texts.now in
    let stated :
    FailsGrowing (EachGrows (text_faults (signal_texts ss) c.args.index) (NeverGrows {L = List ℕ}) ds) c.in_err-texts.field-0.0
    (each_faults (text_faults (signal_texts ss) c.args.index) label_in 0 [] ds) =
    rw c.deref.ensures.value at c.in_err-texts.ensures.gives in
    let fails = rw (labels, c.in_ok-arrays.ensures.1.0, c.in_ok-arrays.ensures.1.1) at stated in
    rw (p.1, p.2, c.in_ok-only_known.ensures.0, c.in_ok-label.ensures.gives.0, c.in_ok-pgn.ensures.gives.0, c.in_ok-priority.ensures.gives.0)
    (rw (c.in_ok-length.ensures.gives.0, later.0, when.0, c.in_ok-arrays.ensures.0, none)
    (fails_on _ _ c.in_err-texts.field-0.0 _ _ (λ grows. (refl, inr (refl, grows))) (λ f is. is) fails))

pub returns : goal.returns
unfolding group_table_faults
returns c =
    let later = rw (c.in_ok-length.ensures.gives.1) at c.in_ok-later.ensures.gives in
    let when = rw (later.1.3) at c.in_ok-when.ensures in
    let records = c.is_some-records.ensures ∙ ap is_some later.1.2 in
    let ss = c.in_ok-parts.parts.0.items in
    let labels = signal_texts_stated c.args.version c.is_some-records.result _ ss
    (signals_read c.args.version c.is_some-records.result _ _ _ c.in_ok-parts.ensures.signals c.in_ok-planned.ensures.gives.1) in
    let stated = rw c.in_ok-arrays.ensures.1.0 at (Each-weaken (IsRead c.args.version c.is_some-records.result) (IsSignalOf c.args.version)
    (λ d s read. read.0) _ _ (signals_read c.args.version c.is_some-records.result _ _ _ c.in_ok-parts.ensures.signals c.in_ok-planned.ensures.gives.1)) in
    let none = rw (records, c.in_ok-arrays.ensures.1.0) at c.in_ok-planned.ensures.gives.0 in
    let ds = items_view c.in_ok-arrays.arrays.texts.now in
    let read : (each_faults (text_faults (signal_texts ss) c.args.index) label_in 0 [] ds ≡ []) × Each IsTextOf ds c.in_ok-texts.texts.items =
    rw c.deref.ensures.value at c.in_ok-texts.ensures.gives in
    let meanings = rw c.in_ok-arrays.ensures.1.0 at
    (meanings_read c.args.version c.is_some-records.result _ _ _ c.in_ok-parts.ensures.meanings c.in_ok-planned.ensures.gives.1) in
    let texts = rw (labels, c.in_ok-arrays.ensures.1.0, c.in_ok-arrays.ensures.1.1) at read in (
      rw (c.in_ok-only_known.ensures.0, c.in_ok-label.ensures.gives.0, c.in_ok-pgn.ensures.gives.0, c.in_ok-priority.ensures.gives.0)
          (rw (c.in_ok-length.ensures.gives.0, later.0, when.0, c.in_ok-arrays.ensures.0, none) texts.0),
      record {
        has_label = c.in_ok-label.ensures.gives.1;
        has_pgn = c.in_ok-pgn.ensures.gives.1;
        has_priority = c.in_ok-priority.ensures.gives.1;
        has_length = c.in_ok-length.ensures.gives.1;
        has_private = later.1.0;
        has_most = later.1.1;
        has_every = c.distance-every.ensures ∙ later.1.2;
        has_when = when.1;
        has_signals = stated;
        has_meanings = meanings;
        has_texts = texts.1;
      },
    )
