-- Plans without the keys of version 3.
use Rattle.std.proofs.Common.{◌≡◌, ℕ, suc, ◌+◌, ℤ, ◌==◌, Bool, true, false, not, ◌&&◌, ◌||◌, cond, if◌then◌else◌, nat_le, List, [], ◌∷◌, ◌++◌, length, codes}
use Rattle.std.proofs.Common.{Option, Some, None, All as AllOf, refl, sym, ap, ◌∙◌, inl, inr, arith}
use Rattle.std.specs.Fmt.{signed_decimal}
use Rattle.std.specs.List.{position_from}
use Rattle.std.proofs.lemmas.Iterator.Adapters.{position_from-zero}
use Rattle.std.proofs.lemmas.Bool.{false≢true}
use Rattle.std.proofs.lemmas.List.{append-nil}
use Rattle.std.proofs.lemmas.List.Elements.{All-head, All-tail}
use Rattle.std.proofs.Math.Bool.{and-true}
use Rattle.j39_signal.specs.declared.kind.Kind.{Kind}
use Rattle.j39_signal.specs.declared.signal_parts.SignalParts.{SignalParts}
use Rattle.j39_signal.specs.Selectors.{is_selected}
use Rattle.j39_signal.specs.declared.selector.Selector.{Selector}
use Rattle.j39_network.proofs.Lengths.{same_length}
use Rattle.j39_network.specs.Records.{single_signals}
use Rattle.j39_network.specs.declared.plan.group_plan.GroupPlan.{GroupPlan}
use Rattle.j39_network.specs.declared.plan.text_plan.TextPlan.{TextPlan}
use Rattle.j39_text.specs.Decimals.{quotient_text}
use Rattle.j39_text.specs.Texts.{field_text}
use Rattle.j39_text.proofs.Quotients.{undivided}
use Rattle.j39_log.specs.LogFrames.{is_planned_as}
use Rattle.j39_log.specs.LogReports.{all_records_lines, group_line, group_report, reading_lines, scaled_text, signal_lines, signal_state_text, signal_unit_text}
use Rattle.j39_log.specs.LogReports.{value_text}
use Rattle.j39_log.specs.TextLines.{text_lines}
use Rattle.j39_log.specs.OlderPlans.{GroupsAreFoundByNumber, IsOlderKind, SignalsAlone, ValuesAreShownWhole, has_number_and_length}

shared : (group : GroupPlan) (pgn : ℕ) (bytes : List ℕ) → group.private ≡ false → group.when ≡ None → group.most ≡ group.length
    → is_planned_as pgn bytes group ≡ has_number_and_length pgn (length bytes) group
shared group pgn bytes own any one =
    let n : ℕ = length bytes in
    ap (λ (b : Bool). (not b && group.pgn == pgn) && (nat_le group.length n && (nat_le n group.most && is_selected group.when bytes))) own
    ∙ ap (λ (w : Option Selector). group.pgn == pgn && (nat_le group.length n && (nat_le n group.most && is_selected w bytes))) any
    ∙ ap (λ (b : Bool). group.pgn == pgn && (nat_le group.length n && b)) (and-true (nat_le n group.most))
    ∙ ap (λ (m : ℕ). group.pgn == pgn && (nat_le group.length n && nat_le n m)) one
    ∙ ap (λ (b : Bool). group.pgn == pgn && b) (same_length group.length n)

found_from : (pgn : ℕ) (bytes : List ℕ) (i : ℕ) (groups : List GroupPlan) → AllOf (λ (group : GroupPlan). group.private ≡ false) groups
    → AllOf (λ (group : GroupPlan). group.when ≡ None) groups → AllOf (λ (group : GroupPlan). group.most ≡ group.length) groups
    → position_from (is_planned_as pgn bytes) i groups ≡ position_from (has_number_and_length pgn (length bytes)) i groups
found_from pgn bytes i [] none any one = refl
found_from pgn bytes i (group ∷ groups) none any one =
    ap (λ (b : Bool). cond b (Some i) (position_from (is_planned_as pgn bytes) (i + 1) groups))
    (shared group pgn bytes (none 0 group (omega arith)) (any 0 group (omega arith)) (one 0 group (omega arith)))
    ∙ ap (λ (o : Option ℕ). cond (has_number_and_length pgn (length bytes) group) (Some i) o) (found_from pgn bytes (i + 1) groups
    (λ k d less. none (suc k) d (omega (arith, less))) (λ k d less. any (suc k) d (omega (arith, less)))
    (λ k d less. one (suc k) d (omega (arith, less))))

pub by_number : GroupsAreFoundByNumber
by_number plan pgn bytes none any one =
    position_from-zero (is_planned_as pgn bytes) plan.groups.items ∙ found_from pgn bytes 0 plan.groups.items none any one
    ∙ sym (position_from-zero (has_number_and_length pgn (length bytes)) plan.groups.items)

scaled : (kind : Kind) (per : ℕ) (unit : List ℕ) (v : ℤ) → IsOlderKind kind → value_text kind per unit v ≡ scaled_text per unit v
unfolding value_text
scaled kind per unit v (inl measured) = rw measured refl
scaled kind per unit v (inr (inl discrete)) = rw discrete refl
scaled kind per unit v (inr (inr raw)) = rw raw refl

whole : (per : ℕ) (unit : List ℕ) (v : ℤ) → per ≡ 1 → scaled_text per unit v ≡ field_text (codes " value ") (signed_decimal v) ++ signal_unit_text unit
unfolding scaled_text
whole per unit v one =
    ap (λ (n : ℕ). field_text (codes " value ") (quotient_text n v) ++ signal_unit_text unit) one
    ∙ ap (λ (digits : List ℕ). field_text (codes " value ") digits ++ signal_unit_text unit) (undivided v)

pub shown_whole : ValuesAreShownWhole
unfolding signal_state_text
shown_whole s v older one = scaled s.kind s.per s.unit.bytes v older ∙ whole s.per s.unit.bytes v one

no_lines : (texts : List TextPlan) (bytes : List ℕ) → texts ≡ [] → text_lines texts bytes ≡ []
unfolding text_lines
no_lines texts bytes none = rw none refl

no_records : (group : GroupPlan) (bytes : List ℕ) → group.every ≡ None → all_records_lines group bytes ≡ []
unfolding all_records_lines
no_records group bytes none = rw none refl

stands : (r o t : Bool) (s : SignalParts) (xs ys : List SignalParts) → r ≡ false → o ≡ false → xs ≡ ys
    → (if not r && (not o || t) then s ∷ xs else xs) ≡ s ∷ ys
stands true o t s xs ys once always same = absurd (false≢true (sym once))
stands false true t s xs ys once always same = absurd (false≢true (sym always))
stands false false t s xs ys once always same = ap (λ (others : List SignalParts). s ∷ others) same

-- each signal is there, and none is repeated
all_stand : (bytes : ℕ) (signals : List SignalParts) → AllOf (λ s. s.repeated ≡ false) signals → AllOf (λ s. s.optional ≡ false) signals
    → single_signals bytes signals ≡ signals
all_stand bytes [] once always = refl
all_stand bytes (s ∷ rest) once always =
    stands s.repeated s.optional _ s _ _ (All-head (λ t. t.repeated ≡ false) s rest once) (All-head (λ t. t.optional ≡ false) s rest always)
    (all_stand bytes rest (All-tail (λ t. t.repeated ≡ false) s rest once) (All-tail (λ t. t.optional ≡ false) s rest always))

pub signals_alone : SignalsAlone
unfolding group_report reading_lines
signals_alone group i bytes single none always =
    let signals = signal_lines (single_signals (length bytes) group.signals.items) bytes in
    ap (λ (lines : List ℕ). group_line group i bytes ++ (signals ++ (lines ++ text_lines group.texts.items bytes))) (no_records group bytes single)
    ∙ ap (λ (lines : List ℕ). group_line group i bytes ++ (signals ++ lines)) (no_lines group.texts.items bytes none)
    ∙ ap (λ (lines : List ℕ). group_line group i bytes ++ lines) (append-nil signals)
    ∙ ap (λ (all : List SignalParts). group_line group i bytes
    ++ signal_lines all bytes) (all_stand (length bytes) group.signals.items (group.every_needed single) always)
