-- Bytes that were written signal after signal are reported to be of their group.
use Rattle.std.proofs.Common.{◌≡◌, ℕ, zero, suc, ◌+◌, ◌*◌, ◌^◌, ◌<◌, ◌≤◌, true, eqb, leb, List, length, All, Option, Some, None}
use Rattle.std.proofs.Common.{refl, sym, ap, ◌∙◌, subst, inl, arith}
use Rattle.std.proofs.lemmas.Bool.{and_parts, leb-true}
use Rattle.std.specs.List.{slice_get}
use Rattle.j39_signal.specs.Bits.{bit, number_at}
use Rattle.j39_signal.specs.Laid.{IsSelectorBit}
use Rattle.j39_signal.specs.declared.signal_parts.SignalParts.{SignalParts}
use Rattle.j39_signal.specs.Places.{Covers}
use Rattle.j39_signal.specs.Selectors.{is_selected, selector_end}
use Rattle.j39_signal.specs.declared.selector.Selector.{Selector}
use Rattle.j39_findings.specs.Findings.{Clean}
use Rattle.j39_search.specs.ListPlaces.{ValueAt}
use Rattle.j39_network.specs.PrivateGroups.{CanBe}
use Rattle.j39_network.specs.Records.{signals_in}
use Rattle.j39_network.specs.declared.plan.Plan.{Plan}
use Rattle.j39_network.specs.declared.plan.flow_plan.FlowPlan.{FlowPlan}
use Rattle.j39_network.specs.declared.plan.group_plan.GroupPlan.{GroupPlan}
use Rattle.j39_findings.proofs.PrivateGroups.{one_fits}
use Rattle.j39_load.specs.ReadInTime.{AreWritten}
use Rattle.j39_load.specs.ReportedBytes.{IsStatedOf, LeaveSelector}
use Rattle.j39_load.proofs.ReadingInTime.{keeps, same_length}

-- payloads with the same bits at some places have the same number there
same_number : (a b : List ℕ) (start bits : ℕ) → ((j : ℕ) → start ≤ j → j < start + bits → bit a j ≡ bit b j) → number_at a start bits ≡ number_at b start bits
unfolding number_at
same_number a b start zero same = refl
same_number a b start (suc k) same =
    let before = same_number a b start k (λ j low high. same j low (omega (arith, high))) in
    let last = same (start + k) (omega arith) (omega arith) in
    ap (λ (n : ℕ). n + 2 ^ k * bit a (start + k)) before ∙ ap (λ (n : ℕ). number_at b start k + 2 ^ k * n) last

-- and where they have one length a selector takes both
same_taken : (a b : List ℕ) (selector : Option Selector) → length a ≡ length b
    → ((j : ℕ) → j < 8 * length b → IsSelectorBit selector j → bit a j ≡ bit b j) → is_selected selector b ≡ true → is_selected selector a ≡ true
same_taken a b None size same taken = refl
same_taken a b (Some w) size same taken =
    let parts = and_parts (leb (selector_end w) (8 * length b)) (eqb (number_at b w.start w.bits) w.value) taken in
    let inside : w.start + w.bits ≤ 8 * length b = leb-true (selector_end w) (8 * length b) parts.0 in
    let number : number_at a w.start w.bits ≡ number_at b w.start w.bits =
    same_number a b w.start w.bits (λ j low high. same j (omega (arith, high, inside)) (low, high)) in
    rw (size, number) taken

pub stated : (plan : Plan) → Clean plan → (f : ℕ) (flow : FlowPlan) (group : GroupPlan) → slice_get plan.flows.items f ≡ Some flow
    → slice_get plan.groups.items flow.group ≡ Some group → (bytes : List ℕ) → AreWritten group bytes → LeaveSelector group bytes
    → IsStatedOf plan flow group bytes
stated plan clean f flow group its at bytes w leave = record {
  fits = fits;
  alone = λ h other. one_fits plan clean group.pgn bytes flow.sender flow.to h flow.group other fits;
}
  where
    size : length bytes ≡ length w.start
    size = same_length plan clean flow.group group at bytes w

    free : (j : ℕ) → j < 8 * length w.start → IsSelectorBit group.when j → bit bytes j ≡ bit w.start j
    free j below of_selector =
        let out : All (λ (s : SignalParts). ¬ Covers s j) (signals_in group (length w.start)) =
        subst (λ (n : ℕ). All (λ (s : SignalParts). ¬ Covers s j) (signals_in group n)) size (leave j of_selector) in
        ap (λ (b : List ℕ). bit b j) (sym w.last) ∙ (keeps plan clean flow.group group at bytes w w.writes w.chain).free j below out

    taken : is_selected group.when bytes ≡ true
    taken = same_taken bytes w.start group.when size free w.blank.blank.selected

    fits : ValueAt (CanBe plan group.pgn bytes flow.sender flow.to) plan.groups.items flow.group
    fits = record {
      value = group;
      value_is = at;
      meets = record {
        number = refl;
        selected = taken;
        fits = (
          f,
          record {
            value = flow;
            value_is = its;
            meets = record {
              sends = record { value = group; value_is = at; meets = refl };
              from = refl;
              reaches = inl refl;
            };
          },
        );
      };
    }
