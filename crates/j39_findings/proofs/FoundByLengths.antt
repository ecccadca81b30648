-- Plans whose groups have one length each.
use Rattle.std.proofs.Common.{◌≡◌, ℕ, ◌+◌, ◌<◌, ◌≤◌, ◌⊎◌, List, Some, inl, inr, arith}
use Rattle.std.specs.List.{slice_get}
use Rattle.j39_id.specs.Limits.{frame_bytes}
use Rattle.j39_id.specs.Pgn.{pdu2_first, pf_of}
use Rattle.j39_search.specs.ListPlaces.{ValueAt}
use Rattle.j39_network.specs.PlannedFlows.{IsOneFrameToAll}
use Rattle.j39_findings.specs.Findings.{IsOutside}
use Rattle.j39_network.specs.Lengths.{HasOneLengthEach}
use Rattle.j39_findings.specs.FoundByLengths.{IsFoundByLengths}
use Rattle.j39_network.specs.TextPlaces.{last_byte}
use Rattle.j39_network.specs.declared.plan.Plan.{Plan}
use Rattle.j39_network.specs.declared.plan.group_plan.GroupPlan.{GroupPlan}
use Rattle.j39_network.specs.declared.plan.text_plan.TextPlan.{TextPlan}
use Rattle.j39_search.proofs.Members.{all_at}

-- of a value that meets one statement, another one that follows from it there
at_value : {A : Type 0} (P Q : A → Type 0) (xs : List A) (i : ℕ) → (v : ValueAt P xs i) → (P v.value → Q v.value) → ValueAt Q xs i
at_value P Q xs i v then = record { value = v.value; value_is = v.value_is; meets = then v.meets }

-- by the one length
abbrev IsOneFrame : GroupPlan → Type 0
IsOneFrame group = (pdu2_first ≤ pf_of group.pgn) × (group.length ≤ frame_bytes)

abbrev IsBeside : GroupPlan → TextPlan → Type 0
IsBeside group text = (group.length + 1 < text.byte) ⊎ (group.length < last_byte text)

outside_by : (group : GroupPlan) (text : TextPlan) → group.most ≡ group.length → IsOutside group text → IsBeside group text
outside_by group text same (inl begins) = inl begins
outside_by group text same (inr ends) = let less : group.length < last_byte text = omega (arith, same, ends) in inr less

outside_now : (group : GroupPlan) (text : TextPlan) → group.most ≡ group.length → IsBeside group text → IsOutside group text
outside_now group text same (inl begins) = inl begins
outside_now group text same (inr ends) = let less : group.most < last_byte text = omega (arith, same, ends) in inr less

length_at : (plan : Plan) → HasOneLengthEach plan → (g : ℕ) (group : GroupPlan) → slice_get plan.groups.items g ≡ Some group
    → group.most ≡ group.length
length_at plan one = all_at (λ group. group.most ≡ group.length) plan.groups.items one

pub found_by_lengths : (plan : Plan) → HasOneLengthEach plan → IsFoundByLengths plan
found_by_lengths plan one = record {
  to_one = λ f. (
    λ v. at_value _ _ plan.flows.items f v (λ both. (
      both.0,
      at_value IsOneFrameToAll IsOneFrame plan.groups.items v.value.group both.1
          (λ frame. (frame.0, omega (arith, frame.1, length_at plan one v.value.group both.1.value both.1.value_is))),
    )),
    λ v. at_value _ _ plan.flows.items f v (λ both. (
      both.0,
      at_value IsOneFrame IsOneFrameToAll plan.groups.items v.value.group both.1
          (λ frame. (frame.0, omega (arith, frame.1, length_at plan one v.value.group both.1.value both.1.value_is))),
    )),
  );
  texts = λ g t. (
    λ v. at_value _ _ plan.groups.items g v (λ at. at_value _ _ v.value.texts.items t at
        (outside_by v.value at.value (length_at plan one g v.value v.value_is))),
    λ v. at_value _ _ plan.groups.items g v (λ at. at_value _ _ v.value.texts.items t at
        (outside_now v.value at.value (length_at plan one g v.value v.value_is))),
  );
}
