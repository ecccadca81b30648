-- A higher level has a larger queue group.
use Rattle.std.proofs.Common.{◌≡◌, ℕ, ◌≤◌, ◌<◌, true, false, ◌||◌, ltb, List, All, Option, Some, None, get_or, arith, inl, inr}
use Rattle.std.proofs.lemmas.Bool.{or_cases, or_left, or_right, lt-ltb, ltb-true}
use Rattle.std.proofs.lemmas.List.Elements.{All-from_get_or, All-get_or}
use Rattle.std.specs.Option.{option_map_or}
use Rattle.std.specs.Prelude.{slice_index_or}
use Rattle.j39_load.specs.AnyQueues.{AreAtMost, IsLevel, are_of_unit, is_member, is_of_queue_group}
use Rattle.j39_load.specs.declared.frames.flow_frames.FlowFrames.{FlowFrames}

pub at_most_more : (leasts : List (Option ℕ)) (own : FlowFrames) (level a b : ℕ) → a ≤ b → (sent : Option FlowFrames)
    → AreAtMost leasts own level a sent → AreAtMost leasts own level b sent
at_most_more leasts own level a b le None most = most
at_most_more leasts own level a b le (Some x) most = λ is. let one : x.last_ident ≤ a = most is in omega arith

pub all_at_most_more : (leasts : List (Option ℕ)) (own : FlowFrames) (level a b : ℕ) → a ≤ b → (all : List (Option FlowFrames))
    → All (AreAtMost leasts own level a) all → All (AreAtMost leasts own level b) all
all_at_most_more leasts own level a b le all most = All-from_get_or (AreAtMost leasts own level b) all None (λ k inside.
    at_most_more leasts own level a b le (get_or all k None) (All-get_or (AreAtMost leasts own level a) all k None inside most))

module _ (leasts : List (Option ℕ)) (own : FlowFrames) (a b : ℕ) (le : a ≤ b) where
  member_of : (u : ℕ) (least : Option ℕ) → option_map_or (λ (low : ℕ). are_of_unit own u || ltb low a) least false ≡ true
      → option_map_or (λ (low : ℕ). are_of_unit own u || ltb low b) least false ≡ true
  member_of u None is = is
  member_of u (Some low) is = elim (or_cases (are_of_unit own u) (ltb low a) is) [
    | inl its ↦ or_left (are_of_unit own u) (ltb low b) its
    | inr below ↦
        let less : low < a = ltb-true low a below in
        or_right (are_of_unit own u) (ltb low b) (lt-ltb low b (omega arith))
  ]

  member_more : (u : ℕ) → is_member leasts own a u ≡ true → is_member leasts own b u ≡ true
  member_more u is = member_of u (slice_index_or leasts u None) is

  end_more : (place : Option ℕ) → option_map_or (is_member leasts own a) place false ≡ true
      → option_map_or (is_member leasts own b) place false ≡ true
  end_more None is = is
  end_more (Some v) is = member_more v is

  queue_group_more : (x : FlowFrames) → is_of_queue_group leasts own a x ≡ true → is_of_queue_group leasts own b x ≡ true
  queue_group_more x is =
      elim (or_cases (option_map_or (is_member leasts own a) x.any_sender false) (option_map_or (is_member leasts own a) x.any_receiver false) is) [
        | inl sends ↦
            or_left (option_map_or (is_member leasts own b) x.any_sender false) (option_map_or (is_member leasts own b) x.any_receiver false)
            (end_more x.any_sender sends)
        | inr answers ↦
            or_right (option_map_or (is_member leasts own b) x.any_sender false) (option_map_or (is_member leasts own b) x.any_receiver false)
            (end_more x.any_receiver answers)
      ]

  one_at_most : (most : ℕ) (sent : Option FlowFrames) → AreAtMost leasts own b most sent → AreAtMost leasts own a most sent
  one_at_most most None known = known
  one_at_most most (Some x) known = λ is. known (queue_group_more x is)

-- what the queue group up to a level reaches is within each higher level
pub within_level : (leasts : List (Option ℕ)) (all : List (Option FlowFrames)) (own : FlowFrames) (level other : ℕ) → level ≤ other
    → IsLevel leasts all own other → All (AreAtMost leasts own level other) all
within_level leasts all own level other le is = All-from_get_or (AreAtMost leasts own level other) all None (λ k inside.
    one_at_most leasts own level other le other (get_or all k None) (All-get_or (AreAtMost leasts own other other) all k None inside is.queue_group))
