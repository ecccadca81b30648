-- What a tally counts.
use Rattle.std.specs.Prelude.{◌≡◌, ◌<◌, ℕ, true, List, Some, count_by, length, slice_index_or}
use Rattle.std.specs.List.{slice_get}
use Rattle.j39_network.specs.declared.plan.Plan.{Plan}
use Rattle.j39_network.specs.declared.plan.group_plan.GroupPlan.{GroupPlan}
use Rattle.j39_follow.specs.FollowText.{is_first_of, is_of_flow, is_other, is_without_flow}
use Rattle.j39_follow.specs.declared.message.Sort.{Sort}
use Rattle.j39_follow.specs.declared.flow.tally.Tally.{Tally}

abbrev pub tally_at : List ℕ → ℕ → ℕ
tally_at counts place = slice_index_or counts place 0

-- the counts are those of what was sent
pub record IsTally (plan : Plan) (tally : Tally) (sent : List Sort) : Type 0 where
  pub flows : (n : ℕ) → n < length plan.flows.items → tally_at tally.flows n ≡ count_by (is_of_flow n) sent
  pub groups : (g : ℕ) → g < length plan.groups.items → tally_at tally.groups g ≡ count_by (is_without_flow g) sent
  pub others : (g : ℕ) (group : GroupPlan) → slice_get plan.groups.items g ≡ Some group → is_first_of plan g group ≡ true
      → tally_at tally.others g ≡ count_by (is_other group.pgn) sent
