use Rattle.std.proofs.Common.{◌<◌, ◌≡◌, ℕ, List, length}
use Rattle.j39_id.specs.declared.frame.Frame.{Frame}
use Rattle.j39_follow.specs.Who.{IsWho}
use Rattle.j39_follow.specs.inside.Recounting.{Recounts, party_at}
use Rattle.j39_follow.proofs.address.directory.parties_of.Given as goal

abbrev pub invariant-loop-address : goal.invariant-loop-address
invariant-loop-address l = (length l.parties ≡ 256)
    × ((frames : List Frame) → Recounts l.plan l.holders frames
    → (a : ℕ) → a < l.address → IsWho l.plan frames a (party_at l.parties a))
