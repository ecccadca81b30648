-- What a bus keeps of the long messages to all, in the plan's own words: a unit sends one at a time, its packets a gap apart, and behind the one
-- that is under way one message of each flow waits at most (SAE J1939-21, ISO 11783-3).
use Rattle.std.specs.Prelude.{◌≡◌, ◌≢◌, ℕ, ◌+◌, ◌*◌, ◌<◌, ◌≤◌, ◌⊎◌, Bool, true, Some}
use Rattle.std.specs.List.{slice_get}
use Rattle.j39_network.specs.declared.plan.Plan.{Plan}
use Rattle.j39_network.specs.declared.plan.flow_plan.FlowPlan.{FlowPlan}
use Rattle.j39_network.specs.declared.plan.group_plan.GroupPlan.{GroupPlan}
use Rattle.j39_network.specs.declared.plan.pace.Pace.{Pace}
use Rattle.j39_network.specs.declared.plan.timing.Timing.{Timing}
use Rattle.j39_network.specs.declared.plan.to.To.TheVariants.{All}
use Rattle.j39_load.specs.SentFrames.{Broadcasts, FrameSources, HasPeriodMs, Held, IsMsBehind, IsToAllBy, IsWithinUnitMs, Announcing, Carrying}
use Rattle.j39_timing.specs.Messages.{frame_end}
use Rattle.j39_timing.specs.TimedFrames.{Schedule}
use Rattle.j39_timing.specs.Traffic.{PlannedFramesWait}

-- the unit's message of this number is one of its flow to all
pub record IsMessageToAll (plan : Plan) (timing : Timing) (b : Broadcasts) (u m : ℕ) : Type 0 where
  pub flow : FlowPlan
  pub its : slice_get plan.flows.items (b.flow u m) ≡ Some flow
  pub from : flow.sender ≡ u
  pub to_all : flow.to ≡ All
  pub pace : Pace
  pub paced : flow.pace ≡ Some pace
  pub group : GroupPlan
  pub of : slice_get plan.groups.items flow.group ≡ Some group
  pub long : 8 < group.most
  -- it has two packets at least, which carry its bytes, seven each: as many as the shortest message of the group has, or more, and no more than the
  -- longest has
  pub two : 2 ≤ b.packets u m
  pub shortest : group.length ≤ 7 * b.packets u m
  pub longest : 7 * b.packets u m < group.most + 7
  -- it is wanted at its release, or as much behind it as the jitter allows, and announced then or later
  pub release_first : b.release u m ≤ b.wanted u m
  pub jitter_at_most : IsWithinUnitMs timing pace.jitter (b.release u m) (b.wanted u m)
  pub wanted_first : b.wanted u m ≤ b.announced u m

-- two messages of the unit are of one flow, the second behind the first
abbrev pub ComeFromOneFlow : Broadcasts → ℕ → ℕ → ℕ → Type 0
ComeFromOneFlow b u m n = (m < n) × (n < b.count u) × (b.flow u m ≡ b.flow u n)

pub record KeepsBroadcasts (plan : Plan) (timing : Timing) (s : Schedule) (planned : ℕ → Bool) (sent : FrameSources) : Type 0 where
  pub messages : (u m : ℕ) → m < sent.broadcasts.count u → IsMessageToAll plan timing sent.broadcasts u m
  -- the releases of two messages of a flow are a period apart, unless it comes only as an answer, and one of them waits at most: where the next one is
  -- wanted it has been announced
  pub apart : (u m n ms : ℕ) → ComeFromOneFlow sent.broadcasts u m n → HasPeriodMs plan (sent.broadcasts.flow u m) ms
      → IsMsBehind timing ms (sent.broadcasts.release u m) (sent.broadcasts.release u n)
  pub one_waits : (u m n : ℕ) → ComeFromOneFlow sent.broadcasts u m n → sent.broadcasts.announced u m ≤ sent.broadcasts.wanted u n
  -- between two announcements of a unit lie as many gaps as the first message has packets
  pub in_turn : (u m n : ℕ) → m < n → n < sent.broadcasts.count u
      → IsMsBehind timing (sent.broadcasts.packets u m * timing.broadcast_gap) (sent.broadcasts.announced u m) (sent.broadcasts.announced u n)
  -- a message is announced once
  pub announced : (p u m : ℕ) → p < s.count → planned p ≡ true → sent.source p ≡ Announcing u m → s.queued p ≡ sent.broadcasts.announced u m
  pub once : (p q u m : ℕ) → p < s.count → q < s.count → planned p ≡ true → planned q ≡ true → sent.source p ≡ Announcing u m
      → sent.source q ≡ Announcing u m → p ≡ q
  -- each packet is sent once, behind its own announcement and before that of the next message
  pub carried : (p q u m k : ℕ) → p < s.count → q < s.count → planned p ≡ true → planned q ≡ true → sent.source p ≡ Carrying u m k
      → sent.source q ≡ Carrying u m k → p ≡ q
  pub behind : (p u m k : ℕ) → p < s.count → planned p ≡ true → sent.source p ≡ Carrying u m k → sent.broadcasts.announced u m ≤ s.queued p
  pub before : (p u m k n : ℕ) → p < s.count → planned p ≡ true → sent.source p ≡ Carrying u m k → m < n → n < sent.broadcasts.count u
      → s.queued p ≤ sent.broadcasts.announced u n
  -- packets of a unit are a gap apart
  pub gaps : (p q u m n j k : ℕ) → p < s.count → q < s.count → p ≢ q → planned p ≡ true → planned q ≡ true → sent.source p ≡ Carrying u m j
      → sent.source q ≡ Carrying u n k → IsMsBehind timing timing.broadcast_gap (s.queued p) (s.queued q)
      ⊎ IsMsBehind timing timing.broadcast_gap (s.queued q) (s.queued p)

-- and what is asked for the times within which these messages are whole
pub record KeepsTurns (s : Schedule) (planned : ℕ → Bool) (sent : FrameSources) (held : Held) : Type 0 where
  -- of two such frames of a unit one is queued after the end of the other
  pub one_by_one : (p q u : ℕ) → p < s.count → q < s.count → p ≢ q → planned p ≡ true → planned q ≡ true → IsToAllBy u (sent.source p)
      → IsToAllBy u (sent.source q) → (frame_end s p ≤ s.queued q) ⊎ (frame_end s q ≤ s.queued p)
  -- its unit keeps its address from one of them to another, while planned frames that may go before this one wait without a break
  pub steady : (p q u : ℕ) → p < s.count → q < s.count → planned p ≡ true → planned q ≡ true → IsToAllBy u (sent.source p)
      → IsToAllBy u (sent.source q) → s.queued p ≤ s.queued q → PlannedFramesWait s planned (s.ident q) (s.queued p) (s.queued q)
      → held.address (s.queued p) u ≡ held.address (s.queued q) u
