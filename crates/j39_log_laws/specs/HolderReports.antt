-- What the frames of a world report of its units (SAE J1939-81, address claimed and cannot claim address), as a log of them is followed.
use Rattle.std.specs.Prelude.{◌≡◌, ◌⊎◌, ℕ, true, false, List, map, Contains, Some}
use Rattle.std.specs.List.{All}
use Rattle.j39_id.specs.Pgn.{is_pgn}
use Rattle.j39_id.specs.Services.{is_service}
use Rattle.j39_id.specs.declared.frame.Frame.{Frame}
use Rattle.j39_claim.specs.declared.item.Say.TheVariants.{Claim}
use Rattle.j39_claim.specs.declared.item.Item.TheVariants.{AddressClaimed}
use Rattle.j39_network.specs.declared.plan.Plan.{Plan}
use Rattle.j39_network.specs.declared.plan.group_plan.GroupPlan.{GroupPlan}
use Rattle.j39_network.specs.PlannedUnits.{units_of, unit_at}
use Rattle.j39_world.specs.Sent.{sent_of}
use Rattle.j39_world.specs.World.{World, Undelivered}
use Rattle.j39_follow.specs.Holders.{HoldsByFrames}

-- each planned number is a group's, and none of those by which the network itself runs
abbrev pub HaveOwnNumbers : Plan → Type 0
HaveOwnNumbers plan = All (λ (group : GroupPlan). (is_pgn group.pgn ≡ true) × (is_service group.pgn ≡ false)) plan.groups.items

-- these are the frames that were sent so far, in order
abbrev pub IsLogOf : World → List Frame → Type 0
IsLogOf w log = map sent_of log ≡ w.frames

-- a claim of this address is undelivered to the unit
abbrev pub IsStillToHear : Undelivered → ℕ → ℕ → Type 0
IsStillToHear claims u a = (v : ℕ) × Contains (claims v u) (AddressClaimed (Claim a))

-- the frames report that each unit that claims and is on holds its address, unless it has still to hear a claim of that address
abbrev pub FramesReportHolders : Plan → World → Type 0
FramesReportHolders plan w =
    (log : List Frame) → IsLogOf w log → (u a : ℕ) → (unit_at (units_of plan) u).claims ≡ true → (w.stations u).on ≡ true
    → (w.stations u).address ≡ Some a → HoldsByFrames log (unit_at (units_of plan) u).name a ⊎ IsStillToHear w.claims u a

-- they report it of this one
abbrev pub IsHolderReported : Plan → World → ℕ → Type 0
IsHolderReported plan w u =
    (log : List Frame) → IsLogOf w log → (a : ℕ) → (unit_at (units_of plan) u).claims ≡ true → (w.stations u).on ≡ true
    → (w.stations u).address ≡ Some a → HoldsByFrames log (unit_at (units_of plan) u).name a

-- they report it of each
abbrev pub EachIsReported : Plan → World → Type 0
EachIsReported plan w =
    (log : List Frame) → IsLogOf w log → (u a : ℕ) → (unit_at (units_of plan) u).claims ≡ true → (w.stations u).on ≡ true
    → (w.stations u).address ≡ Some a → HoldsByFrames log (unit_at (units_of plan) u).name a
