-- The ends of flows of a live plan (SAE J1939-81, address claim procedures): whatever other units do, none of them comes to hold the address
-- of an end, so that messages go on while units claim.
use Rattle.std.specs.Prelude.{◌≡◌, ◌≢◌, ℕ, true, List, [], Some, Contains}
use Rattle.std.specs.List.{slice_get}
use Rattle.j39_claim.specs.declared.item.Say.TheVariants.{Claim}
use Rattle.j39_claim.specs.declared.item.Item.TheVariants.{AddressClaimed}
use Rattle.j39_network.specs.declared.plan.Plan.{Plan}
use Rattle.j39_network.specs.declared.plan.to.To.TheVariants.{One}
use Rattle.j39_world.specs.declared.flow.Flow.{Flow}
use Rattle.j39_world.specs.declared.wired.Wired.TheVariants.{Alone}
use Rattle.j39_world.specs.Flows.{flows_of}
use Rattle.j39_network.specs.PlannedUnits.{unit_at, units_of}
use Rattle.j39_network.specs.Staying.{EachOther, IsAloneThere}
use Rattle.j39_world.specs.Transfers.{Outgoing, is_among}
use Rattle.j39_world.specs.World.{World}

-- the sender of each flow is alone at its planned address, and so is its one receiver, if it goes to one
abbrev pub AreEndsAlone : Plan → Type 0
AreEndsAlone plan =
    (f : ℕ) (flow : Flow) → slice_get (flows_of plan) f ≡ Some flow
    → IsAloneThere plan.keep_free (units_of plan) flow.sender
    × ((v : ℕ) → flow.to ≡ One v → IsAloneThere plan.keep_free (units_of plan) v)

-- the unit is on and holds its planned address; no other one that is on does, and none claims it
pub record StandsAlone (plan : Plan) (w : World) (u : ℕ) : Type 0 where
  pub on : (w.stations u).on ≡ true
  pub held : (w.stations u).address ≡ Some (unit_at (units_of plan) u).preferred
  pub alone : EachOther (units_of plan) u (λ v. (w.stations v).on ≡ true → (w.stations v).address ≢ Some (unit_at (units_of plan) u).preferred)
  pub unclaimed : (v : ℕ) → ¬ Contains (w.claims v u) (AddressClaimed (Claim (unit_at (units_of plan) u).preferred))

pub record AreEndsUndisturbed (plan : Plan) (w : World) : Type 0 where
  -- who sends a message, and the unit that it is for, where it is for one that is on still
  pub sender : (u : ℕ) (s : Outgoing) → w.sessions u ≡ Some s → StandsAlone plan w u
  pub receiver : (u v : ℕ) (s : Outgoing) → w.sessions u ≡ Some s → s.to ≡ One v → is_among s.targets v ≡ true → StandsAlone plan w v
  -- each unit that it goes to still is on
  pub targets : (u v : ℕ) (s : Outgoing) → w.sessions u ≡ Some s → is_among s.targets v ≡ true → (w.stations v).on ≡ true
  -- and so is each of two between whom something lies on the wire
  pub between : (u v : ℕ) → w.wire u v ≢ [] → ((w.stations u).on ≡ true) × ((w.stations v).on ≡ true)
  -- who sent a frame alone that lies there, and the unit that it is for, where it is for one
  pub sent : (u v f : ℕ) (bytes : List ℕ) → Contains (w.wire u v) (Alone f bytes) → StandsAlone plan w u
  pub sent_to : (u v f : ℕ) (bytes : List ℕ) (flow : Flow) (x : ℕ) → Contains (w.wire u v) (Alone f bytes) → slice_get (flows_of plan) f ≡ Some flow
      → flow.to ≡ One x → (x ≡ v) × StandsAlone plan w v
