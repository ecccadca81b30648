-- The steps of units that claim addresses (SAE J1939-81, address claim procedures), and of those that don't: they are set to an address,
-- hear what the others say, and say nothing.
use Rattle.std.specs.Prelude.{◌≡◌, ℕ, cond, ◌&&◌, nat_eq, List, [], ◌∷◌, ◌++◌, map, Option, Some, None}
use Rattle.j39_claim.specs.declared.item.Say.{Say}
use Rattle.j39_claim.specs.declared.item.Say.TheVariants.{Claim}
use Rattle.j39_claim.specs.declared.item.Item.{Item}
use Rattle.j39_claim.specs.declared.item.Item.TheVariants.{AddressClaimed, Request}
use Rattle.j39_claim.specs.ClaimRule.{PlannedUnit, ClaimState, Reacts, claim_of, said_by, started}
use Rattle.j39_network.specs.PlannedUnits.{unit_at}
use Rattle.j39_world.specs.Sent.{frame_of}
use Rattle.j39_world.specs.World.{World, Stations, Undelivered, changed, changed_pair, is_other_on}

-- the items join the list of u to every other unit that is on
abbrev pub sent_to_others : Stations → Undelivered → ℕ → List Item → Undelivered
sent_to_others stations claims u items s t =
    cond (nat_eq s u && is_other_on stations u t) (claims s t ++ items) (claims s t)

-- u sends these to all others, each item by one frame
abbrev pub send_to_others : List PlannedUnit → World → ℕ → List Item → World
send_to_others units w u items =
    record w {
      claims = sent_to_others w.stations w.claims u items;
      frames = w.frames ++ map (frame_of (unit_at units u).name (w.stations u).address) items;
    }

-- what was undelivered to u is gone
abbrev pub without_lists_to : {X : Type 0} → ℕ → (ℕ → ℕ → List X) → ℕ → ℕ → List X
without_lists_to u lists s t = cond (nat_eq t u) [] (lists s t)

abbrev pub answer_items : Option Say → List Item
answer_items None = []
answer_items (Some say) = AddressClaimed say ∷ []

-- what a unit says first: it claims the address that it prefers, if it claims
abbrev pub first_items : PlannedUnit → List Item
first_items c = answer_items (said_by c (Claim c.preferred))

-- u is switched on with the address that it prefers, and claims it
abbrev pub switched_on : List PlannedUnit → World → ℕ → World
switched_on units w u =
    send_to_others units
    (record w {
      stations = changed w.stations u (started (unit_at units u));
      claims = without_lists_to u w.claims;
      wire = without_lists_to u w.wire;
    })
    u (first_items (unit_at units u))

-- a request, and what the unit says of itself that asks, if it claims
abbrev pub asking_items : Option Say → List Item
asking_items None = []
asking_items (Some say) = Request ∷ AddressClaimed say ∷ []

-- u asks all others for their claims, and sends its own
abbrev pub asked : List PlannedUnit → World → ℕ → World
asked units w u = send_to_others units w u (asking_items (said_by (unit_at units u) (claim_of (w.stations u).address)))

-- v has heard the oldest item of u, is what it then is, and sends its answer; the rest is still undelivered
abbrev pub heard_and_answered : List PlannedUnit → World → ℕ → ℕ → List Item → Option Say → ClaimState → World
heard_and_answered units w u v rest says new =
    send_to_others units
    (record w { stations = changed w.stations v new; claims = changed_pair w.claims u v rest })
    v (answer_items says)

-- v hears the oldest of these items of u by the claim rule, with any lawful choice, or does nothing where it doesn't claim
abbrev pub GivenFrom : List PlannedUnit → World → ℕ → ℕ → List Item → World → Type 0
GivenFrom units w u v [] new = ⊥
GivenFrom units w u v (item ∷ rest) new =
    (says : Option Say) × (s : ClaimState) × Reacts (unit_at units v) (w.stations v) (unit_at units u).name item says s
    × (new ≡ heard_and_answered units w u v rest says s)
