-- Claims and requests that are undelivered.
use Rattle.std.specs.Prelude.{◌≡◌, ℕ, ◌≤◌, Bool, true, false, List}
use Rattle.std.specs.List.{list_all}
use Rattle.j39_claim.specs.declared.item.Item.{Item}
use Rattle.j39_claim.specs.declared.item.Item.TheVariants.{AddressClaimed, Request}
use Rattle.j39_claim.specs.ClaimerValue.{ClaimerValue}
use Rattle.j39_bus.specs.Queued.{Queued, room_at}
use Rattle.j39_world.specs.World.{is_other_on}
use Rattle.j39_bus.specs.Stations.{station_at}

abbrev pub is_request : Item → Bool
is_request (AddressClaimed say) = false
is_request Request = true

-- none of these is a claim
abbrev pub are_requests : List Item → Bool
are_requests items = list_all is_request items

-- there is room for so many items from a unit to each other one that is on
abbrev pub HasRoomForOthers : {X : Type 0} → Queued X → List ClaimerValue → ℕ → ℕ → Type 0
HasRoomForOthers q cs u items = (v : ℕ) → is_other_on (station_at cs) u v ≡ true → items ≤ room_at q u v
