-- What is sent first of a message.
use Rattle.std.proofs.Common.{◌≡◌, Bool, true, false, ℕ, List, length, refl, if◌then◌else◌}
use Rattle.j39_tp.specs.Sender.{announcement}
use Rattle.j39_bus.specs.inside.KeptMessages.{item_frame}
use Rattle.j39_world.specs.Flows.{dest_of, is_short}
use Rattle.j39_world.specs.declared.flow.Flow.{Flow}
use Rattle.j39_world.specs.SentTransfers.{address_of, destination_of, packet_frame, short_frame}
use Rattle.j39_world.specs.TransferSteps.{first_frame, first_item}
use Rattle.j39_world.specs.World.{Stations}
use Rattle.j39_world.specs.declared.wired.Wired.TheVariants as wired

-- it has its frame
pub first_framed : (stations : Stations) (flow : Flow) (bytes : List ℕ)
    → item_frame (destination_of stations flow.to) (address_of stations flow.sender) flow (first_item flow bytes) ≡ first_frame stations flow bytes
first_framed stations flow bytes = by (is_short (length bytes))
  where
    by : (b : Bool)
        → item_frame (destination_of stations flow.to) (address_of stations flow.sender) flow
        (if b then wired.Short bytes else wired.Packet (announcement (dest_of flow.to) flow.pgn (length bytes)))
        ≡ (if b then short_frame (destination_of stations flow.to) (address_of stations flow.sender) flow bytes
        else packet_frame (destination_of stations flow.to) (address_of stations flow.sender) (announcement (dest_of flow.to) flow.pgn (length bytes)))
    by true = refl
    by false = refl
