-- The frames of transfers: identifiers and transport packets of SAE J1939-21.
use Rattle.std.specs.Prelude.{ℕ, List}
use Rattle.j39_id.specs.Addresses.{global_address}
use Rattle.j39_id.specs.Ident.{identifier_of}
use Rattle.j39_id.specs.Services.{connection_management, data_transfer, transport_priority}
use Rattle.j39_tp.specs.Packets.{data_of}
use Rattle.j39_tp.specs.declared.packet.Packet.{Packet}
use Rattle.j39_tp.specs.declared.packet.Packet.TheVariants.{Dt}
use Rattle.j39_network.specs.declared.plan.to.To.{To}
use Rattle.j39_network.specs.declared.plan.to.To.TheVariants.{All, One}
use Rattle.j39_world.specs.declared.flow.Flow.{Flow}
use Rattle.j39_world.specs.Sent.{Sent, source_of}
use Rattle.j39_world.specs.World.{Stations}

-- the address that a unit sends from
abbrev pub address_of : Stations → ℕ → ℕ
address_of stations u = source_of (stations u).address

-- the address that a message goes to: the global address, or that of its one receiver
abbrev pub destination_of : Stations → To → ℕ
destination_of stations All = global_address
destination_of stations (One v) = address_of stations v

-- the group of a transport packet: connection management, or data transfer
abbrev pub group_of : Packet → ℕ
group_of (Dt number chunk) = data_transfer
group_of _ = connection_management

-- the frame of a transport packet to one address from another
abbrev pub packet_frame : ℕ → ℕ → Packet → Sent
packet_frame destination source p = record { identifier = identifier_of transport_priority (group_of p) destination source; payload = data_of p }

-- the frame of a message of at most eight bytes, with its group's priority
abbrev pub short_frame : ℕ → ℕ → Flow → List ℕ → Sent
short_frame destination source flow bytes =
    record { identifier = identifier_of flow.priority flow.pgn destination source; payload = bytes }
