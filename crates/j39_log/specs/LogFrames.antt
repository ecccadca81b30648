-- What a frame of a log is for its reader: a planned group, else a transport packet, else nothing that is looked at.
use Rattle.std.specs.Prelude.{◌≡◌, ◌≢◌, ℕ, ◌⊎◌, ◌==◌, ◌&&◌, Bool, not, nat_le, List, length, Option, Some, None}
use Rattle.std.specs.List.{position}
use Rattle.j39_id.specs.Addresses.{global_address}
use Rattle.j39_id.specs.Ident.{pgn_of}
use Rattle.j39_id.specs.Services.{connection_management, data_transfer}
use Rattle.j39_id.specs.declared.frame.Frame.{Frame}
use Rattle.j39_signal.specs.Selectors.{is_selected}
use Rattle.j39_network.specs.declared.plan.Plan.{Plan}
use Rattle.j39_network.specs.declared.plan.group_plan.GroupPlan.{GroupPlan}
use Rattle.j39_tp.specs.Packets.{ManagementReads, DataReads}
use Rattle.j39_tp.specs.declared.packet.Packet.{Packet}
use Rattle.j39_tp.specs.declared.packet.Packet.TheVariants.{Rts, Bam}

-- the group has this number, and isn't private: whose number a private one has, a log doesn't report
abbrev pub is_shared_as : ℕ → GroupPlan → Bool
is_shared_as pgn group = not group.private && group.pgn == pgn

-- and it has messages of these bytes: of so many, which its selector takes
abbrev pub is_planned_as : ℕ → List ℕ → GroupPlan → Bool
is_planned_as pgn bytes group =
    is_shared_as pgn group && (nat_le group.length (length bytes) && (nat_le (length bytes) group.most && is_selected group.when bytes))

-- the place of the first such group
abbrev pub planned : Plan → ℕ → List ℕ → Option ℕ
planned plan pgn bytes = position (is_planned_as pgn bytes) plan.groups.items

-- the first group that is planned as the frame is sent
abbrev pub planned_group : Plan → Frame → Option ℕ
planned_group plan f = planned plan (pgn_of f.ident) f.payload.items

-- an announcement to all goes to the global address, and one to a unit to another address
abbrev pub IsSentTo : Packet → ℕ → Type 0
IsSentTo (Bam size pgn) destination = destination ≡ global_address
IsSentTo (Rts size limit pgn) destination = destination ≢ global_address
IsSentTo _ destination = Unit {0}

-- the frame is this transport packet (SAE J1939-21, transport protocol)
abbrev pub IsPacket : Frame → Packet → Type 0
IsPacket f p =
    ((pgn_of f.ident ≡ connection_management) × ManagementReads f.payload.items p × IsSentTo p f.ident.ps)
    ⊎ ((pgn_of f.ident ≡ data_transfer) × DataReads f.payload.items p)

-- the transport packet that is heard of a frame; of a frame that is planned as a group none is
abbrev pub IsHeardAs : Plan → Frame → Option Packet → Type 0
IsHeardAs plan f (Some p) = (planned_group plan f ≡ None) × IsPacket f p
IsHeardAs plan f None = (planned_group plan f ≢ None) ⊎ ((p : Packet) → ¬ IsPacket f p)
