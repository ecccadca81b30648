-- Between whom the frames of messages go (SAE J1939-21, transport protocol functions), as a log of a world's frames is followed.
use Rattle.std.specs.Prelude.{◌≡◌, ◌≢◌, ◌⊎◌, ℕ, true, false, ◌||◌, Bool, List, [], ◌∷◌, ◌++◌, map, Some}
use Rattle.std.specs.List.{slice_get}
use Rattle.j39_id.specs.Ident.{pgn_of}
use Rattle.j39_id.specs.Pgn.{is_pdu2}
use Rattle.j39_id.specs.Services.{connection_management, data_transfer}
use Rattle.j39_id.specs.declared.frame.Frame.{Frame}
use Rattle.j39_id.specs.declared.ident.Ident.{Ident}
use Rattle.j39_network.specs.declared.plan.Plan.{Plan}
use Rattle.j39_network.specs.declared.plan.to.To.{To}
use Rattle.j39_network.specs.declared.plan.to.To.TheVariants.{All, One}
use Rattle.j39_network.specs.declared.steps.Step.{Step}
use Rattle.j39_network.specs.declared.steps.Step.TheVariants.{Begin, Down, Send, Emit, Take, LateSender, LateReceiver}
use Rattle.j39_id.specs.FrameMeaning.{carries_name, requests_group}
use Rattle.j39_world.specs.declared.flow.Flow.{Flow}
use Rattle.j39_world.specs.Flows.{FlowGoes, flows_of}
use Rattle.j39_network.specs.PlannedUnits.{unit_at, units_of}
use Rattle.j39_world.specs.Run.{Follows}
use Rattle.j39_world.specs.Sent.{Sent, sent_of}
use Rattle.j39_world.specs.SoundPlan.{IsSending}
use Rattle.j39_world.specs.Transfers.{Outgoing, is_among}
use Rattle.j39_world.specs.World.{World}
use Rattle.j39_follow.specs.FollowReports.{is_to_all}
use Rattle.j39_follow.specs.Who.{IsWho}
use Rattle.j39_follow.specs.declared.address.who.Who.TheVariants.{Holder}
use Rattle.j39_log_laws.specs.HolderReports.{IsLogOf}

-- ---- who sends, and for whom

-- the unit is between the beginning of a message and its rest, and the message is of a flow from it to these
abbrev pub SendsTo : Plan → World → ℕ → To → Type 0
SendsTo plan w u to = (s : Outgoing) × (w.sessions u ≡ Some s) × FlowGoes plan s.flow u to

-- what the step sends of messages is of this unit, for these: a sender's is for those that its flow goes to, and an answer is for the unit
-- that is answered, one of the two being the sender of a message to the other alone
abbrev pub IsSentBy : Plan → World → Step → ℕ → To → Type 0
IsSentBy plan w (Begin f bytes) u to = FlowGoes plan f u to
IsSentBy plan w (Send f bytes) u to = FlowGoes plan f u to
IsSentBy plan w (Emit s) u to = (s ≡ u) × SendsTo plan w s to
IsSentBy plan w (LateSender s) u to = (s ≡ u) × SendsTo plan w s to
IsSentBy plan w (Take s r) u to = (r ≡ u) × (One s ≡ to) × (SendsTo plan w s (One r) ⊎ SendsTo plan w r (One s))
IsSentBy plan w (LateReceiver s r) u to = (r ≡ u) × (One s ≡ to) × SendsTo plan w s (One r)
IsSentBy plan w _ u to = ⊥

-- ---- the group of a frame

-- a transport frame: connection management, or data transfer
abbrev pub IsTransport : ℕ → Type 0
IsTransport pgn = (pgn ≡ connection_management) ⊎ (pgn ≡ data_transfer)

-- it has the number of the group of the flow at this place of the plan
abbrev pub HasNumberOf : Plan → ℕ → Ident → Type 0
HasNumberOf plan f i = (flow : Flow) × (slice_get (flows_of plan) f ≡ Some flow) × (pgn_of i ≡ flow.pgn)

-- a frame of the flow has this number, or is a transport frame
abbrev pub IsOfFlowOrTransport : Plan → ℕ → Ident → Type 0
IsOfFlowOrTransport plan f i = HasNumberOf plan f i ⊎ IsTransport (pgn_of i)

-- what a step sends that begins a message is a frame of its flow, and one that is sent alone has its group's number; any other step sends
-- transport frames
abbrev pub IsOfStep : Plan → Step → Ident → Type 0
IsOfStep plan (Begin f bytes) i = IsOfFlowOrTransport plan f i
IsOfStep plan (Send f bytes) i = HasNumberOf plan f i
IsOfStep plan _ i = IsTransport (pgn_of i)

-- ---- they hold addresses

abbrev pub HasAddress : World → ℕ → Type 0
HasAddress w u = ((w.stations u).on ≡ true) × ((a : ℕ) × ((w.stations u).address ≡ Some a))

-- the unit sends a message, or one is for it alone and it hasn't gone off since
abbrev pub IsAnEnd : World → ℕ → Type 0
IsAnEnd w u =
    ((s : Outgoing) × (w.sessions u ≡ Some s))
    ⊎ ((x : ℕ) × (s : Outgoing) × (w.sessions x ≡ Some s) × (s.to ≡ One u) × (is_among s.targets u ≡ true))

pub record EndsKeepAddresses (plan : Plan) (w : World) : Type 0 where
  -- who sends a message is on and holds an address, and so is the unit that it is for, where it is for one, of a live plan while this one hasn't
  -- gone off since; it is of a flow between them
  pub sender : (u : ℕ) (s : Outgoing) → w.sessions u ≡ Some s → HasAddress w u
  pub receiver : (u v : ℕ) (s : Outgoing) → w.sessions u ≡ Some s → s.to ≡ One v → (plan.live ≡ true → is_among s.targets v ≡ true) → HasAddress w v
  pub flow : (u : ℕ) (s : Outgoing) → w.sessions u ≡ Some s → FlowGoes plan s.flow u s.to
  -- of a plan that isn't live, while a message is sent, whoever sends it, no step changes the address of any unit, nor what else it is
  pub still : plan.live ≡ false → IsSending w → (step : Step) (after : World) → Follows plan w step after → after.stations ≡ w.stations
  -- of a live one no step but its own Down switches an end off or changes its address
  pub stays : plan.live ≡ true → (u : ℕ) → IsAnEnd w u → (step : Step) (after : World) → step ≢ Down u → Follows plan w step after
      → ((after.stations u).on ≡ true) × ((after.stations u).address ≡ (w.stations u).address)

-- ---- their addresses

-- these frames report that the unit stands behind the address, if it claims
abbrev pub StandsBehind : Plan → List Frame → ℕ → ℕ → Type 0
StandsBehind plan log u a = (unit_at (units_of plan) u).claims ≡ true → IsWho plan log a (Holder u)

-- the unit is on and holds the address, and these frames report so, if it claims
pub record IsKnownAt (plan : Plan) (w : World) (log : List Frame) (u a : ℕ) : Type 0 where
  pub on : (w.stations u).on ≡ true
  pub holds : (w.stations u).address ≡ Some a
  pub stated : StandsBehind plan log u a

-- what is for all goes to all; what is for one unit goes to its address, unless its identifier names none (PDU2)
abbrev pub GoesToHolder : Plan → World → List Frame → To → Ident → Type 0
GoesToHolder plan w log All i = is_to_all i ≡ true
GoesToHolder plan w log (One v) i = (a : ℕ) × IsKnownAt plan w log v a × ((is_pdu2 (pgn_of i) ≡ true) ⊎ (i.ps ≡ a))

-- ---- the frames of a step

-- the step from the one world to the other sends the frame, behind those of the log
pub record IsSentBehind (before after : World) (log : List Frame) (f : Frame) : Type 0 where
  pub earlier : List Sent
  pub later : List Sent
  pub log_is : map sent_of log ≡ before.frames ++ earlier
  pub sent : after.frames ≡ before.frames ++ (earlier ++ sent_of f ∷ later)

-- it claims an address or can't, or asks for a group
abbrev pub reports_of_addresses : Frame → Bool
reports_of_addresses f = carries_name f || requests_group f

-- each other frame that a step sends is of the flow's group or a transport frame; it comes from the address of the unit that sends it and
-- goes to that of the unit that it is for, and the frames up to it report that these units hold them
abbrev pub MessagesGoBetweenHolders : Plan → World → Type 0
MessagesGoBetweenHolders plan w =
    (step : Step) (after : World) (log : List Frame) (f : Frame)
    → Follows plan w step after → IsSentBehind w after log f → reports_of_addresses f ≡ false
    → (u : ℕ) × (to : To) × IsSentBy plan w step u to × IsOfStep plan step f.ident × IsKnownAt plan w (log ++ f ∷ []) u f.ident.sa
    × GoesToHolder plan w (log ++ f ∷ []) to f.ident

-- ---- the frames of a log

-- a flow goes from the unit to these, and the frame is of this flow; or they are one unit, the flow goes from that one to this unit alone,
-- and it is a transport frame
abbrev pub AreJoined : Plan → ℕ → To → Ident → Type 0
AreJoined plan u to i =
    ((f : ℕ) × FlowGoes plan f u to × IsOfFlowOrTransport plan f i)
    ⊎ ((f : ℕ) × (v : ℕ) × (to ≡ One v) × FlowGoes plan f v (One u) × IsTransport (pgn_of i))

-- it goes to all, or to an address behind which the one unit stands, if its identifier names any and this unit claims
abbrev pub ComesTo : Plan → List Frame → To → Ident → Type 0
ComesTo plan log All i = is_to_all i ≡ true
ComesTo plan log (One v) i = (is_pdu2 (pgn_of i) ≡ true) ⊎ StandsBehind plan log v i.ps

-- a unit stands behind the address from which it comes, and it goes to all, or to a unit that stands behind the address to which it goes;
-- of a unit that never claims the frames report nothing
pub record IsBetweenUnits (plan : Plan) (log : List Frame) (i : Ident) : Type 0 where
  pub sender : ℕ
  pub to : To
  pub joined : AreJoined plan sender to i
  pub comes : StandsBehind plan log sender i.sa
  pub goes : ComesTo plan log to i

-- so it is of each frame that was sent so far and doesn't report of addresses, by the frames up to it
abbrev pub EachGoesBetweenUnits : Plan → World → Type 0
EachGoesBetweenUnits plan w =
    (before : List Frame) (f : Frame) (behind : List Frame) → IsLogOf w (before ++ f ∷ behind) → reports_of_addresses f ≡ false
    → IsBetweenUnits plan (before ++ f ∷ []) f.ident
