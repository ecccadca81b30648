-- What a network keeps true, and where its steps lead.
use Rattle.std.specs.Prelude.{◌≡◌, ℕ, ◌<◌, ◌≤◌, Bool, true, not, ◌&&◌, nat_eq, List, [], ◌∷◌, ◌++◌, map, length, Option, None, is_some, slice_index_or, slice_set, vec_len, vec_capacity}
use Rattle.std.specs.List.{list_any}
use Rattle.std.specs.FinMap.{get}
use Rattle.j39_id.specs.Limits.{unit_limit}
use Rattle.j39_claim.specs.declared.item.Say.{Say}
use Rattle.j39_claim.specs.declared.item.Item.{Item}
use Rattle.j39_claim.specs.ClaimRule.{PlannedUnit, ClaimState, Reacts}
use Rattle.j39_claim.specs.ClaimerValue.{ClaimerValue}
use Rattle.j39_tp.specs.declared.packet.Packet.{Packet}
use Rattle.j39_network.specs.declared.plan.Plan.{Plan}
use Rattle.j39_network.specs.declared.steps.Step.{Step}
use Rattle.j39_network.specs.declared.steps.Step.TheVariants.{Up, Down, Give, Ask, Begin, Send, Emit, Take, Lose, LateSender, LateReceiver, Rest}
use Rattle.j39_bus.specs.declared.network.Network.{Network}
use Rattle.j39_signal.specs.Selectors.{is_selected}
use Rattle.j39_world.specs.declared.step_error.StepError.{StepError}
use Rattle.j39_world.specs.declared.step_error.StepError.TheVariants.{Busy, NoAddress, NoSuchFlow, NotSettled, NotStarted, WrongLength, WrongSelector}
use Rattle.j39_world.specs.Sent.{sent_of}
use Rattle.j39_world.specs.World.{World, changed_pair}
use Rattle.j39_world.specs.declared.flow.Flow.{Flow}
use Rattle.j39_world.specs.Transfers.{added}
use Rattle.j39_world.specs.TransferSteps.{TakenFrom, targets_of}
use Rattle.j39_world.specs.Flows.{can_be_sent}
use Rattle.j39_world.specs.Run.{StepsTo, at_ends, can_emit, has_address, is_nothing_undelivered, is_on, is_waiting, refusal_among}
use Rattle.j39_bus.specs.Stations.{absent_unit, station_at}
use Rattle.j39_bus.specs.BusState.{BusState, Histories, session_at, world_of}
use Rattle.j39_bus.specs.Reports.{reported_of}
use Rattle.j39_bus.specs.Stands.{HoldTaken, IsPlannedBy}
use Rattle.j39_bus.specs.inside.KeptMessages.{HasRoomTo, IsFlow, IsTraffic}
use Rattle.j39_bus.specs.Queued.{IsTable, pair_in}

abbrev pub planned_units : List ClaimerValue → List PlannedUnit
planned_units cs = map (λ c. c.planned) cs

-- these histories once a message was begun
abbrev pub has_begun : Histories → ℕ → Flow → List ℕ → List ℕ → Histories
has_begun h f flow targets bytes = record h { begun = added h.begun flow.sender targets (record { flow = f; bytes = bytes }) }

-- once a frame was sent alone
abbrev pub has_sent : Histories → ℕ → Flow → List ℕ → List ℕ → Histories
has_sent h f flow targets bytes = record h { sent_alone = added h.sent_alone flow.sender targets (record { flow = f; bytes = bytes }) }

-- once v took a packet of u
abbrev pub has_taken : Histories → ℕ → ℕ → Packet → Histories
has_taken h v u p = record h { taken = changed_pair h.taken v u (h.taken v u ++ p ∷ []) }

abbrev pub bus_state : Network → BusState
bus_state net = record {
  units = net.claimers.items;
  claims = net.claims.lists;
  live = net.live;
  flows = net.flows.items;
  sessions = net.sessions.items;
  wire = net.wire.lists;
  receivers = net.receivers;
  reports = map reported_of net.reports.items;
  frames = map sent_of net.frames.items;
}

abbrev pub world_in : Histories → Network → World
world_in h net = world_of h (bus_state net)

abbrev pub HasHeld : Histories → Network → Type 0
HasHeld h net = HoldTaken h.taken net.receivers

abbrev pub names_of : List ClaimerValue → List ℕ
names_of cs = map (λ c. c.planned.name) cs

-- one of the units has this NAME
abbrev pub has_unit_named : List ClaimerValue → ℕ → Bool
has_unit_named cs n = list_any (λ m. nat_eq n m) (names_of cs)

pub record IsWellFormed (cs : List ClaimerValue) (lists : List (List (List Item))) : Type 0 where
  -- few enough units for a note of each
  pub few : length cs ≤ unit_limit
  -- there is a list from each unit to each
  pub table : IsTable (length cs) lists
  -- each unit has noted only NAMEs of these units
  pub notes : (v n : ℕ) → is_some (get (station_at cs v).notes n) ≡ true → has_unit_named cs n ≡ true

pub record IsNetwork (net : Network) : Type 0 where
  pub claims : IsWellFormed net.claimers.items net.claims.lists
  pub traffic : IsTraffic (length net.claimers.items) net.flows.items net.sessions.items net.wire.lists net.receivers

-- the network has the units of the plan, its flows and its windows, and is live where the plan is
abbrev pub IsOfPlan : Plan → Network → Type 0
IsOfPlan plan net = IsPlannedBy plan (bus_state net)

-- the units, the flows and the windows stay, and whether the bus is live
pub record KeepsPlan (old new : Network) : Type 0 where
  pub planned_units : planned_units new.claimers.items ≡ planned_units old.claimers.items
  pub live : new.live ≡ old.live
  pub flows : new.flows.items ≡ old.flows.items
  pub windows : new.receivers.windows ≡ old.receivers.windows

-- a step of the plan leads from one network to another, whatever histories the first has
abbrev pub HasStepped : Plan → Network → Step → Network → Type 0
HasStepped plan old step new =
    (h : Histories) → HasHeld h old → (after : Histories) × StepsTo plan (world_in h old) step (world_in after new) × HasHeld after new

-- the step leads from one network to another, for each plan that the first is of
pub record Steps (old : Network) (step : Step) (new : Network) : Type 0 where
  pub of_plan : (plan : Plan) → IsOfPlan plan old → HasStepped plan old step new

-- v takes the oldest that u has for it, whatever histories the network has
abbrev pub TakesOldest : Network → ℕ → ℕ → Network → Type 0
TakesOldest old u v new =
    (h : Histories) → HasHeld h old
    → (after : Histories) × TakenFrom old.receivers.windows (world_in h old) u v (pair_in old.wire.lists u v) (world_in after new) × HasHeld after new

-- the first cause for which a step of a network is refused
abbrev pub refusal_in : Network → Histories → Step → Option StepError
refusal_in net h step = refusal_among net.live (length net.claimers.items) net.flows.items (world_in h net) step

-- of these bytes by a flow in a world with so many units, where the flow's sender is busy or not, and the flow may have such bytes or not
abbrev pub flow_refusals : Bool → ℕ → World → Flow → List ℕ → Bool → Bool → List (StepError × Bool)
flow_refusals live count w flow bytes busy fits =
    (NoSuchFlow, not (can_be_sent flow))
    ∷ (NotStarted, not (at_ends (is_on w.stations) flow.sender flow.to))
    ∷ (NotSettled, not live && not (is_nothing_undelivered count w.claims))
    ∷ (NoAddress, not (at_ends (has_address w.stations) flow.sender flow.to))
    ∷ (Busy, busy)
    ∷ (WrongLength, not fits)
    ∷ (WrongSelector, not (is_selected flow.when bytes))
    ∷ []

-- this is the first cause, whatever histories the network has
pub record IsRefusal (net : Network) (step : Step) (cause : Option StepError) : Type 0 where
  pub is : (h : Histories) → refusal_in net h step ≡ cause

-- it has room for what goes by a flow to these units, which are those that the flow goes to, and for its frame
pub record IsReadyFor (net : Network) (flow : Flow) (targets : List ℕ) : Type 0 where
  pub planned : IsFlow (length net.claimers.items) flow
  pub reached : targets ≡ targets_of (length net.claimers.items) (station_at net.claimers.items) flow.sender flow.to
  pub wire : HasRoomTo net.wire flow.sender targets
  pub frames : vec_len net.frames < vec_capacity net.frames

-- two units of a network
abbrev pub AreInside : Network → ℕ → ℕ → Type 0
AreInside net u v = (u < length net.claimers.items) × (v < length net.claimers.items)

-- what a step finds that is not refused: its units or its flow, and what it acts on
abbrev pub Finds : Network → Step → Type 0
Finds net (Up u) = u < length net.claimers.items
Finds net (Down u) = u < length net.claimers.items
Finds net (Give u v) = AreInside net u v × (0 < length (pair_in net.claims.lists u v))
Finds net (Ask u) = u < length net.claimers.items
Finds net (Begin f bytes) = f < length net.flows.items
Finds net (Send f bytes) = f < length net.flows.items
Finds net (Emit u) = (u < length net.claimers.items) × (can_emit (session_at net.sessions.items u) ≡ true)
Finds net (Take u v) = AreInside net u v × (0 < length (pair_in net.wire.lists u v))
Finds net (Lose u v) = AreInside net u v × (0 < length (pair_in net.wire.lists u v))
Finds net (LateSender u) = (u < length net.claimers.items) × (is_waiting (session_at net.sessions.items u) ≡ true)
Finds net (LateReceiver u v) = AreInside net u v
Finds net (Rest u) = u < length net.claimers.items

-- the step is not refused
pub record IsAllowed (net : Network) (step : Step) : Type 0 where
  pub refusal : IsRefusal net step None
  pub finds : Finds net step

-- unit v of these has heard the item under the NAME, and is what it then is
abbrev pub HasAnswered : List ClaimerValue → ℕ → ℕ → Item → Option Say → List ClaimerValue → Type 0
HasAnswered cs v name item says new =
    (s : ClaimState) × (new ≡ slice_set cs v (record (slice_index_or cs v absent_unit) { state = s }))
    × Reacts (slice_index_or cs v absent_unit).planned (station_at cs v) name item says s

-- nothing that a contract sees has changed
pub record IsSameNetwork (old new : Network) : Type 0 where
  pub claimers : new.claimers.items ≡ old.claimers.items
  pub claims : new.claims.lists ≡ old.claims.lists
  pub live : new.live ≡ old.live
  pub flows : new.flows.items ≡ old.flows.items
  pub sessions : new.sessions.items ≡ old.sessions.items
  pub wire : new.wire.lists ≡ old.wire.lists
  pub receivers : new.receivers ≡ old.receivers
  pub reports : new.reports.items ≡ old.reports.items
  pub frames : new.frames.items ≡ old.frames.items

-- a bus has a network in its form and a chooser for each unit
pub record IsBus (net : Network) (count : ℕ) : Type 0 where
  pub network : IsNetwork net
  pub choosers : count ≡ length net.claimers.items
