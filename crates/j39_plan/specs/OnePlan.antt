-- A file describes one plan.
use Rattle.std.specs.Prelude.{◌≡◌, ◌≢◌, ℕ, List, Option, Some, None, Result, Ok, Err}
use Rattle.std.specs.List.{AllZip}
use Rattle.j39_signal.specs.declared.signal_parts.SignalParts.{SignalParts}
use Rattle.j39_signal.specs.declared.selector.Selector.{Selector}
use Rattle.j39_network.specs.declared.plan.Plan.{Plan}
use Rattle.j39_network.specs.declared.plan.unit_plan.UnitPlan.{UnitPlan}
use Rattle.j39_network.specs.declared.plan.group_plan.GroupPlan.{GroupPlan}
use Rattle.j39_network.specs.declared.plan.meaning.Meaning.{Meaning}
use Rattle.j39_network.specs.declared.plan.meaning.ValueName.{ValueName}
use Rattle.j39_network.specs.declared.plan.text_plan.TextPlan.{TextPlan}
use Rattle.j39_network.specs.declared.plan.flow_plan.FlowPlan.{FlowPlan}
use Rattle.j39_network.specs.declared.plan.need_plan.NeedPlan.{NeedPlan}
use Rattle.j39_network.specs.declared.plan.request_plan.RequestPlan.{RequestPlan}
use Rattle.j39_network.specs.declared.plan.pace.Pace.{Pace}
use Rattle.j39_network.specs.declared.plan.timing.ErrorRate.{ErrorRate}
use Rattle.j39_network.specs.declared.plan.timing.Timing.{Timing}
use Rattle.j39_plan.specs.PlanErrors.{PlanError}
use Rattle.j39_toml.specs.declared.file_error.FileError.TheVariants.{Memory}
use Rattle.j39_network.specs.PlannedFlows.{AreOneFlow}
use Rattle.j39_plan.specs.Described.{Reads}
use Rattle.j39_toml.specs.FileTrees.{tree_of}

-- ---- when two plans are one: of a label the bytes count, and not what stands in its array behind them

pub record AreOneUnit (u v : UnitPlan) : Type 0 where
  pub labels : u.label.bytes ≡ v.label.bytes
  pub addresses : u.address ≡ v.address
  pub names : u.name ≡ v.name
  pub numbers : u.any_identity ≡ v.any_identity
  pub ways : u.way ≡ v.way
  pub windows : u.window ≡ v.window
  pub queues : u.queue ≡ v.queue
  pub claims : u.claims ≡ v.claims

pub record AreOneSignal (s t : SignalParts) : Type 0 where
  pub labels : s.label.bytes ≡ t.label.bytes
  pub starts : s.start ≡ t.start
  pub widths : s.bits ≡ t.bits
  pub kinds : s.kind ≡ t.kind
  pub steps : s.step ≡ t.step
  pub offsets : s.offset ≡ t.offset
  pub pers : s.per ≡ t.per
  pub units : s.unit.bytes ≡ t.unit.bytes
  pub repetitions : s.repeated ≡ t.repeated
  pub options : s.optional ≡ t.optional

pub record AreOneValueName (n m : ValueName) : Type 0 where
  pub raws : n.raw ≡ m.raw
  pub names : n.name.bytes ≡ m.name.bytes

pub record AreOneMeaning (m n : Meaning) : Type 0 where
  pub spns : m.spn ≡ n.spn
  pub values : AllZip AreOneValueName m.values.items n.values.items

pub record AreOneText (t u : TextPlan) : Type 0 where
  pub labels : t.label.bytes ≡ u.label.bytes
  pub places : t.byte ≡ u.byte
  pub lengths : t.bytes ≡ u.bytes

-- one selector, or none
abbrev pub AreOneSelector : Option Selector → Option Selector → Type 0
AreOneSelector None None = Unit {0}
AreOneSelector (Some v) (Some w) = (v.start ≡ w.start) × (v.bits ≡ w.bits) × (v.value ≡ w.value)
AreOneSelector _ _ = ⊥

pub record AreOneGroup (g h : GroupPlan) : Type 0 where
  pub labels : g.label.bytes ≡ h.label.bytes
  pub pgns : g.pgn ≡ h.pgn
  pub priorities : g.priority ≡ h.priority
  pub lengths : g.length ≡ h.length
  pub privates : g.private ≡ h.private
  pub mosts : g.most ≡ h.most
  pub everys : g.every ≡ h.every
  pub whens : AreOneSelector g.when h.when
  pub signals : AllZip AreOneSignal g.signals.items h.signals.items
  pub meanings : AllZip AreOneMeaning g.meanings.items h.meanings.items
  pub texts : AllZip AreOneText g.texts.items h.texts.items

-- as many damaged frames at most, or none
abbrev pub AreOneErrorRate : Option ErrorRate → Option ErrorRate → Type 0
AreOneErrorRate None None = Unit {0}
AreOneErrorRate (Some e) (Some f) = (e.count ≡ f.count) × (e.every ≡ f.every)
AreOneErrorRate _ _ = ⊥

pub record AreOneBus (t u : Timing) : Type 0 where
  pub bitrates : t.bitrate ≡ u.bitrate
  pub unplanned : t.unplanned ≡ u.unplanned
  pub unplanned_priorities : t.unplanned_priority ≡ u.unplanned_priority
  pub transport_priorities : t.transport_priority ≡ u.transport_priority
  pub gaps : t.broadcast_gap ≡ u.broadcast_gap
  pub gaps_most : t.broadcast_gap_most ≡ u.broadcast_gap_most
  pub drifts : t.drift ≡ u.drift
  pub errors : AreOneErrorRate t.errors u.errors

-- one bus, or none
abbrev pub AreOneTiming : Option Timing → Option Timing → Type 0
AreOneTiming None None = Unit {0}
AreOneTiming (Some t) (Some u) = AreOneBus t u
AreOneTiming _ _ = ⊥

-- one period with its deadline and its jitter, or none
abbrev pub AreOnePace : Option Pace → Option Pace → Type 0
AreOnePace None None = Unit {0}
AreOnePace (Some p) (Some q) = (p.period ≡ q.period) × (p.deadline ≡ q.deadline) × (p.jitter ≡ q.jitter)
AreOnePace _ _ = ⊥

pub record AreOneFlowPlan (f h : FlowPlan) : Type 0 where
  pub flows : AreOneFlow f h
  pub paces : AreOnePace f.pace h.pace
  pub pauses : f.pause ≡ h.pause
  pub answers : f.on_request ≡ h.on_request

pub record AreOneNeed (d e : NeedPlan) : Type 0 where
  pub units : d.unit ≡ e.unit
  pub groups : d.group ≡ e.group
  pub signals : d.signal ≡ e.signal
  pub senders : d.from ≡ e.from
  pub ages : d.within ≡ e.within

pub record AreOneRequest (r s : RequestPlan) : Type 0 where
  pub groups : r.group ≡ s.group
  pub senders : r.sender ≡ s.sender
  pub receivers : r.to ≡ s.to
  pub periods : r.period ≡ s.period

pub record AreOnePlan (p q : Plan) : Type 0 where
  pub keep_free : p.keep_free ≡ q.keep_free
  pub strangers : p.strangers ≡ q.strangers
  pub live : p.live ≡ q.live
  pub timing : AreOneTiming p.timing q.timing
  pub units : AllZip AreOneUnit p.units.items q.units.items
  pub groups : AllZip AreOneGroup p.groups.items q.groups.items
  pub flows : AllZip AreOneFlowPlan p.flows.items q.flows.items
  pub needs : AllZip AreOneNeed p.needs.items q.needs.items
  pub requests : AllZip AreOneRequest p.requests.items q.requests.items

-- ---- the law

-- one plan, or one reason why there is none
abbrev pub AreOneAnswer : Result Plan PlanError → Result Plan PlanError → Type 0
AreOneAnswer (Ok p) (Ok q) = AreOnePlan p q
AreOneAnswer (Err e) (Err f) = e ≡ f
AreOneAnswer _ _ = ⊥

-- but for want of memory, one answer is allowed for the bytes
abbrev pub HasOneAnswer : List ℕ → Type 0
HasOneAnswer bytes = (one other : Result Plan PlanError) → one ≢ Err Memory → other ≢ Err Memory
    → Reads one (tree_of bytes) → Reads other (tree_of bytes) → AreOneAnswer one other
