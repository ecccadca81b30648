-- What is known of a frame by its source: the frames that stand at its place among all that a plan asks for, and that it is one of them.
use Rattle.std.proofs.Common.{◌≡◌, ℕ, ◌+◌, ◌<◌, ◌≤◌, ◌⊎◌, Bool, true, false, ◌||◌, eqb, List, length, get_or, if◌then◌else◌, Option, Some, None, IfSome}
use Rattle.std.proofs.Common.{refl, sym, ap, ◌∙◌, subst, inl, inr, arith}
use Rattle.std.proofs.lemmas.Bool.{eq-eqb, false≢true, or_cases, or_left}
use Rattle.std.proofs.lemmas.List.{length-append}
use Rattle.std.specs.List.{slice_get}
use Rattle.std.specs.Option.{option_map_or}
use Rattle.j39_id.specs.Ident.{identifier_of}
use Rattle.j39_network.specs.declared.plan.Plan.{Plan}
use Rattle.j39_network.specs.declared.plan.queue.Queue.{Queue}
use Rattle.j39_network.specs.declared.plan.queue.Queue.TheVariants.{Any, Priority}
use Rattle.j39_network.specs.declared.plan.timing.Timing.{Timing}
use Rattle.j39_network.specs.declared.plan.to.To.{To}
use Rattle.j39_network.specs.declared.plan.to.To.TheVariants.{All as ToAllUnits, One}
use Rattle.j39_network.specs.declared.plan.unit_plan.UnitPlan.{UnitPlan}
use Rattle.j39_load.specs.declared.frames.flow_frames.FlowFrames.{FlowFrames}
use Rattle.j39_load.specs.AnyQueues.{are_of_unit}
use Rattle.j39_load.specs.Asked.{frames_asked}
use Rattle.j39_load.specs.Broadcasts.{broadcasts_by}
use Rattle.j39_load.specs.Damage.{damage_frames}
use Rattle.j39_load.specs.AskedFlows.{asking_periods}
use Rattle.j39_load.specs.KeepsAnswers.{IsAnswering, IsOfFlow, answered_in}
use Rattle.j39_load.specs.KeepsPlan.{source_place, source_turn}
use Rattle.j39_load.specs.Loads.{any_unit, bits_at_least, destination_at, group_ident, is_any}
use Rattle.j39_load.specs.PlannedFrames.{planned_at}
use Rattle.j39_load.specs.RequestLoads.{request_ident}
use Rattle.j39_load.specs.SentFrames.{Held, IsRequestFrame, IsSentByUnit, IsSentEvery, IsSingleFrame, IsWithinUnitMs}
use Rattle.j39_load.specs.SentFrames.{HasOwnIdentifier, HasTime, IsFirstFrame, Source, TakesPart, goes_to}
use Rattle.j39_load.specs.SentFrames.{Single, First, InSession, Asking}
use Rattle.j39_load.proofs.PlacedFrames.{all, asked}
use Rattle.j39_load.specs.Broadcasts.{least_packets, spaced_stream}
use Rattle.j39_load.specs.Demands.{announcements_demand, packets_demand}
use Rattle.j39_load.specs.SentFrames.{Announcing, Carrying}
use Rattle.j39_timing.specs.declared.stream.Stream.{Stream}
use Rattle.j39_timing.specs.declared.wants.Want.{Want}
use Rattle.j39_timing.specs.Waits.{Demand, IsSpaced, askers_want, demand_of}
use Rattle.j39_load.proofs.Sending.{IsSent, all_sent}
use Rattle.j39_load.proofs.StreamsBefore.{get_or_inside, with_damage}
use Rattle.j39_timing.specs.TimedFrames.{Schedule}
use Rattle.j39_timing.specs.Traffic.{IsQueuedAt}

-- ---- queues

pub queue_cases : (queue : Queue) → (queue ≡ Priority) ⊎ (queue ≡ Any)
queue_cases Priority = inl refl
queue_cases Any = inr refl

pub any_known : (units : List UnitPlan) (u : ℕ) (unit : UnitPlan) → slice_get units u ≡ Some unit → unit.queue ≡ Any → any_unit units u ≡ Some u
any_known units u unit at any = rw (at, any) refl

-- what counts of a unit counts of one that keeps no order
pub any_stated : (units : List UnitPlan) (u : ℕ) (m : ℕ → Bool) → option_map_or m (any_unit units u) false ≡ true
    → (unit : UnitPlan) × (slice_get units u ≡ Some unit) × (unit.queue ≡ Any)
any_stated units u m stated = go (slice_get units u) refl stated
  where
    go : (found : Option UnitPlan) → slice_get units u ≡ found
        → option_map_or m (if option_map_or (λ (unit : UnitPlan). is_any unit.queue) found false then Some u else None) false ≡ true
        → (unit : UnitPlan) × (slice_get units u ≡ Some unit) × (unit.queue ≡ Any)
    go None at is = absurd (false≢true is)
    go (Some unit) at is = elim (queue_cases unit.queue) [
      | inl first ↦ absurd (false≢true (rw (first) at is))
      | inr any ↦ (unit, at, any)
    ]

-- ---- places

pub same_place : (address : ℕ → ℕ) (to : To) → goes_to address to ≡ destination_at address to
same_place address ToAllUnits = refl
same_place address (One v) = refl

abbrev place_to : To → ℕ
place_to ToAllUnits = 0
place_to (One v) = v

pub one_to : (v w : ℕ) → One v ≡ One w → v ≡ w
one_to v w same = ap place_to same

-- ---- identifiers, at a bit at which a frame is queued

pub single_ident : (plan : Plan) (timing : Timing) (s : Schedule) (held : Held) (f release p t : ℕ) (one : IsSingleFrame plan timing s held f release p)
    → IsQueuedAt s p t → s.ident p ≡ group_ident (held.address t) one.group one.flow
single_ident plan timing s held f release p t one queued = one.identifier t queued
    ∙ ap (λ (d : ℕ). identifier_of one.group.priority one.group.pgn d (held.address t one.flow.sender)) (same_place (held.address t) one.flow.to)

pub first_ident : (plan : Plan) (timing : Timing) (s : Schedule) (held : Held) (f release p t : ℕ) (one : IsFirstFrame plan timing s held f release p)
    → IsQueuedAt s p t → s.ident p ≡ group_ident (held.address t) one.group one.flow
first_ident plan timing s held f release p t one queued = one.identifier t queued
    ∙ ap (λ (d : ℕ). identifier_of one.group.priority one.group.pgn d (held.address t one.flow.sender)) (same_place (held.address t) one.flow.to)

pub asking_ident : (plan : Plan) (s : Schedule) (held : Held) (r release p t : ℕ) (one : IsRequestFrame plan s held r release p)
    → IsQueuedAt s p t → s.ident p ≡ request_ident (held.address t) one.asked
asking_ident plan s held r release p t one queued = one.identifier t queued
    ∙ ap (λ (d : ℕ). identifier_of 6 59904 d (held.address t one.asked.sender)) (same_place (held.address t) one.asked.to)

-- a frame of a source lies below the greatest identifier where times are promised of it
abbrev pub IsBelowGreatest : Source → ℕ → ℕ → Type 0
IsBelowGreatest (Announcing u m) ident greatest = ident ≤ greatest
IsBelowGreatest (Carrying u m k) ident greatest = ident ≤ greatest
IsBelowGreatest (Single f) ident greatest = ident ≤ greatest
IsBelowGreatest (First f) ident greatest = Unit {0}
IsBelowGreatest (InSession f part) ident greatest = Unit {0}
IsBelowGreatest (Asking r) ident greatest = Unit {0}

-- what has a time has its own identifier
pub own_if_timed : (source : Source) → HasTime source → HasOwnIdentifier source
own_if_timed (Single f) timed = tt
own_if_timed (First f) timed = absurd timed
own_if_timed (InSession f part) timed = absurd timed
own_if_timed (Asking r) timed = absurd timed
own_if_timed (Announcing u m) timed = tt
own_if_timed (Carrying u m k) timed = tt

-- a unit that keeps no order takes part in the source's message
pub record TakesAny (plan : Plan) (source : Source) : Type 0 where
  pub place : ℕ
  pub takes : TakesPart plan source place
  pub unit : UnitPlan
  pub at : slice_get plan.units.items place ≡ Some unit
  pub any : unit.queue ≡ Any

module _ (plan : Plan) (timing : Timing) (stays : UnitPlan → Bool) where
  abbrev units : List UnitPlan
  units = plan.units.items

  -- it is of a flow that comes only as an answer, and of this so much is wanted as is asked for
  pub record IsAskedBy (source : Source) (stream : Stream) (want : Want) : Type 0 where
    pub place : ℕ
    pub answering : IsAnswering plan place
    pub of_flow : IsOfFlow place source
    pub turn : source_turn plan source < want.frames
    pub period : want.period ≡ bits_at_least timing answering.pace.period
    pub askers : length (asking_periods plan.requests.items answering.flow) ≤ want.more + 1
    pub late : (moment at : ℕ) → IsWithinUnitMs timing (answered_in answering.pace source) moment at → at ≤ moment + (stream.jitter + want.jitter)

  -- of what isn't a long message to all it is reported how far messages are apart, unless others ask for them, and its unit wants nothing less than that
  pub record IsPacedBy (source : Source) (stream : Stream) : Type 0 where
    pub ms : ℕ
    pub every : IsSpaced stream → IsSentEvery plan source ms
    pub period : stream.period ≡ bits_at_least timing ms
    pub unwanted : (demands : List Demand) → demand_of demands stream ≡ None
    pub asked : (want : Want) → askers_want stream ≡ Some want → IsAskedBy source stream want

  abbrev pub IsPaced : Source → Stream → Type 0
  IsPaced (Single f) stream = IsPacedBy (Single f) stream
  IsPaced (First f) stream = IsPacedBy (First f) stream
  IsPaced (InSession f part) stream = IsPacedBy (InSession f part) stream
  IsPaced (Asking r) stream = IsPacedBy (Asking r) stream
  IsPaced (Announcing u m) stream =
      stream ≡ spaced_stream timing (least_packets (broadcasts_by u (asked plan timing stays).flows)) (announcements_demand u)
  IsPaced (Carrying u m k) stream = stream ≡ spaced_stream timing 1 (packets_demand u)

  -- ---- its units

  -- who sends it, and those of its message that keep no order
  pub record IsOfUnits (source : Source) (frames : FlowFrames) : Type 0 where
    pub sender : ℕ
    pub sends : IsSentByUnit plan source sender
    pub planned : sender < length units
    pub of_sender : any_unit units sender ≡ Some sender → are_of_unit frames sender ≡ true
    pub of_any : (m : ℕ → Bool) → (option_map_or m frames.any_sender false || option_map_or m frames.any_receiver false) ≡ true → TakesAny plan source

  -- where one unit alone takes part
  pub of_one_unit : (source : Source) (frames : FlowFrames) (u : ℕ) → IsSentByUnit plan source u → TakesPart plan source u → u < length units
      → frames.any_sender ≡ any_unit units u → frames.any_receiver ≡ None → IsOfUnits source frames
  of_one_unit source frames u sends takes planned one none = record {
    sender = u;
    sends = sends;
    planned = planned;
    of_sender = λ any. or_left (option_map_or (λ (v : ℕ). eqb v u) frames.any_sender false) (option_map_or (λ (v : ℕ). eqb v u) frames.any_receiver false)
        (subst (λ (o : Option ℕ). option_map_or (λ (v : ℕ). eqb v u) o false ≡ true) (sym (one ∙ any)) (eq-eqb u u refl));
    of_any = λ m stated. elim (or_cases (option_map_or m frames.any_sender false) (option_map_or m frames.any_receiver false) stated) [
      | inl is ↦
          let (unit, at, any) = any_stated units u m (subst (λ (o : Option ℕ). option_map_or m o false ≡ true) one is) in
          record { place = u; takes = takes; unit = unit; at = at; any = any }
      | inr never ↦ absurd (false≢true (subst (λ (o : Option ℕ). option_map_or m o false ≡ true) none never))
    ];
  }

  -- ---- a frame

  abbrev pub IsBetween : FlowFrames → ℕ → Type 0
  IsBetween frames ident = (frames.least_ident ≤ ident) × (ident ≤ frames.last_ident)

  -- the frames at the place of its source, and that it is one of them
  pub record IsKnown (s : Schedule) (source : Source) (release p : ℕ) : Type 0 where
    pub frames : FlowFrames
    pub read : get_or (frames_asked (asked plan timing stays)) (source_place plan source) None ≡ Some frames
    pub bits_at_most : s.bits p ≤ frames.stream.bits
    pub turns : source_turn plan source < frames.stream.frames
    pub release_first : release ≤ s.queued p
    pub jitter_at_most : s.queued p ≤ release + frames.stream.jitter
    pub paced : IsPaced source frames.stream
    -- its identifier lies between those that are reported
    pub between : IsBetween frames (s.ident p)
    pub greatest : IsBelowGreatest source (s.ident p) frames.greatest_ident
    pub of_units : IsOfUnits source frames

  pub here : (s : Schedule) (source : Source) (release p : ℕ) (known : IsKnown s source release p)
      → planned_at (all plan timing stays) (source_place plan source) ≡ known.frames
  here s source release p known = with_damage timing (frames_asked (asked plan timing stays)) (source_place plan source) known.frames known.read

  pub inside_asked : (s : Schedule) (source : Source) (release p : ℕ) → IsKnown s source release p
      → source_place plan source < length (frames_asked (asked plan timing stays))
  inside_asked s source release p known = get_or_inside (frames_asked (asked plan timing stays)) (source_place plan source) known.frames known.read

  pub inside : (s : Schedule) (source : Source) (release p : ℕ) → IsKnown s source release p → source_place plan source < length (all plan timing stays)
  inside s source release p known =
      let below = inside_asked s source release p known in
      let size = length-append (frames_asked (asked plan timing stays)) (damage_frames timing) in
      omega (arith, below, size)

  -- all of them are of eight bytes at most
  pub short : (s : Schedule) (source : Source) (release p : ℕ) → IsKnown s source release p → s.bits p ≤ 160
  short s source release p known =
      let few = known.bits_at_most in
      let asks : IsSent known.frames =
      subst (λ (o : Option FlowFrames). IfSome o IsSent) known.read
      (all_sent timing plan stays (source_place plan source) None (inside_asked s source release p known)) in
      let most = asks.short in
      omega (arith, few, most)
