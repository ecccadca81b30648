-- What the faults of an order come of, and what stands written then.
use Rattle.std.specs.Prelude.{◌≡◌, ◌≢◌, ◌⊎◌, ℕ, List, Option, Result, Err, IfOk, OnOk, OnErr, IsErrOf, option_map, string_bytes}
use Rattle.std.specs.declared.alloc.Global.{Global}
use Rattle.std.specs.declared.vec.Vec.{Vec}
use Rattle.std.specs.Io.KnownBytes.{Appends}
use Rattle.j39_app.specs.Answers.{IsAnswerOfTwo, IsOfSome}
use Rattle.j39_app.specs.Known.{AreLeft, AreOfPlan, MayBeTooLong, Names}
use Rattle.j39_app.specs.VehicleAnswers.{ArePlansText, IsAnswerOfVehicle, IsBusRefusedBy, IsOfBus, IsOfSomeBus, IsOfVehicleFiles, IsSomeBusRefused}
use Rattle.j39_app.specs.VehicleAnswers.{IsTextOfBusFile, IsTextOfBuses}
use Rattle.j39_stream.specs.Streams.{AppendsPart, HasFailed, SinkState, SourceState, log_limits, plan_limits}
use Rattle.j39_stream.specs.declared.fault.Fault.{Fault}
use Rattle.j39_stream.specs.declared.fault.Fault.TheVariants.{Device, TooLong}
use Rattle.j39_stream.specs.declared.limits.Limits.{Limits}
use Rattle.j39_stream.specs.declared.verdict.Verdict.{Verdict}
use Rattle.j39_network.specs.declared.plan.Plan.{Plan}
use Rattle.j39_variants.specs.declared.line.ProductLine.{ProductLine}
use Rattle.j39_vehicle.specs.declared.file.VehicleFile.{VehicleFile}
use Rattle.j39_vehicle.specs.declared.file.bus_table.BusTable.{BusTable}
use Rattle.j39_vehicle.specs.declared.vehicle.bus_plan.BusPlan.{BusPlan}
use Rattle.j39_command_line.specs.declared.orders.Order.{Order}
use Rattle.j39_command_line.specs.declared.orders.Order.TheVariants.{Input, Frame, Show, Variant, Check, Addresses, Load, Run, Read, Follow, Audit, Vehicle, Help}

-- the file of a name can't be opened, or a call of it failed once it was open
abbrev pub HasFileFailed : {File : Type 0} → (List ℕ → Type 0) → Names → (File → SourceState) → List ℕ → Type 0
HasFileFailed {File} stays_shut files state name =
    stays_shut name
    ⊎ ((opened : File) × (ended : File) × AreLeft (files name) (state opened).left × HasFailed (state opened).failures (state ended).failures)

-- it is so of the file of a plan, or, where this one describes a plan, of the other file, within these limits
abbrev pub IsOfTwo : (Limits → List ℕ → Type 0) → Names → Limits → List ℕ → List ℕ → Type 0
IsOfTwo IsOf files limits plan other = IsOf plan_limits plan ⊎ (AreOfPlan (files plan) × IsOf limits other)

-- it is so of the input, or of a file that the order reads: of a second one only once those before it could be read
abbrev pub IsOfRead : Type 0 → (Limits → List ℕ → Type 0) → Names → Order → Type 0
IsOfRead OfInput IsOf files Input = OfInput
IsOfRead OfInput IsOf files (Frame line) = ⊥
IsOfRead OfInput IsOf files (Show plan) = IsOf plan_limits (string_bytes plan)
IsOfRead OfInput IsOf files (Variant plan labels) = IsOf plan_limits (string_bytes plan)
IsOfRead OfInput IsOf files (Check plan) = IsOf plan_limits (string_bytes plan)
IsOfRead OfInput IsOf files (Addresses plan) = IsOf plan_limits (string_bytes plan)
IsOfRead OfInput IsOf files (Load plan) = IsOf plan_limits (string_bytes plan)
IsOfRead OfInput IsOf files (Run plan schedule) = IsOfTwo IsOf files plan_limits (string_bytes plan) (string_bytes schedule)
IsOfRead OfInput IsOf files (Read plan log) = IsOfTwo IsOf files log_limits (string_bytes plan) (string_bytes log)
IsOfRead OfInput IsOf files (Follow plan log frames) = IsOfTwo IsOf files log_limits (string_bytes plan) (string_bytes log)
IsOfRead OfInput IsOf files (Audit plan log part stamps quiet) = IsOfTwo IsOf files log_limits (string_bytes plan) (string_bytes log)
IsOfRead OfInput IsOf files (Vehicle vehicle) = IsOfVehicleFiles (IsOf plan_limits) files (string_bytes vehicle)
IsOfRead OfInput IsOf files (Help shown) = ⊥

-- what is written for it is put at once, and not while it reads
abbrev pub PutsAtOnce : Order → Type 0
PutsAtOnce (Run plan schedule) = ⊥
PutsAtOnce (Read plan log) = ⊥
PutsAtOnce (Follow plan log frames) = ⊥
PutsAtOnce _ = Unit {0}

-- memory is asked for on its behalf: not for a text that is there already
abbrev pub AsksForMemory : Order → Type 0
AsksForMemory (Help shown) = ⊥
AsksForMemory _ = Unit {0}

-- how an order ends: the text that is defined for it was written, with the answer; where a fault comes, nothing was written or a part of
-- a text, and nothing before another fault than the device's where the text is put at once; and what the faults come of
pub record Ends {V W : Type 0} (IsText : List ℕ → V → Type 0) (IsPart : List ℕ → Type 0) (AtOnce IsTooLong IsBroken : Type 0) (state : W → SinkState)
    (start ended : W) (result : Result V Fault) : Type 0 where
  pub written : IfOk result (λ answer. (text : List ℕ) × IsText text answer × Appends (state start).taken (state ended).taken text)
  pub calm : OnOk result ((state ended).failures ≡ (state start).failures)
  pub cut : OnErr result ((ended ≡ start) ⊎ ((text : List ℕ) × IsPart text × AppendsPart (state start).taken (state ended).taken text))
  pub at_once : AtOnce → result ≢ Err Device → OnErr result (ended ≡ start)
  pub long : IsErrOf result TooLong → IsTooLong
  pub device : IsErrOf result Device → IsBroken ⊎ HasFailed (state start).failures (state ended).failures

-- the same of what reads the file of a name
abbrev pub EndsByFile : {File V W : Type 0} → (Option (List ℕ) → List ℕ → V → Type 0) → (Option (List ℕ) → List ℕ → Type 0) → Type 0 → Limits
    → (List ℕ → Type 0) → Names → (File → SourceState) → List ℕ → (W → SinkState) → W → W → Result V Fault → Type 0
EndsByFile IsText IsPart AtOnce limits stays_shut files state_of name state start ended result =
    Ends (IsText (files name)) (IsPart (files name)) AtOnce (MayBeTooLong limits (files name)) (HasFileFailed stays_shut files state_of name) state start ended
    result

-- of what reads the file of a plan, and then another one by the plan, of which less may have come where a part of the text stands written
abbrev pub EndsByTwo : {File W : Type 0} → (ProductLine → Option (List ℕ) → List ℕ → Verdict → Type 0) → (ProductLine → Option (List ℕ) → List ℕ → Verdict → Type 0)
    → Type 0 → Limits → (List ℕ → Type 0) → Names → (File → SourceState) → List ℕ → List ℕ → (W → SinkState) → W → W → Result Verdict Fault → Type 0
EndsByTwo IsText IsFront AtOnce limits stays_shut files state_of plan other state start ended result =
    Ends (IsAnswerOfTwo IsText (files plan) (files other)) (IsOfSome (IsAnswerOfTwo IsFront (files plan) (files other))) AtOnce
    (IsOfTwo (λ most name. MayBeTooLong most (files name)) files limits plan other)
    (IsOfTwo (λ _ name. HasFileFailed stays_shut files state_of name) files limits plan other) state start ended result

-- of what reads a vehicle file, and then the files of the plans that it names
abbrev pub EndsByVehicle : {File W : Type 0} → (List ℕ → Type 0) → Names → (File → SourceState) → List ℕ → (W → SinkState) → W → W
    → Result Verdict Fault → Type 0
EndsByVehicle stays_shut files state_of vehicle state start ended result =
    Ends (IsAnswerOfVehicle files vehicle) (IsOfSome (IsAnswerOfVehicle files vehicle)) (Unit {0})
    (IsOfVehicleFiles (λ name. MayBeTooLong plan_limits (files name)) files vehicle)
    (IsOfVehicleFiles (λ name. HasFileFailed stays_shut files state_of name) files vehicle) state start ended result

-- of what reads the file of the plan of a bus
abbrev pub EndsByBus : {File W : Type 0} → (List ℕ → Type 0) → Names → (File → SourceState) → List ℕ → BusTable → (W → SinkState) → W → W
    → Result (Option Plan) Fault → Type 0
EndsByBus stays_shut files state_of vehicle table state start ended result =
    Ends (IsTextOfBusFile files vehicle table) (λ text. IsOfBus (IsBusRefusedBy files text table) vehicle table) (Unit {0})
    (IsOfBus (λ name. MayBeTooLong plan_limits (files name)) vehicle table)
    (IsOfBus (λ name. HasFileFailed stays_shut files state_of name) vehicle table) state start ended result

-- and of what reads those of all buses
abbrev pub EndsByBuses : {File W : Type 0} → (List ℕ → Type 0) → Names → (File → SourceState) → List ℕ → List BusTable → (W → SinkState) → W → W
    → Result (Option (Vec BusPlan Global)) Fault → Type 0
EndsByBuses stays_shut files state_of vehicle tables state start ended result =
    Ends (λ text buses. ArePlansText files vehicle tables text (option_map (λ v. v.items) buses)) (IsSomeBusRefused files vehicle tables) (Unit {0})
    (IsOfSomeBus files vehicle (λ table name. MayBeTooLong plan_limits (files name)) tables)
    (IsOfSomeBus files vehicle (λ table name. HasFileFailed stays_shut files state_of name) tables) state start ended result

-- and of what writes of a vehicle file that was read
abbrev pub EndsByPlans : {File W : Type 0} → (List ℕ → Type 0) → Names → (File → SourceState) → List ℕ → VehicleFile → (W → SinkState) → W → W
    → Result Verdict Fault → Type 0
EndsByPlans stays_shut files state_of vehicle file state start ended result =
    Ends (IsTextOfBuses files vehicle file) (IsOfSome (IsTextOfBuses files vehicle file)) (Unit {0})
    (IsOfSomeBus files vehicle (λ table name. MayBeTooLong plan_limits (files name)) file.buses.items)
    (IsOfSomeBus files vehicle (λ table name. HasFileFailed stays_shut files state_of name) file.buses.items) state start ended result
