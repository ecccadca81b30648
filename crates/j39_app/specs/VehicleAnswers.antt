-- What is written for a vehicle file with the files of the plans that it names.
use Rattle.std.specs.Prelude.{◌≡◌, ◌⊎◌, ℕ, List, [], ◌∷◌, ◌++◌, Option, Some, None, string_bytes}
use Rattle.std.specs.List.{AllZip}
use Rattle.j39_app.specs.Known.{AreOf, Names}
use Rattle.j39_plan_text.specs.PlanText.{DescribesOnePlan}
use Rattle.j39_network.specs.declared.plan.Plan.{Plan}
use Rattle.j39_stream.specs.declared.verdict.Verdict.{Verdict}
use Rattle.j39_stream.specs.declared.verdict.Verdict.TheVariants.{Unreadable}
use Rattle.j39_vehicle.specs.PlanNames.{IsPlanFile}
use Rattle.j39_vehicle.specs.declared.file.VehicleFile.{VehicleFile}
use Rattle.j39_vehicle.specs.declared.file.bus_table.BusTable.{BusTable}
use Rattle.j39_vehicle.specs.declared.vehicle.bus_plan.BusPlan.{BusPlan}
use Rattle.j39_vehicle_text.specs.VehicleFileText.{IsBusPlanText, IsRefusedBus, IsRefusedVehicle, SaysOfVehicle}
use Rattle.j39_vehicle_text.specs.VehicleText.{IsVehicleText}

-- why the bytes of a vehicle file, or of the plan of a bus, are refused
abbrev pub IsRefusedVehicleOf : Option (List ℕ) → List ℕ → Type 0
IsRefusedVehicleOf known text = (bytes : List ℕ) × AreOf known bytes × IsRefusedVehicle bytes text

abbrev pub IsRefusedBusOf : List ℕ → Option (List ℕ) → List ℕ → Type 0
IsRefusedBusOf label known text = (bytes : List ℕ) × AreOf known bytes × IsRefusedBus label bytes text

-- it is so of the file that the table of a bus names
abbrev pub IsOfBus : (List ℕ → Type 0) → List ℕ → BusTable → Type 0
IsOfBus IsOf vehicle table = (name : List ℕ) × IsPlanFile vehicle (string_bytes table.plan) name × IsOf name

-- a bus has the label of its table, and the plan that the bytes of its file describe
pub record IsPlanOfBus (files : Names) (vehicle : List ℕ) (table : BusTable) (bus : BusPlan) : Type 0 where
  pub label : bus.label ≡ table.label
  pub described : IsOfBus (λ name. (bytes : List ℕ) × AreOf (files name) bytes × DescribesOnePlan bytes bus.plan) vehicle table

-- it is so of the file of a bus, where those of all buses before it describe plans
pub record IsOfSomeBus (files : Names) (vehicle : List ℕ) (IsOf : BusTable → List ℕ → Type 0) (tables : List BusTable) : Type 0 where
  pub before : List BusTable
  pub table : BusTable
  pub rest : List BusTable
  pub tables_are : tables ≡ before ++ table ∷ rest
  pub buses : List BusPlan
  pub read : AllZip (IsPlanOfBus files vehicle) before buses
  pub is_of : IsOfBus (IsOf table) vehicle table

-- the bytes of the file of a bus describe no plan, and this is written of it
abbrev pub IsBusRefusedBy : Names → List ℕ → BusTable → List ℕ → Type 0
IsBusRefusedBy files text table name = IsRefusedBusOf table.label.bytes (files name) text

-- so it is with some bus, the first one of which this is so
abbrev pub IsSomeBusRefused : Names → List ℕ → List BusTable → List ℕ → Type 0
IsSomeBusRefused files vehicle tables text = IsOfSomeBus files vehicle (IsBusRefusedBy files text) tables

-- what is written of the plans of all buses, with them, where none is refused
abbrev pub ArePlansText : Names → List ℕ → List BusTable → List ℕ → Option (List BusPlan) → Type 0
ArePlansText files vehicle tables text (Some buses) = AllZip (IsPlanOfBus files vehicle) tables buses × (text ≡ [])
ArePlansText files vehicle tables text None = IsSomeBusRefused files vehicle tables text

-- what is written of the plan of a bus
abbrev pub IsTextOfBusFile : Names → List ℕ → BusTable → List ℕ → Option Plan → Type 0
IsTextOfBusFile files vehicle table text plan =
    IsOfBus (λ name. (bytes : List ℕ) × AreOf (files name) bytes × IsBusPlanText table.label.bytes bytes text plan) vehicle table

-- what is written of what a vehicle file says, with the verdict: the first bus whose file describes no plan, or what is wrong with the vehicle
abbrev pub IsTextOfBuses : Names → List ℕ → VehicleFile → List ℕ → Verdict → Type 0
IsTextOfBuses files vehicle file text verdict =
    (IsSomeBusRefused files vehicle file.buses.items text × (verdict ≡ Unreadable))
    ⊎ ((buses : List BusPlan) × AllZip (IsPlanOfBus files vehicle) file.buses.items buses × IsVehicleText file buses text verdict)

-- what is written for a vehicle file, with the verdict
abbrev pub IsAnswerOfVehicle : Names → List ℕ → List ℕ → Verdict → Type 0
IsAnswerOfVehicle files vehicle text verdict = (bytes : List ℕ) × AreOf (files vehicle) bytes
    × ((IsRefusedVehicle bytes text × (verdict ≡ Unreadable))
    ⊎ ((file : VehicleFile) × SaysOfVehicle bytes file × IsTextOfBuses files vehicle file text verdict))

-- it is so of the vehicle file, or, where this one says what a vehicle has, of the file of a bus, once those before describe plans
abbrev pub IsOfVehicleFiles : (List ℕ → Type 0) → Names → List ℕ → Type 0
IsOfVehicleFiles IsOf files vehicle = IsOf vehicle ⊎ ((bytes : List ℕ) × (file : VehicleFile) × AreOf (files vehicle) bytes × SaysOfVehicle bytes file
    × IsOfSomeBus files vehicle (λ table name. IsOf name) file.buses.items)
