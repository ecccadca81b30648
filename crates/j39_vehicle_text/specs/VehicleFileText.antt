-- What is written of a vehicle file alone: nothing of one that says what a vehicle has, else why it is refused; and of the plan of a bus.
use Rattle.std.specs.Prelude.{◌≡◌, ◌⊎◌, ◌≢◌, ℕ, List, [], ◌∷◌, ◌++◌, codes, Option, Some, None, Ok, Err}
use Rattle.j39_network.specs.declared.plan.Plan.{Plan}
use Rattle.j39_toml.specs.CauseWords.{cause_word}
use Rattle.j39_vehicle.specs.declared.file.VehicleFile.{VehicleFile}
use Rattle.j39_vehicle.specs.VehicleErrors.{VehicleFault, VehicleError}
use Rattle.j39_vehicle.specs.declared.reading.key.Key.{Key}
use Rattle.j39_vehicle.specs.declared.reading.place.Table.{Table}
use Rattle.j39_vehicle.specs.declared.reading.place.Table.TheVariants.{Top, Bus, Gateway, Forward, Signal, Need}
use Rattle.j39_toml.specs.declared.file_error.FileError.TheVariants as errors
use Rattle.j39_vehicle.specs.Described.{Reads}
use Rattle.j39_vehicle.specs.Words.{word_of}
use Rattle.j39_toml.specs.FileTrees.{tree_of}
use Rattle.j39_plan.specs.PlanErrors.{PlanError}
use Rattle.j39_variants.specs.declared.line.ProductLine.{ProductLine}
use Rattle.j39_plan_text.specs.PlanText.{Describes, DescribesOnePlan, IsRefusalLine, IsRefusedText, choices_line}
use Rattle.j39_text.specs.Texts.{place_field}

-- a table of the file
unfoldable pub vehicle_table_text : Table → List ℕ
vehicle_table_text Top = codes "top"
vehicle_table_text (Bus b) = place_field (codes "bus ") b
vehicle_table_text (Gateway k) = place_field (codes "gateway ") k
vehicle_table_text (Forward n) = place_field (codes "forward ") n
vehicle_table_text (Signal n s) = place_field (codes "forward ") n ++ place_field (codes " signal ") s
vehicle_table_text (Need d) = place_field (codes "need ") d

-- the key at fault, where there is one
unfoldable pub vehicle_key_text : Option Key → List ℕ
vehicle_key_text None = []
vehicle_key_text (Some key) = codes " key " ++ word_of key

unfoldable pub vehicle_fault_line : VehicleFault → List ℕ
vehicle_fault_line fault = codes "refused " ++ (cause_word fault.cause ++ (codes " "
    ++ (vehicle_table_text fault.place.table ++ (vehicle_key_text fault.place.key ++ 10 ∷ []))))

-- the line of a refusal; want of memory says nothing of the file
abbrev pub IsVehicleRefusal : VehicleError → List ℕ → Type 0
IsVehicleRefusal errors.Text text = text ≡ codes "refused Text\n"
IsVehicleRefusal (errors.Fault fault) text = text ≡ vehicle_fault_line fault
IsVehicleRefusal errors.Memory text = ⊥

-- the bytes are a vehicle file that says this
abbrev pub SaysOfVehicle : List ℕ → VehicleFile → Type 0
SaysOfVehicle bytes file = Reads (Ok file) (tree_of bytes)

-- the bytes are no vehicle file, and the line says why
abbrev pub IsRefusedVehicle : List ℕ → List ℕ → Type 0
IsRefusedVehicle bytes text = (error : VehicleError) × Reads (Err error) (tree_of bytes) × IsVehicleRefusal error text

-- what is written of a vehicle file, with what it says, where it isn't refused
abbrev pub IsVehicleFileText : List ℕ → List ℕ → Option VehicleFile → Type 0
IsVehicleFileText bytes text (Some file) = SaysOfVehicle bytes file × (text ≡ [])
IsVehicleFileText bytes text None = IsRefusedVehicle bytes text

-- the line of a refusal, and nothing that it says
abbrev pub RefusesVehicle : VehicleError → List ℕ → Option VehicleFile → Type 0
RefusesVehicle error text file = IsVehicleRefusal error text × (file ≡ None)

-- ---- the plan of a bus

-- the line that names a bus
unfoldable pub bus_line : List ℕ → List ℕ
bus_line label = codes "bus " ++ (label ++ 10 ∷ [])

-- the bus, and the line of a refusal
abbrev pub IsBusRefusal : List ℕ → PlanError → List ℕ → Type 0
IsBusRefusal label error text = (line : List ℕ) × IsRefusalLine error line × (text ≡ bus_line label ++ line)

abbrev pub RefusesBus : List ℕ → PlanError → List ℕ → Option Plan → Type 0
RefusesBus label error text plan = IsBusRefusal label error text × (plan ≡ None)

-- the bus, and that its plan has choices
unfoldable pub bus_choices : List ℕ → List ℕ
bus_choices label = bus_line label ++ choices_line

abbrev pub RefusesBusChoices : List ℕ → List ℕ → Option Plan → Type 0
RefusesBusChoices label text plan = (text ≡ bus_choices label) × (plan ≡ None)

-- the bytes describe a line of vehicles of several variants
abbrev pub HasChoices : List ℕ → Type 0
HasChoices bytes = (line : ProductLine) × Describes bytes line × (line.choices.items ≢ [])

-- the bytes describe no plan: the bus, and why
abbrev pub IsRefusedBus : List ℕ → List ℕ → List ℕ → Type 0
IsRefusedBus label bytes text =
    ((line : List ℕ) × IsRefusedText bytes line × (text ≡ bus_line label ++ line)) ⊎ (HasChoices bytes × (text ≡ bus_choices label))

-- what is written of the plan of a bus, with it, where it isn't refused
abbrev pub IsBusPlanText : List ℕ → List ℕ → List ℕ → Option Plan → Type 0
IsBusPlanText label bytes text (Some plan) = DescribesOnePlan bytes plan × (text ≡ [])
IsBusPlanText label bytes text None = IsRefusedBus label bytes text
