-- What is written for what a command line orders.
use Rattle.std.specs.Prelude.{◌≡◌, ◌⊎◌, ℕ, Bool, List, Option, string_bytes, length, map}
use Rattle.j39_app.specs.AuditAnswers.{IsAuditOf}
use Rattle.j39_app.specs.Known.{AreFrontOf, AreOf, Names}
use Rattle.j39_app.specs.VehicleAnswers.{IsAnswerOfVehicle}
use Rattle.j39_line_text.specs.LineAddressesText.{IsLineAddressesText}
use Rattle.j39_line_text.specs.LineCheckText.{IsLineCheckText}
use Rattle.j39_line_text.specs.LineLoadText.{IsLineLoadText}
use Rattle.j39_plan_text.specs.ShownLines.{IsShowText}
use Rattle.j39_plan_text.specs.VariantText.{IsVariantText}
use Rattle.j39_variants.specs.declared.line.ProductLine.{ProductLine}
use Rattle.j39_text.specs.FrameText.{IsFrameText, IsInputText}
use Rattle.j39_plan_text.specs.PlanText.{Describes, IsOfOnePlan, IsRefusedText}
use Rattle.j39_follow.specs.FollowText.{IsFollowText}
use Rattle.j39_log.specs.ReadText.{IsReadText}
use Rattle.j39_run.specs.RunText.{IsRunText}
use Rattle.j39_network.specs.declared.plan.Plan.{Plan}
use Rattle.j39_stream.specs.declared.verdict.Verdict.{Verdict}
use Rattle.j39_stream.specs.declared.verdict.Verdict.TheVariants.{Done, Unreadable}
use Rattle.j39_command_line.specs.Orders.{are_all}
use Rattle.j39_command_line.specs.declared.orders.Order.{Order}
use Rattle.j39_command_line.specs.declared.orders.Order.TheVariants.{Input, Frame, Show, Variant, Check, Addresses, Load, Run, Read, Follow, Audit, Vehicle, Help}

-- for the bytes of a file, or of an input
abbrev pub IsOfBytes : {V : Type 0} → (List ℕ → List ℕ → V → Type 0) → Option (List ℕ) → List ℕ → V → Type 0
IsOfBytes IsText known text answer = (bytes : List ℕ) × AreOf known bytes × IsText bytes text answer

-- with some answer
abbrev pub IsOfSome : {V : Type 0} → (List ℕ → V → Type 0) → List ℕ → Type 0
IsOfSome {V} IsText text = (answer : V) × IsText text answer

-- why they describe no plan
abbrev pub IsRefusedOf : Option (List ℕ) → List ℕ → Type 0
IsRefusedOf known text = (bytes : List ℕ) × AreOf known bytes × IsRefusedText bytes text

-- what is written for the files of two names, the first a plan's: why it describes no plan, or what is written for the line of vehicles
-- that it describes and for the other file
abbrev pub IsAnswerOfTwo : (ProductLine → Option (List ℕ) → List ℕ → Verdict → Type 0) → Option (List ℕ) → Option (List ℕ) → List ℕ → Verdict → Type 0
IsAnswerOfTwo IsTextFor first second text verdict =
    ((bytes : List ℕ) × AreOf first bytes × IsRefusedText bytes text × (verdict ≡ Unreadable))
    ⊎ ((bytes : List ℕ) × (line : ProductLine) × AreOf first bytes × Describes bytes line × IsTextFor line second text verdict)

-- for the one plan of a line of vehicles and another file, of which nothing is read where there are several plans
abbrev pub IsForOnePlan : (Plan → Option (List ℕ) → List ℕ → Verdict → Type 0) → ProductLine → Option (List ℕ) → List ℕ → Verdict → Type 0
IsForOnePlan IsTextFor line known = IsOfOnePlan (λ plan. IsTextFor plan known) line

-- for a schedule; a bus has a chooser for each unit of its plan
abbrev pub IsRunOf : Plan → Option (List ℕ) → List ℕ → Verdict → Type 0
IsRunOf plan known text verdict =
    (schedule : List ℕ) × AreOf known schedule × IsRunText plan (length plan.units.items) schedule text verdict

-- for a log, of which nothing is read where the plan is refused
abbrev pub IsReadOf : Plan → Option (List ℕ) → List ℕ → Verdict → Type 0
IsReadOf plan known text verdict = (log : List ℕ) × (verdict ≡ Done → AreOf known log) × IsReadText plan log text verdict

-- by the claims of the log itself, of all frames or of those of planned groups
abbrev pub IsFollowOf : Bool → Plan → Option (List ℕ) → List ℕ → Verdict → Type 0
IsFollowOf all_frames plan known text verdict =
    (log : List ℕ) × (verdict ≡ Done → AreOf known log) × IsFollowText plan all_frames log text verdict

-- what is written for an order, with the verdict, where files have these names and the input is this
abbrev pub IsAnswer : Names → Option (List ℕ) → Order → List ℕ → Verdict → Type 0
IsAnswer files input Input text verdict = IsOfBytes IsInputText input text verdict
IsAnswer files input (Frame line) text verdict = IsFrameText (string_bytes line) text verdict
IsAnswer files input (Show plan) text verdict = IsOfBytes IsShowText (files (string_bytes plan)) text verdict
IsAnswer files input (Variant plan labels) text verdict =
    IsOfBytes (IsVariantText (map string_bytes labels.items)) (files (string_bytes plan)) text verdict
IsAnswer files input (Check plan) text verdict = IsOfBytes IsLineCheckText (files (string_bytes plan)) text verdict
IsAnswer files input (Addresses plan) text verdict = IsOfBytes IsLineAddressesText (files (string_bytes plan)) text verdict
IsAnswer files input (Load plan) text verdict = IsOfBytes IsLineLoadText (files (string_bytes plan)) text verdict
IsAnswer files input (Run plan schedule) text verdict =
    IsAnswerOfTwo (IsForOnePlan IsRunOf) (files (string_bytes plan)) (files (string_bytes schedule)) text verdict
IsAnswer files input (Read plan log) text verdict =
    IsAnswerOfTwo (IsForOnePlan IsReadOf) (files (string_bytes plan)) (files (string_bytes log)) text verdict
IsAnswer files input (Follow plan log frames) text verdict =
    IsAnswerOfTwo (IsForOnePlan (IsFollowOf (are_all frames))) (files (string_bytes plan)) (files (string_bytes log)) text verdict
IsAnswer files input (Audit plan log part stamps quiet) text verdict =
    IsAnswerOfTwo (IsForOnePlan (IsAuditOf part stamps quiet)) (files (string_bytes plan)) (files (string_bytes log)) text verdict
IsAnswer files input (Vehicle vehicle) text verdict = IsAnswerOfVehicle files (string_bytes vehicle) text verdict
IsAnswer files input (Help shown) text verdict = (text ≡ string_bytes shown) × (verdict ≡ Done)

-- ---- what a part may stand written of

-- for a schedule or a log that begins so
abbrev pub IsRunFrontOf : Plan → Option (List ℕ) → List ℕ → Verdict → Type 0
IsRunFrontOf plan known text verdict =
    (schedule : List ℕ) × AreFrontOf known schedule × IsRunText plan (length plan.units.items) schedule text verdict

abbrev pub IsReadFrontOf : Plan → Option (List ℕ) → List ℕ → Verdict → Type 0
IsReadFrontOf plan known text verdict = (log : List ℕ) × AreFrontOf known log × IsReadText plan log text verdict

abbrev pub IsFollowFrontOf : Bool → Plan → Option (List ℕ) → List ℕ → Verdict → Type 0
IsFollowFrontOf all_frames plan known text verdict =
    (log : List ℕ) × AreFrontOf known log × IsFollowText plan all_frames log text verdict

-- the text of an order, or of one whose schedule or log begins like this one's
abbrev pub IsFrontAnswer : Names → Option (List ℕ) → Order → List ℕ → Verdict → Type 0
IsFrontAnswer files input (Run plan schedule) text verdict =
    IsAnswerOfTwo (IsForOnePlan IsRunFrontOf) (files (string_bytes plan)) (files (string_bytes schedule)) text verdict
IsFrontAnswer files input (Read plan log) text verdict =
    IsAnswerOfTwo (IsForOnePlan IsReadFrontOf) (files (string_bytes plan)) (files (string_bytes log)) text verdict
IsFrontAnswer files input (Follow plan log frames) text verdict =
    IsAnswerOfTwo (IsForOnePlan (IsFollowFrontOf (are_all frames))) (files (string_bytes plan)) (files (string_bytes log)) text verdict
IsFrontAnswer files input order text verdict = IsAnswer files input order text verdict
