-- The fault that is reported of a line is the first that holds.
use Rattle.std.proofs.Common.{◌≡◌, ℕ, suc, ◌==◌, ◌||◌, true, false, List, [], ◌∷◌, length, Option, Some, None, Result, Ok, Err, refl, arith}
use Rattle.std.proofs.lemmas.Bool.{ne_eqb, or_from}
use Rattle.std.specs.Option.{option_map_or}
use Rattle.std.specs.Prelude.{if◌then◌else◌, is_err, is_none}
use Rattle.std.specs.Result.{result_err}
use Rattle.hex.specs.declared.error.FromHexError.{FromHexError}
use Rattle.hex.specs.Hex.{decode_of}
use Rattle.j39_id.specs.FirstFault.{first_fault}
use Rattle.j39_id.specs.Lines.{Long, Short}
use Rattle.j39_network.specs.declared.plan.Plan.{Plan}
use Rattle.j39_network.specs.declared.steps.Step.{Step}
use Rattle.j39_schedule.specs.Schedule.{Ordered}
use Rattle.j39_schedule.specs.Schedule.{does, Order, of_unit, of_units, of_unit_or_units, of_message, Reading, begins_comment, flow_place, line_order}
use Rattle.j39_schedule.specs.Schedule.{spelled_number, order_named, order_of, unit_named, with_bytes, words_of, words_order}
use Rattle.j39_schedule.specs.LineFaults.{ReportsFirstFault, order_faults, values_faults, words_faults}
use Rattle.j39_schedule.specs.declared.line_fault.LineFault.TheVariants.{UnknownWord, UnknownLabel, BadNumber, BadHex}

-- ---- numbers of values

module _ (n : ℕ) where
  not_one : (suc (suc n) == 1) ≡ false
  not_one = ne_eqb (suc (suc n)) 1 (λ e. omega arith)

  not_two : (suc (suc (suc n)) == 2) ≡ false
  not_two = ne_eqb (suc (suc (suc n))) 2 (λ e. omega arith)

  neither : (suc (suc (suc n)) == 1 || suc (suc (suc n)) == 2) ≡ false
  neither = or_from _ _ (ne_eqb (suc (suc (suc n))) 1 (λ e. omega arith)) not_two

-- ---- values of the right number

of_one : (o : Option ℕ) (step : ℕ → Step) (r : Reading) → r ≡ option_map_or (λ u. Ok (Some (does (step u)))) o (Err UnknownLabel)
    → result_err r ≡ (if is_none o || false then Some UnknownLabel else None)
of_one None step r is = rw is refl
of_one (Some u) step r is = rw is refl

of_two : (o p : Option ℕ) (step : ℕ → ℕ → Step) (r : Reading)
    → r ≡ option_map_or (λ u. option_map_or (λ v. Ok (Some (does (step u v)))) p (Err UnknownLabel)) o (Err UnknownLabel)
    → result_err r ≡ (if is_none o || (is_none p || false) then Some UnknownLabel else None)
of_two None p step r is = rw is refl
of_two (Some u) None step r is = rw is refl
of_two (Some u) (Some v) step r is = rw is refl

of_a_message : (plan : Plan) (order : ℕ → List ℕ → Ordered) (o : Option ℕ) (bytes : Result (List ℕ) FromHexError) (r : Reading)
    → r ≡ option_map_or (λ n. with_bytes order (flow_place plan n) bytes) o (Err BadNumber)
    → result_err r ≡ (if is_none o || false then Some BadNumber else (if is_err bytes || false then Some BadHex else None))
of_a_message plan order None bytes r is = rw is refl
of_a_message plan order (Some n) (Ok bytes) r is = rw is refl
of_a_message plan order (Some n) (Err e) r is = rw is refl

-- ---- a line

values_first : (plan : Plan) (order : Order) (values : List (List ℕ))
    → result_err (order_of plan order values) ≡ first_fault (values_faults plan order values)
values_first plan (of_unit step) [] = refl
values_first plan (of_unit step) (a ∷ []) = of_one (unit_named plan a) step _ refl
values_first plan (of_unit step) (a ∷ b ∷ more) = let many = not_one (length more) in rw many refl
values_first plan (of_units step) [] = refl
values_first plan (of_units step) (a ∷ []) = refl
values_first plan (of_units step) (a ∷ b ∷ []) = of_two (unit_named plan a) (unit_named plan b) step _ refl
values_first plan (of_units step) (a ∷ b ∷ c ∷ more) = let many = not_two (length more) in rw many refl
values_first plan (of_unit_or_units one two) [] = refl
values_first plan (of_unit_or_units one two) (a ∷ []) = of_one (unit_named plan a) one _ refl
values_first plan (of_unit_or_units one two) (a ∷ b ∷ []) = of_two (unit_named plan a) (unit_named plan b) two _ refl
values_first plan (of_unit_or_units one two) (a ∷ b ∷ c ∷ more) = let many = neither (length more) in rw many refl
values_first plan (of_message message) [] = refl
values_first plan (of_message message) (a ∷ []) = refl
values_first plan (of_message message) (n ∷ hex ∷ []) = of_a_message plan message (spelled_number n) (decode_of hex) _ refl
values_first plan (of_message message) (a ∷ b ∷ c ∷ more) = let many = not_two (length more) in rw many refl

order_first : (plan : Plan) (order : Option Order) (values : List (List ℕ))
    → result_err (option_map_or (λ order. order_of plan order values) order (Err UnknownWord)) ≡ first_fault (order_faults plan order values)
order_first plan None values = refl
order_first plan (Some order) values = values_first plan order values

words_first : (plan : Plan) (words : List (List ℕ)) → result_err (words_order plan words) ≡ first_fault (words_faults plan words)
unfolding words_order
words_first plan [] = refl
words_first plan (word ∷ values) =
    elim (begins_comment word) as (λ comment.
    result_err (if comment then Ok None else option_map_or (λ order. order_of plan order values) (order_named word) (Err UnknownWord))
    ≡ first_fault (if comment then [] else order_faults plan (order_named word) values)) [
      | true ↦ refl
      | false ↦ order_first plan (order_named word) values
    ]

pub reports_first_fault : ReportsFirstFault
unfolding line_order
reports_first_fault plan Long = refl
reports_first_fault plan (Short line) = words_first plan (words_of line)
