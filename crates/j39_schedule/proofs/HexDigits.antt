-- Which texts spell bytes, and what is begun with them.
use Rattle.std.proofs.Common.{◌≡◌, ℕ, ◌%◌, Bool, true, false, is_ok, List, length, Option, Some, Result, Ok, Err, refl, sym, ap, ◌∙◌}
use Rattle.std.specs.List.{AllPass, list_all}
use Rattle.std.proofs.lemmas.List.Sums.{AllPass-from_list_all, list_all-from_AllPass}
use Rattle.hex.specs.Hex.{decode_of, is_hex_digit}
use Rattle.hex.specs.declared.error.FromHexError.{FromHexError}
use Rattle.hex.proofs.HexLemmas.{decode_of-digits, decode_of-ok}
use Rattle.j39_network.specs.declared.plan.Plan.{Plan}
use Rattle.j39_schedule.specs.Schedule.{Ordered, flow_place, spelled_number, with_bytes, with_flow}
use Rattle.j39_schedule.specs.Scheduling.{IsOfMessage, OrdersMessage}

decodes_if : (text : List ℕ) (all : Bool) (r : Result (List ℕ) FromHexError) → length text % 2 ≡ 0 → list_all is_hex_digit text ≡ all
    → decode_of text ≡ r → all ≡ is_ok r
decodes_if text true r even all is =
    let spelled = decode_of-digits text even (AllPass-from_list_all is_hex_digit text all) in
    sym (ap is_ok (sym is ∙ spelled.1))
decodes_if text false (Err e) even all is = refl
decodes_if text false (Ok bytes) even all is =
    sym all ∙ list_all-from_AllPass is_hex_digit text (decode_of-ok text bytes is).1

-- pairs of digits spell bytes, and nothing else does
pub decodes : (text : List ℕ) → length text % 2 ≡ 0 → list_all is_hex_digit text ≡ is_ok (decode_of text)
decodes text even = decodes_if text (list_all is_hex_digit text) (decode_of text) even refl refl

-- one that is begun or sent
abbrev pub AreMessages : (ℕ → List ℕ → Ordered) → Type 0
AreMessages order = (flow : ℕ) (bytes : List ℕ) → IsOfMessage (order flow bytes)

ordered_with : (order : ℕ → List ℕ → Ordered) → AreMessages order → (flow : ℕ) (r : Result (List ℕ) FromHexError) → is_ok r ≡ true
    → OrdersMessage (with_bytes order flow r)
ordered_with order are flow (Ok bytes) is = (order flow bytes, are flow bytes, refl)
ordered_with order are flow (Err e) is = cc is

-- a number and pairs of digits order it
pub message_ordered : (order : ℕ → List ℕ → Ordered) → AreMessages order → (plan : Plan) (number digits : List ℕ) (n : ℕ)
    → Some n ≡ spelled_number number → is_ok (decode_of digits) ≡ true → OrdersMessage (with_flow plan order number digits)
message_ordered order are plan number digits n is spelled = rw (← is) (ordered_with order are (flow_place plan n) (decode_of digits) spelled)
