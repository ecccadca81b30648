-- When a sender may rest.
use Rattle.std.proofs.Common.{◌≡◌, ℕ, zero, suc, ◌+◌, ◌<◌, ◌≤◌, Bool, true, false, not, ◌&&◌, ◌||◌, List, [], ◌∷◌, refl, sym, ap, ◌∙◌, arith, inl, inr}
use Rattle.std.proofs.Common.{length, get_or, Option, Some, None, is_some}
use Rattle.std.proofs.lemmas.Bool.{and_right, cases_eq}
use Rattle.std.proofs.lemmas.List.{length-map}
use Rattle.j39_claim.specs.ClaimerValue.{ClaimerValue}
use Rattle.j39_network.specs.declared.plan.Plan.{Plan}
use Rattle.j39_network.specs.PlannedUnits.{planned_unit}
use Rattle.j39_bus.specs.Queued.{pair_in}
use Rattle.j39_world.specs.Run.{count_of, is_a_transfer_open, is_none_sending, is_nothing_undelivered}
use Rattle.std.specs.List.{list_all, list_any, range_with_len}
use Rattle.j39_bus.specs.declared.network.Network.{Network}
use Rattle.j39_bus.specs.BusState.{nowhere, session_at}
use Rattle.j39_bus.specs.inside.Network.{IsOfPlan, world_in}

all_from : (test : ℕ → Bool) (a n : ℕ) → ((k : ℕ) → a ≤ k → k < a + n → test k ≡ true) → list_all test (range_with_len a n) ≡ true
all_from test a zero is = refl
all_from test a (suc n) is = rw (is a (omega arith) (omega arith)) (all_from test (a + 1) n (λ k from to. is k (omega arith) (omega arith)))

pub all_below : (test : ℕ → Bool) (n : ℕ) → ((k : ℕ) → k < n → test k ≡ true) → list_all test (range_with_len 0 n) ≡ true
all_below test n is = all_from test 0 n (λ k from to. is k (omega arith))

not_from : (test : ℕ → Bool) (a n k : ℕ) → a ≤ k → k < a + n → test k ≡ false → list_all test (range_with_len a n) ≡ false
not_from test a zero k from to is = absurd (omega arith)
not_from test a (suc n) k from to is = elim (cases_eq k a) [
  | inl same ↦ rw (sym (ap test same) ∙ is) refl
  | inr other ↦ rw (not_from test (a + 1) n k (omega arith) (omega arith) is) (and_right (test a) false refl)
]

pub not_below : (test : ℕ → Bool) (n k : ℕ) → k < n → test k ≡ false → list_all test (range_with_len 0 n) ≡ false
not_below test n k inside is = not_from test 0 n k (omega arith) (omega arith) is

-- ---- no unit is sending
all_idle : {X : Type 0} (a : ℕ) (xs : List (Option X)) (test : ℕ → Bool) → ((j : ℕ) → j < length xs → test (a + j) ≡ not (is_some (get_or xs j None)))
    → list_all test (range_with_len a (length xs)) ≡ not (list_any (λ x. is_some x) xs)
all_idle a [] test is = refl
all_idle a (None ∷ xs) test is =
    let here : test a ≡ true = ap test (omega arith) ∙ is 0 (omega arith) in
    rw here (all_idle (a + 1) xs test (λ j inside. ap test (omega arith) ∙ is (suc j) (omega arith)))
all_idle a (Some x ∷ xs) test is =
    let here : test a ≡ false = ap test (omega arith) ∙ is 0 (omega arith) in
    rw here refl

pub units_count : (plan : Plan) (net : Network) → IsOfPlan plan net → count_of plan ≡ length net.claimers.items
units_count plan net of = sym (length-map plan.units.items (planned_unit plan.keep_free)) ∙ sym (ap length of.units)
    ∙ length-map net.claimers.items (λ (c : ClaimerValue). c.planned)

-- ---- no unit sends, and nothing of a message is undelivered

either_of : (any empty : Bool) → not (not any && empty) ≡ (any || not empty)
either_of true empty = refl
either_of false empty = refl

pub open_by : (net : Network) → length net.sessions.items ≡ length net.claimers.items → (empty : Bool)
    → is_nothing_undelivered (length net.claimers.items) (pair_in net.wire.lists) ≡ empty
    → is_a_transfer_open (length net.claimers.items) (world_in nowhere net) ≡ (list_any (λ s. is_some s) net.sessions.items || not empty)
open_by net count empty none =
    let idle : is_none_sending (length net.claimers.items) (world_in nowhere net) ≡ not (list_any (λ s. is_some s) net.sessions.items) =
    ap (λ n. is_none_sending n (world_in nowhere net)) (sym count)
    ∙ all_idle 0 net.sessions.items (λ u. not (is_some (session_at net.sessions.items u)))
    (λ j inside. ap (λ k. not (is_some (session_at net.sessions.items k))) (omega arith)) in
    (λ i. not (idle i && none i)) ∙ either_of (list_any (λ s. is_some s) net.sessions.items) empty
