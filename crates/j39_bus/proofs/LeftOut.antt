-- What is left where a unit is off.
use Rattle.std.proofs.Common.{◌≡◌, ℕ, ◌+◌, ◌≤◌, cond, ltb, List, length, refl, ap, ◌∙◌, arith, inl, inr, Option, None}
use Rattle.std.proofs.lemmas.List.{get_or_past}
use Rattle.std.proofs.lemmas.Bool.{cases_eq, cases_lt, eq-eqb, ne_eqb, lt-ltb, le-ltb}
use Rattle.j39_bus.proofs.Columns.{next_place}
use Rattle.j39_bus.specs.BusState.{session_at}
use Rattle.j39_world.specs.SwitchingOff.{session_without, sessions_without}
use Rattle.j39_world.specs.Transfers.{Outgoing, Sessions}
use Rattle.j39_world.specs.World.{changed}

-- the messages of the units below a place go to u no more
abbrev pub AreLeftOut : ℕ → Sessions → ℕ → Sessions → Type 0
AreLeftOut u old below f = (s : ℕ) → f s ≡ cond (ltb s below) (session_without u (old s)) (old s)

pub left_out_none : (u : ℕ) (old : Sessions) → AreLeftOut u old 0 old
left_out_none u old s = rw (le-ltb s 0 (omega arith)) refl

pub left_out_more : (u : ℕ) (old : Sessions) (k : ℕ) (f after : Sessions) → AreLeftOut u old k f → after ≡ changed f k (session_without u (f k))
    → AreLeftOut u old (k + 1) after
left_out_more u old k f after is after_is s = (λ i. after_is i s) ∙ elim (cases_eq s k) [
  | inl same ↦
      let here : f k ≡ old k = is k ∙ (rw (le-ltb k k (omega arith)) refl) in
      rw (same, eq-eqb k k refl, lt-ltb k (k + 1) (omega arith)) (ap (session_without u) here)
  | inr other ↦ rw (ne_eqb s k other, next_place s k other) (is s)
]

-- all, once the message of u is gone
pub left_out_all : (u : ℕ) (list : List (Option Outgoing)) (k : ℕ) (f after : Sessions) → length list ≤ k → AreLeftOut u (session_at list) k f
    → after ≡ changed f u None → after ≡ sessions_without u (session_at list)
left_out_all u list k f after past is after_is = after_is ∙ (λ i. changed (λ s. at s i) u None)
  where
    at : (s : ℕ) → f s ≡ session_without u (session_at list s)
    at s = is s ∙ elim (cases_lt s k) [
      | inl less ↦ rw (lt-ltb s k less) refl
      | inr more ↦
          let none : session_at list s ≡ None = get_or_past list s None (omega (arith, past, more)) in
          rw (le-ltb s k more, none) refl
    ]
