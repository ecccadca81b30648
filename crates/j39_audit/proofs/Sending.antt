-- Of which groups units have flows: with one more flow, and of a unit that isn't planned.
use Rattle.std.proofs.Common.{◌≡◌, ◌≢◌, ◌==◌, ◌&&◌, ◌||◌, ◌≤◌, ℕ, Bool, true, false, List, get_or, length, refl, sym, ap, ◌∙◌, arith, inl, inr, eq-eqb}
use Rattle.std.proofs.Math.Bool.{or-false, or-true}
use Rattle.std.proofs.lemmas.Bool.{cases_eq, ne_eqb}
use Rattle.std.proofs.lemmas.List.Folds.{list_any_none}
use Rattle.j39_network.specs.declared.plan.Plan.{Plan}
use Rattle.j39_network.specs.declared.plan.flow_plan.FlowPlan.{FlowPlan}
use Rattle.j39_audit.specs.inside.Sending.{is_sender_of}

second_false : (a : Bool) → (a && false) ≡ false
second_false true = refl
second_false false = refl

pub no_unit : (plan : Plan) (u g : ℕ) → length plan.units.items ≤ u → is_sender_of plan u g ≡ false
no_unit plan u g past =
    let flows : List FlowPlan = plan.flows.items in
    list_any_none (λ (f : FlowPlan). f.group == g && f.sender == u) flows (λ k d inside.
    let less = plan.flow_senders k d inside in
    ap (λ (is : Bool). ((get_or flows k d).group == g) && is) (ne_eqb (get_or flows k d).sender u (λ e. absurd (omega (arith, less, past, e))))
    ∙ second_false ((get_or flows k d).group == g))

-- ---- with one more flow

pub sent_more : (old new : ℕ → Bool) (f : FlowPlan) (u : ℕ) → ((g : ℕ) → g ≢ f.group → new g ≡ old g) → (f.sender ≢ u → (g : ℕ) → new g ≡ old g)
    → (f.sender ≡ u → new f.group ≡ true) → (g : ℕ) → new g ≡ (old g || (f.group == g && f.sender == u))
sent_more old new f u others other here g = elim (cases_eq f.sender u) [
  | inr not ↦ other not g ∙ sym (ap (λ (is : Bool). old g || (f.group == g && is)) (ne_eqb f.sender u not)
      ∙ ap (λ (is : Bool). old g || is) (second_false (f.group == g)) ∙ or-false (old g))
  | inl same ↦ elim (cases_eq f.group g) [
    | inl there ↦ ap new (sym there) ∙ here same
        ∙ sym (ap (λ (is : Bool). old g || (is && f.sender == u)) (eq-eqb f.group g there)
        ∙ ap (λ (is : Bool). old g || is) (eq-eqb f.sender u same) ∙ or-true (old g))
    | inr elsewhere ↦ others g (λ e. elsewhere (sym e))
        ∙ sym (ap (λ (is : Bool). old g || (is && f.sender == u)) (ne_eqb f.group g elsewhere) ∙ or-false (old g))
  ]
]
