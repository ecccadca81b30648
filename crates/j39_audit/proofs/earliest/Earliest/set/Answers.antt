use Rattle.std.proofs.Common.{◌≡◌, ◌&&◌, nat_eq, ℕ, Bool, true, false, cond, Option, Some, None, refl, ap, subst, ◌∙◌}
use Rattle.std.specs.Prelude.{unwrap_or}
use Rattle.j39_audit.proofs.earliest.Earliest.set.Goals as goal

-- what a table has at a key, once this was put at another one or at the same
put : (same : Bool) (test : Bool) (cell old : Option (Option ℕ)) (new : Option ℕ) → cell ≡ cond same (Some new) old → same ≡ test
    → unwrap_or cell None ≡ cond test new (unwrap_or old None)
put true test cell old new at is =
    ap (λ (o : Option (Option ℕ)). unwrap_or o None) at ∙ subst (λ (b : Bool). new ≡ cond b new (unwrap_or old None)) is refl
put false test cell old new at is =
    ap (λ (o : Option (Option ℕ)). unwrap_or o None) at ∙ subst (λ (b : Bool). unwrap_or old None ≡ cond b new (unwrap_or old None)) is refl

pub returns-in-Ok : goal.returns-in-Ok
returns-in-Ok c = λ key.
    let m = c.args.mark in
    put _ _ _ _ c.args.moment (c.in-Ok.ensures.updates.0 key)
    (ap (λ (w : ℕ). (nat_eq w key.0 && nat_eq m.subject key.1) && nat_eq m.group key.2) c.number.ensures)
