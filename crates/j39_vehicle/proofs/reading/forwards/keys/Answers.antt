use Rattle.std.proofs.lemmas.Result.{err_from_is_err_and}
use Rattle.j39_toml.proofs.FirstFaults.{fails_behind, fails_before}
use Rattle.j39_vehicle.proofs.reading.forwards.keys.Goals as goal

pub returns-in_err-from : goal.returns-in_err-from
returns-in_err-from c =
    let p = err_from_is_err_and c.from_residual-in_err-from.result c.from_residual-in_err-from.ensures.1 in
    let e = c.in_err-from.field-0.0 in
    rw (p.1, p.2) (fails_behind ⊥ e _ _ c.in_ok-only.ensures.0 (fails_behind ⊥ e _ _ c.in_ok-gateway.ensures.gives.0
    (fails_behind ⊥ e _ _ c.in_ok-input.ensures.gives.0 (fails_before ⊥ e _ _ c.in_err-from.ensures))))

pub returns-in_err-at : goal.returns-in_err-at
returns-in_err-at c =
    let p = err_from_is_err_and c.from_residual-in_err-at.result c.from_residual-in_err-at.ensures.1 in
    let e = c.in_err-at.field-0.0 in
    rw (p.1, p.2) (fails_behind ⊥ e _ _ c.in_ok-only.ensures.0 (fails_behind ⊥ e _ _ c.in_ok-gateway.ensures.gives.0
    (fails_behind ⊥ e _ _ c.in_ok-input.ensures.gives.0 (fails_behind ⊥ e _ _ c.in_ok-from.ensures.0 (fails_before ⊥ e _ _ c.in_err-at.ensures)))))
