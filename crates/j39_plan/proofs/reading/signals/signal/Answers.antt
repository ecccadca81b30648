use Rattle.std.proofs.lemmas.Result.{err_from_is_err_and}
use Rattle.j39_plan.specs.SignalTables.{signal_table_faults}
use Rattle.j39_toml.proofs.FirstFaults.{fails_on, first-append}
use Rattle.j39_plan.proofs.reading.signals.signal.Goals as goal

pub returns-in_err-per-clause-gives : goal.returns-in_err-per-clause-gives
unfolding signal_table_faults
returns-in_err-per-clause-gives c =
    let p = err_from_is_err_and c.from_residual-in_err-per.result c.from_residual-in_err-per.ensures.1 in
    let code = c.in_ok-kind.ensures.1.1 in
    let step = rw code at c.in_ok-step.ensures.gives.0 in
    let fails = rw code at c.in_err-per.ensures.gives in
    rw (p.1, p.2, c.in_ok-only_known.ensures.0, c.in_ok-label.ensures.gives.0, c.in_ok-byte.ensures.gives.0, c.in_ok-bit.ensures.gives.0)
    (rw (c.in_ok-bits.ensures.gives.0, c.in_ok-kind.ensures.0, step)
    (fails_on _ _ c.in_err-per.field-0.0 _ _ (λ grows. grows) (λ f is. first-append _ _ f is) fails))

pub returns-in_err-unit-clause-gives : goal.returns-in_err-unit-clause-gives
unfolding signal_table_faults
returns-in_err-unit-clause-gives c =
    let p = err_from_is_err_and c.from_residual-in_err-unit.result c.from_residual-in_err-unit.ensures.1 in
    let code = c.in_ok-kind.ensures.1.1 in
    let step = rw code at c.in_ok-step.ensures.gives.0 in
    let per = rw code at c.in_ok-per.ensures.gives.0 in
    let offset = rw code at c.in_ok-offset.ensures.gives.0 in
    let fails = rw code at c.in_err-unit.ensures in
    rw (p.1, p.2, c.in_ok-only_known.ensures.0, c.in_ok-label.ensures.gives.0, c.in_ok-byte.ensures.gives.0, c.in_ok-bit.ensures.gives.0)
    (rw (c.in_ok-bits.ensures.gives.0, c.in_ok-kind.ensures.0, step, per, offset)
    (fails_on _ _ c.in_err-unit.field-0.0 _ _ (λ grows. grows) (λ f is. first-append _ _ f is) fails))

pub returns-in_err-repeated-clause-gives : goal.returns-in_err-repeated-clause-gives
unfolding signal_table_faults
returns-in_err-repeated-clause-gives c =
    let p = err_from_is_err_and c.from_residual-in_err-repeated.result c.from_residual-in_err-repeated.ensures.1 in
    let code = c.in_ok-kind.ensures.1.1 in
    let step = rw code at c.in_ok-step.ensures.gives.0 in
    let per = rw code at c.in_ok-per.ensures.gives.0 in
    let offset = rw code at c.in_ok-offset.ensures.gives.0 in
    let unit = rw code at c.in_ok-unit.ensures.0 in
    rw (p.1, p.2, c.in_ok-only_known.ensures.0, c.in_ok-label.ensures.gives.0, c.in_ok-byte.ensures.gives.0, c.in_ok-bit.ensures.gives.0)
    (rw (c.in_ok-bits.ensures.gives.0, c.in_ok-kind.ensures.0, step, per, offset, unit)
    (fails_on _ _ c.in_err-repeated.field-0.0 _ _ (λ grows. grows) (λ f is. first-append _ _ f is) c.in_err-repeated.ensures.gives))
