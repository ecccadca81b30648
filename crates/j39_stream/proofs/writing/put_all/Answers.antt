use Rattle.std.proofs.Common.{◌≡◌, ◌<◌, ◌≤◌, ◌-◌, ℕ, List, take, drop, length, refl, ap, ◌∙◌, Ok, arith}
use Rattle.std.proofs.lemmas.List.{take_rest, length-drop}
use Rattle.j39_stream.proofs.StreamSteps.{failed_by_error, failed_by_none, kept_by_some, appended_more}
use Rattle.j39_stream.proofs.writing.put_all.Goals as goal

pub returns-in_default-clause-device : goal.returns-in_default-clause-device
returns-in_default-clause-device g c = (refl, rw (← c.loop-done.invariant.2) (failed_by_error _ _ _ _ _ c.in_default.is c.put.ensures.failures))

pub returns-then-count-eq0-clause-device : goal.returns-then-count-eq0-clause-device
returns-then-count-eq0-clause-device g c =
    let bytes : List ℕ = c.args.bytes.now in
    let i : ℕ = c.loop-done.done in
    let rest : List ℕ = take (length bytes - i) (drop i bytes) in
    let len : length rest ≡ length bytes - i = ap length (take_rest bytes i) ∙ length-drop i bytes in
    let some : 0 < length rest = omega (arith, len) in
    (refl, rw (← c.loop-done.invariant.2) (failed_by_none _ rest _ _ (c.in-Ok.is ∙ ap Ok c.if-count-eq0.true) some c.put.ensures.failures))

pub loop-done-preserved : goal.loop-done-preserved
loop-done-preserved g c =
    let bytes : List ℕ = c.args.bytes.now in
    let i : ℕ = c.loop-done.done in
    let rest : List ℕ = take (length bytes - i) (drop i bytes) in
    let len : length rest ≡ length bytes - i = ap length (take_rest bytes i) ∙ length-drop i bytes in
    let count : c.in-Ok.count ≤ length rest = c.in-Ok.ensures.count in (
      omega (arith, len),
      appended_more _ _ _ bytes rest i c.in-Ok.count (take_rest bytes i) c.loop-done.invariant.1 c.in-Ok.ensures.bytes,
      kept_by_some _ c.in-Ok.count rest _ _ c.in-Ok.is (omega arith) c.put.ensures.failures ∙ c.loop-done.invariant.2,
    )
