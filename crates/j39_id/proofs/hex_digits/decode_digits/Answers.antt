use Rattle.std.proofs.Common.{arith, Err, ap, refl, sym, ◌∙◌}
use Rattle.std.proofs.lemmas.Result.{err_from_is_err_and}
use Rattle.hex.proofs.Pairs.{decode_step, decode_done, decode_err, decode_sized-pairs}
use Rattle.j39_id.proofs.hex_digits.decode_digits.Goals as goal

pub returns-in_err-bytes : goal.returns-in_err-bytes
returns-in_err-bytes c =
    let p = err_from_is_err_and c.from_residual.result c.from_residual.ensures.1 in
    let was = sym c.byte_of.ensures ∙ c.in_err-bytes.was in
    let d = decode_sized-pairs _ _ c.if-text-ne0.false c.if-text-bytes.false ∙ decode_err _ c.bytes.bytes c.bytes.i _ (omega arith) was c.bytes.invariant in
    rw d (p.1 ∙ ap Err p.2)

pub bytes-preserved : goal.bytes-preserved
bytes-preserved c =
    decode_step _ _ c.bytes.i _ (omega arith) (omega arith) (sym c.byte_of.ensures ∙ c.in_ok-bytes.was) c.bytes.invariant

pub returns : goal.returns
returns c =
    let d = decode_sized-pairs _ _ c.if-text-ne0.false c.if-text-bytes.false
    ∙ decode_done _ c.bytes.bytes c.bytes.i (omega arith) (omega arith) c.bytes.invariant in
    rw d (refl, refl)
