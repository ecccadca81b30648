use Rattle.std.proofs.Common.{◌≡◌, ◌/◌, ◌%◌, ◌++◌, [], ◌∷◌, ℕ, List, ap, ◌∙◌, append_assoc, arith, slice_index, get_or}
use Rattle.std.proofs.lemmas.List.{append-nil, drop_all}
use Rattle.std.proofs.lemmas.Grind.{common_steps}
use Rattle.hex.specs.Hex.{upper_digits, encode_with}
use Rattle.hex.proofs.Pairs.{encode_with-drop}
use Rattle.j39_text.proofs.HexDigits.{two_more}
use Rattle.j39_text.proofs.text_buffer.digits_of.Goals as goal

pub loop-byte-preserved : goal.loop-byte-preserved
loop-byte-preserved c =
    let byte : ℕ = slice_index c.args.bytes.now c.loop-byte.byte-index in
    let e = encode_with-drop upper_digits c.args.bytes.now c.loop-byte.byte-index (omega arith) in
    let high : c.from.result ≡ byte / 16 = grind (arith, common_steps) in
    let low : c.from-in-loop-byte.result ≡ byte % 16 = grind (arith, common_steps) in
    let count = c.loop-byte.invariant.0 in
    let first = c.push.ensures.len in
    let second = c.push-in-loop-byte.ensures.len in
    let front : List ℕ = c.loop-byte.digits.items in
    let one : ℕ = get_or upper_digits c.from.result 0 in
    let two : ℕ = get_or upper_digits c.from-in-loop-byte.result 0 in
    let both : c.push-in-loop-byte.new.self.items ≡ front ++ (one ∷ (two ∷ [])) =
    c.push-in-loop-byte.ensures.items ∙ ap (λ (digits : List ℕ). digits ++ two ∷ []) c.push.ensures.items
    ∙ append_assoc front (one ∷ []) (two ∷ []) in
    (omega (arith, count, first, second), two_more upper_digits _ _ _ _ _ _ _ _ both high low (rw e at c.loop-byte.invariant.1))

pub returns : goal.returns
unfolding encode_with
returns c =
    let done = drop_all c.loop-byte.byte-index c.args.bytes.now c.loop-byte-test.false in
    rw (done, append-nil) at c.loop-byte.invariant.1
