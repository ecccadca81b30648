use Rattle.std.proofs.Common.{◌≡◌, ◌*◌, ◌/◌, ◌%◌, arith, ap, ◌++◌, length, slice_index}
use Rattle.std.proofs.lemmas.List.{append-nil, drop_all, length-append}
use Rattle.std.proofs.lemmas.Grind.{common_steps}
use Rattle.hex.specs.Hex.{upper_digits, encode_upper, encode_with}
use Rattle.hex.proofs.Pairs.{encode_with-drop}
use Rattle.hex.proofs.HexLemmas.{length-encode_with}
use Rattle.j39_id.proofs.Digits.{two_more}
use Rattle.j39_id.proofs.printing.push_hex.Goals as goal

pub loop-byte-preserved : goal.loop-byte-preserved
loop-byte-preserved c =
    let e = encode_with-drop upper_digits c.args.bytes.now c.loop-byte.byte-index (omega arith) in
    let high : c.from.result ≡ slice_index c.args.bytes.now c.loop-byte.byte-index / 16 = grind (arith, common_steps) in
    let low : c.from-in-loop-byte.result ≡ slice_index c.args.bytes.now c.loop-byte.byte-index % 16 = grind (arith, common_steps) in (
      omega arith,
      two_more upper_digits _ _ _ _ _ _ _ _ _ c.push.ensures.items c.push-in-loop-byte.ensures.items high low
          (rw e at c.loop-byte.invariant.1),
    )

pub returns : goal.returns
unfolding encode_with
returns c =
    let done = drop_all c.loop-byte.byte-index c.args.bytes.now c.loop-byte-test.false in
    let items : c.loop-byte.text.items ≡ c.args.text.now.items ++ encode_upper c.args.bytes.now = rw (done, append-nil) at c.loop-byte.invariant.1 in
    let count : length (encode_upper c.args.bytes.now) ≡ 2 * length c.args.bytes.now = length-encode_with upper_digits c.args.bytes.now in
    record {
      items = items;
      len = omega (arith, ap length items, length-append c.args.text.now.items (encode_upper c.args.bytes.now), count);
    }
