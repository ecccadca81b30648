-- Where clocks don't drift, nothing is rounded.
use Rattle.std.proofs.Common.{◌≡◌, ℕ, ◌+◌, ◌-◌, ◌*◌, ◌/◌, ap, ◌∙◌, arith}
use Rattle.std.specs.Int.{div_ceil}
use Rattle.j39_audit.specs.Moments.{bit_us, damaged_at_once}
use Rattle.j39_audit_laws.specs.ExactClocks.{ExactClocks}

whole : (n : ℕ) → n * 1000000 / 1000000 ≡ n
whole n = omega arith

pub whole_ceil : (n : ℕ) → div_ceil (n * 1000000) 1000000 ≡ n
whole_ceil n = omega arith

pub exact_clocks : ExactClocks
exact_clocks t none = record {
  shortest = λ ms. ap (λ (d : ℕ). 999 * ms * (1000000 - d) / 1000000) none ∙ whole (999 * ms);
  longest = λ ms. ap (λ (d : ℕ). div_ceil (1001 * ms * (1000000 + d)) 1000000) none ∙ whole_ceil (1001 * ms);
  reach = λ bytes.
      let bits : ℕ = bit_us t.bitrate * (81 + 10 * bytes + 192 * damaged_at_once t) in
      let same : 81 + 10 * bytes + 192 * damaged_at_once t ≡ 81 + (10 * bytes + 192 * damaged_at_once t) = omega arith in
      ap (λ (d : ℕ). div_ceil (bits * (1000000 + d)) 1000000 + 2) none ∙ ap (λ (k : ℕ). k + 2) (whole_ceil bits)
      ∙ ap (λ (k : ℕ). bit_us t.bitrate * k + 2) same;
}
