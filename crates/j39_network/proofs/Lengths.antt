-- Lengths of groups.
use Rattle.std.proofs.Common.{◌≡◌, ℕ, ◌==◌, ◌&&◌, nat_le, inl, inr, sym, ◌∙◌, arith}
use Rattle.std.proofs.lemmas.Bool.{and_from, and_parts, cases_Bool, eq-eqb, eqb-true, false_from_ne_true, false≢true, le-leb, leb-true}

-- between one length and itself is that length alone
pub same_length : (length bytes : ℕ) → (nat_le length bytes && nat_le bytes length) ≡ (length == bytes)
same_length length bytes = elim (cases_Bool (length == bytes)) [
  | inl same ↦
      let e : length ≡ bytes = eqb-true length bytes same in
      and_from (nat_le length bytes) (nat_le bytes length) (le-leb length bytes (omega (arith, e))) (le-leb bytes length (omega (arith, e))) ∙ sym same
  | inr other ↦ false_from_ne_true (nat_le length bytes && nat_le bytes length) (λ both.
      let parts = and_parts (nat_le length bytes) (nat_le bytes length) both in
      let least = leb-true length bytes parts.0 in
      let most = leb-true bytes length parts.1 in
      false≢true (sym other ∙ eq-eqb length bytes (omega (arith, least, most)))) ∙ sym other
]
