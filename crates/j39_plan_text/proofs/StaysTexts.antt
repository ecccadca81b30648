-- The lines of two lists of units, of which the same is reported.
use Rattle.std.proofs.Common.{◌≡◌, ◌+◌, Bool, codes, cond, count_by, List, [], ◌∷◌, ◌++◌, refl, sym, ap, ◌∙◌}
use Rattle.std.proofs.lemmas.List.Sums.{sum_by-cons}
use Rattle.std.proofs.lemmas.Slice.Zip.{AllZip-long}
use Rattle.std.specs.List.{AllZip}
use Rattle.j39_network.specs.declared.plan.unit_plan.UnitPlan.{UnitPlan}
use Rattle.j39_plan_text.specs.AddressesText.{stays_text, stays_word, staying_line, staying_lines}
use Rattle.j39_text.specs.Texts.{field}

-- the two have one label and one address, and each is reported in its way to stay, or not to
pub record StayAlike (stays stated : UnitPlan → Bool) (unit box : UnitPlan) : Type 0 where
  pub label : box.label.bytes ≡ unit.label.bytes
  pub address : box.address ≡ unit.address
  pub standing : stated box ≡ stays unit

module _ (stays stated : UnitPlan → Bool) where
  line_same : (unit box : UnitPlan) → StayAlike stays stated unit box → staying_line stated box ≡ staying_line stays unit
  unfolding staying_line
  line_same unit box alike =
      ap (λ label. codes "unit " ++ (label ++ (field (stays_word (stated box)) box.address ++ 10 ∷ []))) alike.label
      ∙ ap (λ address. codes "unit " ++ (unit.label.bytes ++ (field (stays_word (stated box)) address ++ 10 ∷ []))) alike.address
      ∙ ap (λ b. codes "unit " ++ (unit.label.bytes ++ (field (stays_word b) unit.address ++ 10 ∷ []))) alike.standing

  lines_same : (units boxes : List UnitPlan) → AllZip (StayAlike stays stated) units boxes → staying_lines stated boxes ≡ staying_lines stays units
  unfolding staying_lines
  lines_same [] [] all = refl
  lines_same [] (box ∷ boxes) all = absurd all
  lines_same (unit ∷ units) [] all = absurd all
  lines_same (unit ∷ units) (box ∷ boxes) all =
      ap (λ line. line ++ staying_lines stated boxes) (line_same unit box all.0)
      ∙ ap (λ lines. staying_line stays unit ++ lines) (lines_same units boxes all.1)

  count_same : (units boxes : List UnitPlan) → AllZip (StayAlike stays stated) units boxes → count_by stated boxes ≡ count_by stays units
  count_same [] [] all = refl
  count_same [] (box ∷ boxes) all = absurd all
  count_same (unit ∷ units) [] all = absurd all
  count_same (unit ∷ units) (box ∷ boxes) all =
      sum_by-cons (λ x. cond (stated x) 1 0) box boxes
      ∙ ap (λ b. cond b 1 0 + count_by stated boxes) all.0.standing
      ∙ ap (λ n. cond (stays unit) 1 0 + n) (count_same units boxes all.1)
      ∙ sym (sum_by-cons (λ x. cond (stays x) 1 0) unit units)

  pub stays_text_same : (units boxes : List UnitPlan) → AllZip (StayAlike stays stated) units boxes → stays_text stated boxes ≡ stays_text stays units
  unfolding stays_text
  stays_text_same units boxes all =
      rw (lines_same units boxes all, count_same units boxes all, AllZip-long (StayAlike stays stated) units boxes all) refl
