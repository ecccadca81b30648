use Rattle.std.proofs.Common.{◌≡◌, ◌-◌, ◌^◌, List, map, min, sum, refl, sym, subst, arith}
use Rattle.j39_variants.specs.declared.line.Alternative.{Alternative}
use Rattle.j39_line_bounds.specs.LineTimes.{AreTimesAmong}
use Rattle.j39_line_findings.specs.FullVariants.{line_with}
use Rattle.j39_line_check.specs.CountedFindings.{AreCountedFindings}
use Rattle.j39_line_check.specs.FullSets.{AreLookedAt, IsNumberOfVariants, full_sets}
use Rattle.j39_line_check.specs.SetVariants.{AreEarliestFirst, AreWidest, variants_of_set, with_each_choice}
use Rattle.j39_line_check.proofs.looking.look_with.Goals as goal

pub returns-then-count-gt-LOOKED_LIMIT-clause-looking : goal.returns-then-count-gt-LOOKED_LIMIT-clause-looking
returns-then-count-gt-LOOKED_LIMIT-clause-looking c =
    let sets : List (List Alternative) = map (λ s. s.items) c.in_ok-sets.sets.items in
    let n = sum (map (variants_of_set c.args.line.now.choices.items) sets) in
    let is_number : IsNumberOfVariants c.args.line.now c.in_ok-full.full n = record { kept = sets; are_widest = c.in_ok-sets.ensures; is_sum = refl } in
    let count : c.number_of_variants-count.result ≡ min n (2 ^ 64 - 1) = rw c.deref-2.ensures.value at c.number_of_variants-count.ensures in
    let many = c.if-count-gt-LOOKED_LIMIT.true in
    (n, (record { full = c.in_ok-full.full; are_full = c.in_ok-full.ensures; is_number = is_number }, omega (arith, count, many)), count)

pub counted_findings-requires : goal.counted_findings-requires
counted_findings-requires c =
    let line = c.args.line.now in
    let widest = subst (λ xs. AreWidest (with_each_choice line.choices.items (full_sets line c.in_ok-full.full)) (map (λ s. s.items) xs))
    (sym c.deref-3.ensures.value) c.in_ok-sets.ensures in
    let looked : AreLookedAt (line_with c.args.nevers line) c.in_ok-full.full (map (λ v. v.items) c.in_ok-variants.variants.items) =
    c.in_ok-variants.ensures c.in_ok-full.full widest in
    subst (λ vs. AreEarliestFirst (map (λ v. v.items) vs)) (sym c.deref-4.ensures.value) looked.in_order

pub returns-clause-looking : goal.returns-clause-looking
returns-clause-looking c =
    let line = c.args.line.now in
    let sets : List (List Alternative) = map (λ s. s.items) c.in_ok-sets.sets.items in
    let n = sum (map (variants_of_set line.choices.items) sets) in
    let is_number : IsNumberOfVariants line c.in_ok-full.full n = record { kept = sets; are_widest = c.in_ok-sets.ensures; is_sum = refl } in
    let count : c.number_of_variants-count.result ≡ min n (2 ^ 64 - 1) = rw c.deref-2.ensures.value at c.number_of_variants-count.ensures in
    let few = c.if-count-gt-LOOKED_LIMIT.false in
    let widest = subst (λ xs. AreWidest (with_each_choice line.choices.items (full_sets line c.in_ok-full.full)) (map (λ s. s.items) xs))
    (sym c.deref-3.ensures.value) c.in_ok-sets.ensures in
    record {
      are_full = c.in_ok-full.ensures;
      are_looked_at = c.in_ok-variants.ensures c.in_ok-full.full widest;
      are_found =
          subst (λ vs. AreCountedFindings line c.in_ok-full.full (map (λ v. v.items) vs) c.in_ok-reported.reported.items) c.deref-4.ensures.value
          c.in_ok-reported.ensures.counted;
      few = (n, is_number, omega (arith, count, few));
    }

pub returns-clause-times : goal.returns-clause-times
returns-clause-times c timed known =
    subst (λ vs. AreTimesAmong c.args.line.now (map (λ v. v.items) vs) c.in_ok-reported.times) c.deref-4.ensures.value
    (c.in_ok-reported.ensures.times timed known)
