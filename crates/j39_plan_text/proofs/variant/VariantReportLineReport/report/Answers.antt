use Rattle.std.proofs.Common.{◌≡◌, [], true, false, codes, inl, inr, map, string_bytes, refl, rules, sym, ◌∙◌}
use Rattle.std.specs.List.{AllZip, Any}
use Rattle.j39_variants.specs.Variants.{IsFirstTaking, NoneTakes}
use Rattle.j39_variants.specs.VariantPlans.{IsVariantPlan}
use Rattle.j39_plan_text.specs.ShowText.{show_text}
use Rattle.j39_plan_text.specs.VariantText.{IsUnknown, NamesOf, has_two, refused_variant}
use Rattle.j39_plan_text.proofs.VariantReports.{refused_so}
use Rattle.j39_plan_text.proofs.variant.VariantReportLineReport.report.Goals as goal

pub returns-in-None : goal.returns-in-None
returns-in-None c =
    let unknown : Any (IsUnknown c.args.line.choices.items) (map string_bytes c.args.self.now.labels.now) =
    rw (c.in-None.is, c.deref.ensures.value) at c.in_ok-wanted.ensures in
    refused_so c.refused.result (map string_bytes c.args.self.now.labels.now) c.args.line (refused_variant (codes "UnknownLabel")) c.refused.ensures
    (inl (unknown, refl))

pub returns-then-has_two : goal.returns-then-has_two
returns-then-has_two c =
    let named : AllZip (NamesOf c.args.line.choices.items) (map string_bytes c.args.self.now.labels.now) c.in-Some.wanted.items =
    rw (c.in-Some.is, c.deref.ensures.value) at c.in_ok-wanted.ensures in
    let two : has_two c.in-Some.wanted.items ≡ true = rw c.deref-2.ensures.value at (sym c.has_two.ensures ∙ c.if-has_two.true) in
    refused_so c.refused-then-has_two.result (map string_bytes c.args.self.now.labels.now) c.args.line (refused_variant (codes "Repeated"))
    c.refused-then-has_two.ensures (inr (inl (c.in-Some.wanted.items, named, two, refl)))

pub returns-in-None-2 : goal.returns-in-None-2
returns-in-None-2 c =
    let named : AllZip (NamesOf c.args.line.choices.items) (map string_bytes c.args.self.now.labels.now) c.in-Some.wanted.items =
    rw (c.in-Some.is, c.deref.ensures.value) at c.in_ok-wanted.ensures in
    let apart : has_two c.in-Some.wanted.items ≡ false = rw c.deref-2.ensures.value at (sym c.has_two.ensures ∙ c.if-has_two.false) in
    let none : NoneTakes c.args.line c.in-Some.wanted.items [] = rw (c.in-None-2.is, c.deref-3.ensures.value) at c.in_ok-variant.ensures in
    refused_so c.refused-in-None-2.result (map string_bytes c.args.self.now.labels.now) c.args.line (refused_variant (codes "Never"))
    c.refused-in-None-2.ensures (inr (inr (c.in-Some.wanted.items, record { names = named; apart = apart }, none, refl)))

pub returns : goal.returns
returns c =
    let named : AllZip (NamesOf c.args.line.choices.items) (map string_bytes c.args.self.now.labels.now) c.in-Some.wanted.items =
    rw (c.in-Some.is, c.deref.ensures.value) at c.in_ok-wanted.ensures in
    let apart : has_two c.in-Some.wanted.items ≡ false = rw c.deref-2.ensures.value at (sym c.has_two.ensures ∙ c.if-has_two.false) in
    let first : IsFirstTaking c.args.line c.in-Some.wanted.items c.in-Some-2.variant.items =
    rw (c.in-Some-2.is, c.deref-3.ensures.value) at c.in_ok-variant.ensures in
    let plan : IsVariantPlan c.args.line c.in-Some-2.variant.items c.in_ok-plan.plan = rw c.deref-4.ensures.value at c.in_ok-plan.ensures in
    let shown : c.write_plan.new.text ≡ show_text c.in_ok-plan.plan = search rules in
    record {
      wanted = c.in-Some.wanted.items;
      are_wanted = record { names = named; apart = apart };
      variant = c.in-Some-2.variant.items;
      is_first = first;
      plan = c.in_ok-plan.plan;
      is_plan = plan;
      shown = shown;
    }
