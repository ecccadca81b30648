use Rattle.std.proofs.Common.{◌≡◌, length, rules, sym, ◌∙◌}
use Rattle.std.proofs.lemmas.List.Elements.{length_all_zip}
use Rattle.std.specs.List.{AllZip}
use Rattle.j39_variants.specs.VariantPlans.{IsCopyOfMeaning}
use Rattle.j39_variants.proofs.variant_plan.copies.group.Goals as goal

pub invariant_of-result : goal.invariant_of-result
invariant_of-result c =
    let g = c.args.group.now in
    let signals : c.in_ok-to_vec.field-0.items ≡ c.args.group.now.signals.items = search rules in
    let texts : c.in_ok-to_vec-2.field-0.items ≡ c.args.group.now.texts.items = search rules in
    let copied : AllZip IsCopyOfMeaning c.args.group.now.meanings.items c.in_ok-meanings.field-0.items = rw c.deref-2.ensures.value at c.in_ok-meanings.ensures in
    record {
      label_form = g.label_form;
      priority_range = g.priority_range;
      length_positive = g.length_positive;
      length_range = g.length_range;
      most_least = g.most_least;
      most_range = g.most_range;
      every_positive = g.every_positive;
      every_needed = rw signals g.every_needed;
      signal_count = rw signals g.signal_count;
      signal_forms = rw signals g.signal_forms;
      signal_ranges = rw signals g.signal_ranges;
      signal_divisors = rw signals g.signal_divisors;
      signal_labels = rw signals g.signal_labels;
      meaning_count =
          rw signals (sym (length_all_zip IsCopyOfMeaning c.args.group.now.meanings.items c.in_ok-meanings.field-0.items copied) ∙ g.meaning_count);
      text_count = rw texts g.text_count;
      text_labels = rw texts g.text_labels;
      other_labels = rw (signals, texts) g.other_labels;
    }
