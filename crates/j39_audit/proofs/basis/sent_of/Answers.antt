use Rattle.std.proofs.Common.{◌≡◌, ◌∷◌, [], ◌<◌, ◌++◌, ℕ, Bool, false, List, Option, Some, length, slice_index_or, sym, ap, ◌∙◌, arith, inl, inr}
use Rattle.std.specs.Prelude.{Vec}
use Rattle.std.specs.Option.{option_map_or}
use Rattle.std.specs.declared.alloc.Global.{Global}
use Rattle.std.proofs.lemmas.Bool.{cases_lt}
use Rattle.std.proofs.lemmas.List.{get_or_append_left, get_or_push, length_push}
use Rattle.std.proofs.lemmas.Option.{slice_get-get_or, slice_get_past}
use Rattle.j39_audit.specs.inside.Sending.{is_sender_of, sent_in}
use Rattle.j39_audit.proofs.Sending.{no_unit}
use Rattle.j39_audit.proofs.basis.sent_of.Goals as goal

abbrev reported_at : ℕ → Option (Vec Bool Global) → Bool
reported_at g o = option_map_or (λ (row : Vec Bool Global). slice_index_or row.items g false) o false

pub loop-unit-preserved : goal.loop-unit-preserved
loop-unit-preserved c =
    let before = c.loop-unit.invariant in
    let old : List (Vec Bool Global) = c.loop-unit.rows.items in
    let row : Vec Bool Global = c.in_ok-row.row in
    let size = before.size in
    let pushed = c.in_ok-push.ensures.items in
    let same_length = ap length pushed in
    let more = length_push old row in
    record {
      size = omega (arith, same_length, more, size);
      each = λ u less g. ap (λ (rows : List (Vec Bool Global)). sent_in rows u g) pushed
          ∙ elim (cases_lt u c.loop-unit.unit) [
            | inl below ↦
                let inside : u < length old = omega (arith, below, size) in
                ap (reported_at g)
                (slice_get-get_or (old ++ row ∷ []) u row (omega (arith, inside, more))
                ∙ ap Some (get_or_append_left old (row ∷ []) row u inside) ∙ sym (slice_get-get_or old u row inside))
                ∙ before.each u below g
            | inr above ↦
                let same : u ≡ c.loop-unit.unit = omega (arith, less, above) in
                let last : u ≡ length old = omega (arith, same, size) in
                ap (reported_at g) (slice_get-get_or (old ++ row ∷ []) u row (omega (arith, last, more)) ∙ ap Some (get_or_push old row row u (sym last)))
                ∙ c.in_ok-row.ensures g ∙ ap (λ (v : ℕ). is_sender_of c.args.plan.now v g) (sym same)
          ];
    }

pub returns : goal.returns
returns c = λ u g.
    let before = c.loop-unit.invariant in
    let size = before.size in
    let count = c.len-unit-end.ensures in
    let test = c.loop-unit-test.false in
    elim (cases_lt u c.loop-unit.unit) [
      | inl below ↦ before.each u below g
      | inr above ↦
          ap (reported_at g) (slice_get_past c.loop-unit.rows.items u (omega (arith, size, above)))
          ∙ sym (no_unit c.args.plan.now u g (omega (arith, above, count, test)))
    ]
