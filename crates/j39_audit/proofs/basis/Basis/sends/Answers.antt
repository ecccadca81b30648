use Rattle.std.proofs.Common.{◌≤◌, ℕ, Bool, false, List, Option, length, slice_index_or, refl, sym, ap, ◌∙◌, arith}
use Rattle.std.specs.Prelude.{Vec}
use Rattle.std.specs.Option.{option_map_or}
use Rattle.std.specs.declared.alloc.Global.{Global}
use Rattle.std.proofs.lemmas.Bool.{ltb-false}
use Rattle.std.proofs.lemmas.List.{get_or_past}
use Rattle.std.proofs.lemmas.Option.{slice_get_past, slice_get_read}
use Rattle.j39_audit.proofs.basis.Basis.sends.Goals as goal

abbrev reported_at : ℕ → Option (Vec Bool Global) → Bool
reported_at g o = option_map_or (λ (row : Vec Bool Global). slice_index_or row.items g false) o false

pub returns-else-group-len : goal.returns-else-group-len
returns-else-group-len c =
    let rows : List (Vec Bool Global) = c.args.self.now.sent.now in
    let row : Vec Bool Global = c.in-Some.row.now in
    let count = c.len.ensures in
    let test = c.if-group-len.false in
    let past : length row.items ≤ c.args.group = omega (arith, count, test) in
    let at = slice_get_read rows (length rows) c.args.unit row refl c.in-Some.ensures.lookup.3.0 c.in-Some.ensures.lookup.1 in
    sym (ap (reported_at c.args.group) at ∙ get_or_past row.items c.args.group false past) ∙ c.args.self.now.sent_so c.args.unit c.args.group

pub returns-in-None : goal.returns-in-None
returns-in-None c =
    let rows : List (Vec Bool Global) = c.args.self.now.sent.now in
    let past : length rows ≤ c.args.unit = ltb-false _ _ (sym c.in-None.ensures.lookup.0) in
    sym (ap (reported_at c.args.group) (slice_get_past rows c.args.unit past)) ∙ c.args.self.now.sent_so c.args.unit c.args.group
