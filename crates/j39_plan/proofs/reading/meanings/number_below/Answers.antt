use Rattle.std.proofs.Common.{ℕ, List, Bool, if◌then◌else◌, Option, Some, None, sym, ap}
use Rattle.std.specs.Str.Parse.{digits_value}
use Rattle.j39_plan.proofs.Numbers.{unread}
use Rattle.j39_plan.proofs.reading.meanings.number_below.Goals as goal

-- the number where a test holds
abbrev where_below : List ℕ → Bool → Option ℕ
where_below name below = if below then Some (digits_value 10 name) else None

pub returns-in-Err : goal.returns-in-Err
returns-in-Err c =
    sym (ap (where_below c.args.name.now) (unread c.args.limit c.args.name.now c.parse.result c.in-Err.field-0 c.requires c.parse.ensures.value.0 c.in-Err.is))
