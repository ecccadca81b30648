use Rattle.std.proofs.Common.{◌≡◌, true, false, is_some, nat_eq, sym, ◌∙◌}
use Rattle.std.specs.HashMap.{get}
use Rattle.j39_log.specs.inside.NameTables.{names_in}
use Rattle.j39_log.proofs.Naming.{kept, put}
use Rattle.j39_log.proofs.name_table.NameTable.add.Goals as goal

pub returns-then-contains_key : goal.returns-then-contains_key
returns-then-contains_key c =
    let has : is_some (names_in c.args.self.now c.args.number) ≡ true = sym c.contains_key.ensures ∙ c.if-contains_key.true in
    kept (names_in c.args.self.now) c.args.number c.args.name has

pub returns-in-Ok : goal.returns-in-Ok
returns-in-Ok c =
    let none : is_some (names_in c.args.self.now c.args.number) ≡ false = sym c.contains_key.ensures ∙ c.if-contains_key.false in
    put (names_in c.args.self.now) (get nat_eq c.insert.new.self) c.args.number c.args.name none (λ n. c.in-Ok.ensures.updates.0 n)
