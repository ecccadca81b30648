use Rattle.std.proofs.Common.{rules, ◌≡◌, ◌<◌, ◌∙◌, Bool, true, false, if◌then◌else◌, List, ℕ, Option, Some, length, slice_index_or, sym, ap, subst, arith}
use Rattle.std.specs.Prelude.{slice_set, IfSome}
use Rattle.j39_follow.specs.Who.{is_name_of}
use Rattle.j39_follow.specs.inside.Recounting.{IsMarked, IsMoved}
use Rattle.j39_follow.proofs.Addresses.Tables.{put, put_claimed, put_nowhere}
use Rattle.j39_follow.proofs.address.holders.Holders.note.Goals as goal

pub returns-in-Some : goal.returns-in-Some
returns-in-Some c =
    let plan = c.args.plan.now in
    let old = c.args.self.now in
    let left = c.leave.new.self in
    let new = c.put.new.self in
    let name = c.args.name in
    let address = c.in-Some.address in
    let range : address < 254 = subst (λ (o : Option ℕ). IfSome o (λ a. a < 254)) c.in-Some.is c.requires in
    let room : address < length left.names = subst (λ (xs : List (Option ℕ)). address < length xs) c.mark.ensures.names c.put.ensures.room in
    let many : length old.claimed ≡ 254 = search rules in
    let marked : IsMarked plan old new name =
    λ u unit at.
    ap (λ (t : List Bool). slice_index_or t u false) c.put.ensures.marks ∙ c.mark.ensures.marked u unit at
    ∙ ap (λ (t : List Bool). if is_name_of plan u unit name then true else slice_index_or t u false) c.leave.ensures.marks in
    subst (λ (o : Option ℕ). IsMoved plan old new name o c.args.count) (sym c.in-Some.is)
    (put plan old left new name address c.args.count c.leave.ensures.left room
    (c.put.ensures.names ∙ ap (λ (xs : List (Option ℕ)). slice_set xs address (Some name)) c.mark.ensures.names) marked
    (put_claimed old new address c.args.count (omega (arith, range, many))
    (c.put.ensures.claimed ∙ ap (λ (xs : List ℕ). slice_set xs address c.args.count) (c.mark.ensures.claims ∙ c.leave.ensures.claims))))

pub returns-in-None : goal.returns-in-None
returns-in-None c =
    let plan = c.args.plan.now in
    let old = c.args.self.now in
    let left = c.leave.new.self in
    let new = c.mark.new.self in
    let name = c.args.name in
    let marked : IsMarked plan old new name =
    λ u unit at.
    c.mark.ensures.marked u unit at
    ∙ ap (λ (t : List Bool). if is_name_of plan u unit name then true else slice_index_or t u false) c.leave.ensures.marks in
    subst (λ (o : Option ℕ). IsMoved plan old new name o c.args.count) (sym c.in-None.is)
    (put_nowhere plan old left new name c.args.count c.leave.ensures.left c.mark.ensures.names marked (c.mark.ensures.claims ∙ c.leave.ensures.claims))
