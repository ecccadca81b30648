use Rattle.std.proofs.Common.{◌≡◌, ℕ, ◌<◌, List, Vec, Global, [], ◌∷◌, ◌++◌, length, map, set, get_or, sym, ap, ◌∙◌, subst, arith}
use Rattle.std.proofs.lemmas.List.{length-map, map-set}
use Rattle.j39_schedule.specs.inside.UnitIndexes.{Has}
use Rattle.j39_schedule.specs.inside.Checksums.{checksum}
use Rattle.j39_schedule.proofs.UnitIndexes.{IsJoined, joined_has, joined_keeps, list_at}
use Rattle.j39_schedule.proofs.unit_index.UnitIndex.add.Goals as goal

pub returns : goal.returns
returns c =
    let rows = c.self.inside.lists.items in
    let was = c.args.self.now in
    let k = c.from.result in
    let items : Vec ℕ Global → List ℕ = λ l. l.items in
    let is_k = c.from.ensures ∙ c.checksum.ensures in
    let in_rows : k < length rows = omega (arith, c.self.invariant) in
    let within : checksum c.args.label.now < length was = omega (arith, in_rows, is_k, ap length c.self.view_is, length-map rows items) in
    let here = list_at items rows was c.self.view_is k in_rows c.index_mut-list.result.now c.index_mut-list.ensures.value in
    let row = c.in_ok-push.ensures.items ∙ ap (λ xs. xs ++ c.args.place ∷ []) (sym here ∙ ap (λ n. get_or was n []) is_k) in
    let joined = map-set items rows k c.push.new.self ∙ (λ i. set (c.self.view_is i) (is_k i) (row i)) in
    record {
      has = joined_has (checksum c.args.label.now) c.args.place was _ joined within;
      keeps = joined_keeps (checksum c.args.label.now) c.args.place was _ joined within;
    }
