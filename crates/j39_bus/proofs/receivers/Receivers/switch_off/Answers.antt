use Rattle.std.proofs.Common.{◌+◌, length, refl, ap, arith, ◌∙◌, ◌||◌, eqb}
use Rattle.j39_bus.proofs.Columns.{IsCleared, cleared_all, cleared_more, in_row_or_column, next_in_either, or_at, whole_row_and_column}
use Rattle.j39_bus.specs.BusState.{ReceiverTable, closed, holding_at}
use Rattle.j39_bus.proofs.ReceiverRows.{table_seen}
use Rattle.j39_bus.proofs.receivers.Receivers.switch_off.Goals as goal

pub loop-other-preserved : goal.loop-other-preserved
loop-other-preserved c =
    let u = c.args.unit in
    let k = c.loop-other.other in
    let was = holding_at c.args.self.now.holdings in
    let first : IsCleared closed (or_at (in_row_or_column u k) u k) was (holding_at c.close.new.self.holdings) =
    cleared_more closed (in_row_or_column u k) (or_at (in_row_or_column u k) u k) u k was (holding_at c.loop-other.self.holdings)
    (holding_at c.close.new.self.holdings) c.loop-other.invariant.cleared c.close.ensures.after (λ s t. refl) in
    record {
      windows = c.close-in-loop-other.ensures.windows ∙ c.close.ensures.windows ∙ c.loop-other.invariant.windows;
      cleared = cleared_more closed (or_at (in_row_or_column u k) u k) (in_row_or_column u (k + 1)) k u was (holding_at c.close.new.self.holdings)
          (holding_at c.close-in-loop-other.new.self.holdings) first
          c.close-in-loop-other.ensures.after (next_in_either u k);
    }

pub returns-clause-after : goal.returns-clause-after
returns-clause-after c =
    let was = c.args.self.now in
    let u = c.args.unit in
    let k = c.loop-other.other in
    let table = table_seen c.self.inside.windows.items c.self.inside.rows.items was c.self.view_is c.self.invariant in
    cleared_all closed (in_row_or_column u k) (λ s t. eqb s u || eqb t u) (holding_at was.holdings) (holding_at c.loop-other.self.holdings)
    c.loop-other.invariant.cleared
    (whole_row_and_column (length was.windows) was.holdings table closed u k (omega (arith, ap (λ (t : ReceiverTable). length t.windows) c.self.view_is)))
