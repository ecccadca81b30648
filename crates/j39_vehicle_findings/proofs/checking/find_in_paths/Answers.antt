use Rattle.std.proofs.Common.{inl, inr}
use Rattle.j39_vehicle_findings.proofs.Whole.{contents_want, ends_want, loops_want, needs_want, whole_paths}
use Rattle.j39_vehicle_findings.proofs.checking.find_in_paths.Goals as goal
use Rattle.j39_search.proofs.WantedMemory.{on_err}

pub returns-in_err-find_in_ends-clause-memory : goal.returns-in_err-find_in_ends-clause-memory
returns-in_err-find_in_ends-clause-memory c =
    on_err _ _ _ c.from_residual-in_err-find_in_ends.ensures.1 (inl (ends_want c.args.vehicle.now c.in_err-find_in_ends.ensures))

pub returns-in_err-find_in_contents-clause-memory : goal.returns-in_err-find_in_contents-clause-memory
returns-in_err-find_in_contents-clause-memory c =
    on_err _ _ _ c.from_residual-in_err-find_in_contents.ensures.1 (inl (contents_want c.args.vehicle.now c.in_err-find_in_contents.ensures))

pub returns-in_err-find_loops-clause-memory : goal.returns-in_err-find_loops-clause-memory
returns-in_err-find_loops-clause-memory c =
    on_err _ _ _ c.from_residual-in_err-find_loops.ensures.1 (inl (loops_want _ c.args.vehicle.now c.in_err-find_loops.ensures))

pub returns-in_err-find_in_needs-clause-memory : goal.returns-in_err-find_in_needs-clause-memory
returns-in_err-find_in_needs-clause-memory c =
    on_err _ _ _ c.from_residual-in_err-find_in_needs.ensures.1 (inr (needs_want c.args.vehicle.now c.in_err-find_in_needs.ensures))

pub returns-clause-list : goal.returns-clause-list
returns-clause-list c = (
  c.in_ok-loops.loops.items,
  c.in_ok-loops.ensures.stated,
  whole_paths c.in_ok-loops.loops.items c.args.vehicle.now _ _ _ _ _ c.new-findings.ensures.items c.in_ok-find_in_ends.ensures
      c.in_ok-find_in_contents.ensures (rw c.deref.ensures.value at c.in_ok-find_loops.ensures) c.in_ok-find_in_needs.ensures,
)
