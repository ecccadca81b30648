-- Answers for want of memory.
use Rattle.std.proofs.Common.{Result, Ok, Err, IsErrAnd, OnErr}
use Rattle.std.specs.declared.alloc.AllocError.{AllocError}

pub on_err : {A : Type 0} (P : Type 0) (Q : AllocError → Type 0) (r : Result A AllocError) → IsErrAnd r Q → P → OnErr r P
on_err P Q (Ok done) is holds = absurd is
on_err P Q (Err e) is holds = holds
