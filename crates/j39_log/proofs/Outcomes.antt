-- Facts of a result of which two clauses speak.
use Rattle.std.proofs.Common.{Result, Ok, Err, OnOk}

-- what follows from two clauses on a success
pub both_ok : {X E : Type 0} (r : Result X E) (A B C : Type 0) → OnOk r A → OnOk r B → (A → B → C) → OnOk r C
both_ok (Ok x) A B C a b follows = follows a b
both_ok (Err e) A B C a b follows = tt
