-- What a search for findings adds to those found before.
use Rattle.std.specs.Prelude.{◌≡◌, ◌≢◌, List, [], ◌++◌, Result, Ok, Err}
use Rattle.std.specs.declared.alloc.AllocError.{AllocError}

-- these more are added, or memory was refused, and then there were some to add
abbrev pub Adds : {A B : Type 0} → Result A AllocError → List B → List B → List B → Type 0
Adds (Ok done) old new more = new ≡ old ++ more
Adds (Err refused) old new more = more ≢ []
