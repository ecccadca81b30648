-- The first of several faults.
use Rattle.std.specs.Prelude.{Bool, if◌then◌else◌, List, [], ◌∷◌, Option, Some, None}

-- of faults in their order, each with whether it holds, the first that does
abbrev pub first_fault : {E : Type 0} → List (E × Bool) → Option E
first_fault [] = None
first_fault (fault ∷ rest) = if fault.1 then Some fault.0 else first_fault rest
