-- What is known of the bytes of a file, or of an input, and bytes that come out of it.
use Rattle.std.specs.Prelude.{◌≡◌, ◌⊎◌, ◌<◌, ◌≤◌, ℕ, List, ◌++◌, length, Option, Some}
use Rattle.j39_variants.specs.declared.line.ProductLine.{ProductLine}
use Rattle.j39_plan_text.specs.PlanText.{Describes}
use Rattle.j39_stream.specs.declared.limits.Limits.{Limits}

-- what is known of the bytes of each name
abbrev pub Names : Type 0
Names = List ℕ → Option (List ℕ)

-- these are the bytes, where they are known
abbrev pub AreOf : Option (List ℕ) → List ℕ → Type 0
AreOf known bytes = (all : List ℕ) → known ≡ Some all → bytes ≡ all

-- where the bytes are known, they begin with these
abbrev pub AreFrontOf : Option (List ℕ) → List ℕ → Type 0
AreFrontOf known bytes = (all : List ℕ) → known ≡ Some all → (rest : List ℕ) × (all ≡ bytes ++ rest)

-- where the bytes are known, all of them are left to be read
abbrev pub AreLeft : Option (List ℕ) → Option (List ℕ) → Type 0
AreLeft known left = (all : List ℕ) → known ≡ Some all → left ≡ Some all

-- where the bytes are known, they pass the limits: there are more of them, or as many as there may be calls that read some
abbrev pub MayBeTooLong : Limits → Option (List ℕ) → Type 0
MayBeTooLong limits known = (all : List ℕ) → known ≡ Some all → (limits.bytes < length all) ⊎ (limits.calls ≤ length all)

-- they describe a plan
abbrev pub AreOfPlan : Option (List ℕ) → Type 0
AreOfPlan known = (bytes : List ℕ) × (line : ProductLine) × AreOf known bytes × Describes bytes line
