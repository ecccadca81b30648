-- Texts that are written one behind another.
use Rattle.std.proofs.Common.{◌≡◌, ℕ, List, ◌++◌, Result, Ok, Err, OnOk, ap, ◌∙◌, append_assoc}

-- two of them
pub both_written : {X E : Type 0} (r : Result X E) (old middle new first second : List ℕ) → middle ≡ old ++ first → OnOk r (new ≡ middle ++ second)
    → OnOk r (new ≡ old ++ (first ++ second))
both_written (Ok x) old middle new first second one two = two ∙ ap (λ (t : List ℕ). t ++ second) one ∙ append_assoc old first second
both_written (Err e) old middle new first second one two = tt
