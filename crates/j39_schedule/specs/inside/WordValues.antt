-- The values behind the word of an order.
use Rattle.std.specs.Prelude.{◌≡◌, ℕ, List, [], ◌∷◌}
use Rattle.j39_schedule.specs.declared.values.Values.{Values}
use Rattle.j39_schedule.specs.declared.values.Values.TheVariants as values

-- the words are these values
abbrev pub AreValues : List (List ℕ) → Values → Type 0
AreValues words values.None = words ≡ []
AreValues words (values.One a) = words ≡ a.now ∷ []
AreValues words (values.Two a b) = words ≡ a.now ∷ b.now ∷ []
AreValues words values.More = (a b c : List ℕ) × (more : List (List ℕ)) × (words ≡ a ∷ b ∷ c ∷ more)
