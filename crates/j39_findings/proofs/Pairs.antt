-- Pairs of a list's values, of which something else holds too.
use Rattle.std.proofs.Common.{ℕ, List}
use Rattle.j39_search.specs.ListPlaces.{PairAt}

pub pair_with : {A : Type 0} {P Q : A → A → Type 0} (xs : List A) (i j : ℕ) (p : PairAt P xs i j) → Q p.first p.second → PairAt Q xs i j
pair_with xs i j p related =
    record { first = p.first; second = p.second; below = p.below; first_is = p.first_is; second_is = p.second_is; related = related }
