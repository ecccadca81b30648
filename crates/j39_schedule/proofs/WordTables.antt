-- Words of orders in a table.
use Rattle.std.proofs.Common.{◌≡◌, ℕ, List, [], ◌∷◌, map, Option, option_map, Bor, inl, inr, refl, ap, ◌∙◌}
use Rattle.std.proofs.lemmas.Bool.{cases_Bool}
use Rattle.std.specs.List.{find}
use Rattle.std.specs.Str.{bytes_eq}
use Rattle.j39_schedule.specs.Schedule.{Order, order_named, orders}
use Rattle.j39_schedule.specs.inside.OrderWords.{beside, order_word}
use Rattle.j39_schedule.specs.declared.order_word.OrderWord.{OrderWord}

abbrev row : Bor (List ℕ) × OrderWord → List ℕ × Order
row w = (w.0.now, order_word w.1)

found : (words : List (Bor (List ℕ) × OrderWord)) (text : List ℕ)
    → option_map order_word (option_map (λ (w : Bor (List ℕ) × OrderWord). w.1) (find (λ (w : Bor (List ℕ) × OrderWord). bytes_eq w.0.now text) words))
    ≡ option_map (λ (o : List ℕ × Order). o.1) (find (λ (o : List ℕ × Order). bytes_eq o.0 text) (map row words))
found [] text = refl
found (w ∷ words) text = elim (cases_Bool (bytes_eq w.0.now text)) [ inl is ↦ rw is refl | inr is ↦ rw is (found words text) ]

-- a table that has the orders finds them
pub named : (words : List (Bor (List ℕ) × OrderWord)) (text : List ℕ) (word : Option OrderWord) → word ≡ beside words text → map row words ≡ orders
    → option_map order_word word ≡ order_named text
unfolding beside order_named
named words text word is are =
    ap (option_map order_word) is ∙ found words text ∙ ap (λ (os : List (List ℕ × Order)). option_map (λ (o : List ℕ × Order). o.1)
    (find (λ (o : List ℕ × Order). bytes_eq o.0 text) os)) are
