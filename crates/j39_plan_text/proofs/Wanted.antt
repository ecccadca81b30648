-- What words name, one more.
use Rattle.std.proofs.Common.{◌≡◌, ℕ, ◌+◌, ◌<◌, List, [], ◌∷◌, ◌++◌, map, length, get_or, take, subst}
use Rattle.std.specs.List.{AllZip}
use Rattle.std.proofs.lemmas.List.{map-append, take_more}
use Rattle.j39_variants.specs.declared.line.Alternative.{Alternative}
use Rattle.j39_variants.specs.declared.line.Choice.{Choice}
use Rattle.j39_plan_text.specs.VariantText.{NamesOf}

zip_more : {X Y : Type 0} (R : X → Y → Type 0) (xs : List X) (ys : List Y) (x : X) (y : Y) → AllZip R xs ys → R x y → AllZip R (xs ++ x ∷ []) (ys ++ y ∷ [])
zip_more R [] [] x y zip here = (here, tt)
zip_more R [] (z ∷ ys) x y zip here = absurd zip
zip_more R (z ∷ xs) [] x y zip here = absurd zip
zip_more R (w ∷ xs) (z ∷ ys) x y zip here = (zip.0, zip_more R xs ys x y zip.1 here)

pub named_more : {W : Type 0} (text : W → List ℕ) (choices : List Choice) (words : List W) (i : ℕ) (word : W) (wanted : List Alternative) (a : Alternative)
    → i < length words → word ≡ get_or words i word → AllZip (NamesOf choices) (map text (take i words)) wanted
    → NamesOf choices (text word) a → AllZip (NamesOf choices) (map text (take (i + 1) words)) (wanted ++ a ∷ [])
named_more {W} text choices words i word wanted a below is zip here =
    let P : W → Type 0 = λ w. NamesOf choices (text w) a in
    rw (take_more words i word below, map-append text (take i words) (get_or words i word ∷ []))
    (zip_more (NamesOf choices) (map text (take i words)) wanted (text (get_or words i word)) a zip (subst P is here))
