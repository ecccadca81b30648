-- The choices that are reported, as the program holds them.
use Rattle.std.specs.declared.alloc.Global.{Global}
use Rattle.std.proofs.Common.{◌≡◌, ℕ, ◌+◌, ◌<◌, Bool, true, false, not, ◌||◌, if◌then◌else◌, List, [], ◌∷◌, ◌++◌, Vec, length, map, take, get_or, unwrap_or}
use Rattle.std.proofs.Common.{append_assoc, refl, sym, ap, ◌∙◌}
use Rattle.std.specs.List.{list_all, list_any, slice_get}
use Rattle.std.specs.Option.{option_map_or}
use Rattle.std.proofs.lemmas.List.Folds.{list_all-map}
use Rattle.j39_load.proofs.Before.{more}
use Rattle.j39_load.specs.LineLists.{lines_of_each}
use Rattle.j39_variants.specs.declared.line.ProductLine.{ProductLine}
use Rattle.j39_variant_search.specs.VariantSearch.{box_flags}
use Rattle.j39_line_findings.specs.Conditions.{are_there}
use Rattle.j39_line_findings.specs.declared.part.LinePart.{LinePart}
use Rattle.j39_line_witnesses.specs.Presences.{parts_in}
use Rattle.j39_line_witnesses.specs.ReportedChoices.{choices_by, is_in_some, is_none, lacking_choices}

-- ---- lists of lists

pub any_map : {X Y : Type 0} (p : X → Bool) (f : Y → X) (ys : List Y) → list_any p (map f ys) ≡ list_any (λ y. p (f y)) ys
any_map p f [] = refl
any_map p f (y ∷ ys) = ap (λ b. p (f y) || b) (any_map p f ys)

pub map_twice : {X Y Z : Type 0} (g : Y → Z) (f : X → Y) (xs : List X) → map g (map f xs) ≡ map (λ x. g (f x)) xs
map_twice g f [] = refl
map_twice g f (x ∷ xs) = ap (λ zs. g (f x) ∷ zs) (map_twice g f xs)

pub some_in : (within : List (Vec Bool Global)) → is_in_some (box_flags within) ≡ list_all (λ choice. list_any (λ has. has) choice.items) within
some_in within = list_all-map (λ choice. list_any (λ has. has) choice) (λ (choice : Vec Bool Global). choice.items) within

pub lacking_in : (within : List (Vec Bool Global)) → lacking_choices (box_flags within) ≡ map (λ choice. list_any not choice.items) within
lacking_in within = map_twice (λ choice. list_any not choice) (λ (choice : Vec Bool Global). choice.items) within

pub any_parts : (line : ProductLine) (v : List ℕ) (lists : List (Vec LinePart Global))
    → list_any (are_there line v) (parts_in lists) ≡ list_any (λ parts. are_there line v parts.items) lists
any_parts line v lists = any_map (are_there line v) (λ (parts : Vec LinePart Global). parts.items) lists

pub any_none : (met : List (Vec Bool Global)) → list_any is_none (box_flags met) ≡ list_any (λ choices. is_none choices.items) met
any_none met = any_map is_none (λ (choices : Vec Bool Global). choices.items) met

pub first_in : (met : List (Vec Bool Global)) → unwrap_or (slice_get (box_flags met) 0) [] ≡ option_map_or (λ choices. choices.items) (slice_get met 0) []
first_in [] = refl
first_in (choices ∷ met) = refl

pub by_whole : (met : List (Vec Bool Global)) → list_any (λ choices. is_none choices.items) met ≡ true → choices_by (box_flags met) ≡ []
by_whole met some = ap (λ b. if b then [] else unwrap_or (slice_get (box_flags met) 0) []) (any_none met ∙ some)

pub by_first : (met : List (Vec Bool Global)) → list_any (λ choices. is_none choices.items) met ≡ false
    → choices_by (box_flags met) ≡ option_map_or (λ choices. choices.items) (slice_get met 0) []
by_first met none = ap (λ b. if b then [] else unwrap_or (slice_get (box_flags met) 0) []) (any_none met ∙ none) ∙ first_in met

-- ---- what is listed of each

-- of what the program holds
pub lines_of_map : {X Y Z : Type 0} (report : Y → List Z) (f : X → Y) (n : ℕ) (xs : List X)
    → lines_of_each (λ _ y. report y) n (map f xs) ≡ lines_of_each (λ _ x. report (f x)) n xs
unfolding lines_of_each
lines_of_map report f n [] = refl
lines_of_map report f n (x ∷ xs) = ap (λ zs. report (f x) ++ zs) (lines_of_map report f (n + 1) xs)

-- one more
pub one_added : {X Y : Type 0} (report : ℕ → X → List Y) (k : ℕ) (xs : List X) (d : X) (before old new : List Y) → k < length xs
    → old ≡ before ++ lines_of_each report 0 (take k xs) → new ≡ old ++ report k (get_or xs k d)
    → new ≡ before ++ lines_of_each report 0 (take (k + 1) xs)
one_added {Y = Y} report k xs d before old new inside so_far added =
    added ∙ ap (λ (ys : List Y). ys ++ report k (get_or xs k d)) so_far
    ∙ append_assoc before (lines_of_each report 0 (take k xs)) (report k (get_or xs k d))
    ∙ ap (λ (ys : List Y). before ++ ys) (sym (more report k xs d inside))
