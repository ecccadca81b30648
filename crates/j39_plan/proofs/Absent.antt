-- Tables in which nothing stands at some keys, and lists of faults of which the first ones are one.
use Rattle.std.proofs.Common.{◌≡◌, ◌↔◌, ℕ, false, List, [], ◌∷◌, ◌++◌, Option, Some, None, refl, sym, ap, ◌∙◌, suc, is_some, unwrap_or, IfSome, Ordering}
use Rattle.std.proofs.Common.{Less, Equal, Greater, nat_cmp, is_eq}
use Rattle.std.specs.Option.{option_or, option_map_or}
use Rattle.std.specs.Ordering.{match_ordering}
use Rattle.std.specs.Cmp.Lexicographic.{slice_cmp}
use Rattle.std.specs.Str.{bytes_eq}
use Rattle.std.proofs.lemmas.Map.Text.{is_eq-slice_cmp}
use Rattle.toml.specs.Data.{Data, Items, no_items, item, Members, no_members, member, get_member, as_table}
use Rattle.j39_plan.specs.declared.reading.key.Key.{Key}
use Rattle.j39_plan.specs.PlanErrors.{PlanFault}
use Rattle.j39_plan.specs.declared.reading.place.Table.{Table}
use Rattle.j39_plan.specs.Words.{word_of}
use Rattle.j39_toml.specs.Outcome.{first}
use Rattle.j39_toml.specs.TableFaults.{table_only_faults}
use Rattle.j39_toml.specs.InOrder.{inside, each_faults, Each}
use Rattle.j39_plan.specs.Schema.{has_key}
use Rattle.j39_plan.specs.Versions.{EachTable}

-- ---- keys

absent : (found : Option Data) → is_some found ≡ false → found ≡ None
absent None e = refl
absent (Some d) e = cc

pub lacked : (k : Key) (ms : Members) → has_key k ms ≡ false → get_member (word_of k) ms ≡ None
unfolding has_key
lacked k ms none = absent (get_member (word_of k) ms) none

other_word : (o : Ordering) (d : Data) (rest : Option Data) → is_some (match_ordering o rest (Some d) rest) ≡ false → is_eq o ≡ false
other_word Less d rest e = refl
other_word Equal d rest e = cc
other_word Greater d rest e = refl

none_behind : (o : Ordering) (d : Data) (rest : Option Data) → is_some (match_ordering o rest (Some d) rest) ≡ false → is_some rest ≡ false
none_behind Less d rest e = e
none_behind Equal d rest e = cc
none_behind Greater d rest e = e

pub lacks_word : (k : Key) (l : List ℕ) (d : Data) (ms : Members) → has_key k (member l d ms) ≡ false → bytes_eq (word_of k) l ≡ false
unfolding has_key
lacks_word k l d ms none =
    sym (is_eq-slice_cmp (word_of k) l) ∙ other_word (slice_cmp nat_cmp (word_of k) l) d (get_member (word_of k) ms) none

pub lacks_behind : (k : Key) (l : List ℕ) (d : Data) (ms : Members) → has_key k (member l d ms) ≡ false → has_key k ms ≡ false
unfolding has_key
lacks_behind k l d ms none = none_behind (slice_cmp nat_cmp (word_of k) l) d (get_member (word_of k) ms) none

-- ---- first faults

-- the first fault of both is one, or there is none
abbrev pub Alike : List PlanFault → List PlanFault → Type 0
Alike xs ys = first xs ≡ first ys

first_of_both : (xs ys : List PlanFault) → first (xs ++ ys) ≡ option_or (first xs) (first ys)
first_of_both [] ys = refl
first_of_both (x ∷ xs) ys = refl

pub alike_both : (fs gs hs ks : List PlanFault) → Alike fs hs → Alike gs ks → Alike (fs ++ gs) (hs ++ ks)
alike_both fs gs hs ks one other = rw (first_of_both fs gs, first_of_both hs ks, one, other)

-- between the same ones
pub alike_between : (fs gs hs ks : List PlanFault) → Alike gs hs → Alike (fs ++ gs ++ ks) (fs ++ hs ++ ks)
alike_between fs gs hs ks same = alike_both (fs ++ gs) ks (fs ++ hs) ks (alike_both fs gs fs hs refl same) refl

-- what is behind counts only where nothing is before it
pub alike_behind : (xs ys zs : List PlanFault) → (xs ≡ [] → Alike ys zs) → Alike (xs ++ ys) (xs ++ zs)
alike_behind [] ys zs behind = behind refl
alike_behind (x ∷ xs) ys zs behind = refl

no_fault : (fs : List PlanFault) → first fs ≡ None → fs ≡ []
no_fault [] none = refl
no_fault (f ∷ fs) none = cc

pub alike_none : (fs gs : List PlanFault) → Alike fs gs → fs ≡ [] → gs ≡ []
alike_none fs gs alike none = no_fault gs (sym alike ∙ ap first none)

-- ---- elements

alike_where : (f g : Members → List PlanFault) (found : Option Members) (none : Members)
    → Alike (f (unwrap_or found none)) (g (unwrap_or found none)) → Alike (option_map_or f found []) (option_map_or g found [])
alike_where f g None none same = refl
alike_where f g (Some ms) none same = same

-- an element whose table is read alike
pub alike_inside : (f g : Members → List PlanFault) (d : Data) → Alike (f (inside d)) (g (inside d))
    → Alike (option_map_or f (as_table d) []) (option_map_or g (as_table d) [])
alike_inside f g d same = alike_where f g (as_table d) no_members same

-- an element: whether it is a table, the faults of its table, and what is behind
pub element_alike : (at : Table) (d : Data) (f g : Members → List PlanFault) (ks : List PlanFault) → Alike (f (inside d)) (g (inside d))
    → Alike (table_only_faults at d ++ option_map_or f (as_table d) [] ++ ks) (table_only_faults at d ++ option_map_or g (as_table d) [] ++ ks)
element_alike at d f g ks same =
    alike_between (table_only_faults at d) (option_map_or f (as_table d) []) (option_map_or g (as_table d) []) ks (alike_inside f g d same)

pub alike_each : (Holds : Members → Type 0) (f g : ℕ → List (List ℕ) → Data → List PlanFault)
    (same : (i : ℕ) (seen : List (List ℕ)) (d : Data) → Holds (inside d) → Alike (f i seen d) (g i seen d)) (label : Data → List ℕ)
    → (i : ℕ) (seen : List (List ℕ)) (ds : Items) → EachTable Holds ds → Alike (each_faults f label i seen ds) (each_faults g label i seen ds)
unfolding each_faults EachTable
alike_each Holds f g same label i seen no_items holds = refl
alike_each Holds f g same label i seen (item d ds) holds =
    alike_both _ _ _ _ (same i seen d holds.0) (alike_each Holds f g same label (suc i) (seen ++ label d ∷ []) ds holds.1)

-- what holds of a table that is there
pub some_also : (P Q : Members → Type 0) → ((ms : Members) → P ms → Q ms) → (found : Option Members) → IfSome found P → IfSome found Q
some_also P Q more None holds = tt
some_also P Q more (Some ms) holds = more ms holds

-- what elements report
pub each_stated : {T : Type 0} (Holds : Members → Type 0) (Is Was : Data → T → Type 0)
    (stated : (d : Data) (x : T) → Holds (inside d) → Is d x → Was d x) → (ds : Items) (xs : List T) → EachTable Holds ds → Each Is ds xs → Each Was ds xs
unfolding Each EachTable
each_stated Holds Is Was stated no_items xs holds each = each
each_stated Holds Is Was stated (item d ds) [] holds each = each
each_stated Holds Is Was stated (item d ds) (x ∷ xs) holds each = (stated d x holds.0 each.0, each_stated Holds Is Was stated ds xs holds.1 each.1)

pub both_stated : {T : Type 0} (Holds : Members → Type 0) (Is Was : Data → T → Type 0)
    (stated : (d : Data) (x : T) → Holds (inside d) → Is d x → Was d x) (back : (d : Data) (x : T) → Holds (inside d) → Was d x → Is d x)
    → (ds : Items) (xs : List T) → EachTable Holds ds → Each Is ds xs ↔ Each Was ds xs
both_stated Holds Is Was stated back ds xs holds = (each_stated Holds Is Was stated ds xs holds, each_stated Holds Was Is back ds xs holds)

-- what holds of each table
pub each_table : (Holds Also : Members → Type 0) → ((ms : Members) → Holds ms → Also ms) → (ds : Items) → EachTable Holds ds → EachTable Also ds
unfolding EachTable
each_table Holds Also more no_items holds = tt
each_table Holds Also more (item d ds) holds = (more (inside d) holds.0, each_table Holds Also more ds holds.1)

pub all_tables : (Holds : Members → Type 0) → ((ms : Members) → Holds ms) → (ds : Items) → EachTable Holds ds
unfolding EachTable
all_tables Holds holds no_items = tt
all_tables Holds holds (item d ds) = (holds (inside d), all_tables Holds holds ds)
