-- The places in the file of what is there are those of the flags by which it is picked.
use Rattle.std.specs.declared.alloc.Global.{Global}
use Rattle.std.proofs.Common.{◌≡◌, ℕ, zero, suc, ◌+◌, ◌<◌, Bool, true, false, ◌&&◌, cond, List, [], ◌∷◌, length, filter, Option, Some, None, is_some}
use Rattle.std.proofs.Common.{option_map, Vec, refl, sym, ◌∙◌, ap, arith}
use Rattle.std.specs.List.{cons_option, filter_map, range_with_len, slice_get}
use Rattle.std.specs.Option.{option_map_or}
use Rattle.std.proofs.lemmas.Option.{same_Some}
use Rattle.j39_network.specs.declared.plan.flow_plan.FlowPlan.{FlowPlan}
use Rattle.j39_network.specs.declared.plan.request_plan.RequestPlan.{RequestPlan}
use Rattle.j39_network.specs.declared.plan.to.To.{To}
use Rattle.j39_network.specs.declared.plan.to.To.TheVariants.{All as ToAll, One}
use Rattle.j39_variants.specs.declared.line.Alternative.{Alternative}
use Rattle.j39_variants.specs.declared.line.ProductLine.{ProductLine}
use Rattle.j39_variants.specs.VariantPlans.{flag_at, flags, flow_between, group_places, moved_flow, moved_receivers, moved_request, picked, place_at, places}
use Rattle.j39_variants.specs.VariantPlans.{request_between}
use Rattle.j39_variants.specs.VariantPlans.{unit_places}
use Rattle.j39_variants.specs.Variants.{is_in}
use Rattle.j39_line_findings.specs.MissedNeeds.{is_in_at}
use Rattle.j39_line_findings.specs.There.{is_flow_there, is_receiver_there, is_request_there}
use Rattle.j39_part_laws.proofs.Places.{no_value}
use Rattle.j39_line_laws.proofs.VariantBoxes.{AreFewer}
use Rattle.j39_line_laws.proofs.Picking.{kept}

-- ---- by a test, and by flags

pub filtered : (test : ℕ → Bool) (bs : List Bool) (a : ℕ) → ((k : ℕ) → k < length bs → test (a + k) ≡ flag_at bs k)
    → filter test (range_with_len a (length bs)) ≡ picked bs (range_with_len a (length bs))
filtered test [] a same = refl
filtered test (b ∷ bs) a same =
    by b (ap test (let e : a ≡ a + 0 = omega arith in e) ∙ same 0 (omega arith))
    (filtered test bs (a + 1) (λ k below. ap test (let e : a + 1 + k ≡ a + suc k = omega arith in e) ∙ same (suc k) (omega (arith, below))))
  where
    by : (c : Bool) → test a ≡ c → filter test (range_with_len (a + 1) (length bs)) ≡ picked bs (range_with_len (a + 1) (length bs))
        → cond (test a) (a ∷ filter test (range_with_len (a + 1) (length bs))) (filter test (range_with_len (a + 1) (length bs)))
        ≡ picked (c ∷ bs) (a ∷ range_with_len (a + 1) (length bs))
    by true is rest = ap (λ t. cond t (a ∷ filter test (range_with_len (a + 1) (length bs))) (filter test (range_with_len (a + 1) (length bs)))) is ∙ ap
        (λ l. a ∷ l) rest
    by false is rest = ap (λ t. cond t (a ∷ filter test (range_with_len (a + 1) (length bs))) (filter test (range_with_len (a + 1) (length bs)))) is ∙ rest

-- of lists of one length the same places are picked
pub parallel : {X Y : Type 0} (bs : List Bool) (xs : List X) (ys : List Y) → length xs ≡ length ys → (i : ℕ) (x : X) → slice_get (picked bs xs) i ≡ Some x
    → (y : Y) × (slice_get (picked bs ys) i ≡ Some y)
parallel [] xs ys same i x at = absurd (no_value i x at)
parallel (b ∷ bs) [] ys same i x at = absurd (no_value i x at)
parallel (b ∷ bs) (z ∷ xs) [] same i x at = absurd (omega (arith, same))
parallel (true ∷ bs) (z ∷ xs) (y ∷ ys) same zero x at = (y, refl)
parallel (true ∷ bs) (z ∷ xs) (y ∷ ys) same (suc i) x at = parallel bs xs ys (omega (arith, same)) i x at
parallel (false ∷ bs) (z ∷ xs) (y ∷ ys) same i x at = parallel bs xs ys (omega (arith, same)) i x at

pub parallel_kept : {X Y Z : Type 0} (f : X → Option Z) (bs : List Bool) (xs : List X) (ys : List Y) → length xs ≡ length ys → (i : ℕ) (z : Z)
    → slice_get (filter_map f (picked bs xs)) i ≡ Some z → (y : Y) × (slice_get (picked (kept f bs xs) ys) i ≡ Some y)
parallel_kept f [] xs ys same i z at = absurd (no_value i z at)
parallel_kept f (b ∷ bs) [] ys same i z at = absurd (no_value i z at)
parallel_kept f (b ∷ bs) (x ∷ xs) [] same i z at = absurd (omega (arith, same))
parallel_kept f (false ∷ bs) (x ∷ xs) (y ∷ ys) same i z at = parallel_kept f bs xs ys (omega (arith, same)) i z at
parallel_kept {Y = Y} {Z = Z} f (true ∷ bs) (x ∷ xs) (y ∷ ys) same i z at =
    by (f x) (λ k found. parallel_kept f bs xs ys (omega (arith, same)) k z found) i at
  where
    by : (o : Option Z)
        → ((k : ℕ) → slice_get (filter_map f (picked bs xs)) k ≡ Some z → (v : Y) × (slice_get (picked (kept f bs xs) ys) k ≡ Some v))
        → (k : ℕ) → slice_get (cons_option o (filter_map f (picked bs xs))) k ≡ Some z
        → (v : Y) × (slice_get (picked (is_some o ∷ kept f bs xs) (y ∷ ys)) k ≡ Some v)
    by None rest k found = rest k found
    by (Some w) rest zero found = (y, refl)
    by (Some w) rest (suc k) found = rest k found

pub length-kept : {X Y : Type 0} (f : X → Option Y) (bs : List Bool) (xs : List X) → length bs ≡ length xs → length (kept f bs xs) ≡ length xs
length-kept f [] [] same = refl
length-kept f [] (x ∷ xs) same = absurd (omega (arith, same))
length-kept f (b ∷ bs) [] same = refl
length-kept f (b ∷ bs) (x ∷ xs) same = let rest = length-kept f bs xs (omega (arith, same)) in omega (arith, rest)

pub kept_at : {X Y : Type 0} (f : X → Option Y) (bs : List Bool) (xs : List X) (k : ℕ) (x : X) → length bs ≡ length xs → slice_get xs k ≡ Some x
    → flag_at (kept f bs xs) k ≡ (flag_at bs k && is_some (f x))
kept_at f bs [] k x same at = absurd (no_value k x at)
kept_at f [] (z ∷ xs) k x same at = absurd (omega (arith, same))
kept_at f (b ∷ bs) (z ∷ xs) zero x same at = ap (λ v. b && is_some (f v)) (same_Some z x at)
kept_at f (b ∷ bs) (z ∷ xs) (suc k) x same at = kept_at f bs xs k x (omega (arith, same)) at

pub kept_fewer : {X Y : Type 0} (f g : X → Option Y) → ((x : X) (y : Y) → f x ≡ Some y → is_some (g x) ≡ true) → (bs cs : List Bool) (xs : List X)
    → AreFewer bs cs
    → AreFewer (kept f bs xs) (kept g cs xs)
kept_fewer f g leads [] [] [] fewer = tt
kept_fewer f g leads [] [] (x ∷ xs) fewer = tt
kept_fewer f g leads [] (c ∷ cs) xs fewer = absurd fewer
kept_fewer f g leads (b ∷ bs) [] xs fewer = absurd fewer
kept_fewer f g leads (b ∷ bs) (c ∷ cs) [] fewer = tt
kept_fewer {Y = Y} f g leads (b ∷ bs) (c ∷ cs) (x ∷ xs) fewer = (by b c fewer.0, kept_fewer f g leads bs cs xs fewer.1)
  where
    come : (o : Option Y) → f x ≡ o → is_some o ≡ true → is_some (g x) ≡ true
    come None is none = cc
    come (Some y) is some = leads x y is

    by : (s t : Bool) → (s ≡ true → t ≡ true) → (s && is_some (f x)) ≡ true → (t && is_some (g x)) ≡ true
    by false t stays both = cc
    by true t stays both = ap (λ u. u && is_some (g x)) (stays refl) ∙ come (f x) refl both

-- ---- what is there, by flags

flag_in : (v : List ℕ) (lists : List (Vec Alternative Global)) (k : ℕ) → flag_at (flags v lists) k ≡ is_in_at v lists k
flag_in v [] zero = refl
flag_in v [] (suc k) = refl
flag_in v (list ∷ lists) zero = refl
flag_in v (list ∷ lists) (suc k) = flag_in v lists k

pub test_in : (v : List ℕ) (lists : List (Vec Alternative Global)) (k : ℕ) → is_in_at v lists k ≡ flag_at (flags v lists) k
test_in v lists k = sym (flag_in v lists k)

pub some_place : (v : List ℕ) (lists : List (Vec Alternative Global)) (n i : ℕ) → is_some (place_at (places n (flags v lists)) i) ≡ is_in_at v lists i
some_place v [] n zero = refl
some_place v [] n (suc i) = refl
some_place v (list ∷ lists) n zero = by (is_in v list.items)
  where
    by : (b : Bool) → is_some (place_at (places n (b ∷ flags v lists)) 0) ≡ b
    by true = refl
    by false = refl
some_place v (list ∷ lists) n (suc i) = by (is_in v list.items) (λ m. some_place v lists m i)
  where
    by : (b : Bool) → ((m : ℕ) → is_some (place_at (places m (flags v lists)) i) ≡ is_in_at v lists i)
        → is_some (place_at (places n (b ∷ flags v lists)) (suc i)) ≡ is_in_at v lists i
    by true rest = rest (n + 1)
    by false rest = rest n

some_flow : (f : FlowPlan) (g s : Option ℕ) (t : Option To) → is_some (flow_between f g s t) ≡ (is_some g && (is_some s && is_some t))
some_flow f None s t = refl
some_flow f (Some g) None t = refl
some_flow f (Some g) (Some s) None = refl
some_flow f (Some g) (Some s) (Some t) = refl

some_request : (r : RequestPlan) (g s : Option ℕ) (t : Option To) → is_some (request_between r g s t) ≡ (is_some g && (is_some s && is_some t))
some_request r None s t = refl
some_request r (Some g) None t = refl
some_request r (Some g) (Some s) None = refl
some_request r (Some g) (Some s) (Some t) = refl

module _ (line : ProductLine) (v : List ℕ) where
  abbrev us : List (Option ℕ)
  us = unit_places line v

  abbrev gs : List (Option ℕ)
  gs = group_places line v

  some_receivers : (to : To) → is_some (moved_receivers us to) ≡ is_receiver_there line v to
  some_receivers ToAll = refl
  some_receivers (One u) = mapped (place_at us u) ∙ some_place v line.lists.units.items 0 u
    where
      mapped : (o : Option ℕ) → is_some (option_map One o) ≡ is_some o
      mapped None = refl
      mapped (Some p) = refl

  abbrev between : Bool → Bool → Bool → Bool
  between g s t = g && (s && t)

  all_there : (g s : ℕ) (to : To) → between (is_some (place_at gs g)) (is_some (place_at us s)) (is_some (moved_receivers us to))
      ≡ between (is_in_at v line.lists.groups.items g) (is_in_at v line.lists.units.items s) (is_receiver_there line v to)
  all_there g s to =
      ap (λ b. between b (is_some (place_at us s)) (is_some (moved_receivers us to))) (some_place v line.lists.groups.items 0 g)
      ∙ ap (λ b. between (is_in_at v line.lists.groups.items g) b (is_some (moved_receivers us to))) (some_place v line.lists.units.items 0 s)
      ∙ ap (between (is_in_at v line.lists.groups.items g) (is_in_at v line.lists.units.items s)) (some_receivers to)

  -- what is there by its own list and by all that it names
  named_test : (lists : List (Vec Alternative Global)) (k g s : ℕ) (to : To) (moves : Bool)
      → moves ≡ between (is_some (place_at gs g)) (is_some (place_at us s)) (is_some (moved_receivers us to))
      → (is_in_at v lists k && between (is_in_at v line.lists.groups.items g) (is_in_at v line.lists.units.items s) (is_receiver_there line v to))
      ≡ (flag_at (flags v lists) k && moves)
  named_test lists k g s to moves is =
      ap (λ b. is_in_at v lists k && b) (sym (is ∙ all_there g s to)) ∙ ap (λ b. b && moves) (test_in v lists k)

  pub flow_test : (k : ℕ) (f : FlowPlan) → slice_get line.plan.flows.items k ≡ Some f
      → is_flow_there line v k ≡ (flag_at (flags v line.lists.flows.items) k && is_some (moved_flow us gs f))
  flow_test k f at =
      ap (λ o. option_map_or (λ (flow : FlowPlan). is_in_at v line.lists.flows.items k
      && between (is_in_at v line.lists.groups.items flow.group) (is_in_at v line.lists.units.items flow.sender) (is_receiver_there line v flow.to)) o false) at
      ∙ named_test line.lists.flows.items k f.group f.sender f.to _ (some_flow f (place_at gs f.group) (place_at us f.sender) (moved_receivers us f.to))

  pub request_test : (k : ℕ) (r : RequestPlan) → slice_get line.plan.requests.items k ≡ Some r
      → is_request_there line v k ≡ (flag_at (flags v line.lists.requests.items) k && is_some (moved_request us gs r))
  request_test k r at =
      ap (λ o. option_map_or (λ (request : RequestPlan). is_in_at v line.lists.requests.items k
      && between (is_in_at v line.lists.groups.items request.group) (is_in_at v line.lists.units.items request.sender)
      (is_receiver_there line v request.to)) o false) at
      ∙ named_test line.lists.requests.items k r.group r.sender r.to _ (some_request r (place_at gs r.group) (place_at us r.sender) (moved_receivers us r.to))
