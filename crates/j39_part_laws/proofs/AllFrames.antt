-- All frames that come of a part are some of those that come of the whole.
use Rattle.std.proofs.Common.{◌*◌, ◌≡◌, ℕ, zero, suc, ◌+◌, ◌-◌, ◌<◌, ◌≤◌, Bool, if◌then◌else◌, nat_lt, All}
use Rattle.std.proofs.Common.{List, [], ◌∷◌, ◌++◌, length, map, Option, Some, None, option_map, refl, sym, ◌∙◌, ap, subst, inl, inr, arith}
use Rattle.std.specs.List.{cons_option, range_with_len, slice_get, sum_by}
use Rattle.std.proofs.lemmas.Bool.{cases_lt, le-ltb, lt-ltb}
use Rattle.std.proofs.lemmas.List.{get_or-append-add, get_or_append_left, length-append}
use Rattle.std.proofs.lemmas.List.Sums.{sum_by-cons}
use Rattle.std.proofs.lemmas.List.FromFn.{get_or-map-range_with_len, length-map-range_with_len}
use Rattle.std.proofs.lemmas.Option.{get_or_from_slice_get, none-some, same_Some, slice_get-get_or, slice_get-map, slice_get_within}
use Rattle.j39_findings.specs.Standing.{DecidesWhoStays}
use Rattle.j39_network.specs.declared.plan.Plan.{Plan}
use Rattle.j39_network.specs.declared.plan.timing.Timing.{Timing}
use Rattle.j39_network.specs.declared.plan.unit_plan.UnitPlan.{UnitPlan}
use Rattle.j39_search.specs.ListPlaces.{ValueAt}
use Rattle.j39_load.specs.declared.loads.flow_load.FlowLoad.{FlowLoad}
use Rattle.j39_load.specs.declared.loads.request_load.RequestLoad.{RequestLoad}
use Rattle.j39_load.specs.declared.loads.unit_load.UnitLoad.{UnitLoad}
use Rattle.std.proofs.lemmas.List.{length-map}
use Rattle.j39_load.specs.declared.frames.broadcast.Broadcast.{Broadcast}
use Rattle.j39_load.specs.Asked.{announcements_of_unit, asked_of, frames_asked, frames_of_flow, frames_of_request, packets_of_unit, singles_of_flow}
use Rattle.j39_load.specs.Broadcasts.{broadcast_by, broadcasts_by, unit_load, each_unit_load, known_unit_load, unit_loads_of}
use Rattle.j39_load.specs.FlowLoads.{load_of_flow, loads_of}
use Rattle.j39_load.specs.RequestLoads.{load_of_request, request_loads_of}
use Rattle.j39_load.proofs.PositivePeriods.{broadcasts_paced, every_flow, HasPackets}
use Rattle.j39_part_laws.specs.PartLoads.{HasGoodNumbers}
use Rattle.j39_part_laws.specs.PlanParts.{AreSome, IsFlowThere, IsPartAt, IsRequestThere, Places}
use Rattle.j39_part_laws.specs.Sublists.{IsSub}
use Rattle.j39_part_laws.proofs.FlowLoads.{flow_alike, flows_alike, FramesAlike, LoadsAlike, singles_there}
use Rattle.j39_part_laws.proofs.Places.{no_value, value_at}
use Rattle.j39_part_laws.proofs.PlanFrames.{there_too, unit_at_place}
use Rattle.j39_part_laws.proofs.Sublists.{sub_of}
use Rattle.j39_part_laws.proofs.UnitLoads.{announcements_there, asked_there, broadcasts_there, packets_there, request_there, RequestsAlike, unit_there}
use Rattle.j39_part_laws.proofs.UnitLoads.{UnitsAlike}

-- ---- some of two lists

-- the places where one list stands behind another
abbrev pub joined : (ℕ → ℕ) → (ℕ → ℕ) → ℕ → ℕ → ℕ → ℕ
joined place other here there i = if nat_lt i here then place i else there + other (i - here)

append_read : {A : Type 0} (xs ys : List A) (n : ℕ) (v : A) → slice_get ys n ≡ Some v → slice_get (xs ++ ys) (length xs + n) ≡ Some v
append_read xs ys n v its =
    let within = slice_get_within ys n v its in
    let sum = length-append xs ys in
    slice_get-get_or (xs ++ ys) (length xs + n) v (omega (arith, within, sum))
    ∙ ap Some (get_or-append-add xs ys n v ∙ get_or_from_slice_get ys n v v its)

pub append_front : {A : Type 0} (xs ys : List A) (n : ℕ) (v : A) → slice_get xs n ≡ Some v → slice_get (xs ++ ys) n ≡ Some v
append_front xs ys n v its =
    let within = slice_get_within xs n v its in
    let sum = length-append xs ys in
    slice_get-get_or (xs ++ ys) n v (omega (arith, within, sum))
    ∙ ap Some (get_or_append_left xs ys v n within ∙ get_or_from_slice_get xs n v v its)

-- what stands in both stands in one of the two
append_back : {A : Type 0} (xs ys : List A) (n : ℕ) (v : A) → slice_get (xs ++ ys) n ≡ Some v → length xs ≤ n → slice_get ys (n - length xs) ≡ Some v
append_back [] ys n v its above = subst (λ k. slice_get ys k ≡ Some v) (let e : n ≡ n - 0 = omega arith in e) its
append_back (x ∷ xs) ys zero v its above = absurd (omega (arith, above))
append_back (x ∷ xs) ys (suc n) v its above =
    let rest = append_back xs ys n v its (omega (arith, above)) in
    let same : n - length xs ≡ suc n - suc (length xs) = omega arith in
    subst (λ k. slice_get ys k ≡ Some v) same rest

append_first : {A : Type 0} (xs ys : List A) (n : ℕ) (v : A) → slice_get (xs ++ ys) n ≡ Some v → n < length xs → slice_get xs n ≡ Some v
append_first [] ys n v its below = absurd (omega (arith, below))
append_first (x ∷ xs) ys zero v its below = its
append_first (x ∷ xs) ys (suc n) v its below = append_first xs ys n v its (omega (arith, below))

module _ {A : Type 0} (R : A → A → Type 0) where
  pub some_append : (place other : ℕ → ℕ) (xs ys zs ws : List A) → AreSome place R xs ys → AreSome other R zs ws
      → AreSome (joined place other (length xs) (length ys)) R (xs ++ zs) (ys ++ ws)
  some_append place other xs ys zs ws one two = record { rises = rises; each = each }
    where
      inside : (i : ℕ) → i < length xs → place i < length ys
      inside i below =
          let (x, its) = value_at xs i below in
          let there = one.each i x its in
          slice_get_within ys (place i) there.value there.value_is

      rises : (i j : ℕ) → i < j → joined place other (length xs) (length ys) i < joined place other (length xs) (length ys) j
      rises i j below = elim (cases_lt j (length xs)) [
        | inl front ↦
            rw (lt-ltb i (length xs) (omega (arith, below, front)), lt-ltb j (length xs) front) (one.rises i j below)
        | inr back ↦ elim (cases_lt i (length xs)) [
          | inl front ↦
              let low = inside i front in
              rw (lt-ltb i (length xs) front, le-ltb j (length xs) back) (omega (arith, low))
          | inr behind ↦
              let more = two.rises (i - length xs) (j - length xs) (omega (arith, behind, below)) in
              rw (le-ltb i (length xs) behind, le-ltb j (length xs) back) (omega (arith, more))
        ]
      ]

      each : (i : ℕ) (x : A) → slice_get (xs ++ zs) i ≡ Some x → ValueAt (R x) (ys ++ ws) (joined place other (length xs) (length ys) i)
      each i x its = elim (cases_lt i (length xs)) [
        | inl front ↦
            let there = one.each i x (append_first xs zs i x its front) in
            rw (lt-ltb i (length xs) front)
            (record { value = there.value; value_is = append_front ys ws (place i) there.value there.value_is; meets = there.meets })
        | inr back ↦
            let there = two.each (i - length xs) x (append_back xs zs i x its back) in
            rw (le-ltb i (length xs) back)
            (record { value = there.value; value_is = append_read ys ws (other (i - length xs)) there.value there.value_is; meets = there.meets })
      ]

pub some_map : {A B : Type 0} (S : A → A → Type 0) (R : B → B → Type 0) (f g : A → B) (place : ℕ → ℕ) (xs ys : List A) → AreSome place S xs ys
    → ((i : ℕ) (x y : A) → slice_get xs i ≡ Some x → S x y → R (f x) (g y)) → AreSome place R (map f xs) (map g ys)
some_map {A = A} {B = B} S R f g place xs ys are over = record { rises = are.rises; each = each }
  where
    each : (i : ℕ) (b : B) → slice_get (map f xs) i ≡ Some b → ValueAt (R b) (map g ys) (place i)
    each i b its = go (slice_get xs i) refl
      where
        go : (o : Option A) → slice_get xs i ≡ o → ValueAt (R b) (map g ys) (place i)
        go None none = absurd (none-some b (sym (slice_get-map f xs i ∙ ap (option_map f) none) ∙ its))
        go (Some x) here =
            let same : f x ≡ b = same_Some (f x) b (sym (slice_get-map f xs i ∙ ap (option_map f) here) ∙ its) in
            let there = are.each i x here in
            record {
              value = g there.value;
              value_is = slice_get-map g ys (place i) ∙ ap (option_map g) there.value_is;
              meets = subst (λ c. R c (g there.value)) same (over i x there.value here there.meets);
            }

pub some_none : {A : Type 0} (R : A → A → Type 0) (place : ℕ → ℕ) → ((i j : ℕ) → i < j → place i < place j) → (ys : List A) → AreSome place R [] ys
some_none R place rises ys = record { rises = rises; each = λ i x its. absurd (no_value i x its) }

-- ---- what a part asks

-- so it is with one of these
abbrev IsOneOf : Broadcast → List Broadcast → Type 0
IsOneOf b bs = (1 ≤ length bs) × (b.packets ≤ sum_by (λ (c : Broadcast). c.packets) bs)

-- the broadcast is among those by which a unit asks this
pub record IsAskedBy (b : Broadcast) (l : UnitLoad) : Type 0 where
  pub flows : 1 ≤ l.flows
  pub packets : b.packets ≤ l.all_packets

module _ (at : Places) (part whole : Plan) (is : IsPartAt at part whole) (good : HasGoodNumbers whole) (stays reported : UnitPlan → Bool)
    (decides : DecidesWhoStays whole stays) (reports_who : DecidesWhoStays part reported) (timing : Timing) where
  abbrev ls : List (Option FlowLoad)
  ls = loads_of timing part reported

  abbrev ks : List (Option FlowLoad)
  ks = loads_of timing whole stays

  pub flows_some : AreSome at.flow (LoadsAlike at) ls ks
  flows_some = some_map (IsFlowThere at) (LoadsAlike at) (load_of_flow timing part reported)
      (load_of_flow timing whole stays) at.flow part.flows.items whole.flows.items
      is.flows (flow_alike at part whole is good stays reported decides reports_who timing)

  pub flows_sub : IsSub (LoadsAlike at) ls ks
  flows_sub = sub_of (LoadsAlike at) ls ks at.flow flows_some.rises flows_some.each

  pub requests_some : AreSome at.request (RequestsAlike at) (request_loads_of timing part reported) (request_loads_of timing whole stays)
  requests_some = some_map (IsRequestThere at) (RequestsAlike at) (load_of_request timing part.units.items reported)
      (load_of_request timing whole.units.items stays)
      at.request part.requests.items whole.requests.items is.requests (request_there at part whole is stays reported decides reports_who timing)

  units_from : (xs ys : List (Option FlowLoad)) → IsSub (LoadsAlike at) xs ys → ((u : ℕ) → All HasPackets (broadcasts_by u ys))
      → AreSome at.unit (UnitsAlike at) (unit_loads_of timing part.units.items reported xs) (unit_loads_of timing whole.units.items stays ys)
  units_from [] ys sub paced = some_none (UnitsAlike at) at.unit is.units.rises (unit_loads_of timing whole.units.items stays ys)
  units_from (x ∷ xs) [] sub paced = absurd sub
  units_from (x ∷ xs) (y ∷ ys) sub paced = record { rises = is.units.rises; each = each }
    where
      here : ℕ → Option UnitLoad
      here u = known_unit_load timing part.units.items reported u (broadcasts_by u (x ∷ xs))

      there : ℕ → Option UnitLoad
      there u = known_unit_load timing whole.units.items stays u (broadcasts_by u (y ∷ ys))

      each : (i : ℕ) (l : Option UnitLoad) → slice_get (each_unit_load timing part.units.items reported (x ∷ xs)) i ≡ Some l
          → ValueAt (UnitsAlike at l) (each_unit_load timing whole.units.items stays (y ∷ ys)) (at.unit i)
      each i l its =
          let size : length (map here (range_with_len 0 (length part.units.items))) ≡ length part.units.items =
          length-map-range_with_len here 0 (length part.units.items) in
          let sum : length (map there (range_with_len 0 (length whole.units.items))) ≡ length whole.units.items =
          length-map-range_with_len there 0 (length whole.units.items) in
          let below = slice_get_within (each_unit_load timing part.units.items reported (x ∷ xs)) i l its in
          let within : i < length part.units.items = omega (arith, below, size) in
          let (unit, at_i) = unit_at_place at part whole is stays reported decides reports_who i within in
          let inside : at.unit i < length whole.units.items =
          slice_get_within whole.units.items (at.unit i) unit (there_too at part whole is stays reported decides reports_who i unit at_i) in
          let few = part.unit_count in
          let few_there = whole.unit_count in
          let is_l : here i ≡ l =
          sym (get_or-map-range_with_len here 0 (length part.units.items) i i None within (omega arith))
          ∙ get_or_from_slice_get (map here (range_with_len 0 (length part.units.items))) i l None its in
          record {
            value = there (at.unit i);
            value_is = slice_get-get_or (map there (range_with_len 0 (length whole.units.items))) (at.unit i) None (omega (arith, inside, sum))
                ∙ ap Some (get_or-map-range_with_len there 0 (length whole.units.items) (at.unit i) (at.unit i) None inside (omega arith));
            meets = subst (λ o. UnitsAlike at o (there (at.unit i))) is_l
                (unit_there at part whole is stays reported decides reports_who timing i within (omega (arith, within, few)) (omega (arith, inside, few_there))
                (broadcasts_by i (x ∷ xs)) (broadcasts_by (at.unit i) (y ∷ ys))
                (broadcasts_there at part whole is stays reported decides reports_who timing i (x ∷ xs) (y ∷ ys) sub) (paced (at.unit i)));
          }

  abbrev pub lus : List (Option UnitLoad)
  lus = unit_loads_of timing part.units.items reported ls

  abbrev pub kus : List (Option UnitLoad)
  kus = unit_loads_of timing whole.units.items stays ks

  pub units_some : AreSome at.unit (UnitsAlike at) lus kus
  units_some = units_from ls ks flows_sub (λ u. broadcasts_paced u ks (every_flow timing whole stays))

  abbrev lrs : List (Option RequestLoad)
  lrs = request_loads_of timing part reported

  abbrev krs : List (Option RequestLoad)
  krs = request_loads_of timing whole stays

  -- ---- all frames, with their places

  abbrev requests_place : ℕ → ℕ
  requests_place = joined at.unit at.request (length (map announcements_of_unit lus)) (length (map announcements_of_unit kus))

  abbrev units_place : ℕ → ℕ
  units_place = joined at.unit requests_place (length (map packets_of_unit lus)) (length (map packets_of_unit kus))

  abbrev behind_place : ℕ → ℕ
  behind_place = joined at.flow units_place (length (map singles_of_flow ls)) (length (map singles_of_flow ks))

  abbrev pub frames_place : ℕ → ℕ
  frames_place = joined at.flow behind_place (length (map frames_of_flow ls)) (length (map frames_of_flow ks))

  pub frames_some : AreSome frames_place (FramesAlike at) (frames_asked (asked_of timing part reported)) (frames_asked (asked_of timing whole stays))
  frames_some =
      let R = FramesAlike at in
      some_append R at.flow behind_place _ _ _ _
      (some_map (LoadsAlike at) R frames_of_flow frames_of_flow at.flow ls ks flows_some (λ i l k here alike. flows_alike at l k alike))
      (some_append R at.flow units_place _ _ _ _
      (some_map (LoadsAlike at) R singles_of_flow singles_of_flow at.flow ls ks flows_some (λ i l k here alike. singles_there at l k alike))
      (some_append R at.unit requests_place _ _ _ _
      (some_map (UnitsAlike at) R packets_of_unit packets_of_unit at.unit lus kus units_some
      (λ i l k here alike. packets_there at part whole is stays reported decides reports_who timing l k alike))
      (some_append R at.unit at.request _ _ _ _
      (some_map (UnitsAlike at) R announcements_of_unit announcements_of_unit at.unit lus kus units_some
      (λ i l k here alike. announcements_there at part whole is stays reported decides reports_who timing l k alike))
      (some_map (RequestsAlike at) R frames_of_request frames_of_request at.request lrs krs requests_some
      (λ i l k here alike. asked_there at part whole is stays reported decides reports_who timing l k alike)))))

  -- ---- where the frames of a unit's broadcasts stand

  joined_front : (first second : ℕ → ℕ) (here there i : ℕ) → i < here → joined first second here there i ≡ first i
  joined_front first second here there i below = rw (lt-ltb i here below) refl

  joined_back : (first second : ℕ → ℕ) (here there i : ℕ) → here ≤ i → joined first second here there i ≡ there + second (i - here)
  joined_back first second here there i above = rw (le-ltb i here above) refl

  pub packets_place_there : (u : ℕ) → u < length lus → frames_place (2 * length ls + u) ≡ 2 * length ks + at.unit u
  packets_place_there u below =
      let f = length-map ls frames_of_flow in
      let s = length-map ls singles_of_flow in
      let p = length-map lus packets_of_unit in
      let fw = length-map ks frames_of_flow in
      let sw = length-map ks singles_of_flow in
      let one = joined_back at.flow behind_place (length (map frames_of_flow ls)) (length (map frames_of_flow ks)) (2 * length ls + u) (omega (arith, f)) in
      let rest : 2 * length ls + u - length (map frames_of_flow ls) ≡ length ls + u = omega (arith, f) in
      let two = joined_back at.flow units_place (length (map singles_of_flow ls)) (length (map singles_of_flow ks)) (length ls + u) (omega (arith, s)) in
      let last : length ls + u - length (map singles_of_flow ls) ≡ u = omega (arith, s) in
      let three = joined_front at.unit requests_place (length (map packets_of_unit lus)) (length (map packets_of_unit kus)) u (omega (arith, p, below)) in
      one ∙ ap (λ k. length (map frames_of_flow ks) + behind_place k) rest ∙ ap (λ k. length (map frames_of_flow ks) + k) two
      ∙ ap (λ k. length (map frames_of_flow ks) + (length (map singles_of_flow ks) + units_place k)) last
      ∙ ap (λ k. length (map frames_of_flow ks) + (length (map singles_of_flow ks) + k)) three
      ∙ omega (arith, fw, sw)

  pub announcements_place_there : (u : ℕ) → u < length lus → frames_place (2 * length ls + (length lus + u)) ≡ 2 * length ks + (length kus + at.unit u)
  announcements_place_there u below =
      let f = length-map ls frames_of_flow in
      let s = length-map ls singles_of_flow in
      let p = length-map lus packets_of_unit in
      let a = length-map lus announcements_of_unit in
      let fw = length-map ks frames_of_flow in
      let sw = length-map ks singles_of_flow in
      let pw = length-map kus packets_of_unit in
      let one = joined_back at.flow behind_place (length (map frames_of_flow ls)) (length (map frames_of_flow ks)) (2 * length ls + (length lus + u))
      (omega (arith, f)) in
      let rest : 2 * length ls + (length lus + u) - length (map frames_of_flow ls) ≡ length ls + (length lus + u) = omega (arith, f) in
      let two = joined_back at.flow units_place (length (map singles_of_flow ls)) (length (map singles_of_flow ks)) (length ls + (length lus + u))
      (omega (arith, s)) in
      let next : length ls + (length lus + u) - length (map singles_of_flow ls) ≡ length lus + u = omega (arith, s) in
      let three = joined_back at.unit requests_place (length (map packets_of_unit lus)) (length (map packets_of_unit kus)) (length lus + u)
      (omega (arith, p)) in
      let last : length lus + u - length (map packets_of_unit lus) ≡ u = omega (arith, p) in
      let four = joined_front at.unit at.request (length (map announcements_of_unit lus)) (length (map announcements_of_unit kus)) u
      (omega (arith, a, below)) in
      one ∙ ap (λ k. length (map frames_of_flow ks) + behind_place k) rest ∙ ap (λ k. length (map frames_of_flow ks) + k) two
      ∙ ap (λ k. length (map frames_of_flow ks) + (length (map singles_of_flow ks) + units_place k)) next
      ∙ ap (λ k. length (map frames_of_flow ks) + (length (map singles_of_flow ks) + k)) three
      ∙ ap (λ k. length (map frames_of_flow ks) + (length (map singles_of_flow ks) + (length (map packets_of_unit kus) + requests_place k))) last
      ∙ ap (λ k. length (map frames_of_flow ks) + (length (map singles_of_flow ks) + (length (map packets_of_unit kus) + k))) four
      ∙ omega (arith, fw, sw, pw)

  pub packets_at : (u : ℕ) (l : UnitLoad) → slice_get lus u ≡ Some (Some l) → slice_get (frames_asked (asked_of timing part reported))
      (2 * length ls + u) ≡ Some (Some l.packets)
  packets_at u l its =
      let f = length-map ls frames_of_flow in
      let s = length-map ls singles_of_flow in
      let back = map announcements_of_unit lus ++ map frames_of_request lrs in
      let read = append_read (map frames_of_flow ls) (map singles_of_flow ls ++ (map packets_of_unit lus ++ back)) (length (map singles_of_flow ls) + u)
      (Some l.packets)
      (append_read (map singles_of_flow ls) (map packets_of_unit lus ++ back) u (Some l.packets)
      (append_front (map packets_of_unit lus) back u (Some l.packets) (slice_get-map packets_of_unit lus u ∙ ap (option_map packets_of_unit) its))) in
      subst (λ k. slice_get (frames_asked (asked_of timing part reported)) k ≡ Some (Some l.packets))
      (let e : length (map frames_of_flow ls) + (length (map singles_of_flow ls) + u) ≡ 2 * length ls + u = omega (arith, f, s) in e) read

  pub announcements_at : (u : ℕ) (l : UnitLoad) → slice_get lus u ≡ Some (Some l)
      → slice_get (frames_asked (asked_of timing part reported)) (2 * length ls + (length lus + u)) ≡ Some (Some l.announcements)
  announcements_at u l its =
      let f = length-map ls frames_of_flow in
      let s = length-map ls singles_of_flow in
      let p = length-map lus packets_of_unit in
      let read = append_read (map frames_of_flow ls)
      (map singles_of_flow ls ++ (map packets_of_unit lus ++ (map announcements_of_unit lus ++ map frames_of_request lrs)))
      (length (map singles_of_flow ls) + (length (map packets_of_unit lus) + u)) (Some l.announcements)
      (append_read (map singles_of_flow ls) (map packets_of_unit lus ++ (map announcements_of_unit lus ++ map frames_of_request lrs))
      (length (map packets_of_unit lus) + u) (Some l.announcements)
      (append_read (map packets_of_unit lus) (map announcements_of_unit lus ++ map frames_of_request lrs) u (Some l.announcements)
      (append_front (map announcements_of_unit lus) (map frames_of_request lrs) u (Some l.announcements)
      (slice_get-map announcements_of_unit lus u ∙ ap (option_map announcements_of_unit) its)))) in
      subst (λ k. slice_get (frames_asked (asked_of timing part reported)) k ≡ Some (Some l.announcements))
      (let e : length (map frames_of_flow ls) + (length (map singles_of_flow ls) + (length (map packets_of_unit lus) + u)) ≡ 2 * length ls + (length lus + u) =
      omega (arith, f, s, p) in e) read

  -- a unit that sends long messages to all asks something: by this one too
  pub unit_asks : (f u : ℕ) (load : Option FlowLoad) (b : Broadcast) → slice_get ls f ≡ Some load → broadcast_by u load ≡ Some b → u < length part.units.items
      → (l : UnitLoad) × (slice_get lus u ≡ Some (Some l)) × IsAskedBy b l
  unit_asks f u load b its its_b within = go ls its
    where
      front : (o : Option Broadcast) (bs : List Broadcast) → o ≡ Some b → IsOneOf b (cons_option o bs)
      front None bs is_b = absurd (none-some b is_b)
      front (Some c) bs is_b =
          let same = ap (λ (x : Broadcast). x.packets) (same_Some c b is_b) in
          let sum = sum_by-cons (λ (x : Broadcast). x.packets) c bs in
          (omega arith, omega (arith, same, sum))

      behind : (o : Option Broadcast) (bs : List Broadcast) → IsOneOf b bs → IsOneOf b (cons_option o bs)
      behind None bs among = among
      behind (Some c) bs (some, packets) =
          let sum = sum_by-cons (λ (x : Broadcast). x.packets) c bs in
          (omega arith, omega (arith, packets, sum))

      among : (xs : List (Option FlowLoad)) (i : ℕ) → slice_get xs i ≡ Some load → IsOneOf b (broadcasts_by u xs)
      among [] i at = absurd (no_value i load at)
      among (x ∷ xs) zero at = front (broadcast_by u x) (broadcasts_by u xs) (ap (broadcast_by u) (same_Some x load at) ∙ its_b)
      among (x ∷ xs) (suc i) at = behind (broadcast_by u x) (broadcasts_by u xs) (among xs i at)

      known : (bs : List Broadcast) → IsOneOf b bs → (l : UnitLoad) × (known_unit_load timing part.units.items reported u bs ≡ Some l) × IsAskedBy b l
      known [] (some, packets) = absurd (omega (arith, some))
      known (c ∷ cs) (some, packets) = (unit_load timing part.units.items reported u (c ∷ cs), refl, record { flows = some; packets = packets })

      go : (xs : List (Option FlowLoad)) → slice_get xs f ≡ Some load
          → (l : UnitLoad) × (slice_get (unit_loads_of timing part.units.items reported xs) u ≡ Some (Some l)) × IsAskedBy b l
      go [] at = absurd (no_value f load at)
      go (x ∷ xs) at =
          let here : ℕ → Option UnitLoad = λ v. known_unit_load timing part.units.items reported v (broadcasts_by v (x ∷ xs)) in
          let size = length-map-range_with_len here 0 (length part.units.items) in
          let (l, is_l, by_b) = known (broadcasts_by u (x ∷ xs)) (among (x ∷ xs) f at) in (
            l,
            slice_get-get_or (map here (range_with_len 0 (length part.units.items))) u None (omega (arith, size, within))
                ∙ ap Some (get_or-map-range_with_len here 0 (length part.units.items) u u None within (omega arith) ∙ is_l),
            by_b,
          )
