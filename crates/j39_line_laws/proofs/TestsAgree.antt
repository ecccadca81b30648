-- What is there answers and brings in the plan of a variant what it does in the file.
use Rattle.std.proofs.Common.{◌≡◌, ℕ, zero, suc, ◌==◌, Bool, true, not, ◌&&◌, ◌||◌, List, [], ◌∷◌, Option, Some, None, option_map, bytes_eq, refl, sym, ◌∙◌, ap}
use Rattle.std.specs.List.{AllZip, slice_get}
use Rattle.std.proofs.lemmas.Option.{none-some, same_Some}
use Rattle.j39_findings.specs.Found.{is_group_of, is_one_frame_to_all, may_name_receiver, sends}
use Rattle.j39_network.specs.Serving.{is_from, is_reached, is_to, is_to_one, serves}
use Rattle.j39_network.specs.declared.plan.flow_plan.FlowPlan.{FlowPlan}
use Rattle.j39_network.specs.declared.plan.group_plan.GroupPlan.{GroupPlan}
use Rattle.j39_network.specs.declared.plan.need_plan.NeedPlan.{NeedPlan}
use Rattle.j39_network.specs.declared.plan.request_plan.RequestPlan.{RequestPlan}
use Rattle.j39_network.specs.declared.plan.to.To.{To}
use Rattle.j39_network.specs.declared.plan.to.To.TheVariants.{All as ToAll, One}
use Rattle.j39_variants.proofs.Places.{flow_parts, need_parts, request_parts}
use Rattle.j39_variants.specs.VariantPlans.{flow_between, IsCopyOfGroup, moved_flow, moved_from, moved_need, moved_receivers, moved_request, place_at, places}
use Rattle.j39_line_findings.specs.FullVariants.{provides}
use Rattle.j39_line_laws.proofs.NamedPlaces.{same_places}

pub both : (a b c d : Bool) → a ≡ c → b ≡ d → (a && b) ≡ (c && d)
both a b c d one other = ap (λ x. x && b) one ∙ ap (λ x. c && x) other

-- ---- of units and groups by their flags

module _ (units groups : List Bool) where
  abbrev us : List (Option ℕ)
  us = places 0 units

  abbrev gs : List (Option ℕ)
  gs = places 0 groups

  pub to_one_same : (t s : To) → moved_receivers us t ≡ Some s → is_to_one s ≡ is_to_one t
  to_one_same ToAll s moved = ap is_to_one (sym (same_Some ToAll s moved))
  to_one_same (One u) s moved = by (place_at us u) moved
    where
      by : (o : Option ℕ) → option_map One o ≡ Some s → is_to_one s ≡ true
      by None none = absurd (none-some s none)
      by (Some p) is = ap is_to_one (sym (same_Some (One p) s is))

  to_same : (t s : To) (i p : ℕ) → moved_receivers us t ≡ Some s → place_at us i ≡ Some p → is_to s p ≡ is_to t i
  to_same ToAll s i p moved at = ap (λ x. is_to x p) (sym (same_Some ToAll s moved))
  to_same (One u) s i p moved at = by (place_at us u) refl moved
    where
      by : (o : Option ℕ) → place_at us u ≡ o → option_map One o ≡ Some s → is_to s p ≡ (u == i)
      by None is_o none = absurd (none-some s none)
      by (Some q) is_o is = ap (λ x. is_to x p) (sym (same_Some (One q) s is)) ∙ same_places units u i q p is_o at

  reached_same : (t s : To) (i p : ℕ) → moved_receivers us t ≡ Some s → place_at us i ≡ Some p → is_reached s p ≡ is_reached t i
  reached_same t s i p moved at = ap (λ b. not b || is_to s p) (to_one_same t s moved) ∙ ap (λ b. not (is_to_one t) || b) (to_same t s i p moved at)

  pub serves_same : (r q : RequestPlan) (f y : FlowPlan) → moved_request us gs r ≡ Some q → moved_flow us gs f ≡ Some y → serves q y ≡ serves r f
  serves_same r q f y asked sent =
      let of_r = request_parts r (place_at gs r.group) (place_at us r.sender) (moved_receivers us r.to) q asked in
      let of_f = flow_parts f (place_at gs f.group) (place_at us f.sender) (moved_receivers us f.to) y sent in
      both _ _ _ _ (same_places groups f.group r.group y.group q.group of_f.group of_r.group)
      (both _ _ _ _ (ap not (same_places units f.sender r.sender y.sender q.sender of_f.sender of_r.sender))
      (both _ _ _ _ (reached_same r.to q.to f.sender y.sender of_r.receivers of_f.sender)
      (reached_same f.to y.to r.sender q.sender of_f.receivers of_r.sender)))

  from_same : (t s : Option ℕ) (i p : ℕ) → moved_from us t ≡ Some s → place_at us i ≡ Some p → is_from s p ≡ is_from t i
  from_same None s i p moved at = ap (λ x. is_from x p) (sym (same_Some None s moved))
  from_same (Some u) s i p moved at = by (place_at us u) refl moved
    where
      by : (o : Option ℕ) → place_at us u ≡ o → option_map Some o ≡ Some s → is_from s p ≡ (i == u)
      by None is_o none = absurd (none-some s none)
      by (Some q) is_o is = ap (λ x. is_from x p) (sym (same_Some (Some q) s is)) ∙ same_places units i u p q at is_o

  pub brings_same : (d e : NeedPlan) (f y : FlowPlan) → moved_need us gs d ≡ Some e → moved_flow us gs f ≡ Some y → provides e y ≡ provides d f
  brings_same d e f y needed sent =
      let of_d = need_parts d (place_at us d.unit) (place_at gs d.group) (moved_from us d.from) e needed in
      let of_f = flow_parts f (place_at gs f.group) (place_at us f.sender) (moved_receivers us f.to) y sent in
      both _ _ _ _ (same_places groups f.group d.group y.group e.group of_f.group of_d.group)
      (both _ _ _ _ (ap not (same_places units f.sender d.unit y.sender e.unit of_f.sender of_d.unit))
      (both _ _ _ _ (from_same d.from e.from f.sender y.sender of_d.sender of_f.sender)
      (both _ _ _ _ (reached_same f.to y.to d.unit e.unit of_f.receivers of_d.unit) refl)))

  pub on_request_same : (f y : FlowPlan) → moved_flow us gs f ≡ Some y → y.on_request ≡ f.on_request
  on_request_same f y sent = by (place_at gs f.group) (place_at us f.sender) (moved_receivers us f.to) sent
    where
      by : (g s : Option ℕ) (t : Option To) → flow_between f g s t ≡ Some y → y.on_request ≡ f.on_request
      by None s t is = absurd (none-some y is)
      by (Some g) None t is = absurd (none-some y is)
      by (Some g) (Some s) None is = absurd (none-some y is)
      by (Some g) (Some s) (Some t) is = sym (ap (λ (z : FlowPlan). z.on_request) (same_Some _ _ is))

-- ---- groups

group_of_copy : (P Q : GroupPlan → Bool) → ((g h : GroupPlan) → IsCopyOfGroup g h → Q h ≡ P g) → (xs ys : List GroupPlan) → AllZip IsCopyOfGroup xs ys → (i : ℕ)
    → is_group_of Q (slice_get ys i) ≡ is_group_of P (slice_get xs i)
group_of_copy P Q same [] [] zip zero = refl
group_of_copy P Q same [] [] zip (suc i) = refl
group_of_copy P Q same [] (y ∷ ys) zip i = absurd zip
group_of_copy P Q same (x ∷ xs) [] zip i = absurd zip
group_of_copy P Q same (x ∷ xs) (y ∷ ys) zip zero = same x y zip.0
group_of_copy P Q same (x ∷ xs) (y ∷ ys) zip (suc i) = group_of_copy P Q same xs ys zip.1 i

-- a group that is there is its copy in the plan of the variant
module _ (all some copies : List GroupPlan) (zip : AllZip IsCopyOfGroup some copies) where
  pub sends_same : (g h : GroupPlan) (f y : FlowPlan) → IsCopyOfGroup g h → slice_get some y.group ≡ slice_get all f.group → sends copies h y ≡ sends all g f
  sends_same g h f y copy named =
      group_of_copy (λ sent. bytes_eq sent.label.bytes g.label.bytes) (λ sent. bytes_eq sent.label.bytes h.label.bytes)
      (λ a b its. ap (λ l. bytes_eq l.bytes h.label.bytes) its.label ∙ ap (λ l. bytes_eq a.label.bytes l.bytes) copy.label) some copies zip y.group
      ∙ ap (is_group_of (λ sent. bytes_eq sent.label.bytes g.label.bytes)) named

  pub may_name_same : (r q : RequestPlan) → slice_get some q.group ≡ slice_get all r.group → may_name_receiver copies q ≡ may_name_receiver all r
  may_name_same r q named =
      group_of_copy (λ g. not (is_one_frame_to_all g)) (λ g. not (is_one_frame_to_all g))
      (λ a b its. ap not (rw (its.pgn, its.most) refl)) some copies zip q.group
      ∙ ap (is_group_of (λ g. not (is_one_frame_to_all g))) named
