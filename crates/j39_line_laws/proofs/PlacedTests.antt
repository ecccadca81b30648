-- A test of what stands in the plan of a variant is that of what it comes of in the file.
use Rattle.std.proofs.Common.{◌≡◌, ℕ, Bool, true, false, not, ◌&&◌, ◌==◌, List, Option, Some, None, option_map, refl, sym, ◌∙◌, ap, arith}
use Rattle.std.proofs.lemmas.Option.{none-some, same_Some}
use Rattle.j39_network.specs.Serving.{is_asked_for, is_from, is_reached, meets, serves}
use Rattle.j39_network.specs.declared.plan.flow_plan.FlowPlan.{FlowPlan}
use Rattle.j39_network.specs.declared.plan.need_plan.NeedPlan.{NeedPlan}
use Rattle.j39_network.specs.declared.plan.request_plan.RequestPlan.{RequestPlan}
use Rattle.j39_network.specs.declared.plan.to.To.{To}
use Rattle.j39_network.specs.declared.plan.to.To.TheVariants.{All, One}
use Rattle.j39_variants.specs.declared.line.ProductLine.{ProductLine}
use Rattle.j39_variants.specs.VariantPlans.{flags, group_places, moved_flow, moved_from, moved_need, moved_receivers, moved_request, need_between, place_at}
use Rattle.j39_variants.specs.VariantPlans.{unit_places}
use Rattle.j39_line_findings.specs.FullVariants.{provides}
use Rattle.j39_line_laws.proofs.Parts.{flow_of, request_of}
use Rattle.j39_line_laws.proofs.NamedPlaces.{same_places}

pub record IsNeedOf (d : NeedPlan) (u g : Option ℕ) (s : Option (Option ℕ)) (e : NeedPlan) : Type 0 where
  pub unit : u ≡ Some e.unit
  pub group : g ≡ Some e.group
  pub from : s ≡ Some e.from
  pub within : e.within ≡ d.within

pub need_of : (d : NeedPlan) (u g : Option ℕ) (s : Option (Option ℕ)) (e : NeedPlan) → need_between d u g s ≡ Some e → IsNeedOf d u g s e
need_of d (Some u) (Some g) (Some s) e is_e = grind (arith, is_e)
need_of d None g s e is_e = absurd (none-some e is_e)
need_of d (Some u) None s e is_e = absurd (none-some e is_e)
need_of d (Some u) (Some g) None e is_e = absurd (none-some e is_e)

-- ---- tests

all_four : (a b c d p q r s : Bool) → a ≡ p → b ≡ q → c ≡ r → d ≡ s → (a && (b && (c && d))) ≡ (p && (q && (r && s)))
all_four a b c d p q r s one two three last =
    ap (λ x. x && (b && (c && d))) one ∙ ap (λ x. p && (x && (c && d))) two ∙ ap (λ x. p && (q && (x && d))) three ∙ ap (λ x. p && (q && (r && x))) last

five : (a b c d e : Bool) → (a && (b && (c && (d && e)))) ≡ ((a && (b && (c && (d && true)))) && e)
five false b c d e = refl
five true false c d e = refl
five true true false d e = refl
five true true true false e = refl
five true true true true e = refl

-- a flow meets a need where it brings what is needed, and is asked for where it has to be
pub meets_by : (requests : List RequestPlan) (need : NeedPlan) (flow : FlowPlan)
    → meets requests need flow ≡ (provides need flow && is_asked_for requests flow)
meets_by requests need flow = five (flow.group == need.group) (not (flow.sender == need.unit)) (is_from need.from flow.sender) (is_reached flow.to need.unit)
    (is_asked_for requests flow)

module _ (line : ProductLine) (v : List ℕ) where
  abbrev us : List (Option ℕ)
  us = unit_places line v

  abbrev gs : List (Option ℕ)
  gs = group_places line v

  unit_same : (i j p q : ℕ) → place_at us i ≡ Some p → place_at us j ≡ Some q → (p == q) ≡ (i == j)
  unit_same = same_places (flags v line.lists.units.items)

  group_same : (i j p q : ℕ) → place_at gs i ≡ Some p → place_at gs j ≡ Some q → (p == q) ≡ (i == j)
  group_same = same_places (flags v line.lists.groups.items)

  reached_same : (to y : To) (u p : ℕ) → moved_receivers us to ≡ Some y → place_at us u ≡ Some p → is_reached y p ≡ is_reached to u
  reached_same All y u p moved at = ap (λ t. is_reached t p) (sym (same_Some All y moved))
  reached_same (One r) y u p moved at = go (place_at us r) refl moved
    where
      go : (o : Option ℕ) → place_at us r ≡ o → option_map One o ≡ Some y → is_reached y p ≡ is_reached (One r) u
      go None is_o none = absurd (none-some y none)
      go (Some q) is_o its = ap (λ t. is_reached t p) (sym (same_Some (One q) y its)) ∙ unit_same r u q p is_o at

  from_same : (o y : Option ℕ) (u p : ℕ) → moved_from us o ≡ Some y → place_at us u ≡ Some p → is_from y p ≡ is_from o u
  from_same None y u p moved at = ap (λ t. is_from t p) (sym (same_Some None y moved))
  from_same (Some i) y u p moved at = go (place_at us i) refl moved
    where
      go : (o : Option ℕ) → place_at us i ≡ o → option_map Some o ≡ Some y → is_from y p ≡ is_from (Some i) u
      go None is_o none = absurd (none-some y none)
      go (Some q) is_o its = ap (λ t. is_from t p) (sym (same_Some (Some q) y its)) ∙ unit_same u i p q at is_o

  pub serves_same : (x y : FlowPlan) (r q : RequestPlan) → moved_flow us gs x ≡ Some y → moved_request us gs r ≡ Some q → serves q y ≡ serves r x
  serves_same x y r q flow request =
      let f = flow_of x (place_at gs x.group) (place_at us x.sender) (moved_receivers us x.to) y flow in
      let a = request_of r (place_at gs r.group) (place_at us r.sender) (moved_receivers us r.to) q request in
      all_four _ _ _ _ _ _ _ _ (group_same x.group r.group y.group q.group f.group a.group)
      (ap not (unit_same x.sender r.sender y.sender q.sender f.sender a.sender))
      (reached_same r.to q.to x.sender y.sender a.to f.sender) (reached_same x.to y.to r.sender q.sender f.to a.sender)

  pub brings_same : (need e : NeedPlan) (x y : FlowPlan) → moved_need us gs need ≡ Some e → moved_flow us gs x ≡ Some y → provides e y ≡ provides need x
  brings_same need e x y needs flow =
      let f = flow_of x (place_at gs x.group) (place_at us x.sender) (moved_receivers us x.to) y flow in
      let n = need_of need (place_at us need.unit) (place_at gs need.group) (moved_from us need.from) e needs in
      all_four _ _ _ _ _ _ _ _ (group_same x.group need.group y.group e.group f.group n.group)
      (ap not (unit_same x.sender need.unit y.sender e.unit f.sender n.unit))
      (from_same need.from e.from x.sender y.sender n.from f.sender)
      (ap (λ b. b && true) (reached_same x.to y.to need.unit e.unit f.to n.unit))
