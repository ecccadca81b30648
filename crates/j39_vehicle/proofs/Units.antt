-- The units of gateways, as texts.
use Rattle.std.proofs.Common.{◌≡◌, ℕ, ◌+◌, ◌<◌, List, [], ◌∷◌, ◌++◌, ◌||◌, map, length, take, drop, get_or, Option, Some, None}
use Rattle.std.proofs.Common.{refl, sym, ap, ◌∙◌, append_assoc, string_bytes}
use Rattle.std.proofs.lemmas.List.{append-nil, map_more}
use Rattle.std.specs.Option.{option_or}
use Rattle.toml.proofs.Views.{items_view-drop}
use Rattle.j39_toml.specs.declared.cause.Cause.{Cause}
use Rattle.std.proofs.Math.Bool.{or_assoc}
use Rattle.std.specs.List.{list_any, list_all}
use Rattle.std.specs.Str.{bytes_eq}
use Rattle.toml.specs.declared.value.Value.{Value}
use Rattle.toml.specs.View.{view, items_view}
use Rattle.j39_vehicle.specs.declared.file.gateway_table.GatewayTable.{GatewayTable}
use Rattle.j39_vehicle.specs.declared.file.name_on_bus.NameOnBus.{NameOnBus}
use Rattle.j39_vehicle.specs.TextKinds.{name_of}
use Rattle.j39_vehicle.specs.LabelsSeen.{Named, is_label_among}
use Rattle.j39_vehicle.specs.GatewayTables.{all_units, are_on, is_text_among, named_gateway, text_in, texts_in, unit_cause, units_cause}

is_among_both : (xs ys : List (List ℕ)) (t : List ℕ) → is_text_among (xs ++ ys) t ≡ (is_text_among xs t || is_text_among ys t)
is_among_both [] ys t = refl
is_among_both (x ∷ xs) ys t = rw (is_among_both xs ys t) (sym (or_assoc (bytes_eq x t) (is_text_among xs t) (is_text_among ys t)))

is_of : (ns : List NameOnBus) (t : List ℕ)
    → is_text_among (map (λ n. string_bytes n.text) ns) t ≡ list_any (λ n. bytes_eq (string_bytes n.text) t) ns
is_of [] t = refl
is_of (n ∷ ns) t = rw (is_of ns t)

is_elsewhere : (gs : List GatewayTable) (t : List ℕ)
    → is_text_among (all_units (map named_gateway gs)) t ≡ list_any (λ g. list_any (λ n. bytes_eq (string_bytes n.text) t) g.units.items) gs
is_elsewhere [] t = refl
is_elsewhere (g ∷ gs) t =
    rw (is_among_both (map (λ n. string_bytes n.text) g.units.items) (all_units (map named_gateway gs)) t, is_of g.units.items t, is_elsewhere gs t) refl

is_before : (vs : List Value) (t : List ℕ) → is_text_among (texts_in (items_view vs)) t ≡ list_any (λ v. bytes_eq (text_in (view v)) t) vs
is_before [] t = refl
is_before (v ∷ vs) t = rw (is_before vs t)

pub is_earlier : (gs : List GatewayTable) (vs : List Value) (t : List ℕ)
    → is_text_among (all_units (map named_gateway gs) ++ texts_in (items_view vs)) t
    ≡ (list_any (λ g. list_any (λ n. bytes_eq (string_bytes n.text) t) g.units.items) gs || list_any (λ v. bytes_eq (text_in (view v)) t) vs)
is_earlier gs vs t = rw (is_among_both (all_units (map named_gateway gs)) (texts_in (items_view vs)) t, is_elsewhere gs t, is_before vs t) refl

pub all_on_view : (buses : List Named) (vs : List Value)
    → are_on buses (texts_in (items_view vs)) ≡ list_all (λ v. is_label_among buses (name_of (text_in (view v))).bus) vs
all_on_view buses [] = refl
all_on_view buses (v ∷ vs) = rw (all_on_view buses vs)

pub texts_map : (vs : List Value) → texts_in (items_view vs) ≡ map (λ v. text_in (view v)) vs
texts_map [] = refl
texts_map (v ∷ vs) = rw (texts_map vs)

-- none of the first i elements is refused, so the cause for all is that of the others behind these
pub record IsTried (seen : List (List ℕ)) (i : ℕ) (vs : List Value) : Type 0 where
  pub same : units_cause seen (items_view vs) ≡ units_cause (seen ++ texts_in (items_view (take i vs))) (items_view (drop i vs))

pub none_tried : (seen : List (List ℕ)) (vs : List Value) → IsTried seen 0 vs
none_tried seen vs = record { same = rw (append-nil seen) refl }

pub one_more : (seen : List (List ℕ)) (i : ℕ) (vs : List Value) (d : Value) → IsTried seen i vs → i < length vs
    → unit_cause (seen ++ texts_in (items_view (take i vs))) (view (get_or vs i d)) ≡ None → IsTried seen (i + 1) vs
one_more seen i vs d tried inside none =
    let texts = texts_in (items_view (take i vs)) in
    let text = text_in (view (get_or vs i d)) in
    let now : texts_in (items_view (take (i + 1) vs)) ≡ texts ++ text ∷ [] =
    texts_map (take (i + 1) vs) ∙ (map_more (λ v. text_in (view v)) vs i d inside ∙ ap (λ ts. ts ++ text ∷ []) (sym (texts_map (take i vs)))) in
    record {
      same = tried.same ∙ (ap (units_cause (seen ++ texts)) (items_view-drop vs i d inside)
          ∙ (ap (λ (o : Option Cause). option_or o (units_cause ((seen ++ texts) ++ text ∷ []) (items_view (drop (i + 1) vs)))) none
          ∙ rw (now, append_assoc seen texts (text ∷ [])) refl));
    }

pub stops_here : (seen : List (List ℕ)) (i : ℕ) (vs : List Value) (d : Value) (cause : Cause) → IsTried seen i vs → i < length vs
    → unit_cause (seen ++ texts_in (items_view (take i vs))) (view (get_or vs i d)) ≡ Some cause → units_cause seen (items_view vs) ≡ Some cause
stops_here seen i vs d cause tried inside is =
    let texts = texts_in (items_view (take i vs)) in
    let text = text_in (view (get_or vs i d)) in
    tried.same ∙ (ap (units_cause (seen ++ texts)) (items_view-drop vs i d inside)
    ∙ ap (λ (o : Option Cause). option_or o (units_cause ((seen ++ texts) ++ text ∷ []) (items_view (drop (i + 1) vs)))) is)

pub all_tried : (seen : List (List ℕ)) (i : ℕ) (vs : List Value) → IsTried seen i vs → drop i vs ≡ [] → units_cause seen (items_view vs) ≡ None
all_tried seen i vs tried none = tried.same ∙ ap (λ left. units_cause (seen ++ texts_in (items_view (take i vs))) (items_view left)) none
