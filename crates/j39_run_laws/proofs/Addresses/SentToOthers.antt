-- What a unit sends is appended to its lists, and to no others; what holds of all that is undelivered holds of what is left of it.
use Rattle.std.proofs.Common.{◌≡◌, ◌≢◌, ℕ, true, false, cond, not, ◌&&◌, eqb, List, [], ◌∷◌, ◌++◌, refl, ◌∙◌, subst}
use Rattle.std.proofs.lemmas.Bool.{eq-eqb, ne_eqb, eqb-true, cond_both, and_parts}
use Rattle.std.proofs.lemmas.List.Elements.{Contains-append_left, Contains-append_right}
use Rattle.std.specs.List.{Contains, AllByRecursion}
use Rattle.j39_claim.specs.declared.item.Item.{Item}
use Rattle.j39_world.specs.World.{Stations, Undelivered, changed_pair, is_other_on}
use Rattle.j39_world.specs.ClaimSteps.{sent_to_others, without_lists_to}
use Rattle.j39_run_laws.proofs.Runs.Elements.{all-append}

-- this holds of all that is undelivered, with who said it
abbrev pub AllSaid : (ℕ → Item → Type 0) → Undelivered → Type 0
AllSaid P claims = (s t : ℕ) → AllByRecursion (P s) (claims s t)

pub said_without : (P : ℕ → Item → Type 0) (claims : Undelivered) (u : ℕ) → AllSaid P claims → AllSaid P (without_lists_to u claims)
said_without P claims u old s t = cond_both (eqb t u) [] (claims s t) (AllByRecursion (P s)) (λ _. tt) (λ _. old s t)

pub said_rest : (P : ℕ → Item → Type 0) (claims : Undelivered) (u v : ℕ) (item : Item) (rest : List Item) → claims u v ≡ item ∷ rest
    → AllSaid P claims → AllSaid P (changed_pair claims u v rest)
said_rest P claims u v item rest list old s t =
    cond_both (eqb s u && eqb t v) rest (claims s t) (AllByRecursion (P s))
    (λ both. let same = and_parts (eqb s u) (eqb t v) both in
    let whole : AllByRecursion (P s) (item ∷ rest) =
    subst (AllByRecursion (P s)) ((λ i. claims (eqb-true s u same.0 i) (eqb-true t v same.1 i)) ∙ list) (old s t) in
    whole.1)
    (λ _. old s t)

module _ (stations : Stations) (claims : Undelivered) (u : ℕ) (items : List Item) where
  -- nothing is lost
  pub still : (s t : ℕ) (x : Item) → Contains (claims s t) x → Contains (sent_to_others stations claims u items s t) x
  still s t x in_old = cond_both (eqb s u && is_other_on stations u t) (claims s t ++ items) (claims s t) (λ xs. Contains xs x)
      (λ _. Contains-append_left (claims s t) items x in_old) (λ _. in_old)

  -- it is sent to each other unit that is on
  pub stated : (t : ℕ) (x : Item) → (stations t).on ≡ true → t ≢ u → Contains items x → Contains (sent_to_others stations claims u items u t) x
  stated t x on other in_items =
      let same : eqb u u ≡ true = eq-eqb u u refl in
      let apart : eqb t u ≡ false = ne_eqb t u other in
      rw (same, on, apart) (Contains-append_right (claims u t) items x in_items)

  pub said_more : (P : ℕ → Item → Type 0) → AllSaid P claims → AllByRecursion (P u) items → AllSaid P (sent_to_others stations claims u items)
  said_more P old more s t = cond_both (eqb s u && is_other_on stations u t) (claims s t ++ items) (claims s t) (AllByRecursion (P s))
      (λ is. all-append (P s) (claims s t) items (old s t) (rw (eqb-true s u (and_parts (eqb s u) (is_other_on stations u t) is).0) more))
      (λ _. old s t)

  pub not_itself : ((s : ℕ) → claims s s ≡ []) → (s : ℕ) → sent_to_others stations claims u items s s ≡ []
  not_itself old s =
      elim (eqb s u) as (λ e. cond (e && ((stations s).on && not e)) (claims s s ++ items) (claims s s) ≡ []) [
        | true ↦ elim ((stations s).on) as (λ e. cond (e && false) (claims s s ++ items) (claims s s) ≡ []) [ true ↦ old s | false ↦ old s ]
        | false ↦ old s
      ]
