-- What is known of units and addresses, behind a break and behind a claim.
use Rattle.std.proofs.Common.{◌≡◌, ◌≢◌, ◌+◌, ◌*◌, ◌<◌, ◌≤◌, ◌==◌, ◌&&◌, ◌||◌, ℕ, List, [], ◌∷◌, Bool, true, false, cond, Option, Some, None, refl, sym, ap}
use Rattle.std.proofs.Common.{subst, arith, ◌∙◌, inl, inr, eq-eqb}
use Rattle.std.specs.Prelude.{is_none, nat_lt, slice_index_or}
use Rattle.std.specs.List.{list_any}
use Rattle.std.proofs.lemmas.Bool.{cases_eq, cases_lt, le-ltb, lt-ltb, ne_eqb}
use Rattle.j39_id.specs.Addresses.{is_address}
use Rattle.j39_audit.specs.Claiming.{Heard, HeardClaims, has_claimed, knowledge, least_name, newest_of, smaller_name}
use Rattle.j39_audit.specs.Settings.{Settings}
use Rattle.j39_audit.specs.Requests.{GroupRequests}
use Rattle.j39_audit.specs.declared.known.Known.{Known}
use Rattle.j39_audit.specs.declared.requests.HeardRequests.{HeardRequests}
use Rattle.j39_audit.specs.inside.Recalling.{KnowsClaims, known_by, RecallsRequests}

and_false : (b : Bool) → (b && false) ≡ false
and_false true = refl
and_false false = refl

-- what is known is what the claims report
pub known_knowledge : (s : Settings) (known : Known) (claims : HeardClaims) → KnowsClaims s known claims → known_by known ≡ knowledge s claims
known_knowledge s known claims knows = λ i. record {
  last = λ u. knows.last u i;
  taken = λ a. knows.taken a i;
  least = λ a. knows.least a i;
  claimed = λ u a. knows.claimed u a i;
  requests = record { ever = λ key. knows.requests.ever key i; newest = λ key. knows.requests.newest key i };
  time = knows.time i;
}

-- where what was asked for stays, it is recalled
pub still_requested : (old new : HeardRequests) (r : GroupRequests) → new ≡ old → RecallsRequests old r → RecallsRequests new r
still_requested old new r same recalls = subst (λ (k : HeardRequests). RecallsRequests k r) (sym same) recalls

-- ---- a break

pub forgot : (part moves : Bool) (u : ℕ) (all recent : List Heard) (new old : Option ℕ) → new ≡ cond moves None old
    → old ≡ cond part None (newest_of u (cond moves recent all)) → new ≡ cond part None (newest_of u (cond moves [] all))
unfolding newest_of
forgot true true u all recent new old now was = now
forgot true false u all recent new old now was = now ∙ was
forgot false true u all recent new old now was = now
forgot false false u all recent new old now was = now ∙ was

-- past the last unit
pub forgot_past : (moves : Bool) (new old : Option ℕ) → new ≡ old → old ≡ None → new ≡ cond moves None old
forgot_past true new old same none = same ∙ none
forgot_past false new old same none = same

-- ---- a claim of a unit

-- of this unit
pub heard_here : (part moves : Bool) (u v source name : ℕ) (all recent : List Heard) (new old : Option ℕ) → v ≡ u → (part ≡ true → new ≡ old)
    → (part ≡ false → new ≡ Some source) → old ≡ cond part None (newest_of u (cond moves recent all))
    → new ≡ cond part None (newest_of u (cond moves (record { unit = Some v; source = source; name = name } ∷ recent)
    (record { unit = Some v; source = source; name = name } ∷ all)))
unfolding newest_of
heard_here true moves u v source name all recent new old same none here was = none refl ∙ was
heard_here false true u v source name all recent new old same none here was = rw (eq-eqb v u same) (here refl)
heard_here false false u v source name all recent new old same none here was = rw (eq-eqb v u same) (here refl)

-- of another one
pub heard_other : (part moves : Bool) (u v source name : ℕ) (all recent : List Heard) (new old : Option ℕ) → v ≢ u → new ≡ old
    → old ≡ cond part None (newest_of u (cond moves recent all))
    → new ≡ cond part None (newest_of u (cond moves (record { unit = Some v; source = source; name = name } ∷ recent)
    (record { unit = Some v; source = source; name = name } ∷ all)))
unfolding newest_of
heard_other true moves u v source name all recent new old apart same was = same ∙ was
heard_other false true u v source name all recent new old apart same was = rw (ne_eqb v u apart) (same ∙ was)
heard_other false false u v source name all recent new old apart same was = rw (ne_eqb v u apart) (same ∙ was)

-- of no unit
pub heard_none : (part moves : Bool) (u source name : ℕ) (all recent : List Heard) (new old : Option ℕ) → new ≡ old
    → old ≡ cond part None (newest_of u (cond moves recent all))
    → new ≡ cond part None (newest_of u (cond moves (record { unit = None; source = source; name = name } ∷ recent)
    (record { unit = None; source = source; name = name } ∷ all)))
unfolding newest_of
heard_none true moves u source name all recent new old same was = same ∙ was
heard_none false true u source name all recent new old same was = same ∙ was
heard_none false false u source name all recent new old same was = same ∙ was

-- ---- an address that is claimed by no unit

abbrev strange : List Heard → ℕ → Bool
strange all a = list_any (λ (h : Heard). is_none h.unit && h.source == a) all

pub taken_here : (source name a : ℕ) (all : List Heard) (new old : Bool) → source ≡ a → (254 ≤ a → new ≡ old) → (a < 254 → new ≡ true)
    → old ≡ (is_address a && strange all a)
    → new ≡ (is_address a && strange (record { unit = None; source = source; name = name } ∷ all) a)
taken_here source name a all new old same null here was = elim (cases_lt a 254) [
  | inl below ↦
      let is : is_address a ≡ true = lt-ltb a 254 below in
      rw (eq-eqb source a same, is) (here below)
  | inr above ↦
      let is : is_address a ≡ false = le-ltb a 254 above in
      rw is (null above ∙ was ∙ rw is refl)
]

pub taken_other : (source name a : ℕ) (all : List Heard) (new old : Bool) → source ≢ a → new ≡ old → old ≡ (is_address a && strange all a)
    → new ≡ (is_address a && strange (record { unit = None; source = source; name = name } ∷ all) a)
taken_other source name a all new old apart same was = rw (ne_eqb source a apart) (same ∙ was)

-- ---- NAMEs that claimed an address

pub heard_least : (source name a : ℕ) (unit : Option ℕ) (all : List Heard) (new old : Option ℕ) → (source ≢ a → new ≡ old)
    → (source ≡ a → new ≡ Some (smaller_name name old)) → old ≡ least_name a all
    → new ≡ least_name a (record { unit = unit; source = source; name = name } ∷ all)
unfolding least_name
heard_least source name a unit all new old other here was = elim (cases_eq source a) [
  | inl same ↦ rw (eq-eqb source a same) (here same ∙ ap (λ (o : Option ℕ). Some (smaller_name name o)) was)
  | inr apart ↦ rw (ne_eqb source a apart) (other apart ∙ was)
]

-- ---- addresses that a unit claimed

abbrev in_row : List Bool → ℕ → ℕ → Bool
in_row items u a = nat_lt a 256 && slice_index_or items (u * 256 + a) false

abbrev IsSetAt : List Bool → List Bool → ℕ → Type 0
IsSetAt new old place = (slice_index_or new place false ≡ true) × ((i : ℕ) → i ≢ place → slice_index_or new i false ≡ slice_index_or old i false)

pub claimed_more : (u a v source name : ℕ) (all : List Heard) (new old : List Bool) → source < 256 → IsSetAt new old (v * 256 + source)
    → in_row old u a ≡ has_claimed u a all → in_row new u a ≡ has_claimed u a (record { unit = Some v; source = source; name = name } ∷ all)
unfolding has_claimed
claimed_more u a v source name all new old below (here, others) was = elim (cases_lt a 256) [
  | inr above ↦
      let past : nat_lt a 256 ≡ false = le-ltb a 256 above in
      let apart : (source == a) ≡ false = ne_eqb source a (λ e. absurd (omega (arith, e, below, above))) in
      let none : false ≡ has_claimed u a all = sym (ap (λ (b : Bool). b && slice_index_or old (u * 256 + a) false) past) ∙ was in
      ap (λ (b : Bool). b && slice_index_or new (u * 256 + a) false) past ∙ none
      ∙ sym (ap (λ (b : Bool). ((v == u) && b) || has_claimed u a all) apart ∙ ap (λ (b : Bool). b || has_claimed u a all) (and_false (v == u)))
  | inl inside ↦
      let other : (u * 256 + a ≢ v * 256 + source) → ((v == u) && (source == a)) ≡ false → in_row new u a
      ≡ (((v == u) && (source == a)) || has_claimed u a all) = λ apart none.
      ap (λ (b : Bool). nat_lt a 256 && b) (others (u * 256 + a) apart) ∙ was ∙ sym (ap (λ (b : Bool). b || has_claimed u a all) none) in
      elim (cases_eq v u) [
        | inr apart ↦ other (λ e. apart (omega (arith, e, below, inside))) (ap (λ (b : Bool). b && (source == a)) (ne_eqb v u apart))
        | inl same ↦ elim (cases_eq source a) [
          | inr apart ↦ other (λ e. apart (omega (arith, e, below, inside)))
              (ap (λ (b : Bool). (v == u) && b) (ne_eqb source a apart) ∙ and_false (v == u))
          | inl at ↦
              ap (λ (b : Bool). b && slice_index_or new (u * 256 + a) false) (lt-ltb a 256 inside)
              ∙ ap (λ (i : ℕ). slice_index_or new i false) (omega (arith, same, at)) ∙ here
              ∙ sym (ap (λ (b : Bool). (b && (source == a)) || has_claimed u a all) (eq-eqb v u same)
              ∙ ap (λ (b : Bool). b || has_claimed u a all) (eq-eqb source a at))
        ]
      ]
]

-- by no unit
pub claimed_same : (u a source name : ℕ) (all : List Heard) (new : Bool) → new ≡ has_claimed u a all
    → new ≡ has_claimed u a (record { unit = None; source = source; name = name } ∷ all)
unfolding has_claimed
claimed_same u a source name all new was = was

-- ---- no claim

pub none_named : (a : ℕ) (new : Option ℕ) → new ≡ None → new ≡ least_name a []
unfolding least_name
none_named a new none = none

pub none_claimed : (u a : ℕ) (new : Bool) → new ≡ false → (nat_lt a 256 && new) ≡ has_claimed u a []
unfolding has_claimed
none_claimed u a new none = ap (λ (b : Bool). nat_lt a 256 && b) none ∙ and_false (nat_lt a 256)

pub none_heard : (part moves : Bool) (u : ℕ) (new : Option ℕ) → new ≡ None → new ≡ cond part None (newest_of u (cond moves [] []))
unfolding newest_of
none_heard true moves u new none = none
none_heard false true u new none = none
none_heard false false u new none = none

pub none_taken : (a : ℕ) (new : Bool) → new ≡ false → new ≡ (is_address a && strange [] a)
none_taken a new none = none ∙ sym (and_false (is_address a))
