-- What is sent joins the lists of the wire.
use Rattle.std.proofs.Common.{◌≡◌, ℕ, zero, suc, ◌+◌, ◌<◌, ◌≤◌, Bool, true, false, cond, ◌&&◌, ◌||◌, eqb, List, [], ◌∷◌, ◌++◌, length, drop, map, get_or}
use Rattle.std.proofs.Common.{refl, sym, ap, ◌∙◌, subst, arith, inl, inr, append_assoc, Option, Some, None}
use Rattle.std.proofs.lemmas.Bool.{and_right, cases_eq, eq-eqb, ne_eqb, true≢false}
use Rattle.std.proofs.lemmas.List.{map-append}
use Rattle.std.specs.List.{filter, range_with_len}
use Rattle.j39_tp.specs.declared.packet.Packet.{Packet}
use Rattle.j39_world.specs.declared.wired.Wired.{Wired}
use Rattle.j39_world.specs.declared.wired.Wired.TheVariants as wired
use Rattle.j39_bus.specs.Queued.{IsTable, Queued, changed_in, one_at, room_at}
use Rattle.j39_world.specs.Sent.{Sent}
use Rattle.j39_world.specs.SentTransfers.{address_of, packet_frame}
use Rattle.j39_bus.specs.inside.KeptMessages.{AreUnits, HasRoomAlong, HasRoomTo, GoesToUnits, at_stage}
use Rattle.j39_network.specs.declared.plan.to.To.{To}
use Rattle.j39_network.specs.declared.plan.to.To.TheVariants.{All as ToAll, One as ToOne}
use Rattle.j39_tp.specs.declared.sending.stage.Stage.{Stage}
use Rattle.j39_world.specs.Transfers.{Outgoing, added, is_among}
use Rattle.j39_world.specs.TransferSteps.{replied, targets_of}
use Rattle.j39_world.specs.World.{Stations, World, changed_pair, is_other_on}

pub as_table : {X : Type 0} (n : ℕ) (lists after : List (List (List X))) → IsTable n lists → IsTable (length lists) after → IsTable n after
as_table n lists after is own = subst (λ (k : ℕ). IsTable k after) is.rows own

-- ---- an item to each of several units

module _ {X : Type 0} (f : ℕ → ℕ → List X) (u : ℕ) (x : X) where
  pub added_none : f ≡ added f u [] x
  added_none = λ i s t. ap (λ b. cond b (f s t ++ x ∷ []) (f s t)) (sym (and_right (eqb s u) false refl)) i

  -- to the first, and then to the others
  pub added_first : (v : ℕ) (vs : List ℕ) → is_among vs v ≡ false → added (changed_in f u v (f u v ++ x ∷ [])) u vs x ≡ added f u (v ∷ vs) x
  added_first v vs once = λ i s t. at s t i
    where
      at : (s t : ℕ) → added (changed_in f u v (f u v ++ x ∷ [])) u vs x s t ≡ added f u (v ∷ vs) x s t
      at s t = elim (cases_eq s u) [
        | inl same ↦ elim (cases_eq t v) [
          | inl here ↦ rw (same, here, eq-eqb u u refl, eq-eqb v v refl, once) refl
          | inr other ↦ rw (same, eq-eqb u u refl, ne_eqb t v other) refl
        ]
        | inr other ↦ rw (ne_eqb s u other) refl
      ]

-- there is room for the others still
pub room_for_rest : (u v : ℕ) (vs : List ℕ) (old new : Queued Wired) → ((s t : ℕ) → room_at old s t ≤ room_at new s t + one_at u v s t) → is_among vs v ≡ false
    → HasRoomTo old u (v ∷ vs) → HasRoomTo new u vs
room_for_rest u v vs old new kept once room t among = elim (cases_eq t v) [
  | inl same ↦ absurd (true≢false (sym among ∙ ap (is_among vs) same ∙ once))
  | inr other ↦
      let was : 0 < room_at old u t = room t (rw (ne_eqb t v other) among) in
      let none : one_at u v u t ≡ 0 = rw (eq-eqb u u refl, ne_eqb t v other) refl in
      omega (arith, was, kept u t, none)
]

-- ---- those others that are on are units, each named once

above : (test : ℕ → Bool) (a m v : ℕ) → v < a → is_among (filter test (range_with_len a m)) v ≡ false
above test a zero v below = refl
above test a (suc m) v below = elim (test a) as
    (λ b. is_among (cond b (a ∷ filter test (range_with_len (a + 1) m)) (filter test (range_with_len (a + 1) m))) v ≡ false) [
      | true ↦ rw (ne_eqb v a (λ e. omega (arith, e, below))) (above test (a + 1) m v (omega arith))
      | false ↦ above test (a + 1) m v (omega arith)
    ]

pub tested_units : (test : ℕ → Bool) (a m n : ℕ) → a + m ≤ n → AreUnits n (filter test (range_with_len a m))
tested_units test a zero n within = tt
tested_units test a (suc m) n within = elim (test a) as
    (λ b. AreUnits n (cond b (a ∷ filter test (range_with_len (a + 1) m)) (filter test (range_with_len (a + 1) m)))) [
      | true ↦ (omega arith, above test (a + 1) m a (omega arith), tested_units test (a + 1) m n (omega arith))
      | false ↦ tested_units test (a + 1) m n (omega arith)
    ]

-- one place more
pub tested_more : (test : ℕ → Bool) (a k : ℕ) → filter test (range_with_len a (suc k)) ≡ filter test (range_with_len a k) ++ cond (test (a + k))
    ((a + k) ∷ []) []
tested_more test a zero = ap (λ (j : ℕ). cond (test j) (j ∷ []) []) (omega arith)
tested_more test a (suc k) =
    let rest = tested_more test (a + 1) k ∙ ap (λ (j : ℕ). filter test (range_with_len (a + 1) k) ++ cond (test j) (j ∷ []) []) (omega arith) in
    elim (test a) as (λ b. cond b (a ∷ filter test (range_with_len (a + 1) (suc k))) (filter test (range_with_len (a + 1) (suc k)))
    ≡ cond b (a ∷ filter test (range_with_len (a + 1) k)) (filter test (range_with_len (a + 1) k)) ++ cond (test (a + suc k)) ((a + suc k) ∷ []) []) [
      | true ↦ ap (λ (l : List ℕ). a ∷ l) rest
      | false ↦ rest
    ]

-- a message goes to units
pub targets_units : (n : ℕ) (stations : Stations) (u : ℕ) (to : To) → GoesToUnits n to → AreUnits n (targets_of n stations u to)
targets_units n stations u ToAll inside = tested_units (is_other_on stations u) 0 n n (omega arith)
targets_units n stations u (ToOne v) inside = (inside, refl, tt)

-- ---- answers

-- two answers one after the other
pub replied_twice : (w : World) (v u : ℕ) (ps qs : List Packet) → replied (replied w v u ps) v u qs ≡ replied w v u (ps ++ qs)
replied_twice w v u ps qs = λ i. record w {
  wire = λ s t. both s t i;
  frames = (append_assoc w.frames (map frame ps) (map frame qs) ∙ ap (λ fs. w.frames ++ fs) (sym (map-append frame ps qs))) i;
}
  where
    frame : Packet → Sent
    frame = packet_frame (address_of w.stations u) (address_of w.stations v)

    first : List Wired
    first = w.wire v u ++ map wired.Packet ps

    both : (s t : ℕ) → changed_pair (changed_pair w.wire v u first) v u (changed_pair w.wire v u first v u ++ map wired.Packet qs) s t
        ≡ changed_pair w.wire v u (w.wire v u ++ map wired.Packet (ps ++ qs)) s t
    both s t = rw (eq-eqb v v refl, eq-eqb u u refl) (elim (eqb s v && eqb t u) as (λ b.
        cond b (first ++ map wired.Packet qs) (cond b first (w.wire s t)) ≡ cond b (w.wire v u ++ map wired.Packet (ps ++ qs)) (w.wire s t)) [
          | true ↦ append_assoc (w.wire v u) (map wired.Packet ps) (map wired.Packet qs) ∙ ap (λ xs. w.wire v u ++ xs) (sym (map-append wired.Packet ps qs))
          | false ↦ refl
        ])

-- ---- units one by one

pub unit_inside : (n : ℕ) (vs : List ℕ) (j : ℕ) → AreUnits n vs → j < length vs → get_or vs j 0 < n
unit_inside n [] j are inside = absurd (omega arith)
unit_inside n (v ∷ vs) zero are inside = are.0
unit_inside n (v ∷ vs) (suc j) are inside = unit_inside n vs j are.2 (omega arith)

pub units_dropped : (n : ℕ) (vs : List ℕ) (k : ℕ) → AreUnits n vs → AreUnits n (drop k vs)
units_dropped n vs zero are = are
units_dropped n [] (suc k) are = tt
units_dropped n (v ∷ vs) (suc k) are = units_dropped n vs k are.2

-- there is room for all where there is for each
pub room_for_all : (q : Queued Wired) (u : ℕ) (vs : List ℕ) → ((j : ℕ) → j < length vs → 0 < room_at q u (get_or vs j 0)) → HasRoomTo q u vs
room_for_all q u [] room v among = absurd (true≢false (sym among))
room_for_all q u (w ∷ vs) room v among = elim (cases_eq v w) [
  | inl same ↦ let here : 0 < room_at q u w = room 0 (omega arith) in omega (arith, here, ap (room_at q u) same)
  | inr other ↦ room_for_all q u vs (λ j inside. room (suc j) (omega arith)) v (later v w other among)
]
  where
    later : (v w : ℕ) → (v ≡ w → ⊥) → (eqb v w || is_among vs v) ≡ true → is_among vs v ≡ true
    later v w other among = sym (ap (λ b. b || is_among vs v) (ne_eqb v w other)) ∙ among

-- a session at another stage goes to the same units
pub room_kept : (q : Queued Wired) (u : ℕ) (stage : Outgoing → Stage) (o : Option Outgoing) → HasRoomAlong q u o → HasRoomAlong q u (at_stage stage o)
room_kept q u stage None room = tt
room_kept q u stage (Some s) room = room
