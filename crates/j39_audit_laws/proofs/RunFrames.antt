-- What the frames of a run are, by the plan and by the frames before them: claims of a unit's own addresses, or frames of a unit at the address
-- that it claimed last.
use Rattle.std.proofs.Common.{◌≡◌, ◌≢◌, ◌⊎◌, ℕ, ◌<◌, ◌++◌, ◌∷◌, [], List, Bool, true, false, cond, length}
use Rattle.std.proofs.Common.{inl, inr, refl, sym, ap, ◌∙◌, append_assoc, Option, Some, None}
use Rattle.std.specs.List.{AllByRecursion}
use Rattle.std.proofs.lemmas.Bool.{cases_Bool}
use Rattle.std.proofs.lemmas.Option.{none-some}
use Rattle.j39_id.specs.Addresses.{is_address, null_address}
use Rattle.j39_id.specs.FrameMeaning.{name_in}
use Rattle.j39_id.specs.declared.frame.Frame.{Frame}
use Rattle.j39_network.specs.declared.plan.Plan.{Plan}
use Rattle.j39_follow.specs.Who.{unit_of_name}
use Rattle.j39_audit.specs.Claiming.{Heard, Knowledge, newest_of, is_at}
use Rattle.j39_audit.specs.Looking.{IsPacketOf, is_claim, message_sent}
use Rattle.j39_audit.specs.SentMessages.{SentMessage}
use Rattle.j39_tp.specs.declared.packet.Packet.{Packet}
use Rattle.j39_audit_laws.specs.OwnPart.{ClaimsAddresses, IsItsAddress, IsOfFlowPlanned}

-- ---- the claims of frames

-- of a unit by its NAME, as an audit hears it
abbrev pub heard_of : Plan → Frame → Heard
heard_of plan f = record { unit = unit_of_name plan (name_in f); source = f.ident.sa; name = name_in f }

-- the claims of these frames, behind those before them, the newest one first
abbrev pub claims_of : Plan → List Heard → List Frame → List Heard
claims_of plan old [] = old
claims_of plan old (f ∷ frames) = claims_of plan (cond (is_claim f) (heard_of plan f ∷ old) old) frames

pub claims_behind_those : (plan : Plan) (old : List Heard) (xs ys : List Frame) → claims_of plan old (xs ++ ys) ≡ claims_of plan (claims_of plan old xs) ys
claims_behind_those plan old [] ys = refl
claims_behind_those plan old (x ∷ xs) ys = claims_behind_those plan (cond (is_claim x) (heard_of plan x ∷ old) old) xs ys

-- what was claimed before stays, behind
pub claims_stay : (plan : Plan) (old : List Heard) (frames : List Frame) → claims_of plan old frames ≡ claims_of plan [] frames ++ old
claims_stay plan old [] = refl
claims_stay plan old (f ∷ frames) = elim (is_claim f) as (λ b. claims_of plan (cond b (heard_of plan f ∷ old) old) frames
    ≡ claims_of plan (cond b (heard_of plan f ∷ []) []) frames ++ old) [
      | true ↦
          claims_stay plan (heard_of plan f ∷ old) frames
          ∙ sym (ap (λ (l : List Heard). l ++ old) (claims_stay plan (heard_of plan f ∷ []) frames) ∙ append_assoc (claims_of plan [] frames)
          (heard_of plan f ∷ []) old)
      | false ↦ claims_stay plan old frames
    ]

-- no claim is among them
pub no_claims : (plan : Plan) (old : List Heard) (frames : List Frame) → AllByRecursion (λ (f : Frame). is_claim f ≡ false) frames
    → claims_of plan old frames ≡ old
no_claims plan old [] all = refl
no_claims plan old (f ∷ frames) all =
    ap (λ (b : Bool). claims_of plan (cond b (heard_of plan f ∷ old) old) frames) all.0 ∙ no_claims plan old frames all.1

-- ---- where a unit claimed last

-- it claimed nothing, or this address
abbrev pub IsNewest : ℕ → List Heard → ℕ → Type 0
IsNewest u claims a = (newest_of u claims ≡ None) ⊎ (newest_of u claims ≡ Some a)

pub newest_here : (u : ℕ) (h : Heard) (older : List Heard) → is_at h.unit u ≡ true → newest_of u (h ∷ older) ≡ Some h.source
unfolding newest_of
newest_here u h older is = ap (λ (b : Bool). cond b (Some h.source) (newest_of u older)) is

pub newest_past : (u : ℕ) (h : Heard) (older : List Heard) → is_at h.unit u ≡ false → newest_of u (h ∷ older) ≡ newest_of u older
unfolding newest_of
newest_past u h older is = ap (λ (b : Bool). cond b (Some h.source) (newest_of u older)) is

pub none_newest : (u : ℕ) → newest_of u [] ≡ None
unfolding newest_of
none_newest u = refl

-- of the newer ones alone it is that, too, if there is one
pub newest_front : (u : ℕ) (newer older : List Heard) (a : ℕ) → IsNewest u (newer ++ older) a → IsNewest u newer a
newest_front u [] older a is = inl (none_newest u)
newest_front u (h ∷ newer) older a is = elim (cases_Bool (is_at h.unit u)) [
  | inl here ↦ elim is [
    | inl none ↦ absurd (none-some h.source (sym none ∙ newest_here u h (newer ++ older) here))
    | inr some ↦ inr (newest_here u h newer here ∙ sym (newest_here u h (newer ++ older) here) ∙ some)
  ]
  | inr other ↦
      let past : newest_of u (h ∷ newer) ≡ newest_of u newer = newest_past u h newer other in
      elim (newest_front u newer older a (elim is [
        | inl none ↦ inl (sym (newest_past u h (newer ++ older) other) ∙ none)
        | inr some ↦ inr (sym (newest_past u h (newer ++ older) other) ∙ some)
      ])) [
        | inl none ↦ inl (past ∙ none)
        | inr some ↦ inr (past ∙ some)
      ]
]

-- ---- a sound frame

-- a claim of a unit that claims, of one of its addresses
pub record IsItsClaim (plan : Plan) (f : Frame) : Type 0 where
  pub unit : ℕ
  pub unit_is : unit_of_name plan (name_in f) ≡ Some unit
  pub some : f.ident.sa ≢ null_address
  pub claims : ClaimsAddresses plan unit
  pub own : IsItsAddress plan unit f.ident.sa

-- a frame of a unit, from one of its addresses, at which it claimed last, and of one of its flows, if it is a message or announces one
pub record IsFromIts (plan : Plan) (before : List Frame) (f : Frame) : Type 0 where
  pub unit : ℕ
  pub inside : unit < length plan.units.items
  pub own : IsItsAddress plan unit f.ident.sa
  pub newest : IsNewest unit (claims_of plan [] before) f.ident.sa
  pub planned : (packet : Option Packet) (m : SentMessage) → IsPacketOf f packet → message_sent unit f packet ≡ Some m → (k : Knowledge)
      → IsOfFlowPlanned plan k m

abbrev pub IsSoundFrame : Plan → List Frame → Frame → Type 0
IsSoundFrame plan before f =
    ((is_claim f ≡ true) × IsItsClaim plan f) ⊎ ((is_claim f ≡ false) × (is_address f.ident.sa ≡ true → IsFromIts plan before f))
