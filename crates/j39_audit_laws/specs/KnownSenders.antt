-- Who is at an address by the claims of a log, and which addresses are a unit's, in the words of the claims and of the plan.
use Rattle.std.specs.Prelude.{◌≡◌, ◌≢◌, ◌⊎◌, ◌↔◌, ◌<◌, ℕ, All, Any, List, ◌∷◌, ◌++◌, false, if◌then◌else◌, length, Some, None, true}
use Rattle.j39_id.specs.Addresses.{is_address}
use Rattle.j39_audit.specs.Claiming.{Heard, HeardClaims, knowledge, sender_at}
use Rattle.j39_audit.specs.Settings.{AreMoving, Settings, moves}
use Rattle.j39_audit.specs.declared.senders.SureSender.TheVariants.{Unit as OfUnit, Unknown}
use Rattle.j39_audit_laws.specs.FoundLines.{ClaimsRightly}
use Rattle.j39_audit_laws.specs.OwnPart.{ClaimsAddresses, IsItsAddress}

-- ---- claims, the newest one first

-- the unit's newest one is of this address
pub record IsNewestClaim (u a : ℕ) (claims : List Heard) : Type 0 where
  pub later : List Heard
  pub claim : Heard
  pub older : List Heard
  pub are : claims ≡ later ++ claim ∷ older
  pub unit : claim.unit ≡ Some u
  pub address : claim.source ≡ a
  pub newest : All (λ (h : Heard). h.unit ≢ Some u) later

-- none is of the unit
abbrev pub IsUnheard : ℕ → List Heard → Type 0
IsUnheard u claims = All (λ (h : Heard). h.unit ≢ Some u) claims

-- of a unit that may move those behind the last break count
abbrev pub counting_claims : Settings → HeardClaims → ℕ → List Heard
counting_claims s claims u = if moves s u then claims.recent else claims.all

-- a NAME of no unit claimed the address
abbrev pub IsClaimedByOthers : HeardClaims → ℕ → Type 0
IsClaimedByOthers claims a = Any (λ (h : Heard). (h.unit ≡ None) × (h.source ≡ a)) claims.all

-- the unit isn't at the address: it claimed another one last, or it is unheard and the address is none of its own
abbrev pub CannotBeThere : Settings → HeardClaims → ℕ → ℕ → Type 0
CannotBeThere s claims v a =
    ((b : ℕ) × IsNewestClaim v b (counting_claims s claims v) × (b ≢ a))
    ⊎ (IsUnheard v (counting_claims s claims v) × (¬ IsItsAddress s.plan v a))

-- ---- the laws

-- who sends from an address that a NAME of no unit claimed is never taken for sure
abbrev pub OthersAreUnsure : Type 0
OthersAreUnsure = (s : Settings) (claims : HeardClaims) (a : ℕ) → is_address a ≡ true → IsClaimedByOthers claims a
    → sender_at s (knowledge s claims) a ≡ Unknown

-- a unit that claimed an address last is the sender there, also where strangers come, if no other unit may be there and nobody else claimed it
abbrev pub AloneIsTheSender : Type 0
AloneIsTheSender = (s : Settings) → AreMoving s.plan s.moving → s.part ≡ false → (claims : HeardClaims) (u a : ℕ) → u < length s.plan.units.items
    → IsNewestClaim u a (counting_claims s claims u) → (¬ IsClaimedByOthers claims a)
    → ((v : ℕ) → v < length s.plan.units.items → v ≢ u → CannotBeThere s claims v a)
    → sender_at s (knowledge s claims) a ≡ OfUnit u

-- a claim isn't accused exactly where the unit claims addresses and this is one of its own by the plan
abbrev pub RightClaimsAreByThePlan : Type 0
RightClaimsAreByThePlan = (s : Settings) → AreMoving s.plan s.moving → (u a : ℕ)
    → ClaimsRightly s u a ↔ (ClaimsAddresses s.plan u × IsItsAddress s.plan u a)
