-- What holds in every world of every run of a plan without findings: addresses are sound, and so are reports.
use Rattle.std.specs.Prelude.{◌≡◌, ◌≢◌, ℕ, Bool, not, ◌&&◌, nat_eq, true, false, ◌⊎◌, List, [], ◌∷◌, ◌++◌, map, Some, Contains}
use Rattle.std.specs.FinMap.{get}
use Rattle.std.specs.FinSet.{contains}
use Rattle.std.specs.List.{filter}
use Rattle.j39_tp.specs.declared.sending.outcome.Outcome.TheVariants.{Acked}
use Rattle.j39_tp.specs.declared.sending.stage.Stage.TheVariants.{Resting}
use Rattle.j39_network.specs.declared.plan.to.To.TheVariants.{One}
use Rattle.j39_world.specs.Transfers.{Outgoing, Begun, Reported}
use Rattle.j39_world.specs.declared.wired.Wired.TheVariants.{Alone}
use Rattle.j39_id.specs.Name.{is_arbitrary}
use Rattle.j39_claim.specs.declared.item.Say.TheVariants.{Claim, Cannot}
use Rattle.j39_claim.specs.declared.item.Item.TheVariants.{AddressClaimed}
use Rattle.j39_network.specs.declared.plan.Plan.{Plan}
use Rattle.j39_network.specs.PlannedUnits.{units_of, unit_at}
use Rattle.j39_world.specs.World.{World, Undelivered}

-- a claim of this address is undelivered between the two
abbrev pub IsClaimUndelivered : Undelivered → ℕ → ℕ → ℕ → Type 0
IsClaimUndelivered claims u v a = Contains (claims u v) (AddressClaimed (Claim a)) ⊎ Contains (claims v u) (AddressClaimed (Claim a))

pub record AreAddressesSound (plan : Plan) (w : World) : Type 0 where
  -- each unit that is on holds an address, a fixed one its planned address
  pub holds : (u : ℕ) → (w.stations u).on ≡ true → (a : ℕ) × ((w.stations u).address ≡ Some a)
      × (is_arbitrary (unit_at (units_of plan) u).name ≡ false → a ≡ (unit_at (units_of plan) u).preferred)
  -- two units that are on hold one address only while a claim of it is undelivered between them
  pub apart : (u v a : ℕ) → u ≢ v → (w.stations u).on ≡ true → (w.stations v).on ≡ true
      → (w.stations u).address ≡ Some a → (w.stations v).address ≡ Some a → IsClaimUndelivered w.claims u v a

-- no claim is undelivered; a request may be
abbrev pub IsQuiet : Undelivered → Type 0
IsQuiet claims = (u v : ℕ) → ((a : ℕ) → ¬ Contains (claims u v) (AddressClaimed (Claim a))) × ¬ Contains (claims u v) (AddressClaimed Cannot)

-- two units that are on hold different addresses
abbrev pub AreAddressesDifferent : World → Type 0
AreAddressesDifferent w = (u v : ℕ) → u ≢ v → (w.stations u).on ≡ true → (w.stations v).on ≡ true → (w.stations u).address ≢ (w.stations v).address

-- what a unit has noted of another one, both being on, is the address that this one holds
abbrev pub AreNotesRight : Plan → World → Type 0
AreNotesRight plan w =
    (u v a : ℕ) → u ≢ v → (w.stations u).on ≡ true → (w.stations v).on ≡ true
    → get (w.stations v).notes (unit_at (units_of plan) u).name ≡ Some a → (w.stations u).address ≡ Some a

-- no arbitrary unit that is on holds an address that the plan keeps free
abbrev pub AreKeptFree : Plan → World → Type 0
AreKeptFree plan w =
    (u a : ℕ) → (w.stations u).on ≡ true → is_arbitrary (unit_at (units_of plan) u).name ≡ true → (w.stations u).address ≡ Some a
    → contains plan.keep_free a ≡ false

-- ---- reports

-- what one unit reported of another, in order: of messages that were begun, and of frames that were sent alone
abbrev pub reports_of : (Reported → Bool) → List Reported → ℕ → ℕ → List Begun
reports_of are reports v u =
    map (λ r. record { flow = r.flow; bytes = r.bytes }) (filter (λ r. are r && (nat_eq r.receiver v && nat_eq r.sender u)) reports)

abbrev pub reported : List Reported → ℕ → ℕ → List Begun
reported reports v u = reports_of (λ r. not r.alone) reports v u

abbrev pub reported_alone : List Reported → ℕ → ℕ → List Begun
reported_alone reports v u = reports_of (λ r. r.alone) reports v u

-- the second list without some of its elements is the first
abbrev pub IsSubsequence : List Begun → List Begun → Type 0
IsSubsequence [] ys = Unit {0}
IsSubsequence (x ∷ xs) [] = ⊥
IsSubsequence (x ∷ xs) (y ∷ ys) = ((x ≡ y) × IsSubsequence xs ys) ⊎ IsSubsequence (x ∷ xs) ys

pub record AreReportsSound (w : World) : Type 0 where
  -- what a unit reports of another was begun by it, in this order, and nothing twice
  pub begun : (v u : ℕ) → IsSubsequence (reported w.reports v u) (w.begun u v)

-- nothing is undelivered that could move an address
abbrev pub AreAllDelivered : Undelivered → Type 0
AreAllDelivered claims = (s t : ℕ) → claims s t ≡ []

-- a frame that was sent alone is undelivered
abbrev pub DoesOneLie : World → Type 0
DoesOneLie w = (u : ℕ) × (v : ℕ) × (f : ℕ) × (bytes : List ℕ) × Contains (w.wire u v) (Alone f bytes)

pub record AreSentFramesSound (w : World) : Type 0 where
  -- what a unit reports of frames that another sent alone was sent by it, with this flow and these bytes, in this order, and nothing twice
  pub sent : (v u : ℕ) → IsSubsequence (reported_alone w.reports v u) (w.sent_alone u v)

-- a sender that rests acknowledged sends to one unit, and the last message that this one reported of it is the sender's
abbrev pub IsAcknowledgedReported : World → Type 0
IsAcknowledgedReported w =
    (u : ℕ) (s : Outgoing) → w.sessions u ≡ Some s → s.stage ≡ Resting Acked
    → (v : ℕ) × (s.to ≡ One v) × (earlier : List Begun) × (reported w.reports v u ≡ earlier ++ record { flow = s.flow; bytes = s.bytes } ∷ [])
