-- What a table of holders keeps, and what it stands for.
use Rattle.std.specs.Prelude.{◌≡◌, ◌≢◌, ◌⊎◌, ◌<◌, ◌≤◌, ℕ, Bool, true, false, List, [], length, Option, Some, None, if◌then◌else◌}
use Rattle.std.specs.Prelude.{slice_index_or}
use Rattle.std.specs.List.{slice_get}
use Rattle.std.specs.declared.alloc.Global.{Global}
use Rattle.std.specs.declared.vec.Vec.{Vec}
use Rattle.j39_id.specs.declared.frame.Frame.{Frame}
use Rattle.j39_network.specs.declared.plan.Plan.{Plan}
use Rattle.j39_network.specs.declared.plan.unit_plan.UnitPlan.{UnitPlan}
use Rattle.j39_follow.specs.Holders.{Claims, HoldsByFrames, ClaimsOrCannot}
use Rattle.j39_follow.specs.Who.{IsUnitHeard, IsWho, is_name_of, who_text}
use Rattle.j39_follow.specs.declared.address.directory.Directory.{Directory}
use Rattle.j39_follow.specs.declared.address.holders.Holders.{Holders}
use Rattle.j39_follow.specs.declared.address.who.Who.{Who}
use Rattle.j39_follow.specs.declared.address.who.Who.TheVariants.{Holder}

-- something was reported of the unit at this place
abbrev pub is_marked : Holders → ℕ → Bool
is_marked holders u = slice_index_or holders.heard u false

-- how many frames came before the claim by which the address is held
abbrev pub claimed_at : Holders → ℕ → ℕ
claimed_at holders address = slice_index_or holders.claimed address 0

-- the table has this NAME at this address
abbrev pub HasNameAt : Holders → ℕ → ℕ → Type 0
HasNameAt holders address name = slice_get holders.names address ≡ Some (Some name)

-- the holders are those behind these frames
pub record Recounts (plan : Plan) (holders : Holders) (frames : List Frame) : Type 0 where
  pub held : (address name : ℕ) → HasNameAt holders address name → HoldsByFrames frames name address
  pub holds : (address name : ℕ) → HoldsByFrames frames name address → HasNameAt holders address name
  pub heard : (u : ℕ) (unit : UnitPlan) → slice_get plan.units.items u ≡ Some unit → is_marked holders u ≡ true → IsUnitHeard plan frames u unit
  pub unheard : (u : ℕ) (unit : UnitPlan) → slice_get plan.units.items u ≡ Some unit → is_marked holders u ≡ false
      → ¬ IsUnitHeard plan frames u unit
  pub since : (address name : ℕ) (h : HoldsByFrames frames name address) → claimed_at holders address ≡ length h.before

-- the frame reports that the NAME stands at this address, or that it could not claim one
abbrev pub ClaimsAt : Frame → ℕ → Option ℕ → Type 0
ClaimsAt f name (Some address) = Claims f name address
ClaimsAt f name None = ClaimsOrCannot f name × ((other address : ℕ) → ¬ Claims f other address)

-- a table from which the NAME was taken
pub record IsLeft (old new : Holders) (name : ℕ) : Type 0 where
  pub left : (a n : ℕ) → HasNameAt new a n → (n ≢ name) × HasNameAt old a n
  pub stays : (a n : ℕ) → (n ≢ name) × HasNameAt old a n → HasNameAt new a n

-- what of a table stays where this NAME is reported to stand elsewhere, and where it stands then
abbrev pub KeepsNameAt : Holders → Option ℕ → ℕ → ℕ → ℕ → Type 0
KeepsNameAt old place name a n = (n ≢ name) × (place ≢ Some a) × HasNameAt old a n

abbrev pub IsNew : Option ℕ → ℕ → ℕ → ℕ → Type 0
IsNew place name a n = (place ≡ Some a) × (n ≡ name)

-- the unit of this NAME is marked as reported of
abbrev pub IsMarked : Plan → Holders → Holders → ℕ → Type 0
IsMarked plan old new name = (u : ℕ) (unit : UnitPlan) → slice_get plan.units.items u ≡ Some unit
    → is_marked new u ≡ (if is_name_of plan u unit name then true else is_marked old u)

-- the address where it is reported to stand was claimed behind so many frames
pub record IsClaimedBehind (old new : Holders) (place : Option ℕ) (count : ℕ) : Type 0 where
  pub here : (a : ℕ) → place ≡ Some a → claimed_at new a ≡ count
  pub there : (a : ℕ) → place ≢ Some a → claimed_at new a ≡ claimed_at old a

-- a table in which the NAME was reported to stand there, behind so many frames
pub record IsMoved (plan : Plan) (old new : Holders) (name : ℕ) (place : Option ℕ) (count : ℕ) : Type 0 where
  pub held : (a n : ℕ) → HasNameAt new a n → IsNew place name a n ⊎ KeepsNameAt old place name a n
  pub holds : (a n : ℕ) → IsNew place name a n ⊎ KeepsNameAt old place name a n → HasNameAt new a n
  pub marked : IsMarked plan old new name
  pub claimed : IsClaimedBehind old new place count

-- ---- where units stand

-- the table has a NAME of the unit at this place at the address
pub record IsHeldByUnit (plan : Plan) (holders : Holders) (u : ℕ) (unit : UnitPlan) (address : ℕ) : Type 0 where
  pub name : ℕ
  pub named : HasNameAt holders address name
  pub name_of : is_name_of plan u unit name ≡ true

-- of the first so many addresses that it has NAMEs of the unit at this is the one that was claimed last, or it has none
abbrev pub IsLatestBelow : Plan → Holders → ℕ → UnitPlan → ℕ → Option ℕ → Type 0
IsLatestBelow plan holders u unit many (Some address) = IsHeldByUnit plan holders u unit address
    × ((other : ℕ) → other < many → IsHeldByUnit plan holders u unit other → claimed_at holders other ≤ claimed_at holders address)
IsLatestBelow plan holders u unit many None = (other : ℕ) → other < many → ¬ IsHeldByUnit plan holders u unit other

-- ---- who stands behind each address

-- the party at a place of the table; behind its last place anything
abbrev pub party_at : List Who → ℕ → Who
party_at parties address = slice_index_or parties address (Holder 0)

-- the parties of all addresses are these
abbrev pub ArePartiesOf : Plan → List Frame → List Who → Type 0
ArePartiesOf plan frames parties = (address : ℕ) → address < 256 → IsWho plan frames address (party_at parties address)

-- the texts of the parties of so many addresses
pub record ArePartyNames (plan : Plan) (parties : List Who) (many : ℕ) (names : List (List ℕ)) : Type 0 where
  pub all : length names ≡ many
  pub each : (a : ℕ) → a < many → slice_index_or names a [] ≡ who_text plan (party_at parties a) a

-- the same, where they were kept
abbrev pub HasNames : Plan → List Who → Option (Vec (List ℕ) Global) → Type 0
HasNames plan parties None = Unit {0}
HasNames plan parties (Some names) = ArePartyNames plan parties 256 names.items

-- a directory has what these frames report
pub record Knows (plan : Plan) (directory : Directory) (frames : List Frame) : Type 0 where
  pub recounts : Recounts plan directory.holders.value frames
  pub parties : ArePartiesOf plan frames directory.parties.all
  pub names : HasNames plan directory.parties.all directory.parties.names
