-- Which NAME holds which address, as the frames of a log report (SAE J1939-81, address claimed and cannot claim address).
use Rattle.std.specs.Prelude.{◌≡◌, ◌⊎◌, ℕ, ◌||◌, true, List, ◌∷◌, ◌++◌, Option, Some, None}
use Rattle.std.specs.List.{All}
use Rattle.j39_id.specs.declared.frame.Frame.{Frame}
use Rattle.j39_id.specs.FrameMeaning.{claims_address, cannot_claim, name_in}

-- the unit of this NAME claims this address, as its source
pub record Claims (f : Frame) (name address : ℕ) : Type 0 where
  pub claim : claims_address f ≡ true
  pub name_is : name_in f ≡ name
  pub source_is : f.ident.sa ≡ address

-- the unit of this NAME claims an address or can't; a frame from the global address reports nothing
pub record ClaimsOrCannot (f : Frame) (name : ℕ) : Type 0 where
  pub either : (claims_address f || cannot_claim f) ≡ true
  pub name_is : name_in f ≡ name

-- the frame takes the address from the NAME: the unit itself reports something else, or another claims it
abbrev pub TakesFrom : ℕ → ℕ → Frame → Type 0
TakesFrom name address f = ClaimsOrCannot f name ⊎ ((other : ℕ) × Claims f other address)

-- a claim of the address by the NAME, and behind it nothing that takes the address from it
pub record HoldsByFrames (frames : List Frame) (name address : ℕ) : Type 0 where
  pub before : List Frame
  pub claim : Frame
  pub behind : List Frame
  pub row : frames ≡ before ++ claim ∷ behind
  pub claims : Claims claim name address
  pub kept : All (λ f. ¬ TakesFrom name address f) behind

-- it claimed an address or could not
pub record IsNameHeard (frames : List Frame) (name : ℕ) : Type 0 where
  pub before : List Frame
  pub frame : Frame
  pub behind : List Frame
  pub row : frames ≡ before ++ frame ∷ behind
  pub says : ClaimsOrCannot frame name

-- the NAME that holds the address, or that none does
abbrev pub IsHolder : List Frame → ℕ → Option ℕ → Type 0
IsHolder frames address (Some name) = HoldsByFrames frames name address
IsHolder frames address None = (name : ℕ) → ¬ HoldsByFrames frames name address

-- ---- laws

-- an address has one holder
abbrev pub HasOneHolder : Type 0
HasOneHolder = (frames : List Frame) (address : ℕ) (a b : Option ℕ) → IsHolder frames address a → IsHolder frames address b → a ≡ b

-- a NAME holds one address
abbrev pub HoldsOneAddress : Type 0
HoldsOneAddress = (frames : List Frame) (name a b : ℕ) → HoldsByFrames frames name a → HoldsByFrames frames name b → a ≡ b
