pub mod Agreeing
pub mod VariantBoxes
pub mod Filtering
pub mod FoundOfCovering
pub mod Full
pub mod FullCovers
pub mod NamedPlaces
pub mod NeedsThere
pub mod Parts
pub mod Picking
pub mod PlacesInFile
pub mod Possible
pub mod Suffices
pub mod VariantsExist
mod AbsenceFound
mod AbsenceHere
pub mod AllByConditions
pub mod BoxedParts
pub mod ByPresence
pub mod Contested
pub mod ContestedFlows
pub mod FilePlaces
pub mod FoundTogether
pub mod InPart
pub mod InVariant
pub mod InWhole
mod Lacking
pub mod Periods
pub mod PickedPlaces
pub mod ReadLists
pub mod SameNumbers
pub mod SentTogether
pub mod Tests
pub mod TestsAgree
pub mod Candidates
pub mod Exactly
pub mod Ages
pub mod FoundOfFull
pub mod InBoxes
pub mod NeedsInPlan
pub mod OldNeeds
pub mod Origins
pub mod PlacedTests
pub mod Sources
pub mod TooOld
pub mod WithoutNevers
mod Badness
mod BoundPlaces
mod FlowTimes
mod NeedTimes
mod Staying
mod TimesOfFull
