pub mod CertifiedVariants
pub mod LineTimings
pub mod LookedTimes
pub mod NothingHides
pub mod UnmetNeeds
