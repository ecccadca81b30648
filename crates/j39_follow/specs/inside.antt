-- What only private contracts and proofs need.
pub mod Collecting
pub mod Contesting
pub mod Exchanging
pub mod FollowedSoFar
pub mod FrameWriting
pub mod Hearing
pub mod Likeliest
pub mod LinesFollowed
pub mod Recounting
pub mod Reporting
pub mod Splitting
pub mod Tallies
