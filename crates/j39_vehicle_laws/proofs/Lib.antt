pub mod Bringing
pub mod Copied
pub mod Example
pub mod ExampleRun
pub mod Forwarding
pub mod HandedOn
pub mod Hops
pub mod Indexes
pub mod Multiples
pub mod Passing
pub mod Places
pub mod PlainForwards
pub mod Values
pub mod Clocks
pub mod GatewayStreams
pub mod Vehicles
pub mod KnownVehicle
mod Arriving
mod Behind
mod Brought
mod Circle
mod Feeders
mod Kept
mod LoneFlow
mod LoneSteps
mod LoneWay
mod Old
mod OneFlow
mod Order
mod Parts
mod Interval
mod PlainTimes
mod SentOn
mod Starts
mod Timely
mod TwoBuses
mod Until
mod ValuesBrought
mod Whole
mod Young
mod TrueTimes
