mod Beside
mod Damaged
mod Reached
mod ReachedDamaged
mod Refilled
