pub mod BoxParts
pub mod NearHoles
