pub mod CertifiedVehicle
pub mod ForwardLines
pub mod NeedLines
pub mod VehicleBlocks
pub mod VehicleFileText
pub mod VehicleFindingLines
pub mod VehicleLabels
pub mod VehicleText
