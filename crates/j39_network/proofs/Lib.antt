pub mod Boxes
pub mod Lengths
pub mod RecordCounts
pub mod Served
pub mod StayingBoxes
pub mod VehicleUnits
