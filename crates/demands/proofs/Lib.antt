pub mod Filled
pub mod Contents
pub mod StationRoundTrip
pub mod Cases
pub mod Demands
