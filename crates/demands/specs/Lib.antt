pub mod StationRoundTrip
pub mod Chains
pub mod Demands
