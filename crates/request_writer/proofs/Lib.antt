pub mod Shapes
pub mod Lengths
pub mod ConditionsBack
pub mod ElementsBack
pub mod RoundTrip
pub mod Writing
