pub mod Explanations
pub mod Reasons
pub mod Internal
