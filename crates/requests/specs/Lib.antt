pub mod Elements
pub mod OneElement
pub mod Requests
pub mod Internal
