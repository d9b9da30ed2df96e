pub mod Views
pub mod Blank
pub mod Internal
