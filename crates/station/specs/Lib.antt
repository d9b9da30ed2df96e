pub mod Views
pub mod Memory
pub mod Internal
