pub mod Choice
pub mod Walk
pub mod Buffers
pub mod Members
