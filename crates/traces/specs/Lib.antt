pub mod Places
pub mod Elements
pub mod Records
pub mod Lines
