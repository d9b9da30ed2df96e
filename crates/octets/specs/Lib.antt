pub mod Numbers
pub mod Refusals
pub mod Fields
pub mod Addresses
pub mod Frames
pub mod Elements
pub mod Times
