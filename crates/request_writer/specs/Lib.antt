pub mod Frames
pub mod Writer
pub mod ReadBack
