pub mod Decoders
pub mod Reader
pub mod Internal
pub mod Contents
pub mod Forms
