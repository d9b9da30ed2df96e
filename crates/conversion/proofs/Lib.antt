pub mod CapLaws
