pub mod WalkLaws
pub mod ListLaws
pub mod LineLaws
