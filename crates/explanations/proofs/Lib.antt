pub mod CountLaws
pub mod SeekLaws
pub mod NewestLaws
pub mod IdLaws
pub mod OneLaws
pub mod ReasonLaws
pub mod Reasons
