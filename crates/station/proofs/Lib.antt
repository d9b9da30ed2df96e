pub mod RequesterLaws
pub mod StationLaws
pub mod CallLaws
