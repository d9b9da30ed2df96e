pub mod FillLaws
pub mod EventLaws
pub mod ReportLaws
pub mod ServeLaws
pub mod SearchLaws
