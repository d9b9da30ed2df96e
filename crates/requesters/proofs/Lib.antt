pub mod DialogLaws
pub mod DiagnosticLaws
