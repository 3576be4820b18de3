pub mod Passing
pub mod LegalLemmas
pub mod ReportLemmas
