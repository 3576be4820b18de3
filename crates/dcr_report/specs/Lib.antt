pub mod Report
pub mod FitsClosed
pub mod ReportLines
pub mod Writing
pub mod Stop
