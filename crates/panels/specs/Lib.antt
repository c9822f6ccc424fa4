-- What the writer is handed of a multi-panel report.
pub mod Drawing
