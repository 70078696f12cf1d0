mod Scans
mod Ways
pub mod Inscribing
