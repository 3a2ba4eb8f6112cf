-- Definitions first; the theorems about them are in `Laws/`.
pub mod File
pub mod Writing
pub mod Laws
