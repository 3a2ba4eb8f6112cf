-- Definitions first; the theorems about them are in `Laws/`.
pub mod Gate
pub mod Composition
pub mod Written
pub mod Laws
