-- Definitions first; the theorems about them are in `Laws/`.
pub mod Modular
pub mod Laws
