-- Definitions first; the theorems about them are in `Laws/`.
pub mod Generator
pub mod Masks
pub mod Laws
