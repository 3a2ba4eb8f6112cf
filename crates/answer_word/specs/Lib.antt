-- Definitions first; the theorems about them are in `Laws/`.
pub mod Encoding
pub mod Laws
