-- Definitions first; the theorems about them are in `Laws/`.
pub mod Refusal
pub mod Laws
