-- Definitions first; the theorems about them are in `Laws/`.
pub mod Acceptance
pub mod Cutting
pub mod Laws
