-- Definitions first; the theorems about them are in `Laws/`.
pub mod Places
pub mod Laws
