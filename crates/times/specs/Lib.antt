-- Definitions first; the theorems about them are in `Laws/`.
pub mod Times
pub mod Laws
