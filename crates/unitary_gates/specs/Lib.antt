-- Definitions first; the theorems about them are in `Laws/`.
pub mod Promise
pub mod Laws
