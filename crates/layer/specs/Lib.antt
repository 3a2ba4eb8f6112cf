-- Definitions first; the theorems about them are in `Laws/`.
pub mod Layer
pub mod Promise
pub mod Laws
