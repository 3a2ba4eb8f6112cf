-- Definitions first; the theorems about them are in `Laws/`.
pub mod Order
pub mod Laws
