-- Definitions first; the theorems about them are in `Laws/`.
pub mod List
pub mod Stretches
pub mod Promise
pub mod Laws
