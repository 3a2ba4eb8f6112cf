-- Definitions first; the theorems about them are in `Laws/`.
pub mod Gaussian
pub mod Laws
