-- Definitions, most basic first. The theorems about them are in `Laws/`.
pub mod Unitary
pub mod Form
pub mod Laws
