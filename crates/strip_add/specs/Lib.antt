-- What contracts of sums cite, and the laws of sums.
pub mod Parts
pub mod Laws
pub mod Examples
pub mod Cells
