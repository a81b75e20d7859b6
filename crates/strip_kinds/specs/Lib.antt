-- What contracts of refusals for kinds, for magnitudes and for what rules bind cite.
pub mod Needs
pub mod Mismatch
pub mod Width
pub mod Bound
pub mod Walks
