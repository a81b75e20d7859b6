-- What contracts of bags cite.
pub mod Codes
pub mod Entries
pub mod Laws
pub mod Linear
pub mod Examples
