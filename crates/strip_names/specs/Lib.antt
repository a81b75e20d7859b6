-- What contracts of refusals for names, for limits and for groups cite.
pub mod Exists
pub mod Unknown
pub mod Limits
pub mod Grouped
pub mod Basics
