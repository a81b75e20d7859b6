pub mod Sums
pub mod Lists
pub mod Keeps
pub mod Grows
pub mod Shares
pub mod Ends
pub mod Passes
