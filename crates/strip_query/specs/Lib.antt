-- What contracts of queries cite.
pub mod Laws
pub mod Examples
