-- Lemmas on what statements are refused for.
pub mod Mixed
pub mod Wide
pub mod Made
pub mod Apart
pub mod Others
pub mod Bodies
