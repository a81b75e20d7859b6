pub mod FaultLemmas
pub mod ByteLemmas
mod PartLemmas
