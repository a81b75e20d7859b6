pub mod CutLemmas
pub mod MarkLemmas
pub mod PrintLemmas
pub mod SoundTokens
