pub mod KeyedAsMaps
pub mod SumLaws
pub mod ApplyLaws
pub mod LawProofs
pub mod TestRows
pub mod SummedUp
