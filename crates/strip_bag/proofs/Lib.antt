pub mod BagLaws
pub mod EntryLaws
pub mod LinearLaws
