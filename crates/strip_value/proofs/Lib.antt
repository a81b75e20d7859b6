pub mod Orders
pub mod Lists
pub mod KeyedLaws
pub mod InOrder
