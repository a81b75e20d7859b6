pub mod HistoryLaws
pub mod Courses
pub mod JobsStay
