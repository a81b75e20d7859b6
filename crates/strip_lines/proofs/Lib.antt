pub mod SegmentLaws
pub mod RoomLaws
pub mod ReadingLaws
pub mod CallLaws
pub mod RunLaws
pub mod TextLaws
