mod Examples
pub mod LineLemmas
pub mod PartLemmas
pub mod RoomLaws
pub mod ShownLaws
pub mod TextLemmas
pub mod WidthLaws
