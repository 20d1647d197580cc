pub mod Refusals
pub mod Endings
pub mod RoomLaws
pub mod RefusalNumbers
pub mod EndingLaws
pub mod VerdictLaws
