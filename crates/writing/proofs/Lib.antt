pub mod DecimalLaws
pub mod PutLaws
pub mod RoomLaws
