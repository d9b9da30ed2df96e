pub mod FieldLaws
pub mod PlaceLaws
pub mod AddressLaws
pub mod FrameLaws
pub mod ElementLaws
pub mod RefusalLaws
