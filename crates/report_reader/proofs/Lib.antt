pub mod DecoderLaws
pub mod Laws
pub mod DecodersBack
pub mod RoundTrip
pub mod Forms
