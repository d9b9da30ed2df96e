-- What std passes on nowhere of the library below it, passed on from this one place. Declares nothing.
pub use borrow.Rule.Slice.PartMut.{put_mid}
pub use borrow.Kind.Array.{e_struct}
