-- What a call is tested for before it is carried out, and the version of the library.
pub mod Tests
pub mod Version
