pub mod Bytes
pub mod Puts
pub mod Moves
pub mod Signs
