pub mod Bytes
pub mod Ascii
pub mod Parts
pub mod Numbers
pub mod Puts
