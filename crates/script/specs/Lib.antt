pub mod Field
pub mod Version
pub mod Call
pub mod Print
pub mod Rows
