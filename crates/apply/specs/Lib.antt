pub mod Maybe
pub mod Apply
pub mod Items
pub mod Given
pub mod Called
pub mod Rows
pub mod Said
