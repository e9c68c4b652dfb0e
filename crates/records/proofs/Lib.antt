pub mod Answered
pub mod Stands
pub mod Columned
mod Tests
