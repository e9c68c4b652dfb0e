pub mod CallLaws
pub mod FieldLaws
pub mod ReadBack
pub mod VersionLaws
