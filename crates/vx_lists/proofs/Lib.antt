pub mod ListViews
pub mod FixedSizeLists
