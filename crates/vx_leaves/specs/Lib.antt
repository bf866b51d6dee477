pub mod Dictionaries
pub mod Scan
pub mod ValidRows
pub mod Leaves
pub mod Narrow
pub mod Spread
pub mod Data
pub mod Iterated
