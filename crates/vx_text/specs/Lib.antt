pub mod Texts
pub mod TextFaults
pub mod Items
pub mod Filling
pub mod Collected
pub mod Rebuffered
