pub mod Uses
pub mod Packed
pub mod ForeignTexts
pub mod Tables
pub mod AppendedLists
pub mod Collected
pub mod FaultyRows
pub mod Packing
