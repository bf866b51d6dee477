mod TextParts
mod ItemHeaps
mod ItemViews
mod Fills
pub mod FilledItems
pub mod ItemArrays
pub mod ItemFaults
mod ShortTexts
mod HeapCounts
mod Rebuffering
