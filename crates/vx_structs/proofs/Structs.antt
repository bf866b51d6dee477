pub mod Parts
pub mod Faults
pub mod PushedNulls
pub mod FieldsOfRecords
pub mod NamedColumns
pub mod Columns
pub mod ColumnRows
pub mod JoinedColumns
