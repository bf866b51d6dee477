pub mod ByteNumbers
