pub mod named
