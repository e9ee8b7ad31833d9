pub mod ByWord
