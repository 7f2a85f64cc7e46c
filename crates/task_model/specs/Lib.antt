pub mod TaskNames
