pub mod Order
pub mod Misfits
pub mod FrameText
pub mod Contents
pub mod ClassText
