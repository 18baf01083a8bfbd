pub mod Lengths
pub mod Opening
pub mod Later
pub mod Chapters
pub mod Answer
pub mod Alike
