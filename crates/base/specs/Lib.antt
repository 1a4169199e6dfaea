pub mod Pick
pub mod Numbers
pub mod Lists
pub mod Answers
pub mod Blocks
