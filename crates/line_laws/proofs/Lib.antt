pub mod Heads
pub mod CallsBack
pub mod AnswersBack
pub mod Proved
