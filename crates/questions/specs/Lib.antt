-- Questions 1 to 6, and 7 to 10, as the code asks them.
pub mod FirstQuestions
pub mod ChangeQuestions
pub mod Ready
