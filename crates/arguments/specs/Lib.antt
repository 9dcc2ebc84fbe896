-- Questions 2 to 6 as the code asks them.
pub mod ArgumentQuestions
