pub mod Answers
pub mod Layouts
pub mod Searches
pub mod Surveys
