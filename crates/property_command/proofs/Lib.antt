pub mod NotJudged
pub mod Seen
