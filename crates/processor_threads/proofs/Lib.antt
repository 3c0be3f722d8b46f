pub mod Sending
pub mod Reported
pub mod Rows
pub mod Lists
pub mod Counting
pub mod Buffering
pub mod Rounding
