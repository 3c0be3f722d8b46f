pub mod Targeting
pub mod Lemmas
pub mod Searching
pub mod Ending
pub mod Trading
pub mod RowExchanges
pub mod Classing
