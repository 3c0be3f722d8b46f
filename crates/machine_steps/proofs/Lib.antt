pub mod Keeping
pub mod Flattening
pub mod Handling
pub mod Naming
pub mod LocalBytes
pub mod Opening
pub mod Stalling
mod Poking
mod Seeing
mod AnsweringSeconds
pub mod Lending
pub mod Parts
pub mod IdleMachines
pub mod Running
mod Retelling
pub mod Replaying
pub mod Draining
pub mod Drained
pub mod Lone
pub mod Whole
pub mod Noting
pub mod Quiet
pub mod OneOpening
pub mod Cutting
pub mod Events
pub mod Staying
mod Grouping
mod Ordering
pub mod Answering
pub mod Lemmas
