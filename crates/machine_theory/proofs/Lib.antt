pub mod Reading
pub mod TurnKinds
pub mod PortSets
pub mod TurnSteps
pub mod MoveSteps
pub mod ServeSteps
pub mod PokeSteps
pub mod FlatPokes
pub mod Away
pub mod Putting
pub mod Standing
pub mod Flat
pub mod Good
pub mod Lawful
pub mod Explaining
mod Noticing
mod CatchingUp
mod Lending
pub mod Lemmas
