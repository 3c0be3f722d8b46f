pub mod Endings
pub mod States
pub mod Refusals
pub mod Fairness
pub mod Laws
pub mod Results
pub mod ResultLaws
-- Words of lower crates, passed on to those above.
pub use Rattle.local_reduction.specs as local_reduction
pub use Rattle.state_graph.specs as state_graph
pub use Rattle.state_search.specs as state_search
pub use Rattle.state_search.specs.state_store as state_store
