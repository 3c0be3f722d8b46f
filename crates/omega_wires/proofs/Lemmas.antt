-- The only proofs that crates above may cite.

-- The laws of the wiring.
pub use Rattle.omega_wires.proofs.Paths.{before_path, path_end, path_lt, path_suc, path_zero}
