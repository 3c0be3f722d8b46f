-- The lemmas that crates above may cite: they name no other file of these proofs.

-- The definitions that a proof unfolds to compute with the program's command.
unfoldable pub use Rattle.command_forms.proofs.Simple.{commands}
