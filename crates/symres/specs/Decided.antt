-- The cases of names under their keys.
pub use Rattle.symres_decisions.specs.Decided.{case_at, HasCase}
