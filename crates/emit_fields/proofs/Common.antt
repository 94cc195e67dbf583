-- The names that most proofs of this crate cite, passed on from one place. Declares nothing.
pub use Rattle.elfobj.specs.Counts.{Counts}
pub use Rattle.elfobj.specs.Raised.{raised}
pub use Rattle.elfobj.specs.declared.meter.Count.TheVariants.{Bytes}
pub use Rattle.emit_fields.specs.Patches.{AreInOrder, patch_end, patched_byte}
pub use Rattle.emit_fields.specs.declared.field.Overflow.{Overflow}
pub use Rattle.emit_fields.specs.declared.patch.Patch.{Patch}
pub use Rattle.std.proofs.Common.{All, Bool, Err, List, Ok, Result, [], ap, arith, drop, false, get_or, if◌then◌else◌}
pub use Rattle.std.proofs.Common.{inl, inr, length, max, min, mod-lt, nat_lt, refl, replicate, rules, slice_index_or}
pub use Rattle.std.proofs.Common.{subst, suc, sym, take, true, vec_capacity, vec_len, zero, ℕ, ◌%◌, ◌*◌, ◌+◌, ◌-◌, ◌<◌}
pub use Rattle.std.proofs.Common.{◌∙◌, ◌∷◌, ◌≡◌, ◌≤◌, ◌⊎◌}
pub use Rattle.std.proofs.Math.Nat.{div-add-mod, max_comm, min_comm, mul-add-mod_self_right, mul-le-mul_left}
pub use Rattle.std.proofs.lemmas.Bool.{cases_lt}
pub use Rattle.std.proofs.lemmas.Bool.Decides.{nat_tests}
