-- The names that most proofs of this crate cite, passed on from one place. Declares nothing.
pub use Rattle.ldi_deferred.specs.Heads.{HasLine, Says, SaysNothing}
pub use Rattle.ldi_deferred.specs.Ran.{AnswerCut, CutShort, Progress, Ran, World, world}
pub use Rattle.ldi_deferred.specs.Stepped.{EditStepped, Served, Stepped}
pub use Rattle.ldi_stream.proofs.StreamWriting.{Part, Part-front, Part-then, Writes-cut, Writes-kept, Writes-then}
pub use Rattle.ldi_stream.specs.declared.fault.RunFault.{RunFault}
pub use Rattle.ldi_stream.specs.declared.fault.RunFault.TheVariants.{Long, Read, Write}
pub use Rattle.ldi_stream.specs.declared.serve.ServeStep.{ServeStep}
pub use Rattle.ldmodel.specs.Link.{Link}
pub use Rattle.ldmodel.specs.Project.{Project}
pub use Rattle.ldmodel_deferred.specs.Answers.{holding}
pub use Rattle.ldmodel_deferred.specs.Changes.{AreWithin, IsOutside, range_bytes, range_line}
pub use Rattle.ldmodel_deferred.specs.Commands.{AreCommands, AskChanges, Basic, BeginsCommand, Command, IsBad}
pub use Rattle.ldmodel_deferred.specs.Commands.{IsCommand, MakeLink, line, payload, spelling}
pub use Rattle.ldmodel_deferred.specs.declared.changes.ByteRange.{ByteRange}
pub use Rattle.std.proofs.Common.{Err, IfSome, List, None, Ok, Option, Some, [], ap, append-nil, append_assoc, arith}
pub use Rattle.std.proofs.Common.{drop, flat_map, inl, inr, length, length-append, refl, subst, suc, sym, take, zero, ℕ}
pub use Rattle.std.proofs.Common.{◌++◌, ◌+◌, ◌-◌, ◌<◌, ◌∙◌, ◌∷◌, ◌≡◌, ◌≤◌, ◌⊎◌}
pub use Rattle.std.proofs.KnownBytes.{Appends-kept, Appends-nil, Appends-trans, Consumes-nil, Consumes-trans}
pub use Rattle.std.proofs.KnownBytes.{Keeps-refl}
pub use Rattle.std.proofs.lemmas.Bool.{cases_lt}
pub use Rattle.std.proofs.lemmas.Result.{err_from_is_err_and}
pub use Rattle.std.specs.Io.KnownBytes.{Appends, Consumes, IsAtEnd}
pub use Rattle.std.specs.Prelude.{slice_get, slice_index_or}
