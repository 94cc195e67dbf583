-- The names that most proofs of this crate cite, passed on from one place. Declares nothing.
pub use Rattle.ldi_stream.specs.Heads.{HasLine, IsEdit, IsNoEdit, IsRead, Says, SaysNothing, announced, change_to}
pub use Rattle.ldi_stream.specs.Heads.{edit_of, first_word, later_words, numbers, query_of}
pub use Rattle.ldi_stream.specs.Ran.{CutShort, Progress, Ran, World, status_of, world}
pub use Rattle.ldi_stream.specs.Stepped.{EditStepped, LineRead, Served, Stepped, Writes}
pub use Rattle.ldi_stream.specs.declared.head.EditHead.{EditHead}
pub use Rattle.ldmodel.specs.Answers.{Answers, EditReply, Ending, MayLackMemory, Replies, Reply, accepted, bad, ended}
pub use Rattle.ldmodel.specs.Answers.{next, none, out_of_memory, refused, refused_line, stream_line}
unfoldable pub use Rattle.ldmodel.specs.Answers.{answer_line, bytes_answer}
pub use Rattle.ldmodel.specs.Commands.{HasNo}
pub use Rattle.ldmodel.specs.Project.{Project}
pub use Rattle.std.proofs.Common.{Err, IfSome, List, None, Ok, Option, Result, Some, [], ap, append-nil, append_assoc}
pub use Rattle.std.proofs.Common.{arith, codes, decimal, drop, false, inl, inr, length, length-append, length-drop}
pub use Rattle.std.proofs.Common.{length-take, refl, subst, suc, sym, take, take_all, true, zero, ℕ, ◌++◌, ◌+◌, ◌-◌}
pub use Rattle.std.proofs.Common.{◌<◌, ◌==◌, ◌^◌, ◌∙◌, ◌∷◌, ◌≡◌, ◌≢◌, ◌≤◌}
pub use Rattle.std.proofs.KnownBytes.{Appends-kept, Appends-trans, Consumes-trans}
pub use Rattle.std.proofs.Math.Seq.{take-append-add}
pub use Rattle.std.proofs.lemmas.Bool.{and_parts, eq-eqb, eqb-true, false≢true}
pub use Rattle.std.proofs.lemmas.Fmt.{IsAscii-decimal, decimal_by_steps, decimal_injective, parse-decimal}
pub use Rattle.std.proofs.lemmas.Grind.{common_steps, flat_map-append}
pub use Rattle.std.proofs.lemmas.Result.{err_from_is_err_and}
pub use Rattle.std.specs.Io.KnownBytes.{Appends, Consumes, IsAtEnd, Keeps, prepend_known}
