use Rattle.std.proofs.Common.{rules, ◌≡◌, length, map}
use Rattle.std.proofs.lemmas.Slice.Zip.{zip_turn}
use Rattle.std.specs.Iterator.Adapters.{zip_first, zip_second}
use Rattle.std.specs.Prelude.{Contains}
use Rattle.std.specs.Slice.Iter.{iter_rest}
use Rattle.ldi_files.specs.Fault.{name_of}
use Rattle.ldi_files.proofs.Names.{contains_name, fault_among}
use Rattle.ldi_files.proofs.writing.write_all_files.Goals as goal

pub returns-in_err-write_in_place : goal.returns-in_err-write_in_place
returns-in_err-write_in_place g c =
    let files = c.args.files.now in
    let beside = c.deref.result.now in
    let first : iter_rest (zip_first c.into_iter-file-iterator.result) ≡ files = search rules in
    let second : iter_rest (zip_second c.into_iter-file-iterator.result) ≡ beside = search rules in
    let turn = zip_turn files beside c.loop-file-2.yielded c.into_iter-file-iterator.result
    c.loop-file-2.file-iterator c.next.new.self c.next.result first second c.loop-file-2.yielded_by
    (c.in-Some.file, c.in-Some.beside) c.in-Some.is c.next.ensures.steps in
    let has : Contains (map name_of files) (name_of c.in-Some.file.now) =
    contains_name files (length c.loop-file-2.yielded) c.in-Some.file.now turn.0 turn.2 in
    search (rules, fault_among, has)

pub returns-in_err-put : goal.returns-in_err-put
returns-in_err-put g c =
    let files = c.args.files.now in
    let beside = c.deref-2.result.now in
    let first : iter_rest (zip_first c.into_iter-file-iterator-2.result) ≡ files = search rules in
    let second : iter_rest (zip_second c.into_iter-file-iterator-2.result) ≡ beside = search rules in
    let turn = zip_turn files beside c.loop-file-3.yielded c.into_iter-file-iterator-2.result
    c.loop-file-3.file-iterator c.next-in-loop-file-3.new.self c.next-in-loop-file-3.result first second
    c.loop-file-3.yielded_by (c.in-Some-2.file, c.in-Some-2.beside) c.in-Some-2.is
    c.next-in-loop-file-3.ensures.steps in
    let has : Contains (map name_of files) (name_of c.in-Some-2.file.now) =
    contains_name files (length c.loop-file-3.yielded) c.in-Some-2.file.now turn.0 turn.2 in
    search (rules, fault_among, has)
