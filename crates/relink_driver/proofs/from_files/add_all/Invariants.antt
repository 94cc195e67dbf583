use Rattle.relink_driver.proofs.Common.{files_of, held, length, ◌+◌, ◌≡◌}
use Rattle.std.specs.Vec.Iter.{into_iter_items, into_iter_len}
use Rattle.relink_driver.proofs.Courses.{Reached}
use Rattle.relink_driver.proofs.from_files.add_all.Given as goal

abbrev pub invariant-loop-file : goal.invariant-loop-file
invariant-loop-file l = record {
  next : goal.iterator-loop-file.can_next l.file-iterator;
  finite : goal.iterator-loop-file.is_finite l.file-iterator;
  counted : l.count + length (into_iter_items l.file-iterator) ≡ length l.fn.objects.items;
  exact : into_iter_len l.file-iterator ≡ length (into_iter_items l.file-iterator);
  reached : Reached (held l.initial.project) (files_of l.fn.objects.items) l.count (held l.project)
      (files_of (into_iter_items l.file-iterator));
}
