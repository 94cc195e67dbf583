use Rattle.elfobj.proofs.Common.{rules}
use Rattle.std.proofs.lemmas.List.Sorted.{answers_always}
use Rattle.elfobj_file.specs.declared.section.Section.{Section}
use Rattle.elfobj.proofs.Ascending.{found_at, found_none}
use Rattle.elfobj.proofs.section.find_number.Goals as goal

pub returns-in-Ok : goal.returns-in-Ok
returns-in-Ok c =
    record {
      found = found_at c.args.sections.now c.requires c.args.number c.in-Ok.i c.in-Ok.ensures.bound
          (c.in-Ok.ensures.position (λ (s : Section). s.number.0)
          (answers_always _ _ _ (λ f a r g called. search rules)));
      absent = tt;
    }

pub returns-in-Err-clause-absent : goal.returns-in-Err-clause-absent
returns-in-Err-clause-absent c =
    found_none c.args.sections.now c.requires c.args.number _
    (c.in-Err.ensures.position (λ (s : Section). s.number.0) (answers_always _ _ _ (λ f a r g called. search rules)))
