use Rattle.relink_driver.proofs.Common.{List, answer_of, files_of, subst, ℕ}
use Rattle.ldmodel.specs.LinkCommand.{LinkAnswers}
use Rattle.relink_driver.proofs.AnswersWithoutMap.{with_its_map}
use Rattle.relink_driver.proofs.from_files.link.Goals as goal

pub returns : goal.returns
returns c =
    subst (λ (script : List ℕ). LinkAnswers c.args.options script (files_of c.args.objects.items)
    (answer_of c.link_files.result)) c.deref.ensures.value
    (with_its_map c.args.options c.deref.result.now (files_of c.args.objects.items) (answer_of c.link_files.result)
    c.link_files.ensures)
