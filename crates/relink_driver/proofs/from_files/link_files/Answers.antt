use Rattle.relink_driver.proofs.Common.{files_of, held}
use Rattle.relink_driver.proofs.AnswersWithoutMap.{linked, refused}
use Rattle.relink_driver.proofs.from_files.link_files.Goals as goal

pub returns-in-Err : goal.returns-in-Err
returns-in-Err c =
    refused c.args.with_map c.args.options c.args.script.now (files_of c.args.objects.items) c.in-Err.fault
    c.in-Err.ensures

pub returns : goal.returns
returns c =
    linked c.args.with_map c.args.options c.args.script.now (files_of c.args.objects.items) (held c.in-Ok.project)
    c.in-Ok-link_project.output c.in-Ok.ensures c.in-Ok-link_project.ensures
