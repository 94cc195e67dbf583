use Rattle.relink_driver.proofs.Common.{err_from_is_err_and, files_of, held}
use Rattle.relink_driver.proofs.Courses.{refused_object, refused_script, scripted}
use Rattle.relink_driver.proofs.from_files.project_of.Goals as goal

pub returns-in_err-apply_edit : goal.returns-in_err-apply_edit
returns-in_err-apply_edit c =
    let p = err_from_is_err_and c.from_residual.result c.from_residual.ensures.1 in
    rw (p.1, p.2) (refused_script c.args.options c.args.script.now (files_of c.args.objects.items) _
    c.new-project.ensures c.in_err-apply_edit.ensures.refused)

pub returns-in_err-add_all : goal.returns-in_err-add_all
returns-in_err-add_all c =
    let p = err_from_is_err_and c.from_residual-in_err-add_all.result c.from_residual-in_err-add_all.ensures.1 in
    rw (p.1, p.2) (refused_object (held c.add_all.new.project) c.args.options c.args.script.now
    (files_of c.args.objects.items) _ c.new-project.ensures c.in_ok-apply_edit.ensures.accepted
    c.in_err-add_all.ensures)

pub returns : goal.returns
returns c = scripted c.args.options c.args.script.now (files_of c.args.objects.items) _ c.new-project.ensures
    c.in_ok-apply_edit.ensures.accepted c.in_ok-add_all.ensures
