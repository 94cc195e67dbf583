use Rattle.ldmodel_project.proofs.Common.{objects_of, sym, ◌∙◌}
use Rattle.ldmodel.specs.Edits.{is_full, is_object_name, is_too_long}
use Rattle.ldmodel_project.proofs.Naming.{has_bytes, within_limit}
use Rattle.ldmodel_project.proofs.project.Project.place_to_add.Goals as goal

pub returns-clause-named : goal.returns-clause-named
returns-clause-named c =
    has_bytes c.args.name.now
    (within_limit (is_object_name c.args.name.now) (is_too_long c.args.bytes.now)
    (is_full (objects_of c.self.inside.kept.entries))
    (sym c.is_over_limit.ensures ∙ c.if-is_over_limit.false))
