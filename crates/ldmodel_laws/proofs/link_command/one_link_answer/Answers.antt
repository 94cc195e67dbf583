use Rattle.ldmodel_laws.proofs.Courses as courses
use Rattle.ldmodel_laws.proofs.link_command.one_link_answer.Goals as goal

pub returns : goal.returns
returns c = courses.one_link_answer c.one_outcome.ensures
