use Rattle.ldmodel_laws.proofs.Courses as courses
use Rattle.ldmodel_laws.proofs.link_command.one_course.Goals as goal

pub returns-clause-one : goal.returns-clause-one
returns-clause-one c = courses.one_course c.one_outcome.ensures

pub returns-clause-distinct : goal.returns-clause-distinct
returns-clause-distinct c = courses.stay_distinct c.names_stay_distinct.ensures.kept
