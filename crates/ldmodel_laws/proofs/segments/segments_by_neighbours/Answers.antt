use Rattle.ldmodel_laws.proofs.Segmented.{is_file_layout, one_file_layout}
use Rattle.ldmodel_laws.proofs.segments.segments_by_neighbours.Goals as goal

pub returns-clause-is : goal.returns-clause-is
returns-clause-is c = is_file_layout

pub returns-clause-one : goal.returns-clause-one
returns-clause-one c = one_file_layout
