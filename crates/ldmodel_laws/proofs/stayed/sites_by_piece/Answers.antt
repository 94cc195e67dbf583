use Rattle.ldmodel_laws.proofs.SitesByPiece as by
use Rattle.ldmodel_laws.proofs.stayed.sites_by_piece.Goals as goal

pub returns-clause-same : goal.returns-clause-same
returns-clause-same c = by.of_layout

pub returns-clause-kept : goal.returns-clause-kept
returns-clause-kept c = by.kept_of_layout

pub returns-clause-parted : goal.returns-clause-parted
returns-clause-parted c = by.parted_sites

pub returns-clause-faultless : goal.returns-clause-faultless
returns-clause-faultless c = by.once_if_faultless
