use Rattle.ldmodel_laws.proofs.StayedSites as stays
use Rattle.ldmodel_laws.proofs.stayed.stayed_by_part.Goals as goal

pub returns-clause-piece : goal.returns-clause-piece
returns-clause-piece c = stays.part_stays

pub returns-clause-site : goal.returns-clause-site
returns-clause-site c = stays.site_in

pub returns-clause-moved : goal.returns-clause-moved
returns-clause-moved c = stays.retargeted_in_order

pub returns-clause-valued : goal.returns-clause-valued
returns-clause-valued c = stays.valued_in_order

pub returns-clause-outside : goal.returns-clause-outside
returns-clause-outside c = stays.outside_in_order
