use Rattle.ldmodel_laws.proofs.InImage as image
use Rattle.ldmodel_laws.proofs.stayed.fields_in_image.Goals as goal

pub returns-clause-found : goal.returns-clause-found
returns-clause-found c = λ l good x d t e. image.field_found l x t e good d

pub returns-clause-some : goal.returns-clause-some
returns-clause-some c = image.field_some

pub returns-clause-wide : goal.returns-clause-wide
returns-clause-wide c = λ l x t field e. image.field_wide l x t e field

pub returns-clause-byte : goal.returns-clause-byte
returns-clause-byte c = λ l good x d t e apart field. image.field_byte l x t e good d apart field
