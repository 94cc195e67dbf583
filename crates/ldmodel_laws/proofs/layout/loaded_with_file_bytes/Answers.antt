use Rattle.ldmodel_laws.proofs.Loading as loading
use Rattle.ldmodel_laws.proofs.layout.loaded_with_file_bytes.Goals as goal

pub returns : goal.returns
returns c = loading.loaded_section
