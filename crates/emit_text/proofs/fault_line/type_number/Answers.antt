-- A kind's number is the only one that is read as it.
use Rattle.emit_text.proofs.Common.{Some, refl, sym, ◌≡◌}
use Rattle.elfobj.specs.file.RelocationKinds.{relocation_kind}
use Rattle.elfobj.specs.declared.relocation.RelocationKind.{RelocationKind}
use Rattle.elfobj.specs.declared.relocation.RelocationKind.TheVariants as kind
use Rattle.ldmodel.specs.FaultText.{relocation_number}
use Rattle.emit_text.proofs.fault_line.type_number.Goals as goal

read_back : (k : RelocationKind) → relocation_kind (relocation_number k) ≡ Some k
unfolding relocation_kind
read_back kind.None = refl
read_back kind.Abs64 = refl
read_back kind.Pc32 = refl
read_back kind.Plt32 = refl
read_back kind.Abs32 = refl
read_back kind.Abs32Signed = refl
read_back kind.Abs16 = refl
read_back kind.Pc16 = refl
read_back kind.Abs8 = refl
read_back kind.Pc8 = refl
read_back kind.Pc64 = refl

pub returns : goal.returns
returns c = sym (c.number.ensures.only (relocation_number c.args.kind) (read_back c.args.kind))
