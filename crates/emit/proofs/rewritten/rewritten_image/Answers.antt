use Rattle.emit.proofs.Frame.{byte_same}
use Rattle.emit.proofs.rewritten.rewritten_image.Goals as goal

pub returns-clause-byte : goal.returns-clause-byte
returns-clause-byte c = λ p q s i b h frame spread named at_i o clear.
    byte_same p q s i b h frame spread named at_i o clear
