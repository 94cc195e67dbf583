use Rattle.ldi_stream.proofs.StreamWords.{no_byte, split_there}
use Rattle.ldi_stream.proofs.head.split_word.Goals as goal

pub returns-in-None : goal.returns-in-None
returns-in-None c = no_byte 32 c.args.bytes.now c.in-None.ensures

pub returns-in-Some : goal.returns-in-Some
returns-in-Some c = split_there 32 c.args.bytes.now c.in-Some.at c.in-Some.ensures
