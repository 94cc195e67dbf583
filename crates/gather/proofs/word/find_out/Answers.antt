use Rattle.gather.proofs.Knowing.{known_more, says_from}
use Rattle.gather.proofs.word.find_out.Goals as goal

pub returns-then-place-known-clause-known : goal.returns-then-place-known-clause-known
returns-then-place-known-clause-known c =
    known_more c.args.file.now c.args.words.now c.args.known.now c.args.place c.takes_from-found.result
    (says_from c.args.file.now c.args.words.now c.args.place c.index-words-place.result c.takes_from-found.result
    c.requires.place c.index-words-place.is c.takes_from-found.ensures) c.requires.known

pub returns-else-place-known-clause-found : goal.returns-else-place-known-clause-found
returns-else-place-known-clause-found c =
    says_from c.args.file.now c.args.words.now c.args.place c.index-words-place.result c.takes_from-found.result
    c.requires.place c.index-words-place.is c.takes_from-found.ensures
