-- The statements of the sections so far.
use Rattle.gather.proofs.Common.{IsSearch, map, matches_by, take, ◌≡◌}
use Rattle.gather.specs.Matches.{number_of}
use Rattle.gather.proofs.file_search.matches_by.Given as goal

abbrev pub invariant-loop-place : goal.invariant-loop-place
invariant-loop-place l = record {
  found : map number_of l.found.items ≡ take l.place (matches_by l.fn.words l.file l.object.sections);
  words : l.search.words.now ≡ l.fn.words;
  file : l.search.file.now ≡ l.file;
  search : IsSearch l.search;
}
