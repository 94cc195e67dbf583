use Rattle.gather.proofs.Common.{FileTables, Some, matches_by, slice_get, subst, ◌∙◌, ◌≡◌}
use Rattle.gather.specs.Matches.{number_of}
use Rattle.gather.proofs.NamedLists.{map_more}
use Rattle.gather.proofs.file_search.matches_by.Goals as goal

pub loop-place-preserved : goal.loop-place-preserved
loop-place-preserved c =
    let sections = c.args.object.now.sections in
    let answer = number_of c.match_at-statement.result in
    let here : slice_get (matches_by c.args.words.now c.args.file.now sections) c.loop-place.place ≡ Some answer =
    subst (λ (t : FileTables). slice_get (matches_by t c.args.file.now sections) c.loop-place.place ≡ Some answer)
    c.loop-place.invariant.words
    (subst (λ f. slice_get (matches_by c.loop-place.search.words.now f sections) c.loop-place.place ≡ Some answer)
    c.loop-place.invariant.file c.match_at-statement.ensures.found) in
    record {
      found = map_more number_of c.loop-place.found.items c.match_at-statement.result
          (matches_by c.args.words.now c.args.file.now sections) c.loop-place.place here
          c.loop-place.invariant.found c.in_ok-push.ensures.items;
      words = c.match_at-statement.ensures.goes_on.words ∙ c.loop-place.invariant.words;
      file = c.match_at-statement.ensures.goes_on.file ∙ c.loop-place.invariant.file;
      search = c.match_at-statement.ensures.goes_on.known;
    }
