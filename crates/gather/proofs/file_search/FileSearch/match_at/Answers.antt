use Rattle.gather.proofs.Common.{LinkedSection, List, None, Some, ap, arith, first_in, length, length-map, map}
use Rattle.gather.proofs.Common.{option_map, slice_get-map, sym, ℕ, ◌<◌, ◌∙◌}
use Rattle.gather.specs.Matches.{number_of}
use Rattle.gather.proofs.NamedLists.{found_before, same_name}
use Rattle.gather.proofs.file_search.FileSearch.match_at.Goals as goal

abbrev names : List LinkedSection → List (List ℕ)
names sections = map (λ (s : LinkedSection). s.name) sections

within : (sections : List LinkedSection) (place : ℕ) → place < length sections → place < length (names sections)
within sections place low = omega (arith, low, length-map sections (λ (s : LinkedSection). s.name))

pub bounds-found-other : goal.bounds-found-other
bounds-found-other c =
    omega (
      arith,
      c.in-Some.ensures.before,
      found_before number_of (first_in c.args.self.now.words.now c.args.self.now.file.now) c.args.found.now
          (names c.args.object.now.sections) c.args.place c.requires.found
          (within c.args.object.now.sections c.args.place c.requires.place),
    )

pub returns-in-Some-clause-found : goal.returns-in-Some-clause-found
returns-in-Some-clause-found c =
    same_name number_of (first_in c.args.self.now.words.now c.args.self.now.file.now) c.args.found.now
    (names c.args.object.now.sections) c.args.place c.in-Some.other None c.requires.found
    (within c.args.object.now.sections c.args.place c.requires.place) c.in-Some.ensures.before c.in-Some.ensures.same

pub returns-in-None-clause-found : goal.returns-in-None-clause-found
returns-in-None-clause-found c =
    slice_get-map (first_in c.args.self.now.words.now c.args.self.now.file.now) (names c.args.object.now.sections)
    c.args.place
    ∙ ap (option_map (first_in c.args.self.now.words.now c.args.self.now.file.now)) c.section_name.ensures
    ∙ ap (λ n. Some n) (sym c.first_taker.ensures.taker)
