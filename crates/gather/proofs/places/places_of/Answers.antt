use Rattle.gather.proofs.Common.{ArePlaces, List, Option, ap, arith, length, place_under, subst, sym, ℕ, ◌+◌, ◌<◌, ◌∙◌}
use Rattle.gather.proofs.Common.{◌≡◌}
use Rattle.gather.proofs.Keyed.{are_numbered, project_places}
use Rattle.gather.proofs.PlacesUnder.{column_placed, long_with}
use Rattle.gather.proofs.places.places_of.Goals as goal

pub loop-place-preserved : goal.loop-place-preserved
loop-place-preserved c =
    let p = c.args.project.now in
    let t = c.args.table.now in
    let xs = c.args.sections.now in
    let n = c.loop-place.place in
    let low : n < length xs = c.loop-place-test.true in
    let before = c.loop-place.invariant in
    record {
      long = ap length c.put.ensures ∙ long_with _ n c.loop-place.places.items ∙ before.long;
      are = subst (λ (l : List (Option ℕ)). ArePlaces xs (n + 1) (place_under t l)) (sym c.put.ensures)
          (column_placed p t xs n _ _ c.loop-place.places.items c.requires.table before.long low c.find.ensures.is
          (are_numbered p xs c.requires.sections t c.requires.table n _ low) before.are);
    }

pub returns : goal.returns
returns c =
    let p = c.args.project.now in
    let t = c.args.table.now in
    let xs = c.args.sections.now in
    let n = c.loop-place.place in
    let all : n ≡ length xs = omega arith in
    project_places p xs c.requires.sections (place_under t c.loop-place.places.items)
    (subst (λ (m : ℕ). ArePlaces xs m (place_under t c.loop-place.places.items)) all c.loop-place.invariant.are)
    (c.sections_apart.ensures p c.requires.sections.ascending)
