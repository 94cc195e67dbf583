-- What was found of objects as they were read, one after another.
use Rattle.emit.proofs.Common.{All, All-more, IsRead, List, NamedObject, ObjectPlace, Some, [], ap, arith, get_or}
use Rattle.emit.proofs.Common.{get_or-map, length, length-map, map, map-append, map_more, shown_input, shown_inputs}
use Rattle.emit.proofs.Common.{slice_get, subst, sym, take, take_all, ℕ, ◌++◌, ◌+◌, ◌<◌, ◌∙◌, ◌∷◌, ◌≡◌, ◌≤◌}
use Rattle.std.proofs.lemmas.Option.{slice_get-get_or}
use Rattle.ldmodel_project.specs.declared.input.InputObject.{InputObject}

abbrev AsRead : NamedObject → Type 0
AsRead o = IsRead o.object

module _ (inputs : List InputObject) (i : ℕ) where
  shown : i < length inputs → i < length (shown_inputs inputs)
  shown l = omega (arith, l, length-map inputs shown_input)

  pub read_more : (x : InputObject) → i < length inputs → x ≡ get_or inputs i x
      → All AsRead (take i (shown_inputs inputs)) → IsRead x.object.now
      → All AsRead (take (i + 1) (shown_inputs inputs))
  read_more x l is h own =
      All-more AsRead (shown_inputs inputs) i (shown_input x) (shown l) h
      (subst AsRead
      (ap shown_input is ∙ sym (get_or-map shown_input inputs i x (shown_input x) l)) own)

  pub all_read : (objects : List NamedObject) → length inputs ≤ i → shown_inputs inputs ≡ objects
      → All AsRead (take i (shown_inputs inputs)) → All AsRead objects
  all_read objects l same h =
      subst (All AsRead)
      (take_all i (shown_inputs inputs) (omega (arith, l, length-map inputs shown_input)) ∙ same) h
