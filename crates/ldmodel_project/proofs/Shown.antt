-- The next project, place by place.
use Rattle.ldmodel_project.proofs.Common.{Bool, List, Listed, NamedObject, None, Put, Some, Stay, Step, [], ap, arith}
use Rattle.ldmodel_project.proofs.Common.{cond, false, get_or, get_or-map, key_count, length, length-map, map, nat_eq}
use Rattle.ldmodel_project.proofs.Common.{next_count, next_entry, next_named, objects_of, option_map, put_under, refl}
use Rattle.ldmodel_project.proofs.Common.{slice_get, suc, take, true, ℕ, ◌++◌, ◌+◌, ◌<◌, ◌∙◌, ◌∷◌, ◌≡◌}
use Rattle.std.proofs.Math.Seq.{take-suc}
use Rattle.std.proofs.lemmas.Option.{slice_get-map, slice_get_read, slice_get_within, get_or_from_slice_get}
use Rattle.ldmodel_project.specs.declared.staged.Step.TheVariants.{Remove, Move}

-- the entry at a place of the staged order
pub next_entry_at : (entries : List Listed) (step : Step) (order : List ℕ) (at key : ℕ) (o : NamedObject)
    → at < length order → key ≡ get_or order at key → next_named entries step key ≡ o
    → slice_get (map (next_entry entries step) order) at ≡ Some (record { key = key; named = o })
next_entry_at entries step order at key o within there named =
    slice_get-map (next_entry entries step) order at
    ∙ (ap (option_map (next_entry entries step)) (slice_get_read order (length order) at key refl within there)
    ∙ ap (λ (n : NamedObject). let e : Listed = record { key = key; named = n } in Some e) named)

-- a key that is listed after the step, and under which it puts no object, was listed before
pub listed_before : (entries : List Listed) (step : Step) (key : ℕ) → put_under step key ≡ None
    → 0 < next_count entries step key → 0 < key_count entries key
listed_before entries (Put new named) key none h = at_key (nat_eq key new) none h
  where
    at_key : (b : Bool) → cond b (Some named) None ≡ None → 0 < cond b 1 (key_count entries key)
        → 0 < key_count entries key
    at_key true none h = cc
    at_key false none h = h
listed_before entries (Remove old) key none h = at_key (nat_eq key old) h
  where
    at_key : (b : Bool) → 0 < cond b 0 (key_count entries key) → 0 < key_count entries key
    at_key true h = absurd (omega arith)
    at_key false h = h
listed_before entries (Move moved) key none h = h
listed_before entries Stay key none h = h

-- one more of the objects of entries
pub take_entry : (entries : List Listed) (at key : ℕ) (o : NamedObject) → slice_get entries at
    ≡ Some (record { key = key; named = o })
    → take (at + 1) (objects_of entries) ≡ take at (objects_of entries) ++ o ∷ []
take_entry entries at key o e =
    let entry : Listed = record { key = key; named = o } in
    let within : at < length entries = slice_get_within entries at entry e in
    let here : get_or (objects_of entries) at o ≡ o =
    get_or-map (λ (x : Listed). x.named) entries at entry o within
    ∙ ap (λ (x : Listed). x.named) (get_or_from_slice_get entries at entry entry e) in
    let one : at + 1 ≡ suc at = omega arith in
    ap (λ n. take n (objects_of entries)) one
    ∙ (take-suc (objects_of entries) at o (rw length-map within)
    ∙ ap (λ (x : NamedObject). take at (objects_of entries) ++ x ∷ []) here)
