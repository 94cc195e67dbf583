-- Marks of the names of objects, after a step and in a search.
use Rattle.ldmodel_project.proofs.Common.{AreTagged, Bool, IsOrdered, KeepsMarks, List, NamedObject, None, NotesPut}
use Rattle.ldmodel_project.proofs.Common.{Option, Put, Slab, Some, Stay, Step, ap, arith, bytes_eq, cond, count_by}
use Rattle.ldmodel_project.proofs.Common.{eq-eqb, false, get, get_or, is_some, length, may_have, nat_eq, next_slot}
use Rattle.ldmodel_project.proofs.Common.{put_under, refl, sym, true, unnamed, unwrap_or, ℕ, ◌<◌, ◌∙◌, ◌≡◌}
use Rattle.ldmodel_project.specs.declared.staged.Step.TheVariants.{Remove, Move}
use Rattle.ldmodel_project.proofs.Counts.{count_by_at}
use Rattle.ldmodel_project.proofs.Places.{is_named_at}

-- all names have their marks after a step whose name was noted
pub tagged_next : (old new : List Bool) (slots next : Slab NamedObject) (step : Step) → AreTagged old slots
    → NotesPut new step → KeepsMarks old new → ((key : ℕ) → get next key ≡ next_slot slots step key)
    → AreTagged new next
tagged_next old new slots next step tagged noted kept stepped key o found =
    at step (noted key o) (sym (stepped key) ∙ found)
  where
    by_new : (b : Bool) (named : NamedObject) → (cond b (Some named) None ≡ Some o → may_have new o.name ≡ true)
        → cond b (Some named) (get slots key) ≡ Some o → may_have new o.name ≡ true
    by_new true named put e = put e
    by_new false named put e = kept o.name (tagged key o e)

    by_old : (b : Bool) → cond b None (get slots key) ≡ Some o → may_have new o.name ≡ true
    by_old true e = cc
    by_old false e = kept o.name (tagged key o e)

    at : (s : Step) → (put_under s key ≡ Some o → may_have new o.name ≡ true) → next_slot slots s key ≡ Some o
        → may_have new o.name ≡ true
    at (Put put named) marked e = by_new (nat_eq key put) named marked e
    at (Remove gone) marked e = by_old (nat_eq key gone) e
    at (Move moved) marked e = kept o.name (tagged key o e)
    at Stay marked e = kept o.name (tagged key o e)

-- a name that no object of the slab has stands nowhere in the order
pub none_named : (slots : Slab NamedObject) (order name : List ℕ) → IsOrdered slots order
    → ((key : ℕ) (o : NamedObject) → get slots key ≡ Some o → bytes_eq o.name name ≡ false)
    → (k : ℕ) → k < length order → is_named_at slots order name k ≡ false
none_named slots order name h lacks k within = at (get slots (get_or order k 0)) refl (h.listed (get_or order k 0))
  where
    at : (x : Option NamedObject) → get slots (get_or order k 0) ≡ x
        → count_by (nat_eq (get_or order k 0)) order ≡ cond (is_some x) 1 0
        → is_named_at slots order name k ≡ false
    at None e counted =
        absurd (omega (
          arith,
          count_by_at (nat_eq (get_or order k 0)) order k 0 within (eq-eqb (get_or order k 0) (get_or order k 0) refl),
        ))
    at (Some o) e counted =
        ap (λ (x : Option NamedObject). bytes_eq (unwrap_or x unnamed).name name) e ∙ lacks (get_or order k 0) o e
