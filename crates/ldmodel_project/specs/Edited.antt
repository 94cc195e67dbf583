-- Where the object stands that a staged edit touches, and that the others stay.
use Rattle.std.specs.Prelude.{◌≡◌, ℕ, ◌≤◌, Bool, true, not, List, filter, insert, length, nat_eq, position, Option}
use Rattle.std.specs.Prelude.{Some, None}
use Rattle.ldmodel_project.specs.Listing.{Listed, keys_of}
use Rattle.ldmodel_project.specs.Next.{named_under, next_entries, edited_key}
use Rattle.ldmodel_project.specs.declared.staged.StagedObjects.{StagedObjects}

-- a key is not the touched one, if any is touched
abbrev pub is_other : Option ℕ → ℕ → Bool
is_other None key = true
is_other (Some edited) key = not (nat_eq key edited)

-- the entries of other keys
abbrev pub unedited : Option ℕ → List Listed → List Listed
unedited edited entries = filter (λ (e : Listed). is_other edited e.key) entries

-- where the touched key stands
abbrev pub place_in : List ℕ → Option ℕ → Option ℕ
place_in keys None = None
place_in keys (Some edited) = position (nat_eq edited) keys

-- without the touched key, the keys are in one order before and after
abbrev pub OrdersAgree : List Listed → StagedObjects → Type 0
OrdersAgree entries s =
    filter (is_other (edited_key s.step)) (keys_of entries) ≡ filter (is_other (edited_key s.step)) s.order.items

-- the entries are the others, and among them, at this place, the object under the touched key
abbrev pub IsAmong : Option ℕ → Option ℕ → List Listed → Type 0
IsAmong (Some key) (Some place) entries =
    (place ≤ length (unedited (Some key) entries))
    × (entries ≡ insert (unedited (Some key) entries) place (record { key = key; named = named_under entries key }))
IsAmong edited place entries = entries ≡ unedited edited entries

-- the touched object stands at these places before and after; all others are the same, in the same order
pub record ChangesOneObject (entries : List Listed) (s : StagedObjects) : Type 0 where
  pub keys : keys_of (next_entries entries s) ≡ s.order.items
  pub orders : OrdersAgree entries s
  pub others : unedited (edited_key s.step) (next_entries entries s) ≡ unedited (edited_key s.step) entries
  pub place_before : s.places.before ≡ place_in (keys_of entries) (edited_key s.step)
  pub place_after : s.places.after ≡ place_in (keys_of (next_entries entries s)) (edited_key s.step)
  pub before : IsAmong (edited_key s.step) s.places.before entries
  pub after : IsAmong (edited_key s.step) s.places.after (next_entries entries s)
