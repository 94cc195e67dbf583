-- Names that became known have no entries.
use Rattle.symres_table.proofs.Common.{AddsNames, All, Entered, IsListing, KnownNames, List, Some, [], ap}
use Rattle.symres_table.proofs.Common.{apart_from_distinct, arith, bytes_eq, bytes_eq-Decides, drop, entries_of, false}
use Rattle.symres_table.proofs.Common.{get_or, get_or-drop, get_or_append_left, get_or_default, length, length-drop}
use Rattle.symres_table.proofs.Common.{map, slot, spell, sym, true, ℕ, ◌+◌, ◌<◌, ◌∙◌, ◌≡◌, ◌≢◌}
use Rattle.std.proofs.lemmas.Map.Views.{Contains-from_lookup}
use Rattle.symres_table.proofs.Spelling.{AllSpellable, entries_unknown}

abbrev Listed : Type 0
Listed = List ℕ × ℕ

same_bytes : (x y : List ℕ) → bytes_eq x y ≡ true → x ≡ y
same_bytes x y = (bytes_eq-Decides x y).0

-- a name that was added was not known
unlisted : (old new : KnownNames) → IsListing old.slots old.order → IsListing new.slots new.order → AddsNames old new
    → (j : ℕ) (e : Listed) → j < length (drop (length old.order) new.order)
    → (n : ℕ) → slot old.slots n ≢ Some (get_or (drop (length old.order) new.order) j e).0
unlisted old new a b adds j e l n h =
    let k : ℕ = length old.order + j in
    let name : List ℕ = (get_or (drop (length old.order) new.order) j e).0 in
    let d : Listed = (name, n) in
    let inside : k < length new.order = omega (arith, l, length-drop (length old.order) new.order) in
    let at : (get_or new.order k d).0 ≡ name =
    ap (λ (x : Listed). x.0)
    (get_or_default new.order k d e inside ∙ sym (get_or-drop (length old.order) new.order j e)) in
    let found = Contains-from_lookup {eq = bytes_eq} same_bytes name n old.order (a.complete n name h) in
    let first : (get_or new.order found.0 d).0 ≡ name =
    ap (λ (xs : List Listed). (get_or xs found.0 d).0) adds.1
    ∙ ap (λ (x : Listed). x.0) (get_or_append_left old.order adds.0 d found.0 found.1 ∙ found.2) in
    let apart : bytes_eq (get_or new.order found.0 d).0 (get_or new.order k d).0 ≡ false =
    apart_from_distinct (λ (x y : Listed). bytes_eq x.0 y.0) new.order found.0 k d b.once (omega (arith, found.1))
    inside
    in
    let same : bytes_eq (get_or new.order found.0 d).0 (get_or new.order k d).0 ≡ true =
    (bytes_eq-Decides (get_or new.order found.0 d).0 (get_or new.order k d).0).1 (first ∙ sym at) in
    absurd (cc)

-- names that were added have no entries
pub unused : (old new : KnownNames) (os : List Entered) → IsListing old.slots old.order → IsListing new.slots new.order
    → AddsNames old new → AllSpellable old.slots os
    → All (λ (e : Listed). entries_of e.0 (map (spell old.slots) os) ≡ []) (drop (length old.order) new.order)
unused old new os a b adds named = λ j e l.
    entries_unknown old.slots (get_or (drop (length old.order) new.order) j e).0 os (unlisted old new a b adds j e l)
    named
