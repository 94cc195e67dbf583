use Rattle.symres_table.proofs.Common.{IfNone, IfSome, IsNamed, KnownNames, List, None, Option, Slab, Some, Vec, [], ap}
use Rattle.symres_table.proofs.Common.{entry_spelled, get_or, length, map, map-append, number_in, slot, spelled, stored}
use Rattle.symres_table.proofs.Common.{subst, sym, ℕ, ◌++◌, ◌∙◌, ◌∷◌, ◌≡◌, ◌≢◌}
use Rattle.std.proofs.Common.{Global}
use Rattle.symres_table.proofs.PlacesByNumber.{filed_more, takes_stored}
use Rattle.symres_table.proofs.Pairs.{number_law, kept_slot, slot_spelled}
use Rattle.symres_table.proofs.name_table.NameTable.add_new.Goals as goal

-- what is said where no number was found, and where one was
put_absent : (name : List ℕ) (es : List (Vec ℕ Global × ℕ)) (o : Option ℕ) → o ≡ None
    → IfNone o (number_in name es ≡ None) → number_in name es ≡ None
put_absent name es o e h = subst (λ (p : Option ℕ). IfNone p (number_in name es ≡ None)) e h

put_last : (now es : List (Vec ℕ Global × ℕ)) (x : Vec ℕ Global × ℕ) (o : Option ℕ) → o ≡ None
    → IfNone o (now ≡ es ++ x ∷ []) → now ≡ es ++ x ∷ []
put_last now es x o e h = subst (λ (p : Option ℕ). IfNone p (now ≡ es ++ x ∷ [])) e h

same_entries : (now es : List (Vec ℕ Global × ℕ)) (o : Option ℕ) (n : ℕ) → o ≡ Some n → IfSome o (λ n. now ≡ es)
    → now ≡ es
same_entries now es o n e h = subst (λ (p : Option ℕ). IfSome p (λ n. now ≡ es)) e h

found_number : (name : List ℕ) (es : List (Vec ℕ Global × ℕ)) (o : Option ℕ) (n : ℕ) → o ≡ Some n
    → IfSome o (λ n. number_in name es ≡ Some n) → number_in name es ≡ Some n
found_number name es o n e h = subst (λ (p : Option ℕ). IfSome p (λ n. number_in name es ≡ Some n)) e h

pub returns-in-Some-clause-ok : goal.returns-in-Some-clause-ok
returns-in-Some-clause-ok c =
    let a = c.self.inside in
    let n = c.in-Some.number in
    let name = c.args.name.now in
    let entries = same_entries c.put_new.new.numbers.entries a.numbers.entries _ n c.in-Some.is
    c.in_ok-number.ensures.same in
    let found = found_number c.in_ok-key.key.items a.numbers.entries _ n c.in-Some.is c.in_ok-number.ensures.known in
    let named : number_in name a.numbers.entries ≡ Some n =
    sym (ap (λ l. number_in l a.numbers.entries) c.in_ok-key.ensures.items) ∙ found in
    let same : c.reserve.new.slab.slots ≡ a.places.slots =
    ap (λ (s : Slab ℕ). s.slots) c.reserve.ensures.rest_kept in
    subst (λ es. IsNamed (map spelled (stored es c.reserve.new.slab.slots)) n name) (sym entries)
    (subst (λ ps. IsNamed (map spelled (stored a.numbers.entries ps)) n name) (sym same)
    (number_law a.numbers.entries (stored a.numbers.entries a.places.slots) name (Some n) c.self.invariant.paired
    (sym named)))

pub invariant_of-self-in-None : goal.invariant_of-self-in-None
invariant_of-self-in-None c =
    let a = c.self.inside in
    let key = c.in_ok-key.key in
    let n = c.vacant_key.result in
    let absent' = put_absent key.items a.numbers.entries _ c.in-None.is c.in_ok-number.ensures.absent in
    let entries = put_last c.put_new.new.numbers.entries a.numbers.entries (key, n) _ c.in-None.is
    c.in_ok-number.ensures.put in
    let same : c.reserve.new.slab.slots ≡ a.places.slots =
    ap (λ (s : Slab ℕ). s.slots) c.reserve.ensures.rest_kept in
    let at : c.insert_reserved.result ≡ n = c.insert_reserved.ensures.key ∙ sym c.vacant_key.ensures.value in
    let was : get_or a.places.slots n None ≡ None = ap (λ l. get_or l n None) (sym same)
    ∙ c.vacant_key.ensures.vacant in
    let now : get_or c.insert_reserved.new.self.slots n None ≡ Some (length a.numbers.entries) =
    ap (λ m. get_or c.insert_reserved.new.self.slots m None) (sym at)
    ∙ c.insert_reserved.ensures.updates.changed ∙ ap Some c.len-place.ensures.len in
    let others : (m : ℕ) → m ≢ n → get_or c.insert_reserved.new.self.slots m None ≡ get_or a.places.slots m None =
    λ m ne. c.insert_reserved.ensures.updates.others m (λ e. ne (e ∙ at)) ∙ ap (λ l. get_or l m None) same in
    filed_more a.numbers.entries c.put_new.new.numbers.entries a.places.slots c.insert_reserved.new.self.slots n key
    c.self.invariant entries was now others absent'

pub returns-in-None-clause-ok : goal.returns-in-None-clause-ok
returns-in-None-clause-ok c =
    let a = c.self.inside in
    let key = c.in_ok-key.key in
    let n = c.vacant_key.result in
    let absent' = put_absent key.items a.numbers.entries _ c.in-None.is c.in_ok-number.ensures.absent in
    let entries = put_last c.put_new.new.numbers.entries a.numbers.entries (key, n) _ c.in-None.is
    c.in_ok-number.ensures.put in
    let same : c.reserve.new.slab.slots ≡ a.places.slots =
    ap (λ (s : Slab ℕ). s.slots) c.reserve.ensures.rest_kept in
    let at : c.insert_reserved.result ≡ n = c.insert_reserved.ensures.key ∙ sym c.vacant_key.ensures.value in
    let was : get_or a.places.slots n None ≡ None = ap (λ l. get_or l n None) (sym same)
    ∙ c.vacant_key.ensures.vacant in
    let now : get_or c.insert_reserved.new.self.slots n None ≡ Some (length a.numbers.entries) =
    ap (λ m. get_or c.insert_reserved.new.self.slots m None) (sym at)
    ∙ c.insert_reserved.ensures.updates.changed ∙ ap Some c.len-place.ensures.len in
    let others : (m : ℕ) → m ≢ n → get_or c.insert_reserved.new.self.slots m None ≡ get_or a.places.slots m None =
    λ m ne. c.insert_reserved.ensures.updates.others m (λ e. ne (e ∙ at)) ∙ ap (λ l. get_or l m None) same in
    let takes = takes_stored a.numbers.entries c.put_new.new.numbers.entries a.places.slots
    c.insert_reserved.new.self.slots n
    key c.self.invariant.within entries was now others in
    slot_spelled (stored c.put_new.new.numbers.entries c.insert_reserved.new.self.slots) c.insert_reserved.result
    ∙ ap (λ m. spelled (get_or (stored c.put_new.new.numbers.entries c.insert_reserved.new.self.slots) m None)) at
    ∙ ap spelled takes.now ∙ ap Some c.in_ok-key.ensures.items

pub returns-in-None-clause-kept : goal.returns-in-None-clause-kept
returns-in-None-clause-kept c =
    let a = c.self.inside in
    let key = c.in_ok-key.key in
    let n = c.vacant_key.result in
    let absent' = put_absent key.items a.numbers.entries _ c.in-None.is c.in_ok-number.ensures.absent in
    let entries = put_last c.put_new.new.numbers.entries a.numbers.entries (key, n) _ c.in-None.is
    c.in_ok-number.ensures.put in
    let same : c.reserve.new.slab.slots ≡ a.places.slots =
    ap (λ (s : Slab ℕ). s.slots) c.reserve.ensures.rest_kept in
    let at : c.insert_reserved.result ≡ n = c.insert_reserved.ensures.key ∙ sym c.vacant_key.ensures.value in
    let was : get_or a.places.slots n None ≡ None = ap (λ l. get_or l n None) (sym same)
    ∙ c.vacant_key.ensures.vacant in
    let now : get_or c.insert_reserved.new.self.slots n None ≡ Some (length a.numbers.entries) =
    ap (λ m. get_or c.insert_reserved.new.self.slots m None) (sym at)
    ∙ c.insert_reserved.ensures.updates.changed ∙ ap Some c.len-place.ensures.len in
    let others : (m : ℕ) → m ≢ n → get_or c.insert_reserved.new.self.slots m None ≡ get_or a.places.slots m None =
    λ m ne. c.insert_reserved.ensures.updates.others m (λ e. ne (e ∙ at)) ∙ ap (λ l. get_or l m None) same in
    λ m name h. kept_slot (stored a.numbers.entries a.places.slots)
    (stored c.put_new.new.numbers.entries c.insert_reserved.new.self.slots) n key
    (takes_stored a.numbers.entries c.put_new.new.numbers.entries a.places.slots c.insert_reserved.new.self.slots n key
    c.self.invariant.within entries was now others) m name
    (ap (λ (k : KnownNames). slot k.slots m) c.self.view_is ∙ h)

pub returns-in-None-clause-added : goal.returns-in-None-clause-added
returns-in-None-clause-added c =
    let a = c.self.inside in
    let key = c.in_ok-key.key in
    let n = c.vacant_key.result in
    let entries = put_last c.put_new.new.numbers.entries a.numbers.entries (key, n) _ c.in-None.is
    c.in_ok-number.ensures.put in (
      entry_spelled (key, n) ∷ [],
      ap (map entry_spelled) entries
          ∙ map-append entry_spelled a.numbers.entries ((key, n) ∷ [])
          ∙ ap (λ (k : KnownNames). k.order ++ entry_spelled (key, n) ∷ []) c.self.view_is,
    )
