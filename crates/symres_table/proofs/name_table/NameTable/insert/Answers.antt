use Rattle.symres_table.proofs.Common.{KnownNames, None, Slab, Some, Vec, [], ap, bytes_eq, entry_spelled, get_or}
use Rattle.symres_table.proofs.Common.{insert_entry-new, length, map, map-append, number_in, slot, spelled, stored, sym}
use Rattle.symres_table.proofs.Common.{ℕ, ◌++◌, ◌∙◌, ◌∷◌, ◌≡◌, ◌≢◌}
use Rattle.std.proofs.Common.{Global}
use Rattle.symres_table.proofs.PlacesByNumber.{filed_more, takes_stored}
use Rattle.symres_table.proofs.Pairs.{none_found, kept_slot, slot_spelled}
use Rattle.symres_table.proofs.name_table.NameTable.insert.Goals as goal

pub invariant_of-self-2 : goal.invariant_of-self-2
invariant_of-self-2 c =
    let a = c.self.inside in
    let key = c.in_ok-key.key in
    let n = c.vacant_key.result in
    let absent : number_in c.args.name.now a.numbers.entries ≡ None =
    none_found a.numbers.entries (stored a.numbers.entries a.places.slots) c.args.name.now c.self.invariant.paired
    (rw (← c.self.view_is) at c.requires) in
    let absent' : number_in key.items a.numbers.entries ≡ None =
    ap (λ l. number_in l a.numbers.entries) c.in_ok-key.ensures.items ∙ absent in
    let entries = c.in_ok-insert.ensures.entries
    ∙ insert_entry-new (λ (x y : Vec ℕ Global). bytes_eq x.items y.items) a.numbers key n absent' in
    let same : c.reserve.new.slab.slots ≡ a.places.slots =
    ap (λ (s : Slab ℕ). s.slots) c.reserve.ensures.rest_kept in
    let at : c.insert_reserved.result ≡ n = c.insert_reserved.ensures.key ∙ sym c.vacant_key.ensures.value in
    let was : get_or a.places.slots n None ≡ None = ap (λ l. get_or l n None) (sym same)
    ∙ c.vacant_key.ensures.vacant in
    let now : get_or c.insert_reserved.new.self.slots n None ≡ Some (length a.numbers.entries) =
    ap (λ m. get_or c.insert_reserved.new.self.slots m None) (sym at)
    ∙ c.insert_reserved.ensures.updates.changed ∙ ap Some c.len-place.ensures.len in
    let others : (m : ℕ) → m ≢ n → get_or c.insert_reserved.new.self.slots m None ≡ get_or a.places.slots m None =
    λ m ne. c.insert_reserved.ensures.updates.others m (λ e. ne (e ∙ at)) ∙ ap (λ l. get_or l m None) same in
    filed_more a.numbers.entries c.insert.new.map.entries a.places.slots c.insert_reserved.new.self.slots n key
    c.self.invariant entries was now others absent'

pub returns-clause-ok : goal.returns-clause-ok
returns-clause-ok c =
    let a = c.self.inside in
    let key = c.in_ok-key.key in
    let n = c.vacant_key.result in
    let absent : number_in c.args.name.now a.numbers.entries ≡ None =
    none_found a.numbers.entries (stored a.numbers.entries a.places.slots) c.args.name.now c.self.invariant.paired
    (rw (← c.self.view_is) at c.requires) in
    let absent' : number_in key.items a.numbers.entries ≡ None =
    ap (λ l. number_in l a.numbers.entries) c.in_ok-key.ensures.items ∙ absent in
    let entries = c.in_ok-insert.ensures.entries
    ∙ insert_entry-new (λ (x y : Vec ℕ Global). bytes_eq x.items y.items) a.numbers key n absent' in
    let same : c.reserve.new.slab.slots ≡ a.places.slots =
    ap (λ (s : Slab ℕ). s.slots) c.reserve.ensures.rest_kept in
    let at : c.insert_reserved.result ≡ n = c.insert_reserved.ensures.key ∙ sym c.vacant_key.ensures.value in
    let was : get_or a.places.slots n None ≡ None = ap (λ l. get_or l n None) (sym same)
    ∙ c.vacant_key.ensures.vacant in
    let now : get_or c.insert_reserved.new.self.slots n None ≡ Some (length a.numbers.entries) =
    ap (λ m. get_or c.insert_reserved.new.self.slots m None) (sym at)
    ∙ c.insert_reserved.ensures.updates.changed ∙ ap Some c.len-place.ensures.len in
    let others : (m : ℕ) → m ≢ n → get_or c.insert_reserved.new.self.slots m None ≡ get_or a.places.slots m None =
    λ m ne. c.insert_reserved.ensures.updates.others m (λ e. ne (e ∙ at)) ∙ ap (λ l. get_or l m None) same in
    let takes = takes_stored a.numbers.entries c.insert.new.map.entries a.places.slots
    c.insert_reserved.new.self.slots n
    key c.self.invariant.within entries was now others in
    slot_spelled (stored c.insert.new.map.entries c.insert_reserved.new.self.slots) c.insert_reserved.result
    ∙ ap (λ m. spelled (get_or (stored c.insert.new.map.entries c.insert_reserved.new.self.slots) m None)) at
    ∙ ap spelled takes.now ∙ ap Some c.in_ok-key.ensures.items

pub returns-clause-kept : goal.returns-clause-kept
returns-clause-kept c =
    let a = c.self.inside in
    let key = c.in_ok-key.key in
    let n = c.vacant_key.result in
    let absent : number_in c.args.name.now a.numbers.entries ≡ None =
    none_found a.numbers.entries (stored a.numbers.entries a.places.slots) c.args.name.now c.self.invariant.paired
    (rw (← c.self.view_is) at c.requires) in
    let absent' : number_in key.items a.numbers.entries ≡ None =
    ap (λ l. number_in l a.numbers.entries) c.in_ok-key.ensures.items ∙ absent in
    let entries = c.in_ok-insert.ensures.entries
    ∙ insert_entry-new (λ (x y : Vec ℕ Global). bytes_eq x.items y.items) a.numbers key n absent' in
    let same : c.reserve.new.slab.slots ≡ a.places.slots =
    ap (λ (s : Slab ℕ). s.slots) c.reserve.ensures.rest_kept in
    let at : c.insert_reserved.result ≡ n = c.insert_reserved.ensures.key ∙ sym c.vacant_key.ensures.value in
    let was : get_or a.places.slots n None ≡ None = ap (λ l. get_or l n None) (sym same)
    ∙ c.vacant_key.ensures.vacant in
    let now : get_or c.insert_reserved.new.self.slots n None ≡ Some (length a.numbers.entries) =
    ap (λ m. get_or c.insert_reserved.new.self.slots m None) (sym at)
    ∙ c.insert_reserved.ensures.updates.changed ∙ ap Some c.len-place.ensures.len in
    let others : (m : ℕ) → m ≢ n → get_or c.insert_reserved.new.self.slots m None ≡ get_or a.places.slots m None =
    λ m ne. c.insert_reserved.ensures.updates.others m (λ e. ne (e ∙ at)) ∙ ap (λ l. get_or l m None) same in
    λ m name h. kept_slot (stored a.numbers.entries a.places.slots)
    (stored c.insert.new.map.entries c.insert_reserved.new.self.slots) n key
    (takes_stored a.numbers.entries c.insert.new.map.entries a.places.slots c.insert_reserved.new.self.slots n key
    c.self.invariant.within entries was now others) m name
    (ap (λ (k : KnownNames). slot k.slots m) c.self.view_is ∙ h)

pub returns-clause-added : goal.returns-clause-added
returns-clause-added c =
    let a = c.self.inside in
    let key = c.in_ok-key.key in
    let n = c.vacant_key.result in
    let absent : number_in c.args.name.now a.numbers.entries ≡ None =
    none_found a.numbers.entries (stored a.numbers.entries a.places.slots) c.args.name.now c.self.invariant.paired
    (rw (← c.self.view_is) at c.requires) in
    let absent' : number_in key.items a.numbers.entries ≡ None =
    ap (λ l. number_in l a.numbers.entries) c.in_ok-key.ensures.items ∙ absent in
    let entries = c.in_ok-insert.ensures.entries
    ∙ insert_entry-new (λ (x y : Vec ℕ Global). bytes_eq x.items y.items) a.numbers key n absent' in (
      entry_spelled (key, n) ∷ [],
      ap (map entry_spelled) entries
          ∙ map-append entry_spelled a.numbers.entries ((key, n) ∷ [])
          ∙ ap (λ (k : KnownNames). k.order ++ entry_spelled (key, n) ∷ []) c.self.view_is,
    )
