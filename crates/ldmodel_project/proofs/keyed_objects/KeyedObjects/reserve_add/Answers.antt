use Rattle.ldmodel_project.proofs.Common.{Contents, IsStaged, List, Listed, NamedObject, None, Places, Put, SameButRoom}
use Rattle.ldmodel_project.proofs.Common.{Slab, Some, ap, entry_at, insert, length, length-map, map, place_of, subst}
use Rattle.ldmodel_project.proofs.Common.{sym, ℕ, ◌∙◌, ◌≡◌, ◌≤◌}
use Rattle.ldmodel_project.proofs.Arranged.{IsOrdered-reserved, reserved_same, new_staged, staged, shown}
use Rattle.ldmodel_project.proofs.keyed_objects.KeyedObjects.reserve_add.Goals as goal

pub invariant_of-self : goal.invariant_of-self
invariant_of-self c =
    IsOrdered-reserved c.self.inside.objects c.reserve.new.self c.self.inside.order.items c.reserve.ensures.rest_kept
    c.self.invariant

pub invariant_of-self-in_err-order : goal.invariant_of-self-in_err-order
invariant_of-self-in_err-order c =
    IsOrdered-reserved c.self.inside.objects c.reserve.new.self c.self.inside.order.items c.reserve.ensures.rest_kept
    c.self.invariant

pub invariant_of-self-2 : goal.invariant_of-self-2
invariant_of-self-2 c =
    IsOrdered-reserved c.self.inside.objects c.reserve.new.self c.self.inside.order.items c.reserve.ensures.rest_kept
    c.self.invariant

pub returns-in_err-order-clause-same : goal.returns-in_err-order-clause-same
returns-in_err-order-clause-same c =
    subst (λ (k : Contents). SameButRoom k (shown c.reserve.new.self c.self.inside.order.items)) c.self.view_is
    (reserved_same c.self.inside.objects c.reserve.new.self c.self.inside.order.items c.reserve.ensures.rest_kept
    c.reserve.ensures.capacity)

pub returns-clause-same : goal.returns-clause-same
returns-clause-same c =
    subst (λ (k : Contents). SameButRoom k (shown c.reserve.new.self c.self.inside.order.items)) c.self.view_is
    (reserved_same c.self.inside.objects c.reserve.new.self c.self.inside.order.items c.reserve.ensures.rest_kept
    c.reserve.ensures.capacity)

pub returns-clause-staged : goal.returns-clause-staged
returns-clause-staged c =
    let slots : Slab NamedObject = c.reserve.new.self in
    let order : List ℕ = c.self.inside.order.items in
    let o : NamedObject = record { name = c.args.name.now; object = c.args.object } in
    let named : c.in_ok-named.named ≡ o = c.in_ok-named.ensures in
    let entries : map (entry_at slots) order ≡ c.args.self.now.entries =
    ap (λ (s : Slab NamedObject). map (entry_at s) order) c.reserve.ensures.rest_kept
    ∙ ap (λ (k : Contents). k.entries) c.self.view_is in
    let unused : place_of (map (λ (e : Listed). e.named) (map (entry_at slots) order)) o.name ≡ None =
    ap (λ (es : List Listed). place_of (map (λ (e : Listed). e.named) es) o.name) entries ∙ c.requires.unused in
    let places : Places = record { before = None; after = Some c.args.at } in
    let within : c.args.at ≤ length order =
    rw length-map at (subst (λ (k : Contents). c.args.at ≤ length k.entries) (sym c.self.view_is) c.requires.place) in
    let at_o = new_staged slots order c.args.at c.vacant_key-key.result o c.in_ok-order.order
    (IsOrdered-reserved c.self.inside.objects slots order c.reserve.ensures.rest_kept c.self.invariant)
    c.in_ok-reserve.ensures.room c.vacant_key-key.ensures.vacant c.vacant_key-key.ensures.value unused within
    (c.in_ok-order.ensures ∙ ap (λ ks. insert ks c.args.at c.vacant_key-key.result) c.deref.ensures.value) in
    let next : List NamedObject = insert (map (λ (e : Listed). e.named) c.args.self.now.entries) c.args.at o in
    let moved = subst (λ (es : List Listed).
    IsStaged (shown slots order) (staged c.in_ok-order.order (Put c.vacant_key-key.result o) places)
    (insert (map (λ (e : Listed). e.named) es) c.args.at o)) entries at_o in
    subst (λ (n : NamedObject).
    IsStaged (shown slots order) (staged c.in_ok-order.order (Put c.vacant_key-key.result n) places) next) (sym named)
    moved
