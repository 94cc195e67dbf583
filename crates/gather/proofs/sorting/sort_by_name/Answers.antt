use Rattle.gather.proofs.Common.{All, All-permutation, Bor, ByName, List, NamedPlace, Orders, Some, answers_always, ap}
use Rattle.gather.proofs.Common.{is_lt, length, map, name_of_section, nat_cmp, nat_list_cmp_total, on_ok_weaker}
use Rattle.gather.proofs.Common.{ranks_by, rules, slice_cmp, subst, sym, ℕ, ◌<◌, ◌∙◌, ◌≡◌}
use Rattle.ldmodel.specs.Rows.{Piece}
use Rattle.ldmodel.specs.declared.rows.Piece as code
use Rattle.gather.specs.NamedPieces.{AreNamed, AreNames, HasName, pieces_at}
use Rattle.gather.proofs.NamedPieces.{named}
use Rattle.gather.proofs.SharedStarts.{after_start}
use Rattle.gather.proofs.Sorts.{all_within, named_in, ordered, ordered_named}
use Rattle.gather.proofs.sorting.sort_by_name.Goals as goal

pub put_in_order-requires : goal.put_in_order-requires
put_in_order-requires c =
    let p = c.args.project.now in
    let xs : List code.Piece = c.args.pieces.now.items in
    let start : List ℕ = c.shared_start.result.now in
    let names : AreNames p xs c.deref-2.result.now =
    ap (map (λ (name : Bor (List ℕ)). name.now)) c.deref-2.ensures.value ∙ c.in_ok-names.ensures
    ∙ ap (map (λ (x : code.Piece). name_of_section p x.section)) c.deref.ensures.value in
    let are : AreNamed p start xs c.in_ok-places.places.items =
    named p start xs c.deref-2.result.now c.in_ok-places.places.items names c.in_ok-places.ensures in
    subst (All (λ (x : NamedPlace). x.place < length xs)) (sym c.deref-4.ensures.value)
    (all_within p start xs _
    (All-permutation (HasName p start xs) c.in_ok-places.places.items _ c.in_ok-sort_by.ensures.permutation are.names))

pub returns : goal.returns
returns c =
    let p = c.args.project.now in
    let xs : List code.Piece = c.args.pieces.now.items in
    let start : List ℕ = c.shared_start.result.now in
    let names : AreNames p xs c.deref-2.result.now =
    ap (map (λ (name : Bor (List ℕ)). name.now)) c.deref-2.ensures.value ∙ c.in_ok-names.ensures
    ∙ ap (map (λ (x : code.Piece). name_of_section p x.section)) c.deref.ensures.value in
    let are : AreNamed p start xs c.in_ok-places.places.items =
    named p start xs c.deref-2.result.now c.in_ok-places.places.items names c.in_ok-places.ensures in
    let sorted = ordered (named_in p start xs) c.row_by_order.ensures (Some ByName)
    (ranks_by nat_list_cmp_total (λ (x : Piece). x.name)) _ _
    (answers_always _ _ _
    (λ f a r f' k.
    let h : is_lt r ≡ is_lt (slice_cmp nat_cmp a.0.now.name a.1.0.now.name) = search rules in
    h ∙ sym (ap is_lt (after_start start a.0.now.name a.1.0.now.name))))
    c.in_ok-sort_by.ensures.permutation c.in_ok-sort_by.ensures.sorted c.in_ok-sort_by.ensures.stable in
    on_ok_weaker c.put_in_order.result
    (λ put. subst (Orders p (Some ByName) xs) (sym (put ∙ ap (pieces_at xs) c.deref-4.ensures.value))
    (ordered_named p start (Some ByName) xs _ _ are c.in_ok-sort_by.ensures.permutation sorted))
    c.put_in_order.ensures
