use Rattle.gather.proofs.Common.{BTreeMap, Bor, Global, List, Option, Some, UpdatesBy, Vec, [], ap, get_by, is_at}
use Rattle.gather.proofs.Common.{is_some, nat_cmp, option_map_or, rules, slice_cmp, subst, ℕ, ◌++◌, ◌∙◌, ◌∷◌}
use Rattle.std.specs.Map.{lookup}
use Rattle.std.proofs.lemmas.Map.Text.{btree_map_updates_str}
use Rattle.gather.specs.declared.word.WordAt as code
use Rattle.gather.proofs.NamedLists.{by_result, listed_more, still_none}
use Rattle.gather.proofs.word_table.WordTable.add_named.Goals as goal

abbrev items_of : Vec code.WordAt Global → List code.WordAt
items_of v = v.items

pub returns-in_ok-push-in-Some-clause-named : goal.returns-in_ok-push-in-Some-clause-named
returns-in_ok-push-in-Some-clause-named c = λ q.
    listed_more items_of (λ n. get_by (λ (k : Bor (List ℕ)). slice_cmp nat_cmp n k.now) c.args.self.now.named)
    c.args.name.now q
    (get_by (λ (k : Bor (List ℕ)). slice_cmp nat_cmp q k.now) (c.get_mut.follows.lender c.push.new.list))
    c.push.new.list (c.args.word ∷ [])
    (btree_map_updates_str c.args.name.now c.args.self.now.named (c.get_mut.follows.lender c.push.new.list)
    (Some c.push.new.list) ((c.get_mut.follows.holds c.push.new.list).3 (search rules)) q)
    (c.in_ok-push-in-Some.ensures.items
    ∙ ap (λ o. option_map_or items_of o [] ++ c.args.word ∷ []) c.in-Some.ensures.value)

pub returns-in_ok-insert-in-None-clause-named : goal.returns-in_ok-insert-in-None-clause-named
returns-in_ok-insert-in-None-clause-named c = λ q.
    listed_more items_of (λ n. get_by (λ (k : Bor (List ℕ)). slice_cmp nat_cmp n k.now) c.args.self.now.named)
    c.args.name.now q
    (get_by (λ (k : Bor (List ℕ)). slice_cmp nat_cmp q k.now) c.insert.new.map)
    c.push-in-None.new.list (c.args.word ∷ [])
    (btree_map_updates_str c.args.name.now c.args.self.now.named c.insert.new.map (Some c.push-in-None.new.list)
    (subst (λ m. UpdatesBy (λ (x y : Bor (List ℕ)). slice_cmp nat_cmp x.now y.now) (λ (k : Bor (List ℕ)).
    slice_cmp nat_cmp c.args.name.now k.now) m c.insert.new.map (Some c.push-in-None.new.list))
    c.get_mut.follows.holds-at-none c.in_ok-insert-in-None.ensures.updates) q)
    (c.in_ok-push-in-None.ensures.items ∙ ap (λ xs. xs ++ c.args.word ∷ []) c.new-words.ensures.items
    ∙ ap (λ o. option_map_or items_of o [] ++ c.args.word ∷ []) c.in-None.ensures.value)

abbrev found : List ℕ → BTreeMap (Bor (List ℕ)) (Vec code.WordAt Global) → Option (Vec code.WordAt Global)
found q m = get_by (λ (k : Bor (List ℕ)). slice_cmp nat_cmp q k.now) m

pub invariant_of-self : goal.invariant_of-self
invariant_of-self c = record {
  known = λ q off.
      let was = c.args.self.now.named in
      let now = c.get_mut.follows.lender c.push.new.list in
      still_none c.args.name.now q c.push.new.list (found q was) (found q now) (c.note.ensures.name q off)
      (btree_map_updates_str c.args.name.now was now (Some c.push.new.list)
      ((c.get_mut.follows.holds c.push.new.list).3 (search rules)) q)
      (c.args.self.now.known q (c.note.ensures.others q off));
}

pub invariant_of-self-in-None : goal.invariant_of-self-in-None
invariant_of-self-in-None c = record {
  known = λ q off.
      let was = c.args.self.now.named in
      let now = c.insert.new.map in
      let v = c.push-in-None.new.list in
      let none = c.args.self.now.known q (c.note.ensures.others q off) in
      by_result c.insert.result c.insert.ensures.updates c.insert.ensures.err
      (λ put. still_none c.args.name.now q v (found q was) (found q now) (c.note.ensures.name q off)
      (btree_map_updates_str c.args.name.now was now (Some v)
      (subst (λ m. UpdatesBy (λ (x y : Bor (List ℕ)). slice_cmp nat_cmp x.now y.now) (λ (k : Bor (List ℕ)).
      slice_cmp nat_cmp c.args.name.now k.now) m now (Some v)) c.get_mut.follows.holds-at-none put) q)
      none)
      (λ same. ap (λ es. is_some (lookup (is_at (λ (k : Bor (List ℕ)). slice_cmp nat_cmp q k.now)) es)) same
      ∙ ap (λ m. is_some (found q m)) c.get_mut.follows.holds-at-none ∙ none);
}
