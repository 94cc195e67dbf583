-- Rows that hold room for symbols by an entry for each.
use Rattle.symres_table.proofs.Common.{Declared, HasRoom, Holds, KeepsRoom, List, Numbered, RowsGrow, [], ap, arith}
use Rattle.symres_table.proofs.Common.{cases_eq, cond, false, get_or, get_or-set_other, is_local, length, length-append}
use Rattle.symres_table.proofs.Common.{length-set, length-take-le, named, refl, set, subst, sym, take, take-append-le}
use Rattle.symres_table.proofs.Common.{take-take, take_all, vec_capacity, vec_len, ℕ, ⊎_elim, ◌++◌, ◌+◌, ◌-◌, ◌<◌, ◌∙◌}
use Rattle.symres_table.proofs.Common.{◌∷◌, ◌≡◌, ◌≢◌, ◌≤◌}
use Rattle.symres_table.specs.Steps.{HoldsMore}
use Rattle.symres_table.proofs.Cleared.{Row, set_here, was_here}
use Rattle.symres_table.proofs.Naming.{named_yes, named_no, named_push}

pub holds_start : (table : List Row) → Holds [] table table
holds_start table = record {
  long = refl;
  row = λ k d h. record { items = take_all _ _ (omega arith); len = omega arith; room = omega arith };
}

-- one row changes, and the number of symbols of its name
holds_set : (ss ss' : List Numbered) (n : ℕ) (old mid : List Row) (v l : Row) → n < length mid → v ≡ get_or mid n v
    → ((u : Row) → HoldsMore (length (named n ss)) u v → HoldsMore (length (named n ss')) u l)
    → ((k : ℕ) → k ≢ n → length (named k ss) ≡ length (named k ss')) → Holds ss old mid → Holds ss' old (set mid n l)
holds_set ss ss' n old mid v l w i here other r = record {
  long = length-set mid n l ∙ r.long;
  row = λ k d h. ⊎_elim
      (λ same.
      let u = get_or old k d in
      let was : HoldsMore (length (named n ss)) u v =
      subst (λ (x : Row). HoldsMore (length (named n ss)) u x)
      (was_here mid n k v d (omega (arith, r.long)) same i)
      (subst (λ q. HoldsMore (length (named q ss)) u (get_or mid k d)) same (r.row k d h)) in
      subst (λ (x : Row). HoldsMore (length (named k ss')) u x) (sym (set_here mid n k l d w same))
      (subst (λ q. HoldsMore (length (named q ss')) u l) (sym same) (here u was)))
      (λ ne.
      let u = get_or old k d in
      subst (λ (x : Row). HoldsMore (length (named k ss')) u x) (sym (get_or-set_other mid n k l d ne))
      (subst (λ m. HoldsMore m u (get_or mid k d)) (other k ne) (r.row k d h)))
      (cases_eq k n);
}

push_row : (n : ℕ) (x : Declared) (u v l : Row) → l.items ≡ v.items ++ x ∷ [] → vec_capacity v ≤ vec_capacity l
    → HoldsMore n u v → HoldsMore (n + 1) u l
push_row n x u v l e c r = record {
  items = ap (take (length u.items)) e
      ∙ take-append-le (length u.items) v.items (x ∷ []) (omega (arith, r.len)) ∙ r.items;
  len = omega (arith, ap length e, length-append v.items (x ∷ []), r.len);
  room = omega (arith, r.room, c);
}

pop_row : (n : ℕ) (u v l : Row) → l.items ≡ take (length v.items - 1) v.items → vec_capacity l ≡ vec_capacity v
    → HoldsMore (n + 1) u v → HoldsMore n u l
pop_row n u v l e c r = record {
  items = ap (take (length u.items)) e
      ∙ take-take (length u.items) (length v.items - 1) v.items (omega (arith, r.len)) ∙ r.items;
  len = omega (arith, ap length e, length-take-le (length v.items - 1) v.items (omega arith), r.len);
  room = omega (arith, r.room, c);
}

pub holds_push : (ss : List Numbered) (s : Numbered) (x : Declared) (old mid : List Row) (v l : Row)
    → is_local s.symbol.binding ≡ false → s.name < length mid → v ≡ get_or mid s.name v → l.items ≡ v.items ++ x ∷ []
    → vec_capacity v ≤ vec_capacity l → Holds ss old mid → Holds (ss ++ s ∷ []) old (set mid s.name l)
holds_push ss s x old mid v l vis w i e c r =
    let more : length (named s.name (ss ++ s ∷ [])) ≡ length (named s.name ss) + 1 =
    ap length (named_push s.name ss s _ (named_yes s.name s vis refl)) ∙ length-append (named s.name ss) (s ∷ []) in
    holds_set ss (ss ++ s ∷ []) s.name old mid v l w i
    (λ u m. subst (λ n. HoldsMore n u l) (sym more) (push_row (length (named s.name ss)) x u v l e c m))
    (λ k ne. sym (ap length (named_push k ss s _ (named_no k s (λ q. ne (sym q)))))) r

pub holds_same : (ss : List Numbered) (n : ℕ) (old mid : List Row) (v l : Row) → n < length mid → v ≡ get_or mid n v
    → l.items ≡ v.items → vec_capacity v ≤ vec_capacity l → Holds ss old mid → Holds ss old (set mid n l)
holds_same ss n old mid v l w i e c r =
    holds_set ss ss n old mid v l w i
    (λ u m. record {
      items = ap (take (length u.items)) e ∙ m.items;
      len = ap length e ∙ m.len;
      room = omega (arith, m.room, c);
    })
    (λ k ne. refl) r

pub holds_pop : (s : Numbered) (left : List Numbered) (old mid : List Row) (v l : Row)
    → is_local s.symbol.binding ≡ false → s.name < length mid → v ≡ get_or mid s.name v
    → l.items ≡ take (length v.items - 1) v.items → vec_capacity l ≡ vec_capacity v → Holds (s ∷ left) old mid
    → Holds left old (set mid s.name l)
holds_pop s left old mid v l vis w i e c r =
    let more : length (named s.name (s ∷ left)) ≡ length (named s.name left) + 1 =
    ap (λ b. length (cond b (s ∷ named s.name left) (named s.name left))) (named_yes s.name s vis refl)
    ∙ omega arith in
    holds_set (s ∷ left) left s.name old mid v l w i
    (λ u m. pop_row (length (named s.name left)) u v l e c (subst (λ n. HoldsMore n u v) more m))
    (λ k ne. ap (λ b. length (cond b (s ∷ named k left) (named k left))) (named_no k s (λ q. ne (sym q)))) r

-- where no room is held any more, the rows are as they were
pub holds_end : (old new : List Row) → Holds [] old new → RowsGrow old new
holds_end old new r = record {
  long = omega (arith, r.long);
  items = λ k d h. let m = r.row k d h in sym (take_all _ _ (omega (arith, m.len))) ∙ m.items;
  room = λ k d h. (r.row k d h).room;
  fresh = λ k d h l. absurd (omega (arith, r.long));
}

-- the room that was held stays
pub holds_room : (ss : List Numbered) (old mid new : List Row) → Holds ss old mid → KeepsRoom mid new → Holds [] old new
    → ((v : Row) → (vec_len v ≡ length v.items) × (vec_len v ≤ vec_capacity v)) → HasRoom new ss
holds_room ss old mid new a k b small = λ n d h.
    let x = a.row n d (omega (arith, b.long)) in
    let y = b.row n d (omega (arith, b.long)) in
    let u = small (get_or mid n d) in
    let v = small (get_or new n d) in
    omega (arith, x.len, y.len, k.row n d (omega (arith, a.long, b.long)), u.0, u.1, v.0)
