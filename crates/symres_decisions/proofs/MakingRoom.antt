-- Names become known, and are forgotten again.
use Rattle.symres_decisions.proofs.Common.{All, AreCases, AreInOrder, Bool, Case, Declaration, Err, Fits, Forgets}
use Rattle.symres_decisions.proofs.Common.{HasCase, HasName, IfSome, IsCase, IsListing, IsNamed, IsReadyFor, IsTextOf}
use Rattle.symres_decisions.proofs.Common.{IsWhole, KeepsNames, List, MayEnter, MayFollow, NamedSymbol, None, ObjectAt}
use Rattle.symres_decisions.proofs.Common.{ObjectChange, ObjectKey, Ok, OnOk, Option, Result, Some, State, Statement}
use Rattle.symres_decisions.proofs.Common.{[], ap, arith, case_at, cases_eq, cases_lt, cond, decided, drop, entries_of}
use Rattle.symres_decisions.proofs.Common.{eq-eqb, eqb, false, get_or, get_or-drop, get_or-set_other, get_or-set_same}
use Rattle.symres_decisions.proofs.Common.{get_or_append_left, get_or_past, inl, inr, is_assigned, is_provided, is_used}
use Rattle.symres_decisions.proofs.Common.{length, length-drop, nat_lt, ne_eqb, refl, set, slot, subst, sym, symbols_at}
use Rattle.symres_decisions.proofs.Common.{take, take-append_seam, true, ℕ, ⊎_elim, ◌++◌, ◌+◌, ◌-◌, ◌<◌, ◌∙◌, ◌∷◌, ◌≡◌}
use Rattle.symres_decisions.proofs.Common.{◌≤◌, ◌⊎◌}
use Rattle.symres_decisions.specs.Room.{AreKeptWhere, AreUnused, HaveCasesBelow, HaveCasesFrom, KeepsUsed, OnlyDrops}
use Rattle.symres_decisions.specs.Room.{kept_where, AreOldOrNew, StandsFrom}
use Rattle.symres_decisions.proofs.Listed.{Listed, StandsIn, named_listed, stands_in}
use Rattle.symres_decisions.proofs.OneName.{one_name}

-- ---- names are only added

pub sound_more : (script : List Statement) (a b : State) (cases : List (Option (Case ObjectKey)))
    → KeepsNames a.names b.names
    → b.objects ≡ a.objects → AreCases script a cases → AreCases script b cases
sound_more script a b cases keeps same sound k c h =
    let is : IsCase script a k c = sound k c h in
    let there : IsNamed b.names k is.named.0 = keeps k is.named.0 is.named.1 in
    record {
      named = (is.named.0, there);
      case = λ name n.
          let one : is.named.0 ≡ name = one_name b.names k is.named.0 name there n in
          is.case name (subst (IsNamed a.names k) one is.named.1)
          ∙ ap (λ (ts : List (ℕ × List NamedSymbol)).
          decided (is_assigned script name) (is_provided script name) (entries_of name ts)) (sym same);
    }

-- the names that were known have cases
pub below_after : (a b : State) (cases : List (Option (Case ObjectKey))) (from : ℕ) (more : List Listed)
    → from ≡ length a.order
    → IsListing a.names a.order → b.order ≡ a.order ++ more → IsWhole a cases → HaveCasesBelow b.order from cases
below_after a b cases from more count l order h = λ i e lt inside.
    let within : i < length a.order = omega (arith, lt, count) in
    let same : get_or b.order i e ≡ get_or a.order i e =
    ap (λ (xs : List Listed). get_or xs i e) order ∙ get_or_append_left a.order more e i within in
    subst (λ (x : Listed). HasCase cases x.1) (sym same)
    (h.complete (get_or a.order i e).1
    (named_listed a.names a.order i (get_or a.order i e).1 e l within refl))

pub unused_after : (a b : State) (from : ℕ) → from ≡ length a.order → b.objects ≡ a.objects
    → All (λ (e : Listed). entries_of e.0 a.objects ≡ []) (drop (length a.order) b.order) → AreUnused b from
unused_after a b from count same h =
    subst (λ (n : ℕ). All (λ (e : Listed). entries_of e.0 b.objects ≡ []) (drop n b.order)) (sym count)
    (λ j e l. ap (entries_of (get_or (drop (length a.order) b.order) j e).0) same ∙ h j e l)

none_more : {X : Type 0} (xs ys : List X) → length (xs ++ ys) ≡ length xs → xs ++ ys ≡ xs
none_more [] [] h = refl
none_more [] (y ∷ ys) h = absurd (omega (arith, h))
none_more (x ∷ xs) ys h = ap (λ (l : List _). x ∷ l) (none_more xs ys (omega (arith, h)))

-- no name became known
pub whole_same : (a b : State) (cases : List (Option (Case ObjectKey))) (more : List Listed) → IsListing b.names b.order
    → KeepsNames a.names b.names → b.order ≡ a.order ++ more → length b.order ≡ length a.order
    → HaveCasesBelow b.order (length a.order) cases → IsWhole a cases → IsWhole b cases
whole_same a b cases more l keeps order count below h = record {
  complete = λ k n.
      let at : StandsIn b.order k = stands_in b.names b.order k l n in
      subst (HasCase cases) (at.is ([], 0)) (below at.at ([], 0) (omega (arith, at.within, count)) at.within);
  only = λ k has. let n : HasName a.names k = h.only k has in (n.0, keeps k n.0 n.1);
}

-- ---- the text of the names

-- the names stand as they did
pub text_same : (a b : State) (text : Option (List Listed)) → b.order ≡ a.order → IsTextOf a text → IsTextOf b text
text_same a b text same h = subst (λ (names : List Listed). IfSome text (AreInOrder names)) (sym same) h

-- no name became known
pub text_none_more : (a b : State) (text : Option (List Listed)) (more : List Listed) → b.order ≡ a.order ++ more
    → length b.order ≡ length a.order → IsTextOf a text → IsTextOf b text
text_none_more a b text more order count =
    text_same a b text (order ∙ none_more a.order more (ap length (sym order) ∙ count))

-- it has the names before those that became known
pub text_before : (a b : State) (text : Option (List Listed)) (more : List Listed) (from : ℕ)
    → b.order ≡ a.order ++ more → from ≡ length a.order → IsTextOf a text → IfSome text (AreInOrder (take from b.order))
text_before a b text more from order count h =
    subst (λ (names : List Listed). IfSome text (AreInOrder names))
    (sym (ap (take from) order ∙ ap (λ (n : ℕ). take n (a.order ++ more)) count ∙ take-append_seam a.order more)) h

-- ---- new names get cases

some_same : (c d : Case ObjectKey) → Some c ≡ Some d → c ≡ d
some_same c d h = cc

some_none : (c : Case ObjectKey) → None ≡ Some c → ⊥
some_none c h = absurd (cc)

pub sound_given : (script : List Statement) (s : State) (old mid : List (Option (Case ObjectKey))) (n : ℕ)
    (c : Case ObjectKey)
    → ((k : ℕ) → case_at mid k ≡ case_at old k) → n < length mid → IsCase script s n c → AreCases script s old
    → AreCases script s (set mid n (Some c))
sound_given script s old mid n c same within is sound k x h =
    ⊎_elim
    (λ e.
    let there : case_at (set mid n (Some c)) k ≡ Some c =
    ap (case_at (set mid n (Some c))) e ∙ get_or-set_same mid n (Some c) None within in
    let one : c ≡ x = some_same c x (sym there ∙ h) in
    subst (λ (y : Case ObjectKey). IsCase script s k y) one (subst (λ (m : ℕ). IsCase script s m c) (sym e) is))
    (λ ne. sound k x (sym (same k) ∙ (sym (get_or-set_other mid n k (Some c) None ne) ∙ h)))
    (cases_eq k n)

pub kept_given : (old mid : List (Option (Case ObjectKey))) (n : ℕ) (c : Case ObjectKey)
    → ((k : ℕ) → case_at mid k ≡ case_at old k)
    → n < length mid → (k : ℕ) → HasCase old k → HasCase (set mid n (Some c)) k
kept_given old mid n c same within k h =
    ⊎_elim
    (λ e. (c, ap (case_at (set mid n (Some c))) e ∙ get_or-set_same mid n (Some c) None within))
    (λ ne. (h.0, get_or-set_other mid n k (Some c) None ne ∙ (same k ∙ h.1)))
    (cases_eq k n)

pub has_given : (mid : List (Option (Case ObjectKey))) (n : ℕ) (c : Case ObjectKey) → n < length mid
    → HasCase (set mid n (Some c)) n
has_given mid n c within = (c, get_or-set_same mid n (Some c) None within)

-- a name of the key of a place from which on no name is used has no entries
pub unused_at : (s : State) (from i k : ℕ) (e : Listed) → IsListing s.names s.order → AreUnused s from → from ≤ i
    → i < length s.order → (get_or s.order i e).1 ≡ k → (name : List ℕ) → IsNamed s.names k name
    → entries_of name s.objects ≡ []
unused_at s from i k e l h le lt is name n =
    let j : ℕ = i - from in
    let at : from + j ≡ i = omega (arith, le) in
    let here : get_or (drop from s.order) j e ≡ get_or s.order i e =
    get_or-drop from s.order j e ∙ ap (λ (m : ℕ). get_or s.order m e) at in
    let named : IsNamed s.names k (get_or s.order i e).0 =
    subst (λ (m : ℕ). IsNamed s.names m (get_or s.order i e).0) is (l.sound i e lt) in
    let same : (get_or (drop from s.order) j e).0 ≡ name =
    ap (λ (x : Listed). x.0) here ∙ one_name s.names k (get_or s.order i e).0 name named n in
    subst (λ (x : List ℕ). entries_of x s.objects ≡ []) same
    (h j e (omega (arith, lt, le, length-drop from s.order)))

pub both_ok : {E A C : Type 0} (r : Result (Unit {0}) E) → OnOk r A → (A → C) → OnOk r C
both_ok (Ok x) a f = f a
both_ok (Err e) a f = tt

-- all known names have cases
pub whole_settled : (script : List Statement) (a : State) (old new : List (Option (Case ObjectKey))) (from : ℕ)
    → IsListing a.names a.order → HaveCasesBelow a.order from old → HaveCasesFrom a.order from new
    → ((k : ℕ) → HasCase old k → HasCase new k) → AreCases script a new → IsWhole a new
whole_settled script a old new from l below above kept sound = record {
  complete = λ k n.
      let at : StandsIn a.order k = stands_in a.names a.order k l n in
      let e : Listed = ([], 0) in
      subst (HasCase new) (at.is e)
      (⊎_elim (λ lt. kept (get_or a.order at.at e).1 (below at.at e lt at.within)) (λ ge. above at.at e ge at.within)
      (cases_lt at.at from));
  only = λ k has. (sound k has.0 has.1).named;
}

-- ---- names are forgotten

pub kept_if : (key k : ℕ) (names : List (Option (List ℕ))) (cases : List (Option (Case ObjectKey))) (name : List ℕ)
    → IsNamed names key name
    → case_at cases k ≡ cond (eqb k key) (kept_where (slot names key) (case_at cases key)) (case_at cases k)
kept_if key k names cases name n =
    ⊎_elim
    (λ e.
    ap (case_at cases) e
    ∙ sym (ap (λ (o : Option (List ℕ)). kept_where o (case_at cases key)) n)
    ∙ sym (ap (λ (b : Bool). cond b (kept_where (slot names key) (case_at cases key)) (case_at cases k))
    (eq-eqb k key e)))
    (λ ne.
    sym (ap (λ (b : Bool). cond b (kept_where (slot names key) (case_at cases key)) (case_at cases k))
    (ne_eqb k key ne)))
    (cases_eq k key)

no_slot : (names : List (Option (List ℕ))) (key : ℕ) (o : Option (List ℕ)) → slot names key ≡ o
    → ((name : List ℕ) → IsNamed names key name → ⊥) → slot names key ≡ None
no_slot names key None e h = e
no_slot names key (Some name) e h = absurd (h name e)

pub cleared_if : (key k : ℕ) (names : List (Option (List ℕ))) (cases : List (Option (Case ObjectKey)))
    → key < length cases
    → ((name : List ℕ) → IsNamed names key name → ⊥)
    → case_at (set cases key None) k
    ≡ cond (eqb k key) (kept_where (slot names key) (case_at cases key)) (case_at cases k)
cleared_if key k names cases l h =
    ⊎_elim
    (λ e.
    ap (case_at (set cases key None)) e ∙ get_or-set_same cases key None None l
    ∙ sym (ap (λ (o : Option (List ℕ)). kept_where o (case_at cases key)) (no_slot names key (slot names key) refl h))
    ∙ sym (ap (λ (b : Bool). cond b (kept_where (slot names key) (case_at cases key)) (case_at cases k))
    (eq-eqb k key e)))
    (λ ne.
    get_or-set_other cases key k None None ne
    ∙ sym (ap (λ (b : Bool). cond b (kept_where (slot names key) (case_at cases key)) (case_at cases k))
    (ne_eqb k key ne)))
    (cases_eq k key)

-- the keys before a number have been gone through
pub record Cleaned (names : List (Option (List ℕ))) (old new : List (Option (Case ObjectKey)))
    (number : ℕ) : Type 0 where
  pub long : length new ≡ length old
  pub done : (k : ℕ) → k < number → case_at new k ≡ kept_where (slot names k) (case_at old k)
  pub rest : (k : ℕ) → number ≤ k → case_at new k ≡ case_at old k

pub none_cleaned : (names : List (Option (List ℕ))) (cases : List (Option (Case ObjectKey)))
    → Cleaned names cases cases 0
none_cleaned names cases = record { long = refl; done = λ k l. absurd (omega (arith, l)); rest = λ k l. refl }

pub one_cleaned : (names : List (Option (List ℕ))) (old mid new : List (Option (Case ObjectKey))) (number : ℕ)
    → length new ≡ length mid
    → ((k : ℕ) → case_at new k
    ≡ cond (eqb k number) (kept_where (slot names number) (case_at mid number)) (case_at mid k))
    → Cleaned names old mid number → Cleaned names old new (number + 1)
one_cleaned names old mid new number long at h = record {
  long = long ∙ h.long;
  done = λ k l.
      ⊎_elim
      (λ e.
      at k ∙ ap (λ (b : Bool). cond b (kept_where (slot names number) (case_at mid number)) (case_at mid k))
      (eq-eqb k number e)
      ∙ ap (kept_where (slot names number)) (h.rest number (omega arith))
      ∙ ap (λ (n : ℕ). kept_where (slot names n) (case_at old n)) (sym e))
      (λ ne.
      at k ∙ ap (λ (b : Bool). cond b (kept_where (slot names number) (case_at mid number)) (case_at mid k))
      (ne_eqb k number ne)
      ∙ h.done k (omega (arith, l, ne)))
      (cases_eq k number);
  rest = λ k l.
      at k ∙ ap (λ (b : Bool). cond b (kept_where (slot names number) (case_at mid number)) (case_at mid k))
      (ne_eqb k number (λ e. omega (arith, l, e)))
      ∙ h.rest k (omega (arith, l));
}

none_kept : (o : Option (List ℕ)) → None ≡ kept_where o None
none_kept None = refl
none_kept (Some name) = refl

pub all_cleaned : (names : List (Option (List ℕ))) (old new : List (Option (Case ObjectKey))) (number : ℕ)
    → length old ≤ number
    → Cleaned names old new number → AreKeptWhere names old new
all_cleaned names old new number past h k =
    ⊎_elim (λ lt. h.done k lt)
    (λ ge.
    let none : case_at old k ≡ None = get_or_past old k None (omega (arith, past, ge)) in
    h.rest k ge ∙ none ∙ none_kept (slot names k) ∙ sym (ap (kept_where (slot names k)) none))
    (cases_lt k number)

-- a name that is still known was known, and is used
pub record Remained (a : State) (k : ℕ) (name : List ℕ) : Type 0 where
  pub was : IsNamed a.names k name
  pub used : is_used a.objects name ≡ true

name_none : (name : List ℕ) → None ≡ Some name → ⊥
name_none name h = absurd (cc)

name_same : (x y : List ℕ) → Some x ≡ Some y → x ≡ y
name_same x y h = cc

pub remained : (a b : State) (k : ℕ) (name : List ℕ) → Forgets a b → IsNamed b.names k name → Remained a k name
remained a b k name f n = go (slot a.names k) refl
  where
    yes : (x : List ℕ) → slot a.names k ≡ Some x → (u : Bool) → is_used a.objects x ≡ u
        → slot b.names k ≡ cond (is_used a.objects x) (Some x) None → Remained a k name
    yes x e true u h =
        let same : x ≡ name =
        name_same x name (sym (h ∙ ap (λ (b : Bool). cond b (Some x) None) u) ∙ n) in
        record {
          was = e ∙ ap Some same;
          used = subst (λ (y : List ℕ). is_used a.objects y ≡ true) same u;
        }
    yes x e false u h = absurd (name_none name (sym (h ∙ ap (λ (b : Bool). cond b (Some x) None) u) ∙ n))

    go : (o : Option (List ℕ)) → slot a.names k ≡ o → Remained a k name
    go None e = absurd (name_none name (sym (f.others k e) ∙ n))
    go (Some x) e = yes x e (is_used a.objects x) refl (f.names k x e)

-- what is kept of the cases
kept_some : (o : Option (List ℕ)) (c : Option (Case ObjectKey)) (x : Case ObjectKey) → kept_where o c ≡ Some x
    → ((name : List ℕ) × (o ≡ Some name)) × (c ≡ Some x)
kept_some None c x h = absurd (some_none x h)
kept_some (Some name) c x h = ((name, refl), h)

same_objects : (a b : State) → Forgets a b → b.objects ≡ a.objects
same_objects a b f = ap (λ (s : State). s.objects) f.rest

pub whole_forgotten : (a b : State) (old new : List (Option (Case ObjectKey))) → Forgets a b
    → AreKeptWhere b.names old new
    → ((k : ℕ) (name : List ℕ) → IsNamed a.names k name → is_used a.objects name ≡ true → HasCase old k)
    → IsWhole b new
whole_forgotten a b old new f kept complete = record {
  complete = λ k n.
      let r : Remained a k n.0 = remained a b k n.0 f n.1 in
      let has : HasCase old k = complete k n.0 r.was r.used in
      (has.0, kept k ∙ ap (λ (o : Option (List ℕ)). kept_where o (case_at old k)) n.1 ∙ has.1);
  only = λ k has. (kept_some (slot b.names k) (case_at old k) has.0 (sym (kept k) ∙ has.1)).0;
}

pub sound_forgotten : (script : List Statement) (a b : State) (old new : List (Option (Case ObjectKey))) → Forgets a b
    → AreKeptWhere b.names old new → AreCases script a old → AreCases script b new
sound_forgotten script a b old new f kept sound k c h =
    let there = kept_some (slot b.names k) (case_at old k) c (sym (kept k) ∙ h) in
    let is : IsCase script a k c = sound k c there.1 in
    record {
      named = there.0;
      case = λ name n.
          is.case name (remained a b k name f n).was
          ∙ ap (λ (ts : List (ℕ × List NamedSymbol)).
          decided (is_assigned script name) (is_provided script name) (entries_of name ts))
          (sym (same_objects a b f));
    }

pub used_forgotten : (a b : State) → Forgets a b → KeepsUsed a b
used_forgotten a b f k name h used = f.names k name h ∙ ap (λ (b : Bool). cond b (Some name) None) used

pub used_twice : (a b d : State) → KeepsNames a.names b.names → b.objects ≡ a.objects → Forgets b d → KeepsUsed a d
used_twice a b d keeps same f k name h used =
    used_forgotten b d f k name (keeps k name h)
    (subst (λ (ts : List (ℕ × List NamedSymbol)). is_used ts name ≡ true) (sym same) used)

-- ---- memory was refused after names became known

used_not : (tables : List (ℕ × List NamedSymbol)) (name : List ℕ) → entries_of name tables ≡ []
    → is_used tables name ≡ false
used_not tables name e = ap (λ (ds : List Declaration). nat_lt 0 (length ds)) e

pub complete_refused : (s : State) (cases new : List (Option (Case ObjectKey))) (from : ℕ) → IsListing s.names s.order
    → HaveCasesBelow s.order from cases → AreUnused s from → ((k : ℕ) → HasCase cases k → HasCase new k)
    → (k : ℕ) (name : List ℕ) → IsNamed s.names k name → is_used s.objects name ≡ true → HasCase new k
complete_refused s cases new from l below unused kept k name n used =
    let at : StandsIn s.order k = stands_in s.names s.order k l (name, n) in
    let e : Listed = ([], 0) in
    ⊎_elim (λ lt. kept k (subst (HasCase cases) (at.is e) (below at.at e lt at.within)))
    (λ ge.
    absurd (clash (is_used s.objects name) used
    (used_not s.objects name (unused_at s from at.at k e l unused ge at.within (at.is e) name n))))
    (cases_lt at.at from)
  where
    clash : (b : Bool) → b ≡ true → b ≡ false → ⊥
    clash b p q = absurd (cc)

-- ---- ready

pub ready_come : (s : State) (cases : List (Option (Case ObjectKey))) (c : ObjectChange) (x : ObjectAt)
    → c.into ≡ Some x
    → Fits s.objects c → MayEnter s (symbols_at x) → IsReadyFor (record { names = s; cases = cases }) c
ready_come s cases c x e fits m = record {
  fits = fits;
  room = subst (λ (o : Option ObjectAt). MayFollow s c.key.0 c.out o) (sym e) (go c.out);
}
  where
    go : (out : Option ObjectAt) → MayFollow s c.key.0 out (Some x)
    go None = m
    go (Some y) = λ t w. w.others (symbols_at x) m

-- what is left after names without entries are forgotten is as it was
pub frame_forgotten : (s t : State) (before after : List (Option (Case ObjectKey))) → Forgets s t
    → AreKeptWhere t.names before after → OnlyDrops s.names t.names before after
frame_forgotten s t before after h kept k name named = (
  (remained s t k name h named).was,
  kept k ∙ ap (λ (n : Option (List ℕ)). kept_where n (case_at before k)) named,
)

-- a name that is known after names were added was known under its key, or stands behind the others
pub old_or_new : (a b : State) (more : List Listed) → IsListing a.names a.order → IsListing b.names b.order
    → KeepsNames a.names b.names → b.order ≡ a.order ++ more → AreOldOrNew a b
old_or_new a b more listed_a listed_b keeps split k name named =
    let s : StandsIn b.order k = stands_in b.names b.order k listed_b (name, named) in
    go s (cases_lt s.at (length a.order))
  where
    go : (s : StandsIn b.order k) → (s.at < length a.order) ⊎ (length a.order ≤ s.at)
        → IsNamed a.names k name ⊎ StandsFrom b.order (length a.order) k
    go s (inl below) =
        let same : (get_or a.order s.at ([], 0)).1 ≡ k =
        ap (λ (x : Listed). x.1) (sym (get_or_append_left a.order more ([], 0) s.at below))
        ∙ (ap (λ (xs : List Listed). (get_or xs s.at ([], 0)).1) (sym split) ∙ s.is ([], 0)) in
        let was : HasName a.names k = named_listed a.names a.order s.at k ([], 0) listed_a below same in
        let one : was.0 ≡ name = one_name b.names k was.0 name (keeps k was.0 was.1) named in
        inl (was.1 ∙ ap Some one)
    go s (inr least) = inr (s.at, least, s.within, s.is)

pub same_old : (a b : State) → ((n : ℕ) → slot b.names n ≡ slot a.names n) → AreOldOrNew a b
same_old a b same k name named = inl (sym (same k) ∙ named)

-- names that were added and have no entries are forgotten again
pub old_again : (a b c : State) → AreOldOrNew a b → Forgets b c → IsListing b.names b.order
    → AreUnused b (length a.order) → AreOldOrNew a c
old_again a b c h f listed unused k name named = go (h k name r.was)
  where
    r : Remained b k name
    r = remained b c k name f named

    go : IsNamed a.names k name ⊎ StandsFrom b.order (length a.order) k
        → IsNamed a.names k name ⊎ StandsFrom c.order (length a.order) k
    go (inl was) = inl was
    go (inr s) =
        let none = unused_at b (length a.order) s.0 k ([], 0) listed unused s.1 s.2 (s.3 ([], 0)) name r.was in
        let used : true ≡ false =
        sym r.used ∙ ap (λ (ds : List Declaration). nat_lt 0 (length ds)) none in
        absurd (let no_more : ⊥ = cc in no_more)
