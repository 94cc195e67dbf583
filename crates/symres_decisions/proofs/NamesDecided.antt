-- Names that a symbol table declares are decided, each once.
use Rattle.symres_decisions.proofs.Common.{AreCases, AreDistinct, AreDone, AreOpen, Bool, Case, Counts, DecidedFor}
use Rattle.symres_decisions.proofs.Common.{DecidesOnce, HasCase, IsCase, IsNamed, KeepsCases, List, NamedSymbol, None}
use Rattle.symres_decisions.proofs.Common.{ObjectKey, Option, Some, State, Statement, [], ap, append-nil, append_assoc}
use Rattle.symres_decisions.proofs.Common.{arith, bytes_eq, bytes_eq-Decides, case_at, cases_eq, declared_in, distinct}
use Rattle.symres_decisions.proofs.Common.{false, get_or-set_other, get_or-set_same, inl, inr, is_local, is_member}
use Rattle.symres_decisions.proofs.Common.{length, length-set, raised, refl, set, subst, sym, true, true≢false, ℕ}
use Rattle.symres_decisions.proofs.Common.{⊎_elim, ◌++◌, ◌+◌, ◌<◌, ◌^◌, ◌||◌, ◌∙◌, ◌∷◌, ◌≡◌}
use Rattle.elfobj.specs.declared.meter.Count.TheVariants as counts
use Rattle.symres_decisions.proofs.Clearing.{declared_local, declared_seen}
use Rattle.symres_decisions.proofs.Distinct.{member_append, member_pushed, old_pushed, pushed_new}
use Rattle.symres_decisions.proofs.OneName.{one_name, raised_none, raised_twice}

pub none_named : (script : List Statement) (s : State) (cases : List (Option (Case ObjectKey))) (m : Counts)
    (seen : List (List ℕ))
    → m.names < 2 ^ 64 → AreCases script s cases → AreDone s.names cases seen
    → DecidedFor script s cases cases m m seen []
none_named script s cases m seen small sound done = record {
  long = refl;
  kept = λ k c h. h;
  sound = sound;
  done = subst (AreDone s.names cases) (sym (append-nil seen)) done;
  others = λ k name n e. refl;
  count = 0;
  counted = raised_none m small;
  each = omega (arith, ap (λ (ns : List (List ℕ)). length (distinct ns)) (append-nil seen));
}

pub named_local : (script : List Statement) (s : State) (start cases : List (Option (Case ObjectKey))) (m m' : Counts)
    (seen : List (List ℕ)) (ss : List NamedSymbol) (x : NamedSymbol) → is_local x.symbol.binding ≡ true
    → DecidedFor script s start cases m m' seen ss → DecidedFor script s start cases m m' seen (ss ++ x ∷ [])
named_local script s start cases m m' seen ss x e d =
    let same : seen ++ declared_in (ss ++ x ∷ []) ≡ seen ++ declared_in ss =
    ap (λ (ns : List (List ℕ)). seen ++ ns) (declared_local ss x e) in
    record {
      long = d.long;
      kept = d.kept;
      sound = d.sound;
      done = subst (AreDone s.names cases) (sym same) d.done;
      others = λ k name n q.
          d.others k name n (ap (λ (ns : List (List ℕ)). is_member bytes_eq ns name) (sym same) ∙ q);
      count = d.count;
      counted = d.counted;
      each = omega (arith, d.each, ap (λ (ns : List (List ℕ)). length (distinct ns)) same);
    }

-- one more name has a case
done_more : (s : State) (cases : List (Option (Case ObjectKey))) (n : ℕ) (name : List ℕ) (ns : List (List ℕ))
    → AreDistinct s.names
    → IsNamed s.names n name → HasCase cases n → AreDone s.names cases ns → AreDone s.names cases (ns ++ name ∷ [])
done_more s cases n name ns d here has done q h k is =
    go (is_member bytes_eq ns q) refl (sym (member_pushed ns name q) ∙ h)
  where
    last : (b : Bool) → bytes_eq q name ≡ b → b ≡ true → HasCase cases k
    last true e t =
        let same : q ≡ name = (bytes_eq-Decides q name).0 e in
        let key : k ≡ n = d k n name (subst (IsNamed s.names k) same is) here in
        subst (HasCase cases) (sym key) has
    last false e t = absurd (cc)

    go : (b : Bool) → is_member bytes_eq ns q ≡ b → (is_member bytes_eq ns q || bytes_eq q name) ≡ true
        → HasCase cases k
    go true e t = done q e k is
    go false e t =
        last (bytes_eq q name) refl (sym (ap (λ (b : Bool). b || bytes_eq q name) e) ∙ t)

-- the names with one more
names_more : (seen : List (List ℕ)) (ss : List NamedSymbol) (x : NamedSymbol) → is_local x.symbol.binding ≡ false
    → seen ++ declared_in (ss ++ x ∷ []) ≡ (seen ++ declared_in ss) ++ x.name ∷ []
names_more seen ss x e =
    ap (λ (ns : List (List ℕ)). seen ++ ns) (declared_seen ss x e)
    ∙ sym (append_assoc seen (declared_in ss) (x.name ∷ []))

some_none : (c : Case ObjectKey) → Some c ≡ None → ⊥
some_none c h = absurd (cc)

or_left : (a b : Bool) → (a || b) ≡ false → a ≡ false
or_left true b h = absurd (cc)
or_left false b h = refl

or_right : (a b : Bool) → (a || b) ≡ false → b ≡ false
or_right true b h = absurd (cc)
or_right false b h = h

-- a name that is not among these, nor is it the last one
not_before : (ns : List (List ℕ)) (x q : List ℕ) → is_member bytes_eq (ns ++ x ∷ []) q ≡ false
    → is_member bytes_eq ns q ≡ false
not_before ns x q h = or_left (is_member bytes_eq ns q) (bytes_eq q x) (sym (member_pushed ns x q) ∙ h)

not_last : (ns : List (List ℕ)) (x q : List ℕ) → is_member bytes_eq (ns ++ x ∷ []) q ≡ false → q ≡ x → ⊥
not_last ns x q h same =
    true≢false
    (sym ((bytes_eq-Decides q x).1 same)
    ∙ or_right (is_member bytes_eq ns q) (bytes_eq q x) (sym (member_pushed ns x q) ∙ h))

-- a name that has a case is one of those that were decided
was_decided : (script : List Statement) (s : State) (start cases : List (Option (Case ObjectKey))) (m m' : Counts)
    (pending seen : List (List ℕ)) (ss : List NamedSymbol) (name : List ℕ) (n : ℕ) → IsNamed s.names n name
    → HasCase cases n → AreOpen s.names start pending seen → is_member bytes_eq pending name ≡ true
    → DecidedFor script s start cases m m' seen ss → is_member bytes_eq (seen ++ declared_in ss) name ≡ true
was_decided script s start cases m m' pending seen ss name n here has free among d =
    go (is_member bytes_eq (seen ++ declared_in ss) name) refl
  where
    go : (b : Bool) → is_member bytes_eq (seen ++ declared_in ss) name ≡ b
        → is_member bytes_eq (seen ++ declared_in ss) name ≡ true
    go true e = e
    go false e =
        let unseen : is_member bytes_eq seen name ≡ false =
        or_left (is_member bytes_eq seen name) (is_member bytes_eq (declared_in ss) name)
        (sym (member_append seen (declared_in ss) name) ∙ e) in
        absurd (some_none has.0 (sym has.1 ∙ (d.others n name here e ∙ free name among unseen n here)))

again : (script : List Statement) (s : State) (start cases : List (Option (Case ObjectKey))) (m m' : Counts)
    (pending seen : List (List ℕ)) (ss : List NamedSymbol) (x : NamedSymbol) (n : ℕ) → AreDistinct s.names
    → is_local x.symbol.binding ≡ false → IsNamed s.names n x.name → HasCase cases n
    → AreOpen s.names start pending seen → is_member bytes_eq pending x.name ≡ true
    → DecidedFor script s start cases m m' seen ss → DecidedFor script s start cases m m' seen (ss ++ x ∷ [])
again script s start cases m m' pending seen ss x n apart e here has free among d =
    let there : is_member bytes_eq (seen ++ declared_in ss) x.name ≡ true =
    was_decided script s start cases m m' pending seen ss x.name n here has free among d in
    let more : seen ++ declared_in (ss ++ x ∷ []) ≡ (seen ++ declared_in ss) ++ x.name ∷ [] = names_more seen ss x e in
    record {
      long = d.long;
      kept = d.kept;
      sound = d.sound;
      done = subst (AreDone s.names cases) (sym more)
          (done_more s cases n x.name (seen ++ declared_in ss) apart here has d.done);
      others = λ k name n q.
          d.others k name n
          (not_before (seen ++ declared_in ss) x.name name
          (ap (λ (ns : List (List ℕ)). is_member bytes_eq ns name) (sym more) ∙ q));
      count = d.count;
      counted = d.counted;
      each = omega (
        arith,
        d.each,
        ap length (old_pushed (seen ++ declared_in ss) x.name there),
        ap (λ (ns : List (List ℕ)). length (distinct ns)) more,
      );
    }

kept_set : (start cases : List (Option (Case ObjectKey))) (n : ℕ) (c : Case ObjectKey) → case_at cases n ≡ None
    → KeepsCases start cases
    → KeepsCases start (set cases n (Some c))
kept_set start cases n c none kept k x h =
    ⊎_elim
    (λ e. absurd (some_none x (sym (kept k x h) ∙ (ap (case_at cases) e ∙ none))))
    (λ ne. get_or-set_other cases n k (Some c) None ne ∙ kept k x h)
    (cases_eq k n)

some_same : (c d : Case ObjectKey) → Some c ≡ Some d → c ≡ d
some_same c d h = cc

sound_set : (script : List Statement) (s : State) (cases : List (Option (Case ObjectKey))) (n : ℕ) (c : Case ObjectKey)
    → n < length cases
    → IsCase script s n c → AreCases script s cases → AreCases script s (set cases n (Some c))
sound_set script s cases n c within is sound k x h =
    ⊎_elim
    (λ e.
    let there : case_at (set cases n (Some c)) k ≡ Some c =
    ap (case_at (set cases n (Some c))) e ∙ get_or-set_same cases n (Some c) None within in
    let one : c ≡ x = some_same c x (sym there ∙ h) in
    subst (λ (y : Case ObjectKey). IsCase script s k y) one (subst (λ (m : ℕ). IsCase script s m c) (sym e) is))
    (λ ne. sound k x (sym (get_or-set_other cases n k (Some c) None ne) ∙ h))
    (cases_eq k n)

done_set : (s : State) (cases : List (Option (Case ObjectKey))) (n : ℕ) (c : Case ObjectKey) (ns : List (List ℕ))
    → n < length cases
    → AreDone s.names cases ns → AreDone s.names (set cases n (Some c)) ns
done_set s cases n c ns l done q h k is =
    ⊎_elim
    (λ e. (c, ap (case_at (set cases n (Some c))) e ∙ get_or-set_same cases n (Some c) None l))
    (λ ne. let has : HasCase cases k = done q h k is in
    (has.0, get_or-set_other cases n k (Some c) None ne ∙ has.1))
    (cases_eq k n)

-- a name without a case is new
is_new : (s : State) (cases : List (Option (Case ObjectKey))) (n : ℕ) (name : List ℕ) (ns : List (List ℕ))
    → IsNamed s.names n name
    → case_at cases n ≡ None → AreDone s.names cases ns → (b : Bool) → is_member bytes_eq ns name ≡ b
    → is_member bytes_eq ns name ≡ false
is_new s cases n name ns here none done true e =
    let has : HasCase cases n = done name e n here in absurd (some_none has.0 (sym has.1 ∙ none))
is_new s cases n name ns here none done false e = e

anew : (script : List Statement) (s : State) (start cases : List (Option (Case ObjectKey))) (m m1 m2 : Counts)
    (seen : List (List ℕ)) (ss : List NamedSymbol) (x : NamedSymbol) (n : ℕ) (c : Case ObjectKey) → AreDistinct s.names
    → is_local x.symbol.binding ≡ false → IsNamed s.names n x.name → n < length cases → case_at cases n ≡ None
    → IsCase script s n c → m2 ≡ raised m1 counts.Names 1 → DecidedFor script s start cases m m1 seen ss
    → DecidedFor script s start (set cases n (Some c)) m m2 seen (ss ++ x ∷ [])
anew script s start cases m m1 m2 seen ss x n c apart e here l none is up d =
    let ns : List (List ℕ) = seen ++ declared_in ss in
    let more : seen ++ declared_in (ss ++ x ∷ []) ≡ ns ++ x.name ∷ [] = names_more seen ss x e in
    let fresh : is_member bytes_eq ns x.name ≡ false =
    is_new s cases n x.name ns here none d.done (is_member bytes_eq ns x.name) refl in
    record {
      long = length-set cases n (Some c) ∙ d.long;
      kept = kept_set start cases n c none d.kept;
      sound = sound_set script s cases n c l is d.sound;
      done = subst (AreDone s.names (set cases n (Some c))) (sym more)
          (done_more s (set cases n (Some c)) n x.name ns apart here (c, get_or-set_same cases n (Some c) None l)
          (done_set s cases n c ns l d.done));
      others = λ k name named q.
          let out : is_member bytes_eq (ns ++ x.name ∷ []) name ≡ false =
          ap (λ (ns : List (List ℕ)). is_member bytes_eq ns name) (sym more) ∙ q in
          let ne : k ≡ n → ⊥ =
          λ same.
          not_last ns x.name name out
          (one_name s.names n name x.name (subst (λ (j : ℕ). IsNamed s.names j name) same named) here) in
          get_or-set_other cases n k (Some c) None ne ∙ d.others k name named (not_before ns x.name name out);
      count = d.count + 1;
      counted = up ∙ ap (λ (y : Counts). raised y counts.Names 1) d.counted ∙ raised_twice m d.count 1;
      each = omega (
        arith,
        d.each,
        pushed_new ns x.name fresh,
        ap (λ (ns : List (List ℕ)). length (distinct ns)) more,
      );
    }

pub named_seen : (script : List Statement) (s : State) (start old new : List (Option (Case ObjectKey)))
    (m m1 m2 : Counts)
    (pending seen : List (List ℕ)) (ss : List NamedSymbol) (x : NamedSymbol) (n : ℕ) → AreDistinct s.names
    → is_local x.symbol.binding ≡ false → IsNamed s.names n x.name → n < length old
    → AreOpen s.names start pending seen → is_member bytes_eq pending x.name ≡ true
    → DecidesOnce script s n old new m1 m2 → DecidedFor script s start old m m1 seen ss
    → DecidedFor script s start new m m2 seen (ss ++ x ∷ [])
named_seen script s start old new m m1 m2 pending seen ss x n apart e here l free among (inl h) d =
    subst (λ (cs : List (Option (Case ObjectKey))). DecidedFor script s start cs m m2 seen (ss ++ x ∷ [])) (sym h.1)
    (subst (λ (y : Counts). DecidedFor script s start old m y seen (ss ++ x ∷ [])) (sym h.2)
    (again script s start old m m1 pending seen ss x n apart e here h.0 free among d))
named_seen script s start old new m m1 m2 pending seen ss x n apart e here l free among (inr h) d =
    subst (λ (cs : List (Option (Case ObjectKey))). DecidedFor script s start cs m m2 seen (ss ++ x ∷ [])) (sym h.cases)
    (anew script s start old m m1 m2 seen ss x n h.which apart e here l h.none h.is h.counted d)
