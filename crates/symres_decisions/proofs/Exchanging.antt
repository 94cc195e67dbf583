-- An object is taken out of a table of names, and another one entered.
use Rattle.symres_decisions.proofs.Common.{All-nil, AreKnown, CanCome, CanGo, HasObject, List, MayCome, MayEnter}
use Rattle.symres_decisions.proofs.Common.{MayFollow, NamedSymbol, None, ObjectAt, Option, PutsIn, Some, StandsAt}
use Rattle.symres_decisions.proofs.Common.{State, Table, TakesOut, ap, eq-eqb, get_or, length, put_in, slot, subst, sym}
use Rattle.symres_decisions.proofs.Common.{symbols_at, symbols_or, taken_out, ℕ, ◌∙◌, ◌≡◌, ◌≤◌}
use Rattle.symres_table.specs.Changes.{Enters, Withdraws}

-- ---- what goes

pub has_object : (ts : List Table) (key : ℕ) (o : Option ObjectAt) (x : ObjectAt) → o ≡ Some x → CanGo ts key o
    → HasObject key ts
has_object ts key o x e h =
    let at : StandsAt ts key x = subst (CanGo ts key) e h in
    (x.place, at.within, λ t. ap (λ (u : Table). u.0) (at.is t))

pub takes : (old new : State) (key : ℕ) (o : Option ObjectAt) (x : ObjectAt) → o ≡ Some x → Withdraws old new key
    → TakesOut old new key o
takes old new key o x e h = subst (TakesOut old new key) (sym e) h

pub out_objects : (old new : State) (key : ℕ) (out : Option ObjectAt) → TakesOut old new key out
    → new.objects ≡ taken_out old.objects key out
out_objects old new key None h = ap (λ (s : State). s.objects) h
out_objects old new key (Some x) h = h.objects

pub out_names : (old new : State) (key : ℕ) (out : Option ObjectAt) → TakesOut old new key out → new.names ≡ old.names
out_names old new key None h = ap (λ (s : State). s.names) h
out_names old new key (Some x) h = h.same.names

pub out_order : (old new : State) (key : ℕ) (out : Option ObjectAt) → TakesOut old new key out → new.order ≡ old.order
out_order old new key None h = ap (λ (s : State). s.order) h
out_order old new key (Some x) h = h.same.order

-- what went can be entered again
pub out_again : (old new : State) (key : ℕ) (out : Option ObjectAt) → CanGo old.objects key out
    → TakesOut old new key out → MayCome new out
out_again old new key None g h = tt
out_again old new key (Some x) g h =
    let t : Table = (key, symbols_at x) in
    subst (λ (u : Table). MayEnter new u.1) (g.is t)
    (h.again x.place t g.within (eq-eqb (get_or old.objects x.place t).0 key (ap (λ (u : Table). u.0) (g.is t))))

-- the names that it declared are known
pub out_known : (old new last : State) (key : ℕ) (out : Option ObjectAt) → last.names ≡ new.names
    → CanGo old.objects key out → TakesOut old new key out → AreKnown last.names (symbols_or out)
out_known old new last key None e g h = All-nil _
out_known old new last key (Some x) e g h = λ j d l seen.
    let m : MayEnter new (symbols_at x) = out_again old new key (Some x) g h in
    let k = m.known j d l seen in
    (k.0, ap (λ (ns : List (Option (List ℕ))). slot ns k.0) e ∙ k.1)

-- ---- what comes

pub come_place : (ts : List Table) (o : Option ObjectAt) (x : ObjectAt) → o ≡ Some x → CanCome ts o
    → x.place ≤ length ts
come_place ts o x e h = let there : CanCome ts (Some x) = subst (CanCome ts) e h in there

pub come_room : (s : State) (o : Option ObjectAt) (x : ObjectAt) → o ≡ Some x → MayCome s o → MayEnter s (symbols_at x)
come_room s o x e h = let there : MayCome s (Some x) = subst (MayCome s) e h in there

pub puts : (old new : State) (key : ℕ) (o : Option ObjectAt) (x : ObjectAt) → o ≡ Some x
    → Enters old new key x.place (symbols_at x) → PutsIn old new key o
puts old new key o x e h = subst (PutsIn old new key) (sym e) h

pub in_objects : (old new : State) (key : ℕ) (into : Option ObjectAt) → PutsIn old new key into
    → new.objects ≡ put_in old.objects key into
in_objects old new key None h = ap (λ (s : State). s.objects) h
in_objects old new key (Some x) h = h.objects

pub in_names : (old new : State) (key : ℕ) (into : Option ObjectAt) → PutsIn old new key into → new.names ≡ old.names
in_names old new key None h = ap (λ (s : State). s.names) h
in_names old new key (Some x) h = h.same.names

pub in_order : (old new : State) (key : ℕ) (into : Option ObjectAt) → PutsIn old new key into → new.order ≡ old.order
in_order old new key None h = ap (λ (s : State). s.order) h
in_order old new key (Some x) h = h.same.order

-- ---- the change back

abbrev pub Law : Type 0
Law = (first without with last : State) (key at : ℕ) (new symbols : List NamedSymbol)
    → Withdraws first without key → Enters without with key at new → Withdraws with last key
    → MayEnter without symbols → MayEnter last symbols

pub room_back : Law → (first mid last : State) (key : ℕ) (out into : Option ObjectAt) → CanGo first.objects key out
    → TakesOut first mid key out → PutsIn mid last key into → MayFollow last key into out
room_back law first mid last key out None g t p =
    subst (λ (s : State). MayCome s out) (sym p) (out_again first mid key out g t)
room_back law first mid last key None (Some y) g t p = λ u w. tt
room_back law first mid last key (Some x) (Some y) g t p = λ u w.
    law first mid last u key y.place (symbols_at y) (symbols_at x) t p w (out_again first mid key (Some x) g t)
