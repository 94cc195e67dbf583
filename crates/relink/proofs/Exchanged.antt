-- The matches of all objects, while one object changes.
use Rattle.relink.proofs.Common.{AllZip, IfSome, IsAmong, IsMatched, List, Listed, Matches, NamedObject, None, Option}
use Rattle.relink.proofs.Common.{Some, Statement, ap, arith, found_under, insert, is_some, length, length-insert}
use Rattle.relink.proofs.Common.{length-map, length-remove, named_under, objects_of, refl, remove, slice_get, subst}
use Rattle.relink.proofs.Common.{sym, true, unedited, unnamed, unwrap_or, ℕ, ◌<◌, ◌∙◌, ◌≡◌, ◌≤◌}
use Rattle.relink.specs.Matches.{IsMatchedOr, exchanged, gone_at, put_at, taken_at}
use Rattle.relink.proofs.Lists.{get_some, insert_get, map_insert, remove_insert, zip_insert, zip_remove}

-- where the element of a place is put in again, the list is as it was
put_back : (ms : List Matches) (p : ℕ) → p < length ms → put_at (remove ms p) (Some p) (slice_get ms p) ≡ ms
put_back ms p l =
    let x = get_some ms p l in
    ap (λ (m : Option Matches). put_at (remove ms p) (Some p) m) x.1 ∙ insert_get ms p x.0 x.1

-- where what comes may stand
abbrev pub MayStand : List Matches → (out into : Option ℕ) → Type 0
MayStand ms out None = Unit {0}
MayStand ms out (Some q) = q ≤ length (taken_at ms out)

abbrev pub Stands : List Matches → Option ℕ → Type 0
Stands ms None = Unit {0}
Stands ms (Some p) = p < length ms

-- after the exchange back the list is as it was
pub exchanged_back : (ms : List Matches) (out into : Option ℕ) (coming : Option Matches) → Stands ms out
    → MayStand ms out into → is_some into ≡ is_some coming
    → exchanged (exchanged ms out into coming) into out (gone_at ms out) ≡ ms
exchanged_back ms None None coming h k e = refl
exchanged_back ms None (Some q) None h k e = absurd (cc)
exchanged_back ms None (Some q) (Some m) h k e = remove_insert ms q m k
exchanged_back ms (Some p) None coming h k e = put_back ms p h
exchanged_back ms (Some p) (Some q) None h k e = absurd (cc)
exchanged_back ms (Some p) (Some q) (Some m) h k e =
    ap (λ (l : List Matches). put_at l (Some p) (slice_get ms p)) (remove_insert (remove ms p) q m k) ∙ put_back ms p h

-- without the touched object the matches are those of the others
pub zip_taken : (script : List Statement) (key : ℕ) (place : Option ℕ) (entries : List Listed) (ms : List Matches)
    → IsAmong (Some key) place entries → AllZip (IsMatched script) (objects_of entries) ms
    → AllZip (IsMatched script) (objects_of (unedited (Some key) entries)) (taken_at ms place)
zip_taken script key None entries ms h all =
    subst (λ (es : List Listed). AllZip (IsMatched script) (objects_of es) ms) h all
zip_taken script key (Some p) entries ms h all =
    let rest : List Listed = unedited (Some key) entries in
    let here : Listed = record { key = key; named = named_under entries key } in
    let objects : objects_of entries ≡ insert (objects_of rest) p here.named =
    ap objects_of h.1 ∙ map_insert (λ (e : Listed). e.named) rest p here in
    subst (λ (os : List NamedObject). AllZip (IsMatched script) os (remove ms p))
    (ap (λ (os : List NamedObject). remove os p) objects
    ∙ remove_insert (objects_of rest) p here.named (objects_long rest p h.0))
    (zip_remove (IsMatched script) (objects_of entries) ms p all)
  where
    objects_long : (es : List Listed) (i : ℕ) → i ≤ length es → i ≤ length (objects_of es)
    objects_long es i l = omega (arith, l, length-map es (λ (e : Listed). e.named))

-- with it they are those of all
pub zip_put : (script : List Statement) (key : ℕ) (place : Option ℕ) (next : List Listed) (ms : List Matches)
    (coming : Option Matches) → IsAmong (Some key) place next → is_some place ≡ is_some (found_under next key)
    → IsMatchedOr script (found_under next key) coming
    → AllZip (IsMatched script) (objects_of (unedited (Some key) next)) ms
    → AllZip (IsMatched script) (objects_of next) (put_at ms place coming)
zip_put script key None next ms coming h e m all =
    subst (λ (es : List Listed). AllZip (IsMatched script) (objects_of es) ms) (sym h) all
zip_put script key (Some q) next ms coming h e m all =
    let rest : List Listed = unedited (Some key) next in
    let here : Listed = record { key = key; named = named_under next key } in
    let objects : objects_of next ≡ insert (objects_of rest) q here.named =
    ap objects_of h.1 ∙ map_insert (λ (x : Listed). x.named) rest q here in
    subst (λ (os : List NamedObject). AllZip (IsMatched script) os (put_at ms (Some q) coming)) (sym objects)
    (put_of (found_under next key) coming e m)
  where
    put_of : (f : Option NamedObject) (c : Option Matches) → true ≡ is_some f → IsMatchedOr script f c
        → AllZip (IsMatched script) (insert (objects_of (unedited (Some key) next)) q (unwrap_or f unnamed))
        (put_at ms (Some q) c)
    put_of None c e m = absurd (cc)
    put_of (Some o) None e m = absurd m
    put_of (Some o) (Some c) e m =
        zip_insert (IsMatched script) (objects_of (unedited (Some key) next)) ms q o c all m

-- where something comes there is something to come
pub comes_some : (script : List Statement) (f : Option NamedObject) (c : Option Matches) → IsMatchedOr script f c
    → is_some f ≡ is_some c
comes_some script None None m = refl
comes_some script None (Some c) m = absurd m
comes_some script (Some o) None m = absurd m
comes_some script (Some o) (Some c) m = refl

-- ---- places in a list of a length

pub out_within : (ms : List Matches) (out : Option ℕ) (n : ℕ) → Stands ms out → length ms ≡ n → IfSome out (λ p. p < n)
out_within ms None n h e = tt
out_within ms (Some p) n h e = omega (arith, h, e)

pub into_within : (ms : List Matches) (out into : Option ℕ) (n : ℕ) → Stands ms out → MayStand ms out into
    → length ms ≡ n → IfSome into (λ q. IfSome out (λ _. q < n))
into_within ms out None n h k e = tt
into_within ms None (Some q) n h k e = tt
into_within ms (Some p) (Some q) n h k e = omega (arith, k, length-remove ms p h, e)

pub added_within : (ms : List Matches) (out into : Option ℕ) (n : ℕ) → Stands ms out → MayStand ms out into
    → length ms ≡ n → IfSome into (λ q. q ≤ n)
added_within ms out None n h k e = tt
added_within ms None (Some q) n h k e = omega (arith, k, e)
added_within ms (Some p) (Some q) n h k e = omega (arith, k, length-remove ms p h, e)

-- where they are after the exchange
pub stands_after : (ms : List Matches) (out into : Option ℕ) (coming : Option Matches) → MayStand ms out into
    → is_some into ≡ is_some coming → Stands (exchanged ms out into coming) into
stands_after ms out None coming k e = tt
stands_after ms out (Some q) None k e = absurd (cc)
stands_after ms out (Some q) (Some m) k e = omega (arith, k, length-insert (taken_at ms out) q m k)

pub may_after : (ms : List Matches) (out into : Option ℕ) (coming : Option Matches) → Stands ms out
    → MayStand ms out into → is_some into ≡ is_some coming → MayStand (exchanged ms out into coming) into out
may_after ms None into coming h k e = tt
may_after ms (Some p) None coming h k e = omega (arith, h, length-remove ms p h)
may_after ms (Some p) (Some q) None h k e = absurd (cc)
may_after ms (Some p) (Some q) (Some m) h k e =
    omega (
      arith,
      h,
      length-remove ms p h,
      ap (λ (l : List Matches). length l) (remove_insert (remove ms p) q m k),
    )

-- exchanges of the same
pub exchanged_as : (v ms : List Matches) (o p i q : Option ℕ) (m n : Option Matches) → v ≡ ms → o ≡ p → i ≡ q → m ≡ n
    → exchanged v o i m ≡ exchanged ms p q n
exchanged_as v ms o p i q m n ev eo ei em =
    ap (λ (l : List Matches). exchanged l o i m) ev
    ∙ (ap (λ (x : Option ℕ). exchanged ms x i m) eo
    ∙ (ap (λ (x : Option ℕ). exchanged ms p x m) ei ∙ ap (λ (x : Option Matches). exchanged ms p q x) em))

pub gone_as : (v ms : List Matches) (o p : Option ℕ) → v ≡ ms → o ≡ p → gone_at v o ≡ gone_at ms p
gone_as v ms o p ev eo = ap (λ (l : List Matches). gone_at l o) ev ∙ ap (gone_at ms) eo
