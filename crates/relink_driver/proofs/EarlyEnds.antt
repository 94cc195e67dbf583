-- Early ends of a link, and its end.
use Rattle.relink_driver.proofs.Common.{Bool, Err, Layout, Link, LinkOptions, List, None, Ok, Option, Project}
use Rattle.relink_driver.proofs.Common.{SectionRef, Some, Statement, [], ap, arith, cond, entry_symbol, false}
use Rattle.relink_driver.proofs.Common.{faults_in, faulty, gathering_faults, good, image, layout, length, link}
use Rattle.relink_driver.proofs.Common.{ltb-false, map, map-map, map_text, max_image_length, name_faults, nat_lt}
use Rattle.relink_driver.proofs.Common.{of_length, option_or, placed, refl, relocated, shown, shown_map, sym, true}
use Rattle.relink_driver.proofs.Common.{unless, unwrap_or, without_map, ℕ, ◌<◌, ◌∙◌, ◌∷◌, ◌≡◌, ◌≤◌}
use Rattle.ldmodel.specs.Fault as model
use Rattle.ldmodel.specs.FaultCode.{fault_of}
use Rattle.ldmodel.specs.declared.fault.Fault as code
use Rattle.ldmodel.specs.declared.fault.Fault.TheVariants as variant
use Rattle.ldscript.specs.statements.Numbering.{entry_of}

-- without faults the link goes on
pub unless_none : (p : Project) (xs : List code.Fault) (fs : List model.Fault) (next : Link) → length xs ≡ 0
    → faults_in p xs ≡ fs → unless fs next ≡ next
unless_none p [] fs next h e = ap (λ (ys : List model.Fault). unless ys next) (sym e)
unless_none p (x ∷ xs) fs next h e = absurd (omega arith)

-- faults are the link
pub unless_some : (p : Project) (xs : List code.Fault) (fs : List model.Fault) (next : Link) → 0 < length xs
    → faults_in p xs ≡ fs → faulty (faults_in p xs) ≡ unless fs next
unless_some p [] fs next h e = absurd (omega arith)
unless_some p (x ∷ xs) fs next h e = ap (λ (ys : List model.Fault). unless ys next) e

-- where a link goes on whatever comes next there are none
pub none_of : (fs : List model.Fault) → ((next : Link) → unless fs next ≡ next) → fs ≡ []
none_of [] h = refl
none_of (f ∷ fs) h =
    let none : ⊥ = cc (ap (λ (l : Link). l.status) (h (record { status = 0; image = []; map = []; faults = [] }))) in
    absurd none

-- orphans as faults
pub orphans_as_faults : (p : Project) (keys : List SectionRef)
    → faults_in p (map variant.Orphan keys) ≡ map (λ (k : SectionRef). fault_of p (λ key. key) (variant.Orphan k)) keys
orphans_as_faults p keys = map-map (fault_of p (λ key. key)) variant.Orphan keys

-- the line of an entry symbol that nothing defines, where it is the only fault of the names: any project of the same
-- script and options has the same
pub entry_line : (p q : Project) → p.script ≡ q.script → p.options ≡ q.options
    → faults_in p (variant.UndefinedEntry ∷ []) ≡ name_faults p
    → link p ≡ faulty (faults_in q (variant.UndefinedEntry ∷ []))
unfolding link fault_of entry_symbol
entry_line p q script options alone =
    let line : Option (List ℕ) → Link = λ entry. faulty (model.UndefinedEntry (unwrap_or entry []) ∷ []) in
    ap (λ (fs : List model.Fault). unless fs (unless (gathering_faults p) (placed p (layout p)))) (sym alone)
    ∙ (ap (λ (o : LinkOptions). line (option_or o.entry (entry_of p.script))) options
    ∙ ap (λ (s : List Statement). line (option_or q.options.entry (entry_of s))) script)

-- an image that is not too long
pub short_of : (b : Bool) (m n : ℕ) (f : code.Fault) → nat_lt m n ≡ b → None ≡ cond b (Some f) None → n ≤ m
short_of true m n f e h = cc
short_of false m n f e h = ltb-false m n e

pub fitting : (b : Bool) (p : Project) (s : Layout) (m n : ℕ) (f : code.Fault) (g : model.Fault) → nat_lt m n ≡ b
    → None ≡ cond b (Some f) None
    → placed p (cond b (Err (g ∷ [])) (Ok s)) ≡ relocated p s
fitting true p s m n f g e h = cc
fitting false p s m n f g e h = refl

-- an image that is too long
too_long : (b : Bool) (p : Project) (s : Layout) (n : ℕ) (f : code.Fault)
    → Some f ≡ cond b (Some (variant.ImageTooLong n)) None
    → faulty (faults_in p (f ∷ [])) ≡ placed p (cond b (Err (model.ImageTooLong n ∷ [])) (Ok s))
unfolding fault_of
too_long true p s n f h =
    let same : f ≡ variant.ImageTooLong n = cc in
    ap (λ (x : code.Fault). faulty (faults_in p (x ∷ []))) same
too_long false p s n f h = cc

pub too_long_of : (p : Project) (s : Layout) (n : ℕ) (f : code.Fault)
    → Some f ≡ cond (nat_lt max_image_length n) (Some (variant.ImageTooLong n)) None
    → faulty (faults_in p (f ∷ [])) ≡ placed p (of_length n s)
too_long_of p s n f h = too_long (nat_lt max_image_length n) p s n f h

-- the end of a good link
pub ends_well : (p : Project) (s : Layout) (i m : List ℕ) → i ≡ image p s → m ≡ map_text p s → link p ≡ good p s
    → (let l : Link = record { status = 0; image = i; map = m; faults = [] } in l) ≡ link p
ends_well p s i m ei em rest =
    ap (λ (x : List ℕ). let l : Link = record { status = 0; image = x; map = m; faults = [] } in l) ei
    ∙ (ap (λ (x : List ℕ). let l : Link = record { status = 0; image = image p s; map = x; faults = [] } in l) em
    ∙ sym rest)

-- so it does with its map, or without
pub ends_shown : (with_map : Bool) (p : Project) (s : Layout) (i m : List ℕ) → i ≡ image p s
    → m ≡ shown_map with_map (map_text p s) → link p ≡ good p s
    → shown with_map (link p) ≡ (let l : Link = record { status = 0; image = i; map = m; faults = [] } in l)
ends_shown true p s i m ei em rest = sym (ends_well p s i m ei em rest)
ends_shown false p s i m ei em rest =
    ap without_map rest
    ∙ sym (ap (λ (x : List ℕ). let l : Link = record { status = 0; image = x; map = m; faults = [] } in l) ei
    ∙ ap (λ (x : List ℕ). let l : Link = record { status = 0; image = image p s; map = x; faults = [] } in l) em)

-- a link with faults has no map
pub faults_shown : (with_map : Bool) (l : Link) (lines : List ℕ)
    → l ≡ record { status = 1; image = []; map = []; faults = lines }
    → (let f : Link = record { status = 1; image = []; map = []; faults = lines } in f) ≡ shown with_map l
faults_shown true l lines e = sym e
faults_shown false l lines e = ap without_map (sym e)
