-- Objects that are added one after the other.
use Rattle.relink_driver.proofs.Common.{Add, Adds, After, EndsAt, Err, LinkFault, LinkOptions, List, Memory, Ok}
use Rattle.relink_driver.proofs.Common.{Prepares, Project, Refused, Result, SetScript, [], add-one, arith}
use Rattle.relink_driver.proofs.Common.{empty_project, length, refl, refused_at, subst, suc, sym, ℕ, ◌+◌, ◌∙◌, ◌∷◌, ◌≡◌}
use Rattle.ldmodel.specs.LinkCommand.{Course, ended, refused, accepted, ObjectFile, RefusedEdit, additions, Linking}
use Rattle.ldmodel.specs.LinkCommand.{link_edits}

-- the first `n` of all objects are added, and these are left: how it goes on, it ends
pub record Reached (old : Project) (all : List ObjectFile) (n : ℕ) (now : Project)
    (left : List ObjectFile) : Type 0 where
  pub on : (r : Result Project RefusedEdit) → Course (suc n) now (additions n left) r
      → Course 1 old (additions 0 all) r

pub begun : (old : Project) (all left : List ObjectFile) → left ≡ all → Reached old all 0 old left
begun old all left same =
    record { on = λ r rest. subst (λ (xs : List ObjectFile). Course 1 old (additions 0 xs) r) same rest }

pub stepped : {old now next : Project} {all left more : List ObjectFile} {n : ℕ} {f : ObjectFile}
    → Reached old all n now left → left ≡ f ∷ more → After now (Add f.word n f.bytes) (Ok next)
    → Reached old all (n + 1) next more
stepped {old = old} {now = now} {next = next} {all = all} {left = left} {more = more} {n = n} {f = f}
    reached same after =
    let whole : Reached old all n now (f ∷ more) = subst
    (λ (xs : List ObjectFile). Reached old all n now xs) same reached in
    subst (λ (m : ℕ). Reached old all m next more) (sym (add-one n))
    (record {
      on = λ r rest. whole.on r
          (accepted after (subst (λ (m : ℕ). Course (suc (suc n)) next (additions m more) r) (sym (add-one n)) rest));
    })

pub ending : {old now : Project} {all left : List ObjectFile} {n : ℕ}
    → Reached old all n now left → left ≡ [] → Adds old all now (Ok tt)
ending {old = old} {now = now} {all = all} {left = left} {n = n} reached same =
    let whole : Reached old all n now [] = subst (λ (xs : List ObjectFile). Reached old all n now xs) same reached in
    whole.on (Ok now) ended

pub stopped : {old now : Project} {all left more : List ObjectFile} {n : ℕ} {f : ObjectFile} (new : Project)
    (e : LinkFault) → Reached old all n now left → left ≡ f ∷ more → EndsAt (n + 1) now (Add f.word n f.bytes) e
    → Adds old all new (Err e)
stopped {old = old} {now = now} {all = all} {left = left} {more = more} {n = n} {f = f} new
    (Refused place why) reached same ends =
    let whole : Reached old all n now (f ∷ more) = subst
    (λ (xs : List ObjectFile). Reached old all n now xs) same reached in
    let spot : place ≡ suc n = ends.0 ∙ add-one n in
    rw spot (whole.on (Err (refused_at (suc n) why)) (refused ends.1))
stopped new (Memory _) reached same ends = tt

pub none_left : {X : Type 0} (xs : List X) → length xs ≡ 0 → xs ≡ []
none_left [] none = refl
none_left (x ∷ xs) none = absurd (omega arith)

-- the script is set, and then the objects are added
pub scripted : {first mid : Project} (options : LinkOptions) (script : List ℕ) (files : List ObjectFile)
    (r : Result Project RefusedEdit) → first ≡ empty_project options → After first (SetScript script) (Ok mid)
    → Course 1 mid (additions 0 files) r → Linking options script files r
scripted options script files r empty after rest =
    subst (λ (p : Project). Course 0 p (link_edits script files) r) empty (accepted after rest)

pub refused_script : {first : Project} (options : LinkOptions) (script : List ℕ) (files : List ObjectFile)
    (e : LinkFault) → first ≡ empty_project options → EndsAt 0 first (SetScript script) e
    → Prepares options script files (Err e)
refused_script options script files (Refused place why) empty ends =
    rw ends.0 (subst (λ (p : Project). Course 0 p (link_edits script files) (Err (refused_at 0 why))) empty
    (refused ends.1))
refused_script options script files (Memory _) empty ends = tt

pub refused_object : {first mid : Project} (new : Project) (options : LinkOptions) (script : List ℕ)
    (files : List ObjectFile) (e : LinkFault) → first ≡ empty_project options → After first (SetScript script) (Ok mid)
    → Adds mid files new (Err e) → Prepares options script files (Err e)
refused_object new options script files (Refused place why) empty after ends =
    scripted options script files (Err (refused_at place why)) empty after ends
refused_object new options script files (Memory _) empty after ends = tt
