-- Edits one after the other lead to one project or to one first refusal.
use Rattle.ldmodel_laws.proofs.Common.{AreNamesDistinct, Change, Err, List, Ok, Project, Result, [], ap, empty_project}
use Rattle.ldmodel_laws.proofs.Common.{link, refl, subst, suc, sym, ℕ, ◌∙◌, ◌∷◌, ◌≡◌, ◌≢◌}
use Rattle.ldmodel.specs.Edits.{After, Refusal}
use Rattle.ldmodel.specs.LinkCommand.{Course, ended, refused, accepted, LinkAnswer, Linked, RefusedAt, NoMemory}
use Rattle.ldmodel.specs.LinkCommand.{LinkAnswers, ObjectFile, RefusedEdit, link_edits}
use Rattle.ldmodel.specs.Options.{LinkOptions}

abbrev OneOutcome : Type 0
OneOutcome = (p : Project) (c : Change) (x y : Result Project Refusal) → After p c x → After p c y → x ≡ y

abbrev at : ℕ → Refusal → RefusedEdit
at n why = record { place = n; why = why }

module _ (one : OneOutcome) where
  pub one_course : (n : ℕ) (p : Project) (cs : List Change) (x y : Result Project RefusedEdit) → Course n p cs x
      → Course n p cs y → x ≡ y
  one_course n p [] x y ended ended = refl
  one_course n p (c ∷ cs) x y (refused {why = a} h) (refused {why = b} k) = let same : Err a ≡ Err b =
      one p c (Err a) (Err b) h k in let why : a ≡ b = cc in ap (λ w. Err (at n w)) why
  one_course n p (c ∷ cs) x y (refused {why = a} h) (accepted {next = q} k more) = let same : Err a ≡ Ok q =
      one p c (Err a) (Ok q) h k in absurd (let none : ⊥ = cc in none)
  one_course n p (c ∷ cs) x y (accepted {next = q} k more) (refused {why = a} h) = let same : Ok q ≡ Err a =
      one p c (Ok q) (Err a) k h in absurd (let none : ⊥ = cc in none)
  one_course n p (c ∷ cs) x y (accepted {next = q} h rest) (accepted {next = r} k others) =
      let same : Ok q ≡ Ok r = one p c (Ok q) (Ok r) h k in
      let next : q ≡ r = cc in
      one_course (suc n) r cs x y (subst (λ s. Course (suc n) s cs x) next rest) others

  one_answer : (options : LinkOptions) (script : List ℕ) (objects : List ObjectFile) (x y : LinkAnswer)
      → LinkAnswers options script objects x → LinkAnswers options script objects y → x ≢ NoMemory → y ≢ NoMemory → x
      ≡ y
  one_answer options script objects (Linked l) (Linked m) h k a b =
      let same : Ok h.0 ≡ Ok k.0 =
      one_course 0 (empty_project options) (link_edits script objects) (Ok h.0) (Ok k.0) h.1 k.1 in
      let project : h.0 ≡ k.0 = cc in
      ap Linked (h.2 ∙ ap link project ∙ sym k.2)
  one_answer options script objects (Linked l) (RefusedAt e) h k a b =
      let same : Ok h.0 ≡ Err e =
      one_course 0 (empty_project options) (link_edits script objects) (Ok h.0) (Err e) h.1 k in
      absurd (let none : ⊥ = cc in none)
  one_answer options script objects (Linked l) NoMemory h k a b = absurd (b refl)
  one_answer options script objects (RefusedAt e) (Linked m) h k a b =
      let same : Err e ≡ Ok k.0 =
      one_course 0 (empty_project options) (link_edits script objects) (Err e) (Ok k.0) h k.1 in
      absurd (let none : ⊥ = cc in none)
  one_answer options script objects (RefusedAt e) (RefusedAt f) h k a b =
      let same : Err e ≡ Err f = one_course 0 (empty_project options) (link_edits script objects) (Err e) (Err f) h k in
      let edit : e ≡ f = cc in
      ap RefusedAt edit
  one_answer options script objects (RefusedAt e) NoMemory h k a b = absurd (b refl)
  one_answer options script objects NoMemory y h k a b = absurd (a refl)

pub one_link_answer : OneOutcome
    → (options : LinkOptions) (script : List ℕ) (objects : List ObjectFile) (x y : LinkAnswer)
    → LinkAnswers options script objects x → LinkAnswers options script objects y → x ≢ NoMemory → y ≢ NoMemory → x ≡ y
one_link_answer one = one_answer one

pub stay_distinct : ((p q : Project) (c : Change) → AreNamesDistinct p.objects → After p c (Ok q)
    → AreNamesDistinct q.objects)
    → (n : ℕ) (p q : Project) (cs : List Change) → AreNamesDistinct p.objects → Course n p cs (Ok q)
    → AreNamesDistinct q.objects
stay_distinct keeps n p q [] d ended = d
stay_distinct keeps n p q (c ∷ cs) d (accepted {next = r} h rest) =
    stay_distinct keeps (suc n) r q cs (keeps p r c d h) rest
