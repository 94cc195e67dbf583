-- What several edits of a deferred session count, and one link after them.
use Rattle.relink.proofs.Common.{Bool, Change, Counts, CountsNames, Deferred, LinkTables, List, Option, Project}
use Rattle.relink.proofs.Common.{ProjectState, Staged, [], ap, arith, capped, distinct, false, held, inl, inr, is_some}
use Rattle.relink.proofs.Common.{length, names_of_edit, next_listing, objects_read, project_of, refl, subst, sym, true}
use Rattle.relink.proofs.Common.{ℕ, ◌+◌, ◌<◌, ◌^◌, ◌∙◌, ◌∷◌, ◌≡◌, ◌≤◌}
use Rattle.relink.specs.DeferredWork.{AreEdits, EditStep, IsEditWork, IsLinkingWork, IsWorkOfEdits}
use Rattle.relink.specs.DeferredWork.{IsWorkOfEditsAndLink, IsWorkOfOpening, ReadsAndDecides, names_brought}
use Rattle.relink.specs.DeferredWork.{objects_brought}
use Rattle.relink.specs.Work.{AreSmall, Decides, decided_by}
use Rattle.relink.proofs.Bounding.{names_link_nothing, objects_link_nothing}
use Rattle.relink.proofs.DeferredCounts.{nothing_counted, then_none}
use Rattle.relink.proofs.Working.{ReadsObjects, decided_from, decides}

-- ---- one edit

-- that decides no name
pub decides_none : (change : Change) (m0 m1 : Counts) → AreSmall m0 → ReadsObjects (objects_read change) m0 m1
    → ReadsAndDecides change [] m0 m1
decides_none change m0 m1 small read = record {
  objects = read.objects;
  names = (let same = read.names in let few = small.names in omega (arith, same, few));
  none = objects_link_nothing (objects_read change) m0 m1 read;
}

-- that leads to the project that is there
pub unchanged_edit : (old : Deferred) (change : Change) (new : Deferred) (m0 m1 : Counts) → AreSmall m0
    → ReadsObjects (objects_read change) m0 m1 → new.project ≡ old.project → new.is_resolved ≡ old.is_resolved
    → IsEditWork old change new m0 m1
unchanged_edit old change new m0 m1 small read same resolved = record {
  stays = λ yes. resolved ∙ yes;
  unresolved = λ unmade. decides_none change m0 m1 small read;
  resolved = λ yes. inl (same, decides_none change m0 m1 small read);
}

-- whose names are decided
decides_own : (p : Project) (change : Change) (q : Project) (m0 m1 m2 : Counts) (names : List (List ℕ))
    → ReadsObjects (objects_read change) m0 m1 → CountsNames m1 m2 names → names ≡ decided_by p change q
    → ReadsAndDecides change (decided_by p change q) m0 m2
decides_own p change q m0 m1 m2 names read counted same =
    let decided : Decides m1 m2 names = decides m1 m2 m2 names counted (nothing_counted m2) in
    record {
      objects = decided.objects ∙ read.objects;
      names = decided_from p change q m0 m1 m2 names read decided same;
      none = then_none m0 m1 m2 (objects_link_nothing (objects_read change) m0 m1 read)
          (names_link_nothing m1 m2 names counted);
    }

pub staged_edit : (h : ProjectState) (s : Staged) (old : Deferred) (change : Change) (new : Deferred)
    (tables later : Option LinkTables) (m0 m1 m2 : Counts) → held h ≡ old.project
    → old.is_resolved ≡ is_some tables → new.project ≡ project_of (next_listing h s)
    → new.is_resolved ≡ is_some later → AreSmall m0 → ReadsObjects (objects_read change) m0 m1
    → (is_some tables ≡ true → is_some later ≡ true) → (is_some later ≡ false → m2 ≡ m1)
    → (is_some tables ≡ true → CountsNames m1 m2 (names_of_edit h.contents.entries s.objects))
    → names_of_edit h.contents.entries s.objects ≡ decided_by (held h) change (project_of (next_listing h s))
    → IsEditWork old change new m0 m2
staged_edit h s old change new tables later m0 m1 m2 is had leads has small read made none counted same = record {
  stays = λ yes. has ∙ made (sym had ∙ yes);
  unresolved = λ unmade.
      subst (λ (m : Counts). ReadsAndDecides change [] m0 m) (sym (none (sym has ∙ unmade)))
      (decides_none change m0 m1 small read);
  resolved = λ yes.
      inr (decides_own old.project change new.project m0 m1 m2 (names_of_edit h.contents.entries s.objects) read
      (counted (sym had ∙ yes))
      (same ∙ ap (λ (p : Project). decided_by p change (project_of (next_listing h s))) is
      ∙ ap (decided_by old.project change) (sym leads)));
}

-- ---- several edits

capped_twice : (n a b : ℕ) → capped (capped n a) b ≡ capped n (a + b)
capped_twice n a b = omega arith

none_more : (n : ℕ) → n < 2 ^ 64 → n ≡ capped n 0
none_more n small = omega (arith, small)

capped_small : (n a : ℕ) → capped n a < 2 ^ 64
capped_small n a = omega arith

small_after : (n m a : ℕ) → m ≡ capped n a → m < 2 ^ 64
small_after n m a is = subst (λ (k : ℕ). k < 2 ^ 64) (sym is) (capped_small n a)

one_more : (n k m a b : ℕ) → k ≡ capped n a → m ≡ capped k b → m ≡ capped n (a + b)
one_more n k m a b first rest = rest ∙ ap (λ (x : ℕ). capped x b) first ∙ capped_twice n a b

abbrev no_names : List (List ℕ)
no_names = []

-- none
no_edits : (p : Project) (m0 m1 : Counts) → m0.objects < 2 ^ 64 → m0.names < 2 ^ 64 → m1 ≡ m0
    → IsWorkOfEdits p [] m0 m1
no_edits p m0 m1 small few same = record {
  objects = ap (λ (m : Counts). m.objects) same ∙ none_more m0.objects small;
  decided = 0;
  names = ap (λ (m : Counts). m.names) same ∙ none_more m0.names few;
  few = omega arith;
  none = record {
    pieces = ap (λ (m : Counts). m.pieces) same;
    fields = ap (λ (m : Counts). m.fields) same;
    bytes = ap (λ (m : Counts). m.bytes) same;
  };
}

-- one, and the others after it
and_others : (p : Project) (step : EditStep) (steps : List EditStep) (decided : List (List ℕ)) (m0 m2 : Counts)
    → ReadsAndDecides step.change decided m0 step.counts
    → length (distinct decided) ≤ length (distinct (decided_by p step.change step.new.project))
    → IsWorkOfEdits step.new.project steps step.counts m2 → IsWorkOfEdits p (step ∷ steps) m0 m2
and_others p step steps decided m0 m2 first few rest = record {
  objects = one_more m0.objects step.counts.objects m2.objects (objects_read step.change) (objects_brought steps)
      first.objects rest.objects;
  decided = length (distinct decided) + rest.decided;
  names = one_more m0.names step.counts.names m2.names (length (distinct decided)) rest.decided first.names rest.names;
  few = (let others = rest.few in omega (arith, few, others));
  none = then_none m0 step.counts m2 first.none rest.none;
}

pub edits_work : (steps : List EditStep) (old last : Deferred) (m0 m1 : Counts) → old.is_resolved ≡ true
    → m0.objects < 2 ^ 64 → m0.names < 2 ^ 64 → AreEdits old m0 steps last m1 → IsWorkOfEdits old.project steps m0 m1
edits_work [] old last m0 m1 resolved small few edits = no_edits old.project m0 m1 small few edits.1
edits_work (step ∷ steps) old last m0 m1 resolved small few edits =
    elim (edits.0.resolved resolved) [
      | inl same ↦
          and_others old.project step steps [] m0 m1 same.1 (omega arith)
          (edits_work steps step.new last step.counts m1 (edits.0.stays resolved)
          (small_after m0.objects step.counts.objects (objects_read step.change) same.1.objects)
          (small_after m0.names step.counts.names (length (distinct no_names)) same.1.names) edits.1)
      | inr own ↦
          and_others old.project step steps (decided_by old.project step.change step.new.project) m0 m1 own
          (omega arith)
          (edits_work steps step.new last step.counts m1 (edits.0.stays resolved)
          (small_after m0.objects step.counts.objects (objects_read step.change) own.objects)
          (small_after m0.names step.counts.names
          (length (distinct (decided_by old.project step.change step.new.project))) own.names) edits.1)
    ]

still_resolved : (steps : List EditStep) (old last : Deferred) (m0 m1 : Counts) → old.is_resolved ≡ true
    → AreEdits old m0 steps last m1 → last.is_resolved ≡ true
still_resolved [] old last m0 m1 resolved edits = ap (λ (d : Deferred). d.is_resolved) edits.0 ∙ resolved
still_resolved (step ∷ steps) old last m0 m1 resolved edits =
    still_resolved steps step.new last step.counts m1 (edits.0.stays resolved) edits.1

few_names : (n k m a most : ℕ) → k ≡ capped n a → a ≤ most → m ≡ k → m ≤ n + most
few_names n k m a most first few same = omega (arith, first, few, same)

pub edits_and_link : (old last : Deferred) (steps : List EditStep) (m0 m1 m2 : Counts) → old.is_resolved ≡ true
    → AreSmall m0 → AreEdits old m0 steps last m1 → IsLinkingWork last m1 m2
    → IsWorkOfEditsAndLink old.project steps m0 m1 m2
edits_and_link old last steps m0 m1 m2 resolved small edits linked =
    let work : IsWorkOfEdits old.project steps m0 m1 =
    edits_work steps old last m0 m1 resolved small.objects small.names edits in
    let reads = linked.reads (still_resolved steps old last m0 m1 resolved edits) in
    record {
      edits = work;
      link = reads;
      objects = reads.objects ∙ work.objects;
      names = few_names m0.names m1.names m2.names work.decided (names_brought old.project steps) work.names work.few
          reads.names;
    }

-- ---- while a project is opened

-- where the names are not resolved after an edit, they were not before it
unresolved_before : (steps : List EditStep) (old last : Deferred) (m0 m1 : Counts) (b : Bool) → old.is_resolved ≡ b
    → last.is_resolved ≡ false → AreEdits old m0 steps last m1 → b ≡ false
unresolved_before steps old last m0 m1 true is unmade edits =
    sym (still_resolved steps old last m0 m1 is edits) ∙ unmade
unresolved_before steps old last m0 m1 false is unmade edits = refl

pub opening_work : (steps : List EditStep) (old last : Deferred) (m0 m1 : Counts) → last.is_resolved ≡ false
    → m0.objects < 2 ^ 64 → m0.names < 2 ^ 64 → AreEdits old m0 steps last m1 → IsWorkOfOpening steps m0 m1
opening_work [] old last m0 m1 unmade small few edits =
    let work = no_edits old.project m0 m1 small few edits.1 in
    record { objects = work.objects; names = ap (λ (m : Counts). m.names) edits.1; none = work.none }
opening_work (step ∷ steps) old last m0 m1 unmade small few edits =
    let first : ReadsAndDecides step.change [] m0 step.counts =
    edits.0.unresolved
    (unresolved_before steps step.new last step.counts m1 step.new.is_resolved refl unmade edits.1) in
    let same : step.counts.names ≡ m0.names = first.names ∙ sym (none_more m0.names few) in
    let rest = opening_work steps step.new last step.counts m1 unmade
    (small_after m0.objects step.counts.objects (objects_read step.change) first.objects)
    (subst (λ (n : ℕ). n < 2 ^ 64) (sym same) few) edits.1 in
    record {
      objects = one_more m0.objects step.counts.objects m1.objects (objects_read step.change) (objects_brought steps)
          first.objects rest.objects;
      names = rest.names ∙ same;
      none = then_none m0 step.counts m1 first.none rest.none;
    }
