-- A change of one object, from its first step to its last.
use Rattle.symres_decisions.proofs.Common.{AreCases, AreDone, AreFound, AreOpen, AreThere, AreUsedBelow, Bool, Case}
use Rattle.symres_decisions.proofs.Common.{Counts, CountsNames, DecidedFor, Fits, HasCase, HasName, HasPlaces}
use Rattle.symres_decisions.proofs.Common.{HaveEntries, IsCleared, IsNamed, IsReadyFor, IsTextOf, IsWhole, List, None}
use Rattle.symres_decisions.proofs.Common.{ObjectAt, ObjectChange, ObjectKey, Option, PutsIn, Some, State, Statement}
use Rattle.symres_decisions.proofs.Common.{Table, TakesOut, [], ap, arith, case_at, changed_tables, cond, declared_by}
use Rattle.symres_decisions.proofs.Common.{declares, distinct, entries_of, false, length, put_in, raised, refl}
use Rattle.symres_decisions.proofs.Common.{reversed, slot, subst, sym, symbols_at, symbols_or, taken_out, touches, true}
use Rattle.symres_decisions.proofs.Common.{ℕ, ◌++◌, ◌+◌, ◌∙◌, ◌≡◌}
use Rattle.elfobj.specs.declared.meter.Count.TheVariants as counts
use Rattle.symres_decisions.specs.declared.texts.KeySource.TheVariants as sources
use Rattle.symres_decisions.proofs.Clearing.{none_cleared}
use Rattle.symres_decisions.proofs.Exchanging.{Law, in_names, in_objects, in_order, out_names, out_objects, out_order}
use Rattle.symres_decisions.proofs.Exchanging.{room_back}
use Rattle.symres_decisions.proofs.Listed.{Listed}
use Rattle.symres_decisions.proofs.MakingRoom.{text_same}
use Rattle.symres_decisions.proofs.OneName.{raised_twice}
use Rattle.symres_decisions.proofs.Tables.{fits_back}
use Rattle.symres_decisions.proofs.Used.{come_used, used_changed}
use Rattle.symres_decisions.proofs.Touched.{case_within, complete_after, entries_same, sound_after}

-- ---- of an object, if there is one

pub there_is : (s : State) (o : Option ObjectAt) (x : ObjectAt) → o ≡ Some x → AreThere s o
    → AreFound s (sources.Entered (record { 0 = x.place })) (symbols_at x)
there_is s o x e h = let there : AreThere s (Some x) = subst (AreThere s) e h in there

pub cleared_some : (names : List (Option (List ℕ))) (o : Option ObjectAt) (x : ObjectAt)
    (old new : List (Option (Case ObjectKey)))
    → o ≡ Some x → IsCleared names (symbols_at x) old new → IsCleared names (symbols_or o) old new
cleared_some names o x old new e h = subst (λ (o : Option ObjectAt). IsCleared names (symbols_or o) old new) (sym e) h

pub cleared_none : (names : List (Option (List ℕ))) (o : Option ObjectAt) (cases : List (Option (Case ObjectKey)))
    → o ≡ None
    → IsCleared names (symbols_or o) cases cases
cleared_none names o cases e =
    subst (λ (o : Option ObjectAt). IsCleared names (symbols_or o) cases cases) (sym e) (none_cleared names cases)

pub decided_some : (script : List Statement) (s : State) (o : Option ObjectAt) (x : ObjectAt)
    (old new : List (Option (Case ObjectKey))) (m m' : Counts) (seen : List (List ℕ)) → o ≡ Some x
    → DecidedFor script s old new m m' seen (symbols_at x) → DecidedFor script s old new m m' seen (symbols_or o)
decided_some script s o x old new m m' seen e h =
    subst (λ (o : Option ObjectAt). DecidedFor script s old new m m' seen (symbols_or o)) (sym e) h

-- ---- places for cases

pub places_after : (s0 s2 : State) (old new : List (Option (Case ObjectKey))) → s2.names ≡ s0.names
    → ((k : ℕ) → HasName s0.names k → HasCase old k) → length new ≡ length old → HasPlaces s2.names new
places_after s0 s2 old new same complete long k h =
    omega (arith, case_within old k (complete k (subst (λ (ns : List (Option (List ℕ))). HasName ns k) same h)), long)

-- ---- names with entries

-- those before a place of the list still have some, if the names of what went have
pub used_put : (s0 s1 s2 : State) (c : ObjectChange) (n : ℕ) → Fits s0.objects c → TakesOut s0 s1 c.key.0 c.out
    → PutsIn s1 s2 c.key.0 c.into → AreUsedBelow s0 n → HaveEntries s2.objects (symbols_or c.out)
    → AreUsedBelow s2 n
used_put s0 s1 s2 c n fits out into h gone =
    let objects : s2.objects ≡ changed_tables s0.objects c =
    in_objects s1 s2 c.key.0 c.into into
    ∙ ap (λ (ts : List Table). put_in ts c.key.0 c.into) (out_objects s0 s1 c.key.0 c.out out) in
    used_changed s0 s2 (symbols_or c.out) (symbols_or c.into) n
    (in_order s1 s2 c.key.0 c.into into ∙ out_order s0 s1 c.key.0 c.out out)
    (λ name a b.
    ap (entries_of name) objects ∙ entries_same name c.key.0 c.out c.into s0.objects fits.out a b)
    (subst (λ (ts : List Table). HaveEntries ts (symbols_or c.into)) (sym objects)
    (come_used (taken_out s0.objects c.key.0 c.out) c.key.0 c.into fits.into))
    gone h

-- ---- the whole change

both_none : (b : Bool) → (let n : Option (Case ObjectKey) = None in cond b n n) ≡ None
both_none true = refl
both_none false = refl

-- what its steps say
pub record Steps (script : List Statement) (c : ObjectChange) (s0 s1 s2 : State)
    (cases0 cases1 cases2 cases3 cases4 : List (Option (Case ObjectKey))) (m0 m1 m2 : Counts) : Type 0 where
  pub ready : IsReadyFor (record { names = s0; cases = cases0 }) c
  pub kept : AreCases script s0 cases0
  pub whole : IsWhole s0 cases0
  pub cleared : IsCleared s0.names (symbols_or c.out) cases0 cases1
  pub out : TakesOut s0 s1 c.key.0 c.out
  pub into : PutsIn s1 s2 c.key.0 c.into
  pub cleared_new : IsCleared s2.names (symbols_or c.into) cases1 cases2
  pub gone : (seen : List (List ℕ)) → AreCases script s2 cases2 → AreDone s2.names cases2 seen
      → AreOpen s2.names cases2 (declared_by c.out) seen
      → DecidedFor script s2 cases2 cases3 m0 m1 seen (symbols_or c.out)
  pub come : (seen : List (List ℕ)) → AreCases script s2 cases3 → AreDone s2.names cases3 seen
      → AreOpen s2.names cases3 (declared_by c.into) seen
      → DecidedFor script s2 cases3 cases4 m1 m2 seen (symbols_or c.into)

module _ (script : List Statement) (c : ObjectChange) (s0 s1 s2 : State)
    (cases0 cases1 cases2 cases3 cases4 : List (Option (Case ObjectKey))) (m0 m1 m2 : Counts)
    (h : Steps script c s0 s1 s2 cases0 cases1 cases2 cases3 cases4 m0 m1 m2) where
  pub names_after : s2.names ≡ s0.names
  names_after = in_names s1 s2 c.key.0 c.into h.into ∙ out_names s0 s1 c.key.0 c.out h.out

  pub objects_after : s2.objects ≡ changed_tables s0.objects c
  objects_after =
      in_objects s1 s2 c.key.0 c.into h.into
      ∙ ap (λ (ts : List Table). put_in ts c.key.0 c.into) (out_objects s0 s1 c.key.0 c.out h.out)

  sound : AreCases script s2 cases2
  sound =
      sound_after script s0 s2 (symbols_or c.out) (symbols_or c.into) cases0 cases1 cases2 names_after
      (λ name a b.
      ap (entries_of name) objects_after ∙ entries_same name c.key.0 c.out c.into s0.objects h.ready.fits.out a b)
      h.cleared h.cleared_new h.kept

  none_done : AreDone s2.names cases2 []
  none_done name e k n = absurd (cc)

  -- a name that either object declares has no case before they are decided
  into_open : (name : List ℕ) → declares (symbols_or c.into) name ≡ true → (k : ℕ) → IsNamed s2.names k name
      → case_at cases2 k ≡ None
  into_open name e k named =
      h.cleared_new.at k
      ∙ ap (λ (t : Bool). cond t None (case_at cases1 k)) (ap (touches (symbols_or c.into)) named ∙ e)

  out_open : AreOpen s2.names cases2 (declared_by c.out) []
  out_open name e unseen k named =
      let was : IsNamed s0.names k name =
      ap (λ (ns : List (Option (List ℕ))). slot ns k) (sym names_after) ∙ named in
      let cleared : case_at cases1 k ≡ None =
      h.cleared.at k
      ∙ ap (λ (t : Bool). cond t None (case_at cases0 k)) (ap (touches (symbols_or c.out)) was ∙ e) in
      h.cleared_new.at k
      ∙ (ap (cond (touches (symbols_or c.into) (slot s2.names k)) None) cleared
      ∙ both_none (touches (symbols_or c.into) (slot s2.names k)))

  old_decided : DecidedFor script s2 cases2 cases3 m0 m1 [] (symbols_or c.out)
  old_decided = h.gone [] sound none_done out_open

  new_decided : DecidedFor script s2 cases3 cases4 m1 m2 (declared_by c.out) (symbols_or c.into)
  new_decided =
      h.come (declared_by c.out) old_decided.sound old_decided.done
      (λ name e unseen k named. old_decided.others k name named unseen ∙ into_open name e k named)

  pub kept_after : AreCases script s2 cases4
  kept_after = new_decided.sound

  pub whole_after : IsWhole s2 cases4
  whole_after = record {
    complete = complete_after s0 s2 (symbols_or c.out) (symbols_or c.into) cases0 cases1 cases2 cases4 names_after
        h.whole.complete h.cleared h.cleared_new
        (λ k x e. new_decided.kept k x (old_decided.kept k x e)) new_decided.done;
    only = λ k has. (kept_after k has.0 has.1).named;
  }

  -- a name that neither object declares stands for what it stood for
  pub frame_after : (k : ℕ) (name : List ℕ) → IsNamed s0.names k name → declares (symbols_or c.out) name ≡ false
      → declares (symbols_or c.into) name ≡ false → case_at cases4 k ≡ case_at cases0 k
  frame_after k name named a b =
      let was : HasCase cases0 k = h.whole.complete k (name, named) in
      let out : touches (symbols_or c.out) (slot s0.names k) ≡ false = ap (touches (symbols_or c.out)) named ∙ a in
      let into : touches (symbols_or c.into) (slot s2.names k) ≡ false =
      ap (touches (symbols_or c.into)) (ap (λ (ns : List (Option (List ℕ))). slot ns k) names_after ∙ named) ∙ b in
      let left : case_at cases2 k ≡ Some was.0 =
      h.cleared_new.at k
      ∙ (ap (λ (t : Bool). cond t None (case_at cases1 k)) into
      ∙ (h.cleared.at k ∙ (ap (λ (t : Bool). cond t None (case_at cases0 k)) out ∙ was.1))) in
      new_decided.kept k was.0 (old_decided.kept k was.0 left) ∙ sym was.1

  pub text_after : (text : Option (List Listed)) → IsTextOf s0 text → IsTextOf s2 text
  text_after text is =
      text_same s0 s2 text (in_order s1 s2 c.key.0 c.into h.into ∙ out_order s0 s1 c.key.0 c.out h.out) is

  pub counted_after : CountsNames m0 m2 (declared_by c.out ++ declared_by c.into)
  counted_after =
      let both : old_decided.count + new_decided.count ≡ length (distinct (declared_by c.out ++ declared_by c.into)) =
      omega (arith, old_decided.each, new_decided.each) in
      new_decided.counted ∙ ap (λ (m : Counts). raised m counts.Names new_decided.count) old_decided.counted
      ∙ raised_twice m0 old_decided.count new_decided.count
      ∙ ap (raised m0 counts.Names) both

  pub back_after : Law → IsReadyFor (record { names = s2; cases = cases4 }) (reversed c)
  back_after law = record {
    fits = subst (λ (ts : List Table). Fits ts (reversed c)) (sym objects_after)
        (fits_back s0.objects c h.ready.fits);
    room = room_back law s0 s1 s2 c.key.0 c.out c.into h.ready.fits.out h.out h.into;
  }
