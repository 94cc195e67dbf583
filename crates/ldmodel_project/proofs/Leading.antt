-- A staged edit leads where the definition says.
use Rattle.ldmodel_project.proofs.Common.{EditRefusal, Err, IfSome, IsStaged, List, NamedObject, None, Ok, Option}
use Rattle.ldmodel_project.proofs.Common.{Project, ProjectState, Result, Some, Staged, Stages, ap, edited_key, held}
use Rattle.ldmodel_project.proofs.Common.{inr, subst, sym, unwrap_or, ℕ, ◌∙◌, ◌≡◌}
use Rattle.std.proofs.lemmas.Option.{none-some}
use Rattle.ldscript.specs.statements.declared.statement.Statement.{Statement}
use Rattle.ldmodel.specs.Edits.{Change, SetScript, Accepts, early_refusal, with_objects}
use Rattle.ldscript.specs.Script.{IsScript}
use Rattle.ldmodel.specs.EditMeaning.{refusal_of}
use Rattle.ldmodel_project.specs.ProjectState.{Makes, MakesScript, next_listing, project_of}

-- where the objects and the script are known, the next project is
leads : (h : ProjectState) (s : Staged) (objects : List NamedObject) (script : Option (List Statement))
    → IsStaged h.contents s.objects objects
    → s.script ≡ script
    → project_of (next_listing h s) ≡ record (held h) { objects = objects; script = unwrap_or script h.script }
leads h s objects script staged e =
    ap (λ (os : List NamedObject). let p : Project =
    record { objects = os; script = unwrap_or s.script h.script; options = h.options } in p) staged.makes
    ∙ ap (λ (m : Option (List Statement)). let p : Project =
    record { objects = objects; script = unwrap_or m h.script; options = h.options } in p) e

-- no script is staged
none_staged : (P : List Statement → Type 0) (o : Option (List Statement)) → o ≡ None → IfSome o P
none_staged P None e = tt
none_staged P (Some x) e = absurd (none-some x (sym e))

-- an edit of the objects alone
pub stages_objects : (h : ProjectState) (c : Change) (next : List NamedObject) (r : Result Staged EditRefusal)
    → early_refusal (held h) c ≡ None
    → Accepts (held h) c (with_objects (held h) next) → Makes h next r → Stages h c r
stages_objects h c next (Ok s) early accepts made = (
  made.0.fits,
  (early, subst (Accepts (held h) c) (sym (leads h s next None made.0 made.1)) accepts),
  made.0.arranged,
  none_staged (λ _. edited_key s.objects.step ≡ None) s.script made.1,
)
stages_objects h c next (Err r) early accepts made = inr (early, ap refusal_of made)

-- an edit of the script
pub stages_script : (h : ProjectState) (text : List ℕ) (script : List Statement) (r : Result Staged EditRefusal)
    → early_refusal (held h) (SetScript text) ≡ None
    → IsScript text script → MakesScript h script r → Stages h (SetScript text) r
stages_script h text script (Ok s) early is made = (
  made.0.fits,
  (early, (script, is, leads h s (held h).objects (Some script) made.0 made.1)),
  made.0.arranged,
  script_staged s.script,
)
  where
    script_staged : (o : Option (List Statement)) → IfSome o (λ _. edited_key s.objects.step ≡ None)
    script_staged None = tt
    script_staged (Some x) = made.2
stages_script h text script (Err r) early is made = inr (early, ap refusal_of made)
