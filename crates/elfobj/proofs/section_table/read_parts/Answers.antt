use Rattle.elfobj.proofs.Common.{NoMemory, None, Some, find, header_refusals, holds, inr, object_refusal}
use Rattle.elfobj.proofs.Common.{relocation_refusals, sym, symbol_refusals, ◌++◌, ◌∙◌, ◌≡◌, ◌⊎◌}
use Rattle.std.proofs.lemmas.Result.{IfErr-weaker, IfOk-weaker, err_from_is_err_and}
use Rattle.elfobj.proofs.Refusals.{no_memory_found, bounds_refused, refused_by_header, refused_by_sections}
use Rattle.elfobj.proofs.Refusals.{refused_by_tables, sections_told, tables_told}
use Rattle.elfobj.proofs.section_table.read_parts.Goals as goal
use Rattle.growth.specs.Memory.{no_memory}

pub returns-in-Some-clause-refused : goal.returns-in-Some-clause-refused
returns-in-Some-clause-refused c =
    inr (refused_by_header c.args.bytes.now c.in-Some.refusal (sym c.header_refusal.ensures.value ∙ c.in-Some.is))

pub returns-then-has_wrong_bounds-clause-refused : goal.returns-then-has_wrong_bounds-clause-refused
returns-then-has_wrong_bounds-clause-refused c =
    inr (refused_by_sections c.args.bytes.now _ (sym c.header_refusal.ensures.value ∙ c.in_default.is)
    (bounds_refused c.args.bytes.now (sym c.has_wrong_bounds.ensures.value ∙ c.if-has_wrong_bounds.true)))

pub returns-in_err-linked-clause-refused : goal.returns-in_err-linked-clause-refused
returns-in_err-linked-clause-refused c =
    let p = err_from_is_err_and c.from_residual-in_err-linked.result c.from_residual-in_err-linked.ensures.1 in
    rw (p.1, p.2)
    (sections_told c.args.bytes.now c.in_err-linked.field-0.0 (sym c.header_refusal.ensures.value ∙ c.in_default.is)
    (sym c.has_wrong_bounds.ensures.value ∙ c.if-has_wrong_bounds.false) c.in_err-linked.ensures.refused)

pub read_tables-requires-clause-tests : goal.read_tables-requires-clause-tests
read_tables-requires-clause-tests c = record {
  bounds = sym c.has_wrong_bounds.ensures.value ∙ c.if-has_wrong_bounds.false;
  profile = c.in_ok-linked.ensures.passes;
}

pub returns-in-Some-clause-memory : goal.returns-in-Some-clause-memory
returns-in-Some-clause-memory c =
    λ e. no_memory_found c.args.bytes.now header_refusals c.in-Some.refusal
    (sym c.header_refusal.ensures.value ∙ c.in-Some.is) e

pub returns-clause-ok : goal.returns-clause-ok
returns-clause-ok c =
    IfOk-weaker c.read_tables.result
    (λ p. find (holds c.args.bytes.now) (symbol_refusals ++ relocation_refusals) ≡ None)
    (λ p. object_refusal c.args.bytes.now ≡ None)
    (λ p h. refused_by_tables c.args.bytes.now None (sym c.header_refusal.ensures.value ∙ c.in_default.is)
    (record {
      bounds = sym c.has_wrong_bounds.ensures.value ∙ c.if-has_wrong_bounds.false;
      profile = c.in_ok-linked.ensures.passes;
    })
    h) c.read_tables.ensures.ok

pub returns-clause-refused : goal.returns-clause-refused
returns-clause-refused c =
    IfErr-weaker c.read_tables.result
    (λ e. (e ≡ NoMemory no_memory) ⊎ (find (holds c.args.bytes.now) (symbol_refusals ++ relocation_refusals) ≡ Some e))
    (λ e. (e ≡ NoMemory no_memory) ⊎ (object_refusal c.args.bytes.now ≡ Some e))
    (λ e h. tables_told c.args.bytes.now e (sym c.header_refusal.ensures.value ∙ c.in_default.is)
    (record {
      bounds = sym c.has_wrong_bounds.ensures.value ∙ c.if-has_wrong_bounds.false;
      profile = c.in_ok-linked.ensures.passes;
    })
    h) c.read_tables.ensures.refused
