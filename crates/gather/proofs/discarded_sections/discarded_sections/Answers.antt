use Rattle.gather.proofs.Common.{Bool, GatheredSection, Global, IfOk-weaker, InputStatementAt, List, Orphans, Project}
use Rattle.gather.proofs.Common.{Vec, ap, input_statements, is_out_of, map, sym, ◌∙◌, ◌≡◌}
use Rattle.ldscript.specs.statements.Numbered.{shown_inputs}
use Rattle.gather.specs.Matches.{number_of}
use Rattle.gather.proofs.GatheredLists.{out_are}
use Rattle.gather.proofs.discarded_sections.discarded_sections.Goals as goal

abbrev each : List InputStatementAt → Orphans → List GatheredSection → List Bool
each statements orphans xs = map (λ (x : GatheredSection). is_out_of statements orphans x.size (number_of x.statement))
    xs

pub returns : goal.returns
returns c =
    let xs = c.args.sections.now in
    let all : shown_inputs c.deref.result.now ≡ input_statements c.args.script.now =
    ap shown_inputs c.deref.ensures.value ∙ c.in_ok-statements.ensures in
    IfOk-weaker c.each_discarded.result _ _
    (λ (out : Vec Bool Global) (h : out.items ≡ each (shown_inputs c.deref.result.now) c.args.orphans xs)
    (p : Project) is o a.
    h ∙ ap (λ st. each st c.args.orphans xs) (all ∙ ap input_statements (sym is))
    ∙ ap (λ or. each (input_statements p.script) or xs) (sym o) ∙ out_are p xs a)
    c.each_discarded.ensures
