use Rattle.place_sections.proofs.Common.{[], ap, get_or, map, ◌∙◌}
use Rattle.place_sections.proofs.Counting.{section_adds, section_resumes}
use Rattle.place_sections.proofs.script.Input.place_command.Goals as goal

pub returns-in-Section-clause-resumed : goal.returns-in-Section-clause-resumed
returns-in-Section-clause-resumed g c =
    section_resumes c.kept_starts-starts.result c.place_section.result c.args.self.now c.args.here.now
    c.place_section.new.self c.args.done.now.sections.list c.place_section.new.done.sections.list
    c.row_at-row.result.now c.place_section.ensures.one c.place_section.ensures.anew
    (c.row_at-row.ensures ∙ ap (λ k. get_or (map (λ v. v.items) c.args.self.now.rows.now) k []) c.len.ensures)
    c.place_section.ensures.none c.kept_starts-starts.ensures.first c.kept_starts-starts.ensures.past

pub returns-in-Section-clause-added : goal.returns-in-Section-clause-added
returns-in-Section-clause-added g c =
    section_adds c.kept_starts-starts.result c.place_section.result c.args.self.now c.args.here.now
    c.place_section.new.self c.args.done.now.sections.list c.place_section.new.done.sections.list
    c.place_section.ensures.all c.place_section.ensures.one c.place_section.ensures.none
    c.kept_starts-starts.ensures.first c.kept_starts-starts.ensures.past
