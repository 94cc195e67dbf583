use Rattle.elfobj.proofs.Common.{false, inr, refl, true, ◌∙◌}
use Rattle.elfobj.proofs.Refusals.{profile_told}
use Rattle.elfobj.proofs.section_table.looked_sections.Goals as goal

pub returns-then-is_any_outside_profile-clause-refused : goal.returns-then-is_any_outside_profile-clause-refused
returns-then-is_any_outside_profile-clause-refused c =
    inr (
      profile_told c.args.bytes.now c.in_ok-table.table.file.now c.in_ok-table.table.header c.args.headers.now
          c.is_any_outside_profile.result true c.in_ok-table.ensures.file
          (c.in_ok-table.ensures.header ∙ c.requires.names.header)
          c.requires.headers c.is_any_outside_profile.ensures c.if-is_any_outside_profile.true,
      refl,
    )

pub linked_sections-requires-clause-tests : goal.linked_sections-requires-clause-tests
linked_sections-requires-clause-tests c = record {
  bounds = c.requires.bounds;
  profile = profile_told c.args.bytes.now c.in_ok-table.table.file.now c.in_ok-table.table.header c.args.headers.now
      c.is_any_outside_profile.result false c.in_ok-table.ensures.file
      (c.in_ok-table.ensures.header ∙ c.requires.names.header)
      c.requires.headers c.is_any_outside_profile.ensures c.if-is_any_outside_profile.false;
}

pub returns-clause-passes : goal.returns-clause-passes
returns-clause-passes c =
    profile_told c.args.bytes.now c.in_ok-table.table.file.now c.in_ok-table.table.header c.args.headers.now
    c.is_any_outside_profile.result false c.in_ok-table.ensures.file
    (c.in_ok-table.ensures.header ∙ c.requires.names.header)
    c.requires.headers c.is_any_outside_profile.ensures c.if-is_any_outside_profile.false
