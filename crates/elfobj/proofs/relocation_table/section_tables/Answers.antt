use Rattle.elfobj.proofs.Common.{Progbits, arith, get_or}
use Rattle.elfobj_file.specs.declared.section.Section.{Section}
use Rattle.elfobj.proofs.RelocationReads.{number_below, table_told, tables_of_more}
use Rattle.elfobj.proofs.relocation_table.section_tables.Goals as goal

abbrev no_section : Section
no_section = record { number = record { 0 = 0 }; kind = Progbits; flags = 0; size = 0; alignment = 0 }

pub bounds-tables-section : goal.bounds-tables-section
bounds-tables-section c =
    let below = number_below c.args.bytes.now c.args.sections.now c.loop-section.section-index no_section
    c.requires.sections c.loop-section-test.true in
    omega (arith, c.requires.tables.count)

pub section_table-requires : goal.section_table-requires
section_table-requires c =
    record {
      within = table_told c.args.bytes.now
          (get_or c.args.sections.now c.loop-section.section-index no_section).number.0 _ c.requires.tests
          (c.requires.tables.each (get_or c.args.sections.now c.loop-section.section-index no_section).number.0
          (number_below c.args.bytes.now c.args.sections.now c.loop-section.section-index no_section c.requires.sections
          c.loop-section-test.true));
    }

pub loop-section-preserved : goal.loop-section-preserved
loop-section-preserved c =
    tables_of_more c.args.bytes.now c.args.sections.now c.loop-section.section-index no_section c.loop-section.own.items
    c.push.new.list.items c.section_table.result _ c.loop-section-test.true
    c.section_table.ensures.section
    (c.requires.tables.each (get_or c.args.sections.now c.loop-section.section-index no_section).number.0
    (number_below c.args.bytes.now c.args.sections.now c.loop-section.section-index no_section c.requires.sections
    c.loop-section-test.true))
    (c.section_table.ensures.entries c.args.bytes.now) c.section_table.ensures.within c.in_ok-push.ensures.items
    c.loop-section.invariant
