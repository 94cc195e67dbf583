-- Section headers as the code has them.
use Rattle.ldmodel.specs.SectionHeaders.{SectionHeader}
use Rattle.emit_image.specs.declared.sections.Header.{Header}

abbrev pub header_of : Header → SectionHeader
header_of h = record {
  name = h.name;
  type = h.kind;
  flags = h.flags;
  address = h.address;
  offset = h.offset;
  size = h.size;
  link = h.link;
  info = h.info;
  alignment = h.alignment;
  entry_size = h.entry_size;
}
