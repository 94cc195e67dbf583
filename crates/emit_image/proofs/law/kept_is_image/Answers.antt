use Rattle.emit_image.proofs.Keeping.{drawn_for, patches_end, patches_in_image}
use Rattle.emit_image.proofs.law.kept_is_image.Goals as goal

pub returns-clause-drawn : goal.returns-clause-drawn
returns-clause-drawn c = drawn_for (record {
  untouched = c.untouched_bytes.ensures;
  linked = c.stayed_in_both.ensures.linked;
  stayed_are = c.stayed_in_both.ensures.stayed;
  own = c.pieces_in_image.ensures.own;
  in_old = c.pieces_in_image.ensures.old;
  found = c.fields_in_image.ensures.found;
  some = c.fields_in_image.ensures.some;
  wide = c.fields_in_image.ensures.wide;
  byte = c.fields_in_image.ensures.byte;
  all = c.sections_in_file.ensures.all;
  offset = c.sections_in_file.ensures.offset;
})

pub returns-clause-within : goal.returns-clause-within
returns-clause-within c = λ old new d patches g. patches_end (record {
  untouched = c.untouched_bytes.ensures;
  linked = c.stayed_in_both.ensures.linked;
  stayed_are = c.stayed_in_both.ensures.stayed;
  own = c.pieces_in_image.ensures.own;
  in_old = c.pieces_in_image.ensures.old;
  found = c.fields_in_image.ensures.found;
  some = c.fields_in_image.ensures.some;
  wide = c.fields_in_image.ensures.wide;
  byte = c.fields_in_image.ensures.byte;
  all = c.sections_in_file.ensures.all;
  offset = c.sections_in_file.ensures.offset;
}) old new d patches

pub returns-clause-ends : goal.returns-clause-ends
returns-clause-ends c = patches_in_image (record {
  untouched = c.untouched_bytes.ensures;
  linked = c.stayed_in_both.ensures.linked;
  stayed_are = c.stayed_in_both.ensures.stayed;
  own = c.pieces_in_image.ensures.own;
  in_old = c.pieces_in_image.ensures.old;
  found = c.fields_in_image.ensures.found;
  some = c.fields_in_image.ensures.some;
  wide = c.fields_in_image.ensures.wide;
  byte = c.fields_in_image.ensures.byte;
  all = c.sections_in_file.ensures.all;
  offset = c.sections_in_file.ensures.offset;
})
