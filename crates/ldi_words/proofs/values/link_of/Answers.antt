use Rattle.ldi_words.proofs.Common.{IsSome, List, Option, Text, [], ap, codes, first_value-rows, found_of}
use Rattle.ldi_words.proofs.Common.{raw_values-rows, refl, rows_of, subst, sym, unwrap_or, ◌∙◌}
use Rattle.ldi_words.proofs.values.link_of.Goals as goal

pub required_file-requires : goal.required_file-requires
required_file-requires c = subst IsSome
    (sym (first_value-rows (found_of c.args.matches.now) (codes "script"))) c.requires.files.script

pub required_file-requires-2 : goal.required_file-requires-2
required_file-requires-2 c = subst IsSome
    (sym (first_value-rows (found_of c.args.matches.now) (codes "image"))) c.requires.files.image

pub returns : goal.returns
returns c =
    let f = found_of c.args.matches.now in (
      rows_of f,
      refl,
      c.in_ok-options_of.ensures,
      record {
        script = sym (first_value-rows f (codes "script")) ∙ c.in_ok-required_file.ensures;
        image = sym (first_value-rows f (codes "image")) ∙ c.in_ok-required_file-2.ensures;
        map_file = sym (first_value-rows f (codes "map")) ∙ sym c.in_ok-map_file_of.ensures;
        objects = ap (λ (o : Option (List Text)). unwrap_or o []) (sym (raw_values-rows f (codes "objects")))
            ∙ sym c.in_ok-objects_of.ensures;
      },
    )
