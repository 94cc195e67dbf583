-- The sections of an object: its linked ones, and then its blocks.
use Rattle.gather.proofs.Common.{AddsFacts, AreBlocksOf, CommonBlock, GatheredSection, IsMatched, List, Matches}
use Rattle.gather.proofs.Common.{NamedObject, ObjectPlace, Project, [], ap, append_assoc, block_facts, codes}
use Rattle.gather.proofs.Common.{common_blocks, facts, first_match, gathered_by, linked_input, map, map-append}
use Rattle.gather.proofs.Common.{object_inputs, refl, section_of, shown_facts, sym, ◌++◌, ◌∙◌, ◌∷◌, ◌≡◌}
use Rattle.gather.specs.Blocks.{block_of}
use Rattle.gather.specs.Matches.{number_of}
use Rattle.gather.proofs.ByRuns.{gathered_are}

module _ (p : Project) (key : ObjectPlace) (o : NamedObject) where
  blocks_are : (bs : List CommonBlock) → map (block_facts key.0 (first_match p.script o.name (codes "COMMON"))) bs
      ≡ map (facts p) (map (block_of key.0 o.name) bs)
  blocks_are [] = refl
  blocks_are (b ∷ bs) = ap (λ l. facts p (block_of key.0 o.name b) ∷ l) (blocks_are bs)

  -- the sections of an object, its linked ones and then its blocks
  pub object_added : (x : Matches) (bs : List CommonBlock) (old mid new : List GatheredSection) → IsMatched p.script o x
      → AreBlocksOf p key.0 o bs
      → mid ≡ old ++ gathered_by key (map section_of o.object.sections) x.linked.items
      → AddsFacts mid new (map (block_facts key.0 (number_of x.common)) bs)
      → AddsFacts old new (map (facts p) (object_inputs p key.0 o))
  object_added x bs old mid new matched own linked blocks =
      let first = map (linked_input key.0 o) o.object.sections in
      let own_blocks = map (block_facts key.0 (number_of x.common)) bs in
      let these = gathered_by key (map section_of o.object.sections) x.linked.items in
      blocks
      ∙ ap (λ l. l ++ own_blocks) (ap (map shown_facts) linked ∙ map-append shown_facts old these
      ∙ ap (λ l. map shown_facts old ++ l) (gathered_are p key o x.linked.items o.object.sections matched.linked))
      ∙ append_assoc (map shown_facts old) (map (facts p) first) own_blocks
      ∙ ap (λ l. map shown_facts old ++ l)
      (ap (λ l. map (facts p) first ++ l)
      (ap (λ n. map (block_facts key.0 n) bs) matched.common ∙ blocks_are bs ∙ ap (map (facts p)) own)
      ∙ sym (map-append (facts p) first (common_blocks p key.0 o)))
