-- Mentions as the code lists them, with names that are borrowed from the tree.
use Rattle.std.specs.Prelude.{◌≡◌, ⊤, Bool, List, [], ◌∷◌, ◌++◌, map, MatchBool}
use Rattle.std.specs.List.{Contains}
use Rattle.ldscript_statements.specs.declared.mention.Mention as code
use Rattle.ldscript_statements.specs.declared.mention.Mention.TheVariants as variant
use Rattle.ldscript_statements.specs.Mentions.{Mention, EntryGiven, MemoryGiven, SectionsGiven, SectionNamed}
use Rattle.ldscript_statements.specs.Mentions.{SymbolGiven}
use Rattle.ldscript_statements.specs.Mentions.{RegionDeclared, RegionUsed, Clashes}

abbrev pub mention_of : code.Mention → Mention
mention_of variant.EntryGiven = EntryGiven
mention_of variant.MemoryGiven = MemoryGiven
mention_of variant.SectionsGiven = SectionsGiven
mention_of (variant.SectionNamed n) = SectionNamed n.now
mention_of (variant.SymbolGiven n) = SymbolGiven n.now
mention_of (variant.RegionDeclared n) = RegionDeclared n.now
mention_of (variant.RegionUsed n) = RegionUsed n.now

abbrev pub shown : List code.Mention → List Mention
shown list = map mention_of list

-- the new list has these behind the old one
abbrev pub Adds : List code.Mention → List code.Mention → List Mention → Type 0
Adds old new these = shown new ≡ shown old ++ these

-- one of the list may not stand behind those before it
pub record HasClashIn (list : List Mention) : Type 0 where
  pub before : List Mention
  pub mention : Mention
  pub after : List Mention
  pub place : list ≡ before ++ mention ∷ after
  pub clash : Clashes before mention

-- it may stand once: it is not the use of a region
abbrev pub IsOnce : Mention → Type 0
IsOnce EntryGiven = ⊤
IsOnce MemoryGiven = ⊤
IsOnce SectionsGiven = ⊤
IsOnce (SectionNamed n) = ⊤
IsOnce (SymbolGiven n) = ⊤
IsOnce (RegionDeclared n) = ⊤
IsOnce (RegionUsed n) = ⊥

-- the keys are those of the list that may stand once
pub record Holds (keys : List code.Mention) (before : List Mention) : Type 0 where
  pub complete : (m : Mention) → IsOnce m → Contains before m → Contains (shown keys) m
  pub sound : (m : Mention) → Contains (shown keys) m → Contains before m

-- the answer says whether this one may not stand behind those that the keys hold; if it may, the new keys hold it as
-- well
abbrev pub Meets : List code.Mention → List code.Mention → Mention → Bool → Type 0
Meets old new m clashes = (before : List Mention) → Holds old before
    → MatchBool clashes (Clashes before m) ((Clashes before m → ⊥) × Holds new (before ++ m ∷ []))
