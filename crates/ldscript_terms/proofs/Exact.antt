-- Patterns of bytes alone, and the pattern `*`.
use Rattle.ldscript_terms.proofs.Common.{AnyByte, AnyRun, BeginsWith, Byte, CodePart, EndsHere, IfSome, List}
use Rattle.ldscript_terms.proofs.Common.{MatchOption, Matches, None, OneOf, Option, Part, Some, SpellsPattern, [], ap}
use Rattle.ldscript_terms.proofs.Common.{append-nil, append_assoc, code_byte, exact_name, map, option_map, part_of}
use Rattle.ldscript_terms.proofs.Common.{refl, subst, sym, ℕ, ◌++◌, ◌↔◌, ◌∙◌, ◌∷◌, ◌≡◌}
use Rattle.std.specs.Borrow.{Bor}
use Rattle.ldscript_terms.specs.Matching.{nothing, part}
use Rattle.ldscript_terms.specs.declared.part.CodePart.TheVariants as code
use Rattle.ldscript_terms.proofs.Stars.{nothing_left}

pub any_matches : (ps : List Part) → ps ≡ AnyRun ∷ [] → (name : List ℕ) → Matches ps name
any_matches ps e name = subst (λ v. Matches v name) (sym e) (part name [] tt (sym (append-nil name)) nothing)

exact_more : (b : ℕ) (o : Option (List ℕ)) (bytes : List ℕ) → option_map (λ v. b ∷ v) o ≡ Some bytes
    → (more : List ℕ) × (o ≡ Some more) × (bytes ≡ b ∷ more)
exact_more b None bytes e = absurd (cc)
exact_more b (Some more) bytes e = (more, refl, cc)

byte_first : (b : ℕ) (ps : List Part) (name : List ℕ) → Matches (Byte b ∷ ps) name
    → (rest : List ℕ) × (name ≡ b ∷ rest) × Matches ps rest
byte_first b ps name (part bytes rest met e others) = (rest, e ∙ ap (λ v. v ++ rest) met, others)

pub only_exact : (ps : List Part) (bytes : List ℕ) → exact_name ps ≡ Some bytes → (name : List ℕ)
    → Matches ps name ↔ name ≡ bytes
only_exact [] bytes e name =
    let b : [] ≡ bytes = cc in
    (λ m. nothing_left name m ∙ b, λ n. subst (λ v. Matches [] v) (b ∙ sym n) nothing)
only_exact (AnyRun ∷ ps) bytes e name = absurd (cc)
only_exact (AnyByte ∷ ps) bytes e name = absurd (cc)
only_exact (OneOf rs ∷ ps) bytes e name = absurd (cc)
only_exact (Byte b ∷ ps) bytes e name =
    let x = exact_more b (exact_name ps) bytes e in (
      λ m. let f = byte_first b ps name m in f.1 ∙ ap (λ v. b ∷ v) ((only_exact ps x.0 x.1 f.0).0 f.2) ∙ sym x.2,
      λ n. part (b ∷ []) x.0 refl (n ∙ x.2) ((only_exact ps x.0 x.1 x.0).1 refl),
    )

pub only_of_value : (ps : List Part) (r : Option (Bor (List ℕ)))
    → MatchOption r (exact_name ps ≡ None) (λ n. exact_name ps ≡ Some n.now)
    → IfSome r (λ n. (name : List ℕ) → Matches ps name ↔ name ≡ n.now)
only_of_value ps None h = tt
only_of_value ps (Some n) h = only_exact ps n.now h

-- the pattern of these bytes alone
pub exact_of_bytes : (bytes : List ℕ) → exact_name (map (λ b. Byte b) bytes) ≡ Some bytes
exact_of_bytes [] = refl
exact_of_bytes (b ∷ bytes) = ap (option_map (λ v. b ∷ v)) (exact_of_bytes bytes)

pub bytes_of_exact : (ps : List Part) (bytes : List ℕ) → exact_name ps ≡ Some bytes → ps ≡ map (λ b. Byte b) bytes
bytes_of_exact [] bytes e = ap (map (λ b. Byte b)) (let b : [] ≡ bytes = cc in b)
bytes_of_exact (AnyRun ∷ ps) bytes e = absurd (cc)
bytes_of_exact (AnyByte ∷ ps) bytes e = absurd (cc)
bytes_of_exact (OneOf rs ∷ ps) bytes e = absurd (cc)
bytes_of_exact (Byte b ∷ ps) bytes e =
    let x = exact_more b (exact_name ps) bytes e in
    ap (λ v. Byte b ∷ v) (bytes_of_exact ps x.0 x.1) ∙ ap (map (λ b. Byte b)) (sym x.2)

pub matches_bytes : (bytes name : List ℕ) → Matches (map (λ b. Byte b) bytes) name ↔ name ≡ bytes
matches_bytes bytes name = only_exact (map (λ b. Byte b) bytes) bytes (exact_of_bytes bytes) name

pub no_star : (bytes : List ℕ) → map (λ b. Byte b) bytes ≡ AnyRun ∷ [] → ⊥
no_star [] e = absurd (cc)
no_star (b ∷ bytes) e = absurd (cc)

-- a reader with the bytes so far
abbrev pub IsExactTo : List ℕ → List ℕ → List ℕ → Type 0
IsExactTo word bytes rest =
    (ps : List Part) → SpellsPattern ps word
    → (qs : List Part) × SpellsPattern qs rest × (option_map (λ v. bytes ++ v) (exact_name qs) ≡ exact_name ps)

map_none : (o : Option (List ℕ)) → option_map (λ v. [] ++ v) o ≡ o
map_none None = refl
map_none (Some v) = refl

pub exact_start : (word : List ℕ) → IsExactTo word [] word
exact_start word ps s = (ps, s, map_none (exact_name ps))

byte_of_code : (word : List ℕ) (p : CodePart) (ps : List Part) (b : ℕ) → code_byte p ≡ Some b
    → exact_name (part_of word p ∷ ps) ≡ option_map (λ v. b ∷ v) (exact_name ps)
byte_of_code word code.AnyRun ps b e = absurd (cc)
byte_of_code word code.AnyByte ps b e = absurd (cc)
byte_of_code word (code.OneOf i j) ps b e = absurd (cc)
byte_of_code word (code.Byte x) ps b e = let h : x ≡ b = cc in ap (λ k. option_map (λ v. k ∷ v) (exact_name ps)) h

no_byte_of_code : (word : List ℕ) (p : CodePart) (ps : List Part) → code_byte p ≡ None
    → exact_name (part_of word p ∷ ps) ≡ None
no_byte_of_code word code.AnyRun ps e = refl
no_byte_of_code word code.AnyByte ps e = refl
no_byte_of_code word (code.OneOf i j) ps e = refl
no_byte_of_code word (code.Byte x) ps e = absurd (cc)

map_more : (bytes : List ℕ) (b : ℕ) (o : Option (List ℕ))
    → option_map (λ v. (bytes ++ b ∷ []) ++ v) o ≡ option_map (λ v. bytes ++ v) (option_map (λ v. b ∷ v) o)
map_more bytes b None = refl
map_more bytes b (Some v) = ap Some (append_assoc bytes (b ∷ []) v)

pub exact_step : (word bytes rest : List ℕ) (p : CodePart) (more : List ℕ) (b : ℕ) → IsExactTo word bytes rest
    → BeginsWith rest (part_of rest p) more
    → code_byte p ≡ Some b → IsExactTo word (bytes ++ b ∷ []) more
exact_step word bytes rest p more b x begins e ps s =
    let h = x ps s in
    let o = begins.only h.0 h.1 in (
      o.0,
      o.2,
      map_more bytes b (exact_name o.0) ∙ ap (option_map (λ v. bytes ++ v)) (sym (byte_of_code rest p o.0 b e))
          ∙ ap (λ v. option_map (λ w. bytes ++ w) (exact_name v)) (sym o.1) ∙ h.2,
    )

pub exact_stop : (word bytes rest : List ℕ) (p : CodePart) (more : List ℕ) → IsExactTo word bytes rest
    → BeginsWith rest (part_of rest p) more
    → code_byte p ≡ None → (ps : List Part) → SpellsPattern ps word → None ≡ exact_name ps
exact_stop word bytes rest p more x begins e ps s =
    let h = x ps s in
    let o = begins.only h.0 h.1 in
    sym (ap (option_map (λ v. bytes ++ v)) (ap exact_name o.1 ∙ no_byte_of_code rest p o.0 e)) ∙ h.2

pub exact_end : (word bytes rest : List ℕ) → IsExactTo word bytes rest → EndsHere rest → (ps : List Part)
    → SpellsPattern ps word → Some bytes ≡ exact_name ps
exact_end word bytes rest x ends ps s =
    let h = x ps s in
    ap Some (sym (append-nil bytes)) ∙ sym (ap (λ v. option_map (λ w. bytes ++ w) (exact_name v)) (ends h.0 h.1)) ∙ h.2

-- what is kept of a word of bytes alone
pub exact_spells : (ps : List Part) (word bytes kept : List ℕ) → SpellsPattern ps word → exact_name ps ≡ Some bytes
    → kept ≡ bytes
    → SpellsPattern (map (λ b. Byte b) kept) word
exact_spells ps word bytes kept s e k =
    subst (λ v. SpellsPattern v word) (bytes_of_exact ps bytes e ∙ ap (map (λ b. Byte b)) (sym k)) s
