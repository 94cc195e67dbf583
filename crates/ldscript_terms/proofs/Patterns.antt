-- What is answered of a pattern, from what is kept of it.
use Rattle.ldscript_terms.proofs.Common.{AnyRun, Bool, Byte, IsTrue, List, Matches, Part, SpellsPattern, [], map}
use Rattle.ldscript_terms.proofs.Common.{spelled, subst, sym, ℕ, ◌↔◌, ◌∙◌, ◌∷◌, ◌≡◌}
use Rattle.ldscript_terms.proofs.Exact.{matches_bytes}
use Rattle.ldscript_terms.proofs.Reading.{any_is_star}

pub star_is : (word bytes : List ℕ) (now : List Part) (b : Bool) → SpellsPattern (spelled word) word → bytes ≡ word
    → spelled word ≡ now
    → IsTrue b ↔ bytes ≡ 42 ∷ [] → IsTrue b ↔ now ≡ AnyRun ∷ []
star_is word bytes now b s e v star =
    let any = any_is_star word s in
    (λ t. sym v ∙ any.0 (sym e ∙ star.0 t), λ m. star.1 (e ∙ any.1 (v ∙ m)))

pub matches_wild : (word bytes : List ℕ) (now : List Part) (name : List ℕ) (b : Bool)
    → SpellsPattern (spelled word) word
    → bytes ≡ word → spelled word ≡ now
    → ((ps : List Part) → SpellsPattern ps bytes → IsTrue b ↔ Matches ps name) → IsTrue b ↔ Matches now name
matches_wild word bytes now name b s e v m =
    subst (λ ps. IsTrue b ↔ Matches ps name) v (m (spelled word) (subst (λ w. SpellsPattern (spelled word) w)
    (sym e) s))

pub matches_exact : (exact bytes : List ℕ) (now : List Part) (name : List ℕ) (b : Bool) → bytes ≡ exact
    → map (λ k. Byte k) exact ≡ now
    → IsTrue b ↔ name ≡ bytes → IsTrue b ↔ Matches now name
matches_exact exact bytes now name b e v same =
    let m = matches_bytes exact name in
    subst (λ ps. IsTrue b ↔ Matches ps name) v (λ t. m.1 (same.0 t ∙ e), λ k. same.1 (m.0 k ∙ sym e))
