-- How a line is spelled, word by word.
use Rattle.emit_text.proofs.Common.{List, [], ap, flat_map, line_of, map, refl, shown, spaced_words, ◌++◌, ◌∷◌, ◌≡◌}
use Rattle.emit_text.specs.declared.line.Word.{Word}

after_spaces : (ws : List Word) → spaced_words ws ≡ flat_map (λ v. 32 ∷ v) (map shown ws)
after_spaces [] = refl
after_spaces (w ∷ ws) = ap (λ t. (32 ∷ shown w) ++ t) (after_spaces ws)

pub spelled : (w : Word) (ws : List Word) → (shown w ++ spaced_words ws) ++ 10 ∷ [] ≡ line_of (map shown (w ∷ ws))
unfolding line_of
spelled w ws = ap (λ t. (shown w ++ t) ++ 10 ∷ []) (after_spaces ws)
