-- Tokens of a text one by one.
use Rattle.ldscript_tokens.proofs.Common.{All, CodeToken, IsCut, List, [], ap, get_or, get_or-map, length, length-map}
use Rattle.ldscript_tokens.proofs.Common.{lexeme_of, map, refl, subst, sym, token_of, ℕ, ◌<◌, ◌^◌, ◌∷◌, ◌≡◌, ◌≤◌}
use Rattle.ldscript_tokens.specs.Limits.{IsWithinLimits, IsTokens, IsPastLimits, tokens_of}
use Rattle.ldscript_tokens.specs.declared.token.TokenKind.TheVariants as kind

-- what stands past the end of a list
abbrev pub nothing : CodeToken
nothing = record { kind = kind.Name; start = 0; end = 0; line = 0 }

pub all_map_at : {X Y : Type 0} (P : Y → Type 0) (f : X → Y) (xs : List X) (i : ℕ) (d : X) → i < length xs
    → All P (map f xs) → P (f (get_or xs i d))
all_map_at P f xs i d lt all = subst P (get_or-map f xs i d (f d) lt) (all i (f d) (rw (length-map xs f) lt))

pub tokens_of_lexemes : (text : List ℕ) (items : List CodeToken)
    → tokens_of (map (lexeme_of text) items) ≡ map (token_of text) items
tokens_of_lexemes text [] = refl
tokens_of_lexemes text (t ∷ ts) = ap (λ us. token_of text t ∷ us) (tokens_of_lexemes text ts)

pub accepted : (text : List ℕ) (items : List CodeToken) → length text ≤ 2 ^ 20 → IsCut text (map (lexeme_of text) items)
    → IsWithinLimits (map (token_of text) items)
    → IsTokens text (map (lexeme_of text) items)
accepted text items short c h =
    record { short = short; cut = c; limits = subst (λ ts. IsWithinLimits ts) (sym (tokens_of_lexemes text items)) h }

pub past_limits : (text : List ℕ) (items : List CodeToken) → IsCut text (map (lexeme_of text) items)
    → (IsWithinLimits (map (token_of text) items) → ⊥) → IsPastLimits text
past_limits text items c h = record {
  lexemes = map (lexeme_of text) items;
  cut = c;
  past = λ w. h (subst (λ ts. IsWithinLimits ts) (tokens_of_lexemes text items) w);
}
