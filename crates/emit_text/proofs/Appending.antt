-- Bytes written one part after another.
use Rattle.emit_text.proofs.Common.{List, [], ap, append-nil, append_assoc, sym, ℕ, ◌++◌, ◌∙◌, ◌≡◌}

-- what was written is the front of what was still to be written
pub written_step : (d e x rest whole end : List ℕ) → e ≡ d ++ x → whole ≡ x ++ rest → d ++ whole ≡ end
    → e ++ rest ≡ end
written_step d e x rest whole end h w i =
    ap (λ z. z ++ rest) h ∙ append_assoc d x rest ∙ ap (λ z. d ++ z) (sym w) ∙ i

-- two parts, one after the other
pub written_both : (d e f x y : List ℕ) → e ≡ d ++ x → f ≡ e ++ y → f ≡ d ++ (x ++ y)
written_both d e f x y h k = k ∙ ap (λ z. z ++ y) h ∙ append_assoc d x y

-- three parts, one after the other
pub written_three : (d e f x y z : List ℕ) → e ≡ d ++ x → f ≡ e ++ y → f ++ z ≡ d ++ (x ++ (y ++ z))
written_three d e f x y z h k =
    ap (λ t. t ++ z) (written_both d e f x y h k) ∙ append_assoc d (x ++ y) z ∙ ap (λ t. d ++ t) (append_assoc x y z)

-- the last part of a text that is then whole
pub written_last : (d e x y whole : List ℕ) → e ≡ d ++ x → x ++ y ≡ whole → e ++ y ≡ d ++ whole
written_last d e x y whole h w = ap (λ z. z ++ y) h ∙ append_assoc d x y ∙ ap (λ z. d ++ z) w

-- nothing is left to be written
pub written_end : (d rest end : List ℕ) → rest ≡ [] → d ++ rest ≡ end → d ≡ end
written_end d rest end h i = sym (append-nil d) ∙ ap (λ z. d ++ z) (sym h) ∙ i
