-- What `get_flag` says of the rows.
use Rattle.ldi_words.proofs.Common.{Bool, IsFlag, IsTrue, Option, Some, Text, codes, false, inl, inr, true, ◌↔◌, ◌≡◌}

-- a flag is set where its text is `true`
pub flag_says : (stated : Option Text) (b : Bool) → IsFlag stated → (stated ≡ Some (codes "true") → b ≡ true)
    → (stated ≡ Some (codes "false") → b ≡ false)
    → IsTrue b ↔ (stated ≡ Some (codes "true"))
flag_says stated b (inl e) set unset = (λ _. e, set)
flag_says stated b (inr e) set unset = (λ h. let no = unset e in cc, set)

-- and not where it is `false`
pub flag_unset : (stated : Option Text) (b : Bool) → IsFlag stated → (stated ≡ Some (codes "true") → b ≡ true)
    → b ≡ false → stated ≡ Some (codes "false")
flag_unset stated b (inl e) set unset = let is = set e in absurd (cc)
flag_unset stated b (inr e) set unset = e
