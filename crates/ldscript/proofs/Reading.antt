-- How readers of parts are put together.
use Rattle.ldscript.proofs.Common.{Err, Follows, Lexeme, List, None, NoneAt, Ok, Option, Reads, Result, Rule, Some}
use Rattle.ldscript.proofs.Common.{arith, length, ◌<◌, ◌▸◌}
use Rattle.ldscript.proofs.Singles.{Fixed, behind}

-- where a part can't begin, nothing that begins with it stands
pub none_front : {A : Type 0} (p : Rule) (q : A → Rule) (ts : List Lexeme) → ((us : List Lexeme) → p ts us → ⊥)
    → NoneAt (λ a. p ▸ q a) ts
none_front p q ts n y more d = n d.0 d.1

pub none_behind : {A : Type 0} (p : Rule) (q : A → Rule) → Fixed p → (ts us : List Lexeme) → p ts us → NoneAt q us
    → NoneAt (λ a. p ▸ q a) ts
none_behind p q f ts us h n y more d = n y more (behind p (q y) f ts us more h d)

pub reads_behind : {A X E : Type 0} (p : Rule) (q : A → Rule) → Fixed p → (ts us : List Lexeme)
    → p ts us × (length us < length ts)
    → (tree : X → A) (rest : X → List Lexeme) (r : Result (Option X) E) → Reads q us tree rest r
    → Reads (λ a. p ▸ q a) ts tree rest r
reads_behind p q f ts us h tree rest (Ok (Some x)) d =
    record { spells = (us, h.0, d.spells); shorter = omega (arith, h.1, d.shorter) }
reads_behind p q f ts us h tree rest (Ok None) d = none_behind p q f ts us h.0 d
reads_behind p q f ts us h tree rest (Err e) d = tt

pub follows_behind : {X : Type 0} (p q : Rule) → Fixed p → (ts us : List Lexeme) → p ts us × (length us < length ts)
    → (rest : X → List Lexeme) (r : Option X) → Follows q us rest r → Follows (p ▸ q) ts rest r
follows_behind p q f ts us h rest (Some x) d = ((us, h.0, d.0), omega (arith, h.1, d.1))
follows_behind p q f ts us h rest None d = λ more k. d more (behind p q f ts us more h.0 k)
