-- The faults that `words` gives, as its clause says them.
use Rattle.ldi_words.proofs.Common.{App, Choices, Err, HasKind, IsAmong, IsErrAnd, List, MatchResult, Ok, OutOfMemory}
use Rattle.ldi_words.proofs.Common.{Result, Text, [], codes, inl, inr, subst, sym, takes, true, ◌∷◌, ◌≡◌, ◌≢◌}
use Rattle.std.specs.Borrow.{Bor}
use Rattle.clap.specs.Words.{kind_of}
use Rattle.clap.specs.Faults.{fault_of}
use Rattle.clap.specs.declared.error.Error.{Error}
use Rattle.ldi_words.specs.declared.call.Call.{Call}
use Rattle.ldi_words.specs.declared.fault.WordsFault.{WordsFault}
use Rattle.ldi_words.specs.declared.fault.WordsFault.TheVariants.{Memory, Refused}
use Rattle.ldi_words.specs.Fault.{IsFaultAt, IsFaultOf}
use Rattle.growth.specs.Memory.{no_memory}

pub memory_fault : (a : App) (words : List Text) (P : Call → Type 0) (r : Result Call WordsFault)
    → IsErrAnd r (λ f. f ≡ Memory no_memory) → MatchResult r P (IsFaultAt a words)
memory_fault a words P (Ok x) is = absurd is
memory_fault a words P (Err f) is = subst (IsFaultAt a words) (sym is) tt

-- a kind other than OutOfMemory is among those that are stated
among : (e : Error) (a : App) (words : List Text) → kind_of e ≢ OutOfMemory → HasKind (fault_of a words) e
    → IsAmong (kind_of e) (fault_of a words)
among e a words other (inl m) = absurd (other m)
among e a words other (inr k) = k

pub refused_fault : (a : App) (words : List Text) (P : Call → Type 0) (r : Result Call WordsFault) (e : Error)
    → IsErrAnd r (IsFaultOf e)
    → (takes a words ≡ true → kind_of e ≡ OutOfMemory) → HasKind (fault_of a words) e
    → MatchResult r P (IsFaultAt a words)
refused_fault a words P (Ok x) e is passes kinds = absurd is
refused_fault a words P (Err (Memory _)) e is passes kinds = tt
refused_fault a words P (Err (Refused d)) e is passes kinds =
    subst (λ x. IsFaultAt a words (Refused x)) (sym is.0) (λ t. is.1 (passes t), is.1, among e a words is.1 kinds)

-- some reference to the two handlings of orphans, for a fault before there is a command
abbrev text_at : Text → Bor Text
text_at t = record { ref_ptr = (0, 0); now = t }

abbrev pub any_choices : Choices
any_choices = record { ref_ptr = (0, 0); now = text_at (codes "error") ∷ text_at (codes "discard") ∷ [] }
