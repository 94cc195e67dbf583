-- What lines of a deferred session say.
use Rattle.ldi_deferred.proofs.Common.{AskChanges, Basic, List, MakeLink, SaysNothing, line, sym, ℕ, ◌≡◌}
use Rattle.ldi_stream.specs.Heads as session_heads

-- no command of a session, `link` or `changes` has the line
pub says_nothing : (text : List ℕ) → session_heads.SaysNothing text → (text ≡ line MakeLink → ⊥)
    → (text ≡ line AskChanges → ⊥) → SaysNothing text
says_nothing text none link changes (Basic c) h = none c (record { is = h.is; spelled = h.spelled })
says_nothing text none link changes MakeLink h = link (sym h.spelled)
says_nothing text none link changes AskChanges h = changes (sym h.spelled)
