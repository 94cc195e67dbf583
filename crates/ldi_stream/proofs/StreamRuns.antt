use Rattle.ldi_stream.proofs.Common.{Appends-trans, Consumes-trans, List, Progress, Project, Replies, Reply, Served}
use Rattle.ldi_stream.proofs.Common.{World, [], append-nil, append_assoc, flat_map-append, length, length-append, next}
use Rattle.ldi_stream.proofs.Common.{none, refl, subst, sym, ℕ, ◌++◌, ◌+◌, ◌∷◌, ◌≡◌}
use Rattle.std.proofs.KnownBytes.{Consumes-nil, Appends-nil}
use Rattle.ldmodel.specs.Commands.{Command, IsCommand, AreCommands, spelling}

Replies-more : (p q r : Project) (cs : List Command) (c : Command) (out answer : List ℕ) → Replies p cs out q
    → Reply q c answer r → Replies p (cs ++ c ∷ []) (out ++ answer) r
Replies-more p q r [] c out answer none s =
    subst (λ (l : List ℕ). Replies p (c ∷ []) l r) (append-nil answer) (next answer [] s none)
Replies-more p q r (d ∷ cs) c out answer (next {mid = m} a rest h more) s =
    subst (λ (l : List ℕ). Replies p (d ∷ (cs ++ c ∷ [])) l r) (sym (append_assoc a rest answer))
    (next a (rest ++ answer) h (Replies-more m q r cs c rest answer more s))

AreCommands-more : (cs : List Command) (c : Command) → AreCommands cs → IsCommand c → AreCommands (cs ++ c ∷ [])
AreCommands-more [] c h i = (i, tt)
AreCommands-more (d ∷ cs) c h i = (h.0, AreCommands-more cs c h.1 i)

-- nothing yet
pub at_start : (w : World) → Progress w w
at_start w = record {
  commands = [];
  answers = [];
  each = tt;
  read = Consumes-nil w.rest;
  wrote = Appends-nil w.written;
  replies = none;
}

pub at_start_length : (w : World) → length (at_start w).commands ≡ 0
unfolding at_start
at_start_length w = refl

-- one more command
pub one_more : (old mid new : World) → Progress old mid → Served mid new → Progress old new
one_more old mid new p s = record {
  commands = p.commands ++ s.command ∷ [];
  answers = p.answers ++ s.answer;
  each = AreCommands-more p.commands s.command p.each s.is;
  read = rw (flat_map-append spelling p.commands (s.command ∷ []))
      (rw (append-nil (spelling s.command)) (Consumes-trans _ _ _ _ _ p.read s.read));
  wrote = Appends-trans _ _ _ _ _ p.wrote s.wrote;
  replies = Replies-more old.project mid.project new.project p.commands s.command p.answers s.answer p.replies s.reply;
}

pub one_more_length : (old mid new : World) (p : Progress old mid) (s : Served mid new)
    → length (one_more old mid new p s).commands ≡ length p.commands + 1
unfolding one_more
one_more_length old mid new p s = length-append p.commands (s.command ∷ [])
