-- What the writer of a session has got.
use Rattle.std.proofs.Common.{◌≡◌, ◌∙◌, ℕ, List, [], Option, None, Some, IfSome, IfOk, Result, Ok, Err, refl, ap}
use Rattle.std.proofs.Common.{subst, append-nil}
use Rattle.std.specs.Io.KnownBytes.{Appends, append_known}
use Rattle.ldmodel.specs.Answers.{Answers}
use Rattle.ldmodel.specs.Project.{Project}
use Rattle.ldi_stream.specs.Ran.{Flushed, Ran, World, status_of, world}
use Rattle.ldi_stream.specs.Stepped.{WriterState, written_in}
use Rattle.ldi_stream.specs.declared.Status.{Status}
use Rattle.ldi_stream.specs.declared.fault.RunFault.{RunFault}
use Rattle.ldi.specs.Session.{HasAnswered}

pub nothing_held : (known : Option (List ℕ)) → append_known known [] ≡ known
nothing_held None = refl
nothing_held (Some bytes) = ap Some (append-nil bytes)

-- what `run` says of the sink
abbrev pub SinkAnswered : Project → Option (List ℕ) → Option (List ℕ) → WriterState → Project
    → Result Status RunFault → Type 0
SinkAnswered p stream before sink last outcome =
    IfOk outcome (λ status. IfSome stream (λ bytes. (out : List ℕ) × Appends before (written_in sink) out
    × Answers p bytes out last (status_of status)))

all_sent : (p : Project) (stream before : Option (List ℕ)) (sink : WriterState) (last : Project)
    (outcome : Result Status RunFault)
    → SinkAnswered p stream before sink last outcome → Flushed [] sink.held outcome
    → HasAnswered p stream before sink outcome
all_sent p None before sink last (Ok status) h f = tt
all_sent p (Some bytes) before sink last (Ok status) h f =
    let all_is_sent : written_in sink ≡ sink.sent = ap (append_known sink.sent) (f refl) ∙ nothing_held sink.sent in
    (h.0, last, subst (λ (known : Option (List ℕ)). Appends before known h.0) all_is_sent h.1, h.2)
all_sent p stream before sink last (Err fault) h f = tt

-- A new sink holds nothing, so that what it starts from is what its writer had.
pub answered : (p : Project) (stream before : Option (List ℕ)) (sink : WriterState) (last : Project)
    (outcome : Result Status RunFault)
    → SinkAnswered p stream (append_known before []) sink last outcome → Flushed [] sink.held outcome
    → HasAnswered p stream before sink outcome
answered p stream before sink last outcome h f = all_sent p stream before sink last outcome
    (subst (λ (known : Option (List ℕ)). SinkAnswered p stream known sink last outcome) (nothing_held before) h) f

pub ran : (stream before : Option (List ℕ)) (p : Project) (new : World) (outcome : Result Status RunFault)
    → Ran (world stream (append_known before []) p) new outcome → Ran (world stream before p) new outcome
ran stream before p new outcome h =
    subst (λ (known : Option (List ℕ)). Ran (world stream known p) new outcome) (nothing_held before) h
