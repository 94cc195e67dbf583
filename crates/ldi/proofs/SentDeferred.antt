-- What the writer of a deferred session has got.
use Rattle.std.proofs.Common.{◌≡◌, ◌∙◌, ℕ, List, [], Option, None, Some, IfSome, IfOk, Result, Ok, Err, refl, ap, subst}
use Rattle.std.specs.Io.KnownBytes.{Appends, append_known}
use Rattle.ldmodel.specs.Link.{Link}
use Rattle.ldmodel.specs.Project.{Project}
use Rattle.ldmodel_deferred.specs.Answers.{Answers, Holding, holding}
use Rattle.ldi_stream.specs.Ran.{Flushed, status_of}
use Rattle.ldi_stream.specs.Stepped.{WriterState, written_in}
use Rattle.ldi_stream.specs.declared.Status.{Status}
use Rattle.ldi_stream.specs.declared.fault.RunFault.{RunFault}
use Rattle.ldi_deferred.specs.Ran.{Ran, World, world}
use Rattle.ldi.specs.DeferredSession.{HasAnswered}
use Rattle.ldi.proofs.Sent.{nothing_held}

-- what `run_deferred` says of the sink, where the linker then holds a project and a link
abbrev pub SinkAnswered : Holding → Option (List ℕ) → Option (List ℕ) → WriterState → Project → Link
    → Result Status RunFault → Type 0
SinkAnswered from stream before sink project last outcome =
    IfOk outcome (λ status. IfSome stream (λ bytes. (out sent : List ℕ) × Appends before (written_in sink) out
    × Answers from bytes out (holding project last sent) (status_of status)))

all_sent : (from : Holding) (stream before : Option (List ℕ)) (sink : WriterState) (project : Project) (last : Link)
    (outcome : Result Status RunFault)
    → SinkAnswered from stream before sink project last outcome → Flushed [] sink.held outcome
    → HasAnswered from stream before sink outcome
all_sent from None before sink project last (Ok status) h f = tt
all_sent from (Some bytes) before sink project last (Ok status) h f =
    let all_is_sent : written_in sink ≡ sink.sent = ap (append_known sink.sent) (f refl) ∙ nothing_held sink.sent in
    (h.0, holding project last h.1, subst (λ (known : Option (List ℕ)). Appends before known h.0) all_is_sent h.2, h.3)
all_sent from stream before sink project last (Err fault) h f = tt

-- A new sink holds nothing, so that what it starts from is what its writer had.
pub answered : (from : Holding) (stream before : Option (List ℕ)) (sink : WriterState) (project : Project)
    (last : Link) (outcome : Result Status RunFault)
    → SinkAnswered from stream (append_known before []) sink project last outcome → Flushed [] sink.held outcome
    → HasAnswered from stream before sink outcome
answered from stream before sink project last outcome h f = all_sent from stream before sink project last outcome
    (subst (λ (known : Option (List ℕ)). SinkAnswered from stream known sink project last outcome)
    (nothing_held before) h) f

pub ran : (stream before : Option (List ℕ)) (from : Holding) (new : World) (outcome : Result Status RunFault)
    → Ran (world stream (append_known before []) from) new outcome → Ran (world stream before from) new outcome
ran stream before from new outcome h =
    subst (λ (known : Option (List ℕ)). Ran (world stream known from) new outcome) (nothing_held before) h
