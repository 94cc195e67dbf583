-- Heads of output sections, as the code holds them.
use Rattle.std.specs.Prelude.{◌≡◌, Result, Ok, Err, ◌⊎◌}
use Rattle.ldmodel.specs.Fault.{Fault}
use Rattle.ldmodel.specs.Placement.{Given, Head}
use Rattle.place_sections.specs.State.{fault_of}
use Rattle.place_sections.specs.declared.head.GivenHead as code_given
use Rattle.place_sections.specs.declared.head.Head as code_head
use Rattle.place_sections.specs.declared.stop.LayoutStop.{LayoutStop}
use Rattle.place_sections.specs.declared.stop.LayoutStop.TheVariants as stop
use Rattle.growth.specs.Memory.{no_memory}

abbrev pub given_of : code_given.GivenHead → Given
given_of g = record { address = g.address; load = g.load; alignment = g.alignment }

abbrev pub head_from : code_head.Head → Head
head_from h = record { alignment = h.alignment; start = h.start; load = h.load }

-- the code gives what is wanted; or else memory ran out
abbrev pub Yields : {X Y : Type 0} → (X → Y) → Result Y Fault → Result X LayoutStop → Type 0
Yields shown wanted (Ok x) = wanted ≡ Ok (shown x)
Yields shown wanted (Err f) = (wanted ≡ Err (fault_of f)) ⊎ (f ≡ stop.NoMemory no_memory)
