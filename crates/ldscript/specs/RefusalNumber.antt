-- The numbers under which refusals are told.
use Rattle.std.specs.Prelude.{ℕ}
use Rattle.ldscript.specs.declared.refusal.ScriptRefusal.{ScriptRefusal}
use Rattle.ldscript.specs.declared.refusal.ScriptRefusal.TheVariants.{NotTokens, NotAScript, Repeated, MisplacedDot}
use Rattle.ldscript.specs.declared.refusal.ScriptRefusal.TheVariants.{Limit, NoMemory}

abbrev pub script_refusal_number : ScriptRefusal → ℕ
script_refusal_number NotTokens = 1
script_refusal_number NotAScript = 2
script_refusal_number Repeated = 3
script_refusal_number MisplacedDot = 4
script_refusal_number Limit = 5
script_refusal_number (NoMemory _) = 6
