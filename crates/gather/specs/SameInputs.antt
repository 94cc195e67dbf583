-- What an input statement takes, wherever it stands.
use Rattle.ldscript.specs.statements.Numbering.{InputStatementAt}
use Rattle.ldscript.specs.statements.declared.input.Input.{Input}

abbrev pub input_of : InputStatementAt → Input
input_of statement = statement.input
