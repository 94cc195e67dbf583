-- The error for memory that was refused. Its one field has one value, so that all errors of the type are this one.
use Rattle.growth.specs.declared.no_memory.NoMemory.{NoMemory}

pub no_memory : NoMemory
no_memory = record { refused = tt }
