-- How much standard error is told.
use Rattle.std.specs.Prelude.{Bool, true, false}
use Rattle.md_streams.specs.declared.messages.Messages.{Messages}
use Rattle.md_streams.specs.declared.messages.Messages.TheVariants.{Plain, WithAdvice}

-- more is told of a fault than its line
abbrev pub has_advice : Messages → Bool
has_advice Plain = false
has_advice WithAdvice = true
