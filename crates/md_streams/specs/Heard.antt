-- What was read of a line, as far as it may be a yes.
use Rattle.std.specs.Prelude.{ℕ, ◌==◌, if◌then◌else◌}
use Rattle.md_streams.specs.declared.answer.Answer.{Answer}
use Rattle.md_streams.specs.declared.answer.Answer.TheVariants as answer
use Rattle.md_streams.specs.declared.answer.Heard.{Heard}
use Rattle.md_streams.specs.declared.answer.Heard.TheVariants.{Nothing, Y, Ye, Yes, Other}

-- with one byte more
abbrev pub heard_with : Heard → ℕ → Heard
heard_with Nothing byte = if byte == 121 then Y else Other
heard_with Y byte = if byte == 101 then Ye else Other
heard_with Ye byte = if byte == 115 then Yes else Other
heard_with Yes byte = Other
heard_with Other byte = Other

abbrev pub answer_of : Heard → Answer
answer_of Nothing = answer.No
answer_of Y = answer.Yes
answer_of Ye = answer.No
answer_of Yes = answer.Yes
answer_of Other = answer.No
