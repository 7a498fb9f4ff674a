-- What a terminal is shown and asked.
use Rattle.std.specs.Prelude.{◌≡◌, ◌⊎◌, ℕ, ◌&&◌, ◌||◌, Bool, true, false, List, ◌++◌, codes, if◌then◌else◌, Option, Some, None}
use Rattle.md_streams.specs.declared.source.Source.{Ghosts as SourceGhosts}
use Rattle.md_streams.specs.Sink.{Puts}
use Rattle.md_streams.specs.declared.sink.Sink.{Ghosts as SinkGhosts}
use Rattle.md_streams.specs.Answer.{Answers, is_agreed}
use Rattle.md_streams.specs.declared.answer.Answer.{Answer}
use Rattle.md_streams.specs.declared.answer.Answer.TheVariants.{Yes, No, Cut}
use Rattle.md_streams.specs.declared.terminal.Questions.{Questions}
use Rattle.md_streams.specs.declared.terminal.Questions.TheVariants.{Silent, Shown, Asked, Unanswered, Refused}
use Rattle.md_streams.specs.Putting.{PutsTold}

-- What is done, by whether standard error is a terminal, whether standard input is one, whether there is another one to ask on (the
-- terminal that controls the program), and whether `--run` says that nothing is to be asked.
abbrev pub questions_of : Bool → Bool → Bool → Bool → Questions
questions_of is_shown is_answered has_other is_run =
    if is_run then (if is_shown then Shown else Silent)
    else if has_other || is_shown && is_answered then Asked
    else if is_shown then Unanswered else Refused

-- the lines matter: they are shown, or the command does not go on
abbrev pub are_put : Questions → Bool
are_put Silent = false
are_put Shown = true
are_put Asked = true
are_put Unanswered = true
are_put Refused = true

-- whether to go on, if nobody is asked
abbrev pub answer_unasked : Questions → Option Bool
answer_unasked Silent = Some true
answer_unasked Shown = Some true
answer_unasked Asked = None
answer_unasked Unanswered = Some false
answer_unasked Refused = Some false

abbrev pub question_text : List ℕ
question_text = codes "mdcli: go on? (yes or no) "

-- what is shown after an answer: the end of its line, if it has none
abbrev pub EndsAnswer : {E : Type 0} → SinkGhosts E → E → E → Answer → Type 0
EndsAnswer e err after Yes = after ≡ err
EndsAnswer e err after No = after ≡ err
EndsAnswer e err after Cut = PutsTold e err after (codes "\n")

module _ {E R : Type 0} (e : SinkGhosts E) (r : SourceGhosts R) (lines : List ℕ) where
  -- The lines are shown, and it is asked: a line of the input is the answer.
  pub record IsAnsweredOn (err after : E) (input left : R) (goes_on : Bool) : Type 0 where
    pub shown : E
    pub puts : Puts e.contents e.failed err shown (lines ++ question_text)
    pub answer : Answer
    pub takes : Answers r input left answer
    pub is : goes_on ≡ is_agreed answer
    pub ends : EndsAnswer e shown after answer

  -- If standard error fails under the question, nobody sees it: nothing is read, and the answer is no.
  abbrev pub Asks : E → E → R → R → Bool → Type 0
  Asks err after input left goes_on =
      IsAnsweredOn err after input left goes_on
      ⊎ ((e.failed after ≡ true) × (goes_on ≡ false) × (left ≡ input))

  -- Whether to go on. These lines are shown and the question is asked only as far as the case says.
  abbrev pub IsAsked : Questions → E → E → R → R → Bool → Type 0
  IsAsked Silent err after input left goes_on = (goes_on ≡ true) × (after ≡ err) × (left ≡ input)
  IsAsked Shown err after input left goes_on =
      (goes_on ≡ true) × PutsTold e err after lines × (left ≡ input)
  IsAsked Asked err after input left goes_on = Asks err after input left goes_on
  IsAsked Unanswered err after input left goes_on =
      (goes_on ≡ false) × PutsTold e err after lines × (left ≡ input)
  IsAsked Refused err after input left goes_on = (goes_on ≡ false) × (after ≡ err) × (left ≡ input)
