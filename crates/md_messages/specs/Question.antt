-- The question before a command is done: what is asked, and what the answer allows.
use Rattle.std.specs.Prelude.{◌≡◌, ◌&&◌, ℕ, Bool, true, false, List, Option, Some, None, Result, MatchResult, is_some}
use Rattle.clap.specs.Words.{Text}
use Rattle.md_words.specs.Asks.{Ask}
use Rattle.md_refusals.specs.declared.fault.CommandFault.{CommandFault}
use Rattle.md_refusals.specs.declared.fault.CommandFault.TheVariants.{Declined, NoMemory, NotAll}
use Rattle.md_streams.specs.declared.asker.Asker.{Ghosts}
use Rattle.md_messages.specs.declared.notices.Notices.{Notices}
use Rattle.md_messages.specs.Noticed.{asks_first, first_absent}
use Rattle.md_messages.specs.Telling.{asked_text, unnamed_lines}

-- A relation between what was noticed, who is asked, before and after that, and whether the command goes on (`Ok`), or why it does
-- not.
abbrev pub Question : Type 0 → Type 1
Question A = Notices → A → A → Result (Unit {0}) CommandFault → Type 0

module _ {A : Type 0} (g : Ghosts A) (ask : Ask) (names : List Text) where
  -- There is a question: the command is to be asked first, and lines are shown to somebody.
  abbrev pub has_question : Notices → A → Bool
  has_question n asker = asks_first ask n && g.shows asker

  -- It was asked once, with these very lines, and this was the answer.
  abbrev pub IsAnswered : Notices → Bool → A → A → Type 0
  IsAnswered n goes_on old new = g.asks old new (asked_text ask names n) goes_on

  -- The command goes on: the answer was yes, or there is no question, and nobody was asked.
  pub record IsAgreed (n : Notices) (old new : A) : Type 0 where
    pub asked : has_question n old ≡ true → IsAnswered n true old new
    pub unasked : has_question n old ≡ false → new ≡ old

  -- why it does not: the answer was no; or there was no memory for the lines, and nobody was asked
  abbrev pub IsWhyNot : Notices → A → A → CommandFault → Type 0
  IsWhyNot n old new Declined = IsAnswered n false old new
  IsWhyNot n old new NoMemory = new ≡ old
  IsWhyNot n old new fault = ⊥

  pub record IsDeclined (n : Notices) (old new : A) (fault : CommandFault) : Type 0 where
    pub asks : has_question n old ≡ true
    pub why : IsWhyNot n old new fault

  abbrev pub question : Question A
  question n old new result = MatchResult result (λ _. IsAgreed n old new) (IsDeclined n old new)

-- Whether a command goes on without a member in sync that is not among the images.
module _ {A : Type 0} (g : Ghosts A) where
  abbrev pub has_absent : Notices → A → Bool
  has_absent n asker = is_some (first_absent n) && g.shows asker

  -- It does: the answer was yes to which devices were not named, or there is no question, and nobody was asked.
  pub record GoesWithout (n : Notices) (old new : A) : Type 0 where
    pub asked : has_absent n old ≡ true → g.asks old new (unnamed_lines n) true
    pub unasked : has_absent n old ≡ false → new ≡ old

  -- why it does not: the answer was no; or there was no memory for the lines, and nobody was asked
  abbrev pub IsWhyNotWithout : Notices → A → A → CommandFault → Type 0
  IsWhyNotWithout n old new (NotAll role) =
      (first_absent n ≡ Some role) × g.asks old new (unnamed_lines n) false
  IsWhyNotWithout n old new NoMemory = new ≡ old
  IsWhyNotWithout n old new fault = ⊥

  pub record StaysWithout (n : Notices) (old new : A) (fault : CommandFault) : Type 0 where
    pub asks : has_absent n old ≡ true
    pub why : IsWhyNotWithout n old new fault

  abbrev pub absent_question : Question A
  absent_question n old new result = MatchResult result (λ _. GoesWithout n old new) (StaysWithout n old new)
