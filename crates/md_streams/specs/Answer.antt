-- What a line of an input answers, and what of the input is taken.
use Rattle.std.specs.Prelude.{◌≡◌, ◌≢◌, ◌⊎◌, ℕ, ◌-◌, ◌^◌, ◌||◌, Bool, true, false, List, [], ◌∷◌, ◌++◌, codes, length, Option, Some, None}
use Rattle.std.specs.List.{AllByRecursion}
use Rattle.std.specs.Io.KnownBytes.{Consumes, IsAtEnd}
use Rattle.std.specs.Str.{bytes_eq}
use Rattle.md_streams.specs.Source.{Gives}
use Rattle.md_streams.specs.declared.source.Source.{Ghosts}
use Rattle.md_streams.specs.declared.answer.Answer.{Answer}
use Rattle.md_streams.specs.declared.answer.Answer.TheVariants.{Yes, No, Cut}

-- a line that is a yes, without its line feed
abbrev pub is_yes : List ℕ → Bool
is_yes line = bytes_eq line (codes "yes") || bytes_eq line (codes "y")

abbrev pub is_agreed : Answer → Bool
is_agreed Yes = true
is_agreed No = false
is_agreed Cut = false

-- no line feed is among the bytes
abbrev pub IsWithinLine : List ℕ → Type 0
IsWithinLine = AllByRecursion (λ byte. byte ≢ 10)

module _ {R : Type 0} (r : Ghosts R) (old new : R) where
  -- the input gave this byte, or none, as it is at its end
  abbrev pub TakesByte : Option ℕ → Type 0
  TakesByte (Some byte) = Gives r.remaining r.failed old new (byte ∷ [])
  TakesByte None = Gives r.remaining r.failed old new [] × IsAtEnd (r.remaining new)

  -- A line was taken, with its line feed and nothing after it. Whether it is a yes.
  pub record TakesLine (is_agreed : Bool) : Type 0 where
    pub line : List ℕ
    pub one : IsWithinLine line
    pub gives : Gives r.remaining r.failed old new (line ++ 10 ∷ [])
    pub is : is_yes line ≡ is_agreed

  -- No line feed came: the input ended, or failed, or gave more bytes than any input has.
  pub record TakesNoLine : Type 0 where
    pub bytes : List ℕ
    pub one : IsWithinLine bytes
    pub taken : Consumes (r.remaining old) (r.remaining new) bytes
    pub why : IsAtEnd (r.remaining new) ⊎ (r.failed new ≡ true) ⊎ (length bytes ≡ 2 ^ 64 - 1)

  -- what was taken, and what it answers
  abbrev pub Answers : Answer → Type 0
  Answers Yes = TakesLine true
  Answers No = TakesLine false
  Answers Cut = TakesNoLine
