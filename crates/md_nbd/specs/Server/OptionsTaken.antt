-- An option is taken from the source, or none comes any more.
use Rattle.std.specs.Prelude.{◌≡◌, ◌⊎◌, ℕ, ◌<◌, ◌≤◌, List, ◌++◌, length, take, Result, MatchResult}
use Rattle.std.specs.Io.KnownBytes.{IsAtEnd}
use Rattle.md_nbd.specs.Options.{longest_body, option_bytes, option_head}
use Rattle.md_streams.specs.declared.source.Source.{Ghosts as Sources}
use Rattle.md_nbd.specs.declared.server.agreement.Haggled.{Haggled}
use Rattle.md_nbd.specs.declared.server.agreement.Haggled.TheVariants as haggled
use Rattle.md_streams.specs.Source.{Gives}
use Rattle.md_nbd.specs.Server.RequestsTaken.{EndsThere}

-- An option came, by its number and the length of its body, and the body stands at the front of the buffer.
pub record TakesOption {I : Type 0} (i : Sources I) (old new : I) (buf : List ℕ) (o : ℕ × ℕ) : Type 0 where
  pub room : o.1 ≤ length buf
  pub gives : Gives i.remaining i.failed old new (option_bytes o.0 (take o.1 buf))

-- A part of the head of an option, or a head and a part of the body.
abbrev pub IsPartOfOption : List ℕ → Type 0
IsPartOfOption bytes =
    ((0 < length bytes) × (length bytes < 16))
    ⊎ ((option size : ℕ) × (part : List ℕ) × (bytes ≡ option_head option size ++ part) × (length part < size))

-- The source ended within an option.
pub record EndsWithinOption {I : Type 0} (i : Sources I) (old new : I) : Type 0 where
  pub bytes : List ℕ
  pub part : IsPartOfOption bytes
  pub gives : Gives i.remaining i.failed old new bytes
  pub end : IsAtEnd (i.remaining new)

-- As many bytes came as an option's head has, and they are none.
pub record GivesNoOption {I : Type 0} (i : Sources I) (old new : I) : Type 0 where
  pub bytes : List ℕ
  pub whole : length bytes ≡ 16
  pub none : (option size : ℕ) → bytes ≡ option_head option size → ⊥
  pub gives : Gives i.remaining i.failed old new bytes

-- The head of an option came whose body is longer than any that is taken.
pub record GivesTooLongOption {I : Type 0} (i : Sources I) (old new : I) : Type 0 where
  pub option : ℕ
  pub size : ℕ
  pub long : longest_body < size
  pub gives : Gives i.remaining i.failed old new (option_head option size)

-- Why the source gave no option.
abbrev pub GivesOptionNone : {I : Type 0} → Sources I → I → I → Haggled → Type 0
GivesOptionNone i old new haggled.Ended = EndsThere i old new
GivesOptionNone i old new haggled.Cut = EndsWithinOption i old new
GivesOptionNone i old new haggled.NoOption = GivesNoOption i old new
GivesOptionNone i old new haggled.TooLong = GivesTooLongOption i old new
GivesOptionNone i old new haggled.Agreed = ⊥
GivesOptionNone i old new haggled.Closed = ⊥
GivesOptionNone i old new haggled.Exhausted = ⊥

abbrev pub TakesOptionOrNone : {I : Type 0} → Sources I → I → I → List ℕ → Result (ℕ × ℕ) Haggled → Type 0
TakesOptionOrNone i old new buf result = MatchResult result (TakesOption i old new buf) (GivesOptionNone i old new)
