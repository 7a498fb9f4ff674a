-- What is told and asked of copies that have data where they lack it by their maps.
use Rattle.std.specs.Prelude.{◌≡◌, ◌&&◌, ℕ, Bool, true, false, List}
use Rattle.md_streams.specs.declared.asker.Asker.{Ghosts as AskerGhosts}
use Rattle.md_streams.specs.declared.sink.Sink.{Ghosts as SinkGhosts}
use Rattle.md_streams.specs.Putting.{PutsTold}
use Rattle.md_words.specs.Asks.{Ask, may_part}

module _ {A E : Type 0} (a : AskerGhosts A) (e : SinkGhosts E) (ask : Ask) (lines : List ℕ) where
  -- There is a question: the command may change members, and the lines are shown to somebody, or nobody can be asked.
  abbrev pub is_asked : A → Bool
  is_asked asker = may_part ask && a.shows asker

  -- The question itself shows the lines where standard error goes.
  abbrev pub is_shown : A → Bool
  is_shown asker = is_asked asker && a.told_first asker

  -- Whether the command goes on: it was asked once, with these very lines, and this was the answer; or there is no question, and nobody
  -- was asked. Standard error has the lines, once.
  pub record GoesOver (old new : A) (err after : E) (goes_on : Bool) : Type 0 where
    pub asked : is_asked old ≡ true → a.asks old new lines goes_on
    pub unasked : is_asked old ≡ false → (goes_on ≡ true) × (new ≡ old)
    pub shown : is_shown old ≡ true → after ≡ err
    pub told : is_shown old ≡ false → PutsTold e err after lines
