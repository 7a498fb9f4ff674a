-- What callers see of a writer beside a line.
use Rattle.std.specs.Prelude.{ℕ, Bool, List, Option, None, if◌then◌else◌}
use Rattle.md_files.specs.declared.streams.cleared.Cleared.{Cleared}

-- the writer below
abbrev pub cleared_writer_of : {W L : Type 0} → Cleared W L → W
cleared_writer_of c = c.writer

-- whether what hides in the text of std's writers stands as its code
abbrev pub is_coded_text : {W L : Type 0} → Cleared W L → Bool
is_coded_text c = c.is_coded

abbrev pub has_failed_cleared : {W L : Type 0} → Cleared W L → Bool
has_failed_cleared c = c.failed

-- What the writer below has, where it has each byte of a text as it was written.
abbrev pub cleared_contents : {W L : Type 0} → (W → Option (List ℕ)) → Cleared W L → Option (List ℕ)
cleared_contents contents c = if c.is_coded then None else contents c.writer
