-- What callers see of a reader as a source.
use Rattle.std.specs.Prelude.{ℕ, Bool, Option}
use Rattle.md_streams.specs.declared.source.Input.{Input}

abbrev pub reader_of : {R : Type 0} → Input R → R
reader_of i = i.reader

abbrev pub input_has_failed : {R : Type 0} → Input R → Bool
input_has_failed i = i.failed

-- how many bytes it has still to give, where that was told
abbrev pub length_told_of : {R : Type 0} → Input R → Option ℕ
length_told_of i = i.told
