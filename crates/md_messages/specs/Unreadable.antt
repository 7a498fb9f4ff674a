-- What is written to sectors that no member in sync gives can't be read: forms of this project's own.
use Rattle.std.specs.Prelude.{ℕ, List, [], ◌++◌, codes, Option, Some, None}
use Rattle.md_notices.specs.Lines.{ungiven_text}
use Rattle.md_words.specs.Asks.{Ask, serves_writable, writes}
use Rattle.md_messages.specs.declared.notices.Notices.{Notices}

abbrev pub unreadable_if_some : Option ℕ → List ℕ
unreadable_if_some None = []
unreadable_if_some (Some first) =
    codes "mdcli: what is written to these can't be read; `read --fill` and `create` make an array of the others\n"

-- Of a command that writes data: which sectors these are, as it leaves the array, and that.
abbrev pub unreadable_lines : Ask → Notices → List ℕ
unreadable_lines (writes sector count) n = ungiven_text n.lost ++ unreadable_if_some n.lost.first
unreadable_lines serves_writable n = ungiven_text n.lost ++ unreadable_if_some n.lost.first
unreadable_lines ask n = []
