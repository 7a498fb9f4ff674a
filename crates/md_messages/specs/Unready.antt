-- The line that says that a kernel may not be given the array yet.
use Rattle.std.specs.Prelude.{ℕ, List, []}
use Rattle.md_notices.specs.Kernel.{unready_text}
use Rattle.md_words.specs.Asks.{Ask, assembles, details, stops}
use Rattle.md_messages.specs.declared.notices.Notices.{Notices}

-- Of a command that shows an array or stops it: as it leaves the array.
abbrev pub unready_lines : Ask → Notices → List ℕ
unready_lines (assembles json readonly) n = unready_text n.unready
unready_lines (details form readonly) n = unready_text n.unready
unready_lines (stops json) n = unready_text n.unready
unready_lines ask n = []
