-- Lines on a member where a command is refused: forms of this project's own. What is changed in memory need not be stored then.
use Rattle.std.specs.Prelude.{ℕ, Bool, true, false, List, [], ◌++◌, codes, decimal}
use Rattle.md_streams.specs.ShownNames.Shown.{shown}

-- A write to it failed: whether the superblocks of the others say so is not told.
unfoldable pub failed_text : List ℕ → List ℕ
failed_text name =
    codes "mdcli: " ++ shown name
    ++ codes ": a write failed; where `detail` does not call it faulty, run `fail` on it\n"

-- Where whole chunks are listed, good sectors are among them.
abbrev pub good_ones : Bool → List ℕ
good_ones true = codes ", also good ones of the same chunks"
good_ones false = []

-- A member lists more sectors as bad in memory than before, and so many: as many or fewer are in its log.
unfoldable pub perhaps_listed_text : List ℕ → Bool → ℕ → List ℕ
perhaps_listed_text name by_chunks count =
    codes "mdcli: " ++ shown name
    ++ (codes ": perhaps more sectors are listed as bad in it now, up to " ++ decimal count)
    ++ good_ones by_chunks ++ codes ": `examine-badblocks` shows which\n"
