-- What callers see of a sink into a file with holes.
use Rattle.md_files.specs.declared.sparse.sparse.Sparse.{Sparse}

-- the file below
abbrev pub file_of : {F : Type 0} → Sparse F → F
file_of s = s.file
