-- Chunks that a member lacks and that no member in sync gives whole, by their lists.
use Rattle.std.specs.Prelude.{ℕ, ◌+◌, ◌*◌, ◌&&◌, ◌||◌, not, min, nat_lt, Bool, List, length, Option, Some, None, slice_get, if◌then◌else◌}
use Rattle.std.specs.Int.{div_ceil}
use Rattle.std.specs.List.{filter, list_all, list_any, range_with_len}
use Rattle.md_assembly.specs.States.{is_in_sync}
use Rattle.md_badblocks.specs.declared.run.Run.{Run}
use Rattle.md_kept_members.specs.View.{MemberView}
use Rattle.md_state.specs.Missing.{is_missing, is_rebuilt}
use Rattle.md_state.specs.View.{ArrayView}
use Rattle.md_notices.specs.declared.ungiven_chunks.UngivenChunks.{UngivenChunks}

-- a run of the list has a sector from the one on and below the other
abbrev pub lists_between : List Run → ℕ → ℕ → Bool
lists_between runs from to =
    list_any (λ run. nat_lt from (run.start + run.len) && nat_lt run.start to) runs

-- the sectors of the array that a chunk begins and ends with: the last one may be shorter
abbrev pub chunk_start : ArrayView → ℕ → ℕ
chunk_start a chunk = chunk * a.chunks.sectors

abbrev pub chunk_end : ArrayView → ℕ → ℕ
chunk_end a chunk = min ((chunk + 1) * a.chunks.sectors) a.chunks.size

-- the member lists a sector of the chunk
abbrev pub lists_part : ArrayView → ℕ → MemberView → Bool
lists_part a chunk m =
    lists_between m.bad
    (m.superblock.data_offset + chunk_start a chunk)
    (m.superblock.data_offset + chunk_end a chunk)

-- the member does not give the whole chunk: it lists a sector of it, or is not in sync
abbrev pub gives_no_whole : ArrayView → ℕ → MemberView → Bool
gives_no_whole a chunk m = not (is_in_sync m.state) || lists_part a chunk m

-- the member lacks the chunk, and no member in sync gives it whole
abbrev pub is_ungiven : ArrayView → MemberView → ℕ → Bool
is_ungiven a m chunk = is_missing a m chunk && list_all (gives_no_whole a chunk) a.members

-- of the first n chunks those that are so, rising
abbrev pub ungiven_below : ArrayView → MemberView → ℕ → List ℕ
ungiven_below a m n = filter (is_ungiven a m) (range_with_len 0 n)

-- how many there are, and the first of them
abbrev pub ungiven_before : ArrayView → MemberView → ℕ → UngivenChunks
ungiven_before a m n = record {
  count = length (ungiven_below a m n);
  first = slice_get (ungiven_below a m n) 0;
  sectors = a.chunks.sectors;
}

abbrev pub none_ungiven : UngivenChunks
none_ungiven = record { count = 0; first = None; sectors = 0 }

-- of all chunks of the array, where there is a member that may be rebuilt
abbrev pub chunks_ungiven : ArrayView → Option MemberView → UngivenChunks
chunks_ungiven a None = none_ungiven
chunks_ungiven a (Some m) =
    if is_rebuilt m.state then ungiven_before a m (div_ceil a.chunks.size a.chunks.sectors) else none_ungiven
