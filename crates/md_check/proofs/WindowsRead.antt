-- Windows that were read: what the buffers show is what the devices show.
use Rattle.std.proofs.Common.{◌≡◌, ℕ, ◌+◌, ◌*◌, ◌-◌, ◌/◌, ◌<◌, ◌≤◌, Bool, true, false, if◌then◌else◌, Option, None, List, [], length, get_or, is_some, refl, ap, sym, ◌∙◌, subst, arith}
use Rattle.std.specs.List.{All}
use Rattle.std.proofs.lemmas.Option.{get_or_from_slice_get, slice_get-get_or, slice_get_within}
use Rattle.md_device.specs.Device.{held}
use Rattle.md_device.specs.declared.device.Device.{Ghosts}
use Rattle.md_bitmap.specs.declared.chunks.Chunks.{Chunks}
use Rattle.md_badblocks.specs.declared.run.Run.{Run}
use Rattle.md_badblocks.specs.Runs.{IsBad}
use Rattle.md_collect.specs.Places.{HasRoom}
use Rattle.md_collect.specs.Reading.{CountsFailure}
use Rattle.md_collect.proofs.WorkerLemmas.OnlyReads.{not_read, read_then}
use Rattle.md_check.proofs.ChunkFaults.{chunk_since}
use Rattle.md_check.specs.declared.reader.Reader.{Reader}
use Rattle.md_check.specs.declared.lent.Missed.{Missed}
use Rattle.md_check.specs.Readings.{FailsUnlisted, HasReadSectors, HasTurned, HasUnlisted, IsLead, IsToRead, MissesIn}
use Rattle.md_check.specs.Readers.{AreReadersHonest, AreReadersRead, HaveNotFailed, HasDataOnDevice, IsUsed, OnlyReaderRead, ReaderShows, in_window, on_device, shown_of}

-- a chunk that is to be read in a window is to be read in the array
read_at_all : {chunks : Chunks} {from n c : ℕ} (old first : List Run) → old ≡ first → IsToRead chunks old from n c → IsToRead chunks first 0 chunks.size c
read_at_all old first same to = record {
  sector = to.sector;
  not_before = omega arith;
  before = let within = to.inside.within in omega arith;
  inside = to.inside;
  unlisted = subst (λ (runs : List Run). IsBad runs to.sector → ⊥) same to.unlisted;
}

module _ {D : Type 0} {g : Ghosts D} where
  role_kept : (old new : Reader D) → OnlyReaderRead g old new → new.role ≡ old.role
  role_kept old new read = ap (λ (s : Reader D). s.role) read.kept

  offset_kept : (old new : Reader D) → OnlyReaderRead g old new → new.offset ≡ old.offset
  offset_kept old new read = ap (λ (s : Reader D). s.offset) read.kept

  listed_kept : (old new : Reader D) → OnlyReaderRead g old new → new.listed ≡ old.listed
  listed_kept old new read = ap (λ (s : Reader D). s.listed) read.kept

  reader_then : (a b c : Reader D) → OnlyReaderRead g a b → OnlyReaderRead g b c → OnlyReaderRead g a c
  reader_then a b c first second = record {
    kept = second.kept ∙ ap (λ (s : Reader D). record s { device = c.device; bytes = c.bytes; alike = c.alike; missed = c.missed }) first.kept;
    only_read = read_then first.only_read second.only_read;
    unused = λ none. second.unused (ap is_some (role_kept a b first) ∙ none) ∙ first.unused none;
  }

  pub none_read : (readers : List (Reader D)) → AreReadersRead g readers readers
  none_read readers = record { as_many = refl; each = λ k d below. record { kept = refl; only_read = not_read (get_or readers k d).device; unused = λ _. refl } }

  -- readers that were read, and in a turn again
  pub turn_read : {chunks : Chunks} {from sectors n : ℕ} {lead : List ℕ} (firsts olds news : List (Reader D)) → AreReadersRead g firsts olds → length news ≡ length olds
      → ((k : ℕ) (d : Reader D) → k < length olds → HasTurned g chunks from sectors n lead (get_or olds k d) (get_or news k d)) → AreReadersRead g firsts news
  turn_read firsts olds news so_far same has = record {
    as_many = same ∙ so_far.as_many;
    each = λ k d below. reader_then (get_or firsts k d) (get_or olds k d) (get_or news k d) (so_far.each k d below) (has k d (let many = so_far.as_many in omega arith)).read;
  }

  -- where no call has failed, nor in a turn of which these workers note nothing
  pub turn_unfailing : {chunks : Chunks} {from sectors n : ℕ} {lead : List ℕ} (m : ℕ) (firsts olds news : List (Reader D)) → m ≤ length olds
      → ((k : ℕ) (d : Reader D) → k < length olds → HasTurned g chunks from sectors n lead (get_or olds k d) (get_or news k d)) → ((k : ℕ) (d : Reader D) → k < m → (get_or news k d).missed ≡ None)
      → HaveNotFailed g m firsts olds → HaveNotFailed g m firsts news
  turn_unfailing m firsts olds news few has none so_far k d below = (has k d (omega arith)).unfailing (none k d below) ∙ so_far k d below

  -- what a reader is still to be read for
  pub read_here_still : (chunks : Chunks) (firsts olds : List (Reader D)) → AreReadersRead g firsts olds → All (HasDataOnDevice g chunks) firsts → All (HasDataOnDevice g chunks) olds
  read_here_still chunks firsts olds so_far read_here k d below reads =
      let one = so_far.each k d (let many = so_far.as_many in omega arith) in
      let first = get_or firsts k d in
      let old = get_or olds k d in
      let room : HasRoom (g.content first.device) first.offset chunks = read_here k d (let many = so_far.as_many in omega arith) (ap is_some (sym (role_kept first old one)) ∙ reads) in
      rw (one.only_read.content_kept, offset_kept first old one) room

  -- the reader whose worker missed a chunk in a turn
  pub misses_in : {chunks : Chunks} {from sectors n : ℕ} {lead : List ℕ} (firsts olds news : List (Reader D)) (missed : Missed) → AreReadersRead g firsts olds → HaveNotFailed g (length firsts) firsts olds → length news ≡ length olds
      → ((k : ℕ) (d : Reader D) → k < length olds → HasTurned g chunks from sectors n lead (get_or olds k d) (get_or news k d))
      → missed.member < length news → ((d : Reader D) → (get_or news missed.member d).missed ≡ Option.Some missed.chunk)
      → ((k : ℕ) (d : Reader D) → k < missed.member → (get_or news k d).missed ≡ None) → MissesIn g chunks firsts news missed
  misses_in {chunks = chunks} firsts olds news missed so_far unfailing same has within noted first_noted =
      let k = missed.member in
      let many = so_far.as_many in
      let here : k < length olds = omega arith in
      let first : k < length firsts = omega arith in
      record {
        within = first;
        misses = λ d.
            let one = so_far.each k d first in
            let m = (has k d here).missed missed.chunk (noted d) in
            record {
              reads = ap is_some (sym (role_kept (get_or firsts k d) (get_or olds k d) one)) ∙ m.reads;
              read = read_at_all (get_or olds k d).listed (get_or firsts k d).listed (listed_kept (get_or firsts k d) (get_or olds k d) one) m.read;
              fails = λ honest. let up = m.fails (one.only_read.honest_kept ∙ honest) in let before = one.only_read.counted in omega arith;
              there = chunk_since g (get_or firsts k d).device (get_or olds k d).device (get_or news k d).device (get_or firsts k d).offset chunks (IsBad (get_or firsts k d).listed) missed.chunk one.only_read
                  (subst (λ (s : Reader D). FailsUnlisted g (get_or olds k d).device (get_or news k d).device s.offset chunks (IsBad s.listed) missed.chunk) one.kept m.there);
            };
        earlier = turn_unfailing k firsts olds news (omega arith) has first_noted (λ j d below. unfailing j d (omega arith));
      }

  -- in a window that all have read, a buffer shows what the device shows
  module _ {chunks : Chunks} {n : ℕ} (lead : List ℕ) (from sectors : ℕ) (firsts olds news : List (Reader D)) (so_far : AreReadersRead g firsts olds) (same : length news ≡ length olds)
      (has : (k : ℕ) (d : Reader D) → k < length olds → HasTurned g chunks from sectors n lead (get_or olds k d) (get_or news k d))
      (none : All (λ (s : Reader D). s.missed ≡ None) news) (honest : AreReadersHonest g firsts) (s : ℕ) (up : from ≤ s) (below : s < from + sectors) where
    -- reader k as it was first, and as it is
    same_bytes : (k : ℕ) (d : Reader D) → k < length firsts → is_some (get_or news k d).role ≡ true → (IsBad (get_or news k d).listed s → ⊥)
        → in_window lead from (get_or news k d) s ≡ on_device g (get_or firsts k d) s
    same_bytes k d within reads unlisted =
        let many = so_far.as_many in
        let here : k < length olds = omega arith in
        let first = get_or firsts k d in
        let old = get_or olds k d in
        let new = get_or news k d in
        let one = so_far.each k d within in
        let turned = has k d here in
        let gave = turned.gave (none k d (omega arith)) (ap is_some (sym (role_kept old new turned.read)) ∙ reads) (one.only_read.honest_kept ∙ honest k d within) in
        let at : from + (s - from) ≡ s = omega arith in
        gave (s - from) (omega arith) (λ bad. unlisted (subst (λ (runs : List Run). IsBad runs s) (sym (listed_kept old new turned.read)) (subst (λ n. IsBad old.listed n) at bad)))
        ∙ ap (λ n. held (g.content old.device) (old.offset + n) 512) at
        ∙ ap (λ (c : List ℕ). held c (old.offset + s) 512) one.only_read.content_kept
        ∙ ap (λ n. held (g.content first.device) (n + s) 512) (offset_kept first old one)

    kept_from_first : (k : ℕ) (d : Reader D) → k < length firsts → ((get_or news k d).role ≡ (get_or firsts k d).role) × ((get_or news k d).listed ≡ (get_or firsts k d).listed)
    kept_from_first k d within =
        let many = so_far.as_many in
        let one = so_far.each k d within in
        let turned = has k d (omega arith) in (
          role_kept (get_or olds k d) (get_or news k d) turned.read ∙ role_kept (get_or firsts k d) (get_or olds k d) one,
          listed_kept (get_or olds k d) (get_or news k d) turned.read ∙ listed_kept (get_or firsts k d) (get_or olds k d) one,
        )

    pub from_device : (k : ℕ) (bytes : List ℕ) → ReaderShows (on_device g) firsts k s bytes → ReaderShows (in_window lead from) news k s bytes
    from_device k bytes shows =
        let first = shows.reader in
        let many = so_far.as_many in
        let within = slice_get_within firsts k first shows.there in
        let at : get_or firsts k first ≡ first = get_or_from_slice_get firsts k first first shows.there in
        let kept = kept_from_first k first within in
        let role : (get_or news k first).role ≡ first.role = kept.0 ∙ ap (λ (x : Reader D). x.role) at in
        let listed : (get_or news k first).listed ≡ first.listed = kept.1 ∙ ap (λ (x : Reader D). x.listed) at in
        let reads = ap is_some role ∙ shows.reads in
        let unlisted : IsBad (get_or news k first).listed s → ⊥ = λ bad. shows.unlisted (subst (λ (runs : List Run). IsBad runs s) listed bad) in
        record {
          reader = get_or news k first;
          there = slice_get-get_or news k first (omega arith);
          reads = reads;
          unlisted = unlisted;
          is = same_bytes k first within reads unlisted ∙ ap (λ (x : Reader D). on_device g x s) at ∙ shows.is;
        }

    pub from_window : (k : ℕ) (bytes : List ℕ) → ReaderShows (in_window lead from) news k s bytes → ReaderShows (on_device g) firsts k s bytes
    from_window k bytes shows =
        let new = shows.reader in
        let many = so_far.as_many in
        let low = slice_get_within news k new shows.there in
        let within : k < length firsts = omega arith in
        let at : get_or news k new ≡ new = get_or_from_slice_get news k new new shows.there in
        let kept = kept_from_first k new within in
        let role : (get_or firsts k new).role ≡ new.role = sym kept.0 ∙ ap (λ (x : Reader D). x.role) at in
        let listed : (get_or firsts k new).listed ≡ new.listed = sym kept.1 ∙ ap (λ (x : Reader D). x.listed) at in
        let reads : is_some (get_or news k new).role ≡ true = ap (λ (x : Reader D). is_some x.role) at ∙ shows.reads in
        let unlisted : IsBad (get_or news k new).listed s → ⊥ = λ bad. shows.unlisted (subst (λ (x : Reader D). IsBad x.listed s) at bad) in
        record {
          reader = get_or firsts k new;
          there = slice_get-get_or firsts k new within;
          reads = ap is_some role ∙ shows.reads;
          unlisted = λ bad. shows.unlisted (subst (λ (runs : List Run). IsBad runs s) listed bad);
          is = sym (same_bytes k new within reads unlisted) ∙ ap (λ (x : Reader D). in_window lead from x s) at ∙ shows.is;
        }

module _ {D : Type 0} where
  unlike : (lead : List ℕ) (new : Reader D) → new.alike ≡ false → shown_of lead new ≡ new.bytes.items
  unlike lead new is = ap (λ (b : Bool). if b then lead else new.bytes.items) is

  as_lead : (lead : List ℕ) (new : Reader D) → new.alike ≡ true → shown_of lead new ≡ lead
  as_lead lead new is = ap (λ (b : Bool). if b then lead else new.bytes.items) is

later_to_read : {chunks : Chunks} {listed : List Run} {c : ℕ} (from at n m : ℕ) → from ≤ at → at + n ≤ from + m → IsToRead chunks listed at n c → IsToRead chunks listed from m c
later_to_read from at n m up within to = record {
  sector = to.sector;
  not_before = let low = to.not_before in omega arith;
  before = let high = to.before in omega arith;
  inside = to.inside;
  unlisted = to.unlisted;
}

-- ---- a reader whose device was read into its buffer
module _ {D : Type 0} {g : Ghosts D} where
  pub used_none : (reader : Reader D) → IsUsed g reader reader
  used_none reader = record { kept = refl; long = refl; only_read = not_read reader.device }

  pub used_then : (a b c : Reader D) → IsUsed g a b → IsUsed g b c → IsUsed g a c
  used_then a b c first second = record {
    kept = second.kept ∙ ap (λ (s : Reader D). record s { device = c.device; bytes = c.bytes }) first.kept;
    long = second.long ∙ first.long;
    only_read = read_then first.only_read second.only_read;
  }

  -- what was read then is what the member has
  pub given_first : (first old : Reader D) → IsUsed g first old → (from n : ℕ) (bytes : List ℕ) → (g.honest old.device ≡ true → HasUnlisted (g.content old.device) old.offset old.listed from n bytes)
      → g.honest first.device ≡ true → HasUnlisted (g.content first.device) first.offset first.listed from n bytes
  given_first first old used from n bytes has honest =
      subst (λ (c : List ℕ). HasUnlisted c first.offset first.listed from n bytes) used.only_read.content_kept
      (subst (λ (o : ℕ). HasUnlisted (g.content old.device) o first.listed from n bytes) (ap (λ (s : Reader D). s.offset) used.kept)
      (subst (λ (l : List Run). HasUnlisted (g.content old.device) old.offset l from n bytes) (ap (λ (s : Reader D). s.listed) used.kept) (has (used.only_read.honest_kept ∙ honest))))

  -- a chunk that could not be read then was to be read
  pub missed_first : {chunks : Chunks} {c : ℕ} (first old : Reader D) → IsUsed g first old → (from at n m : ℕ) → from ≤ at → at + n ≤ from + m → IsToRead chunks old.listed at n c → IsToRead chunks first.listed from m c
  missed_first first old used from at n m up within to = record {
    sector = to.sector;
    not_before = let low = to.not_before in omega arith;
    before = let high = to.before in omega arith;
    inside = to.inside;
    unlisted = subst (λ (runs : List Run). IsBad runs to.sector → ⊥) (ap (λ (s : Reader D). s.listed) used.kept) to.unlisted;
  }

  pub fails_first : (first old new : Reader D) → IsUsed g first old → g.failures old.device ≡ g.failures first.device → CountsFailure g old.device new.device → CountsFailure g first.device new.device
  fails_first first old new used same fails honest = let up = fails (used.only_read.honest_kept ∙ honest) in omega arith

  pub still_read_here : (chunks : Chunks) (first old : Reader D) → IsUsed g first old → HasRoom (g.content first.device) first.offset chunks → HasRoom (g.content old.device) old.offset chunks
  still_read_here chunks first old used room = rw (used.only_read.content_kept, ap (λ (s : Reader D). s.offset) used.kept) room

  pub only_used : (old new : Reader D) (a b : Bool) (m : Option ℕ) → is_some old.role ≡ true → IsUsed g (record old { alike = a; missed = None }) new → OnlyReaderRead g old (record new { alike = b; missed = m })
  only_used old new a b m reads used = record {
    kept = ap (λ (s : Reader D). record s { alike = b; missed = m }) used.kept;
    only_read = used.only_read;
    unused = λ none. absurd (let e = reads in cc);
  }

  -- ---- what a turn leaves
  pub first_turned : (chunks : Chunks) (sectors : ℕ) (old new : Reader D) → 512 * sectors ≤ length old.bytes.items → HasReadSectors g chunks 0 sectors (record old { alike = false }) new → HasTurned g chunks 0 sectors sectors [] old new
  first_turned chunks sectors old new room has =
      let own = unlike [] new has.alike_kept in
      record {
        read = record { kept = has.read.kept; only_read = has.read.only_read; unused = has.read.unused };
        long = has.long;
        gave = λ none reads honest. subst (λ (b : List ℕ). HasUnlisted (g.content old.device) old.offset old.listed 0 sectors b) (sym own) (has.gave none reads honest);
        size = let l = ap length own in let same = has.long in omega arith;
        missed = λ c at. let m = has.missed c at in record { reads = m.reads; read = m.read; fails = m.fails; there = m.there };
        unfailing = has.unfailing;
      }

  pub led_turned : (chunks : Chunks) (from ahead : ℕ) (lead : List ℕ) (old new : Reader D) → IsLead g from lead old → HasReadSectors g chunks (from + length lead / 512) ahead (record old { alike = true }) new
      → HasTurned g chunks from (length lead / 512) (length lead / 512 + ahead) lead old new
  led_turned chunks from ahead lead old new leads has =
      let own = as_lead lead new has.alike_kept in
      record {
        read = record { kept = has.read.kept; only_read = has.read.only_read; unused = has.read.unused };
        long = has.long;
        gave = λ none reads honest. subst (λ (b : List ℕ). HasUnlisted (g.content old.device) old.offset old.listed from (length lead / 512) b) (sym own) (leads reads honest);
        size = let l = ap length own in omega arith;
        missed = λ c at. let m = has.missed c at in
            record { reads = m.reads; read = later_to_read from (from + length lead / 512) ahead (length lead / 512 + ahead) (omega arith) (omega arith) m.read; fails = m.fails; there = m.there };
        unfailing = has.unfailing;
      }

  pub turned_more : (chunks : Chunks) (from sectors n m : ℕ) (lead : List ℕ) (old new : Reader D) → n ≤ m → HasTurned g chunks from sectors n lead old new → HasTurned g chunks from sectors m lead old new
  turned_more chunks from sectors n m lead old new up has = record {
    read = has.read;
    long = has.long;
    gave = has.gave;
    size = has.size;
    missed = λ c at. let x = has.missed c at in record { reads = x.reads; read = later_to_read from from n m (omega arith) (omega arith) x.read; fails = x.fails; there = x.there };
    unfailing = has.unfailing;
  }
