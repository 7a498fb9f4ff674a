-- A pass reads those of its sources that have a slot.
use Rattle.std.proofs.Common.{◌≡◌, ◌≢◌, ℕ, ◌+◌, ◌<◌, ◌≤◌, ◌==◌, ◌||◌, Bool, true, false, cond, List, [], ◌∷◌, length, filter, count_by, get_or, Result, Ok, Err, MatchResult, refl, ap, sym, ◌∙◌, arith}
use Rattle.std.specs.Int.{div_ceil}
use Rattle.std.specs.List.{All}
use Rattle.std.proofs.lemmas.List.Sums.{sum_by-cons}
use Rattle.md_bitmap.specs.declared.chunks.Chunks.{Chunks}
use Rattle.md_bitmap.specs.Marks.{Bitmap}
use Rattle.std.proofs.lemmas.Bool.Decides.{nat_tests}
use Rattle.std.proofs.lemmas.List.{get_or_default}
use Rattle.std.proofs.lemmas.List.Elements.{All-filter}
use Rattle.std.proofs.lemmas.List.Folds.{list_any-from_Any}
use Rattle.std.proofs.lemmas.List.Kept.{AllPairs-filter}
use Rattle.md_cert.specs.declared.slots.Slot.{Slot}
use Rattle.md_device.specs.declared.device.Device.{Ghosts}
use Rattle.md_device.specs.Failing.{EachNewFault}
use Rattle.md_collect.specs.Places.{HasRoom}
use Rattle.md_collect.specs.Collecting.{ArePlanned}
use Rattle.md_collect.specs.Reading.{FailsInChunk}
use Rattle.md_collect.specs.Reports.{Copying}
use Rattle.md_pass.specs.declared.fault.PassFault.{PassFault}
use Rattle.md_pass.specs.declared.pass.BoardCounts.{BoardCounts}
use Rattle.md_pass.specs.declared.preparing.Preparation.{Preparation}
use Rattle.md_pass.specs.declared.source.Source.{Source}
use Rattle.md_pass.specs.Readings.{has_slot, is_of}
use Rattle.md_collect.specs.Workers.Queues.{AreOnlyRead}
use Rattle.md_pass.specs.Copied.{AreCopied, AreUncopied, BreaksOff, CountFailed, EndsPass, FailOnlyThere, FailThere, HasCopied, HoldsChunkOf, IsOfFailedSlot, PassState, WritesPlanned, failed_slots, is_failed_slot}
use Rattle.md_pass.specs.Preparing.{CanCopy, IsPreparedFor}
use Rattle.md_pass.specs.Sources.{MayRead}
use Rattle.md_pass.proofs.Besides.{none_copied}
use Rattle.md_pass.proofs.FilteredLists.{all_that_pass, any_that_passes}
use Rattle.md_collect.proofs.WorkerLemmas.OnlyReads.{not_read}

-- those of the sources that have a slot
abbrev pub with_slots : List Slot → List Source → List Source
with_slots slots sources = filter (λ s. has_slot slots s.role) sources

slot_of : (slots : List Slot) (i : ℕ) (slot : Slot) → length slots ≢ 0 → i < length slots → (role : ℕ) → role ≡ (get_or slots i slot).source → has_slot slots role ≡ true
slot_of slots i slot some below role is =
    let same : ((get_or slots i slot).source == (get_or slots i slot).source) ≡ true = grind (arith, nat_tests) in
    list_any-from_Any (is_of role) slots (i, get_or slots i slot, below, sym (get_or_default slots i slot (get_or slots i slot) below), rw is same)

none_kept : (b : Bool) (role : ℕ) (x : Slot) (xs : List Slot) → is_of role x ≡ false → count_by (is_of role) xs ≡ 0 → count_by (is_of role) (cond b (x ∷ xs) xs) ≡ 0
none_kept true role x xs other none = sum_by-cons (λ s. cond (is_of role s) 1 0) x xs ∙ (let z : ◌≡◌ {A = ℕ} (cond (is_of role x) 1 0) 0 = rw other refl in omega (arith, z, none))
none_kept false role x xs other none = none

neither : (a b : Bool) → (a || b) ≡ false → (a ≡ false) × (b ≡ false)
neither true b e = cc
neither false b e = (refl, e)

none_of_role : (copied : Bitmap) (role : ℕ) (slots : List Slot) → has_slot slots role ≡ false → count_by (is_of role) (failed_slots slots copied) ≡ 0
none_of_role copied role [] none = refl
none_of_role copied role (x ∷ xs) none =
    let (first, rest) = neither (is_of role x) (has_slot xs role) none in
    none_kept (is_failed_slot copied x) role x (failed_slots xs copied) first (none_of_role copied role xs rest)

module _ {D : Type 0} (g : Ghosts D) where
  pub may_read_those : {chunks : _} (slots : List Slot) (sources : List Source) (devices : List D) → MayRead g chunks slots sources devices → MayRead g chunks slots (with_slots slots sources) devices
  may_read_those {chunks = chunks} slots sources devices may = record {
    within = All-filter (λ s. has_slot slots s.role) (λ s. s.place < length devices) sources may.within;
    room = All-filter (λ s. has_slot slots s.role) (λ (s : Source). (d : D) → HasRoom (g.content (get_or devices s.place d)) s.offset chunks) sources may.room;
    apart = AllPairs-filter (λ (a b : Source). a.place ≢ b.place) (λ s. has_slot slots s.role) sources may.apart;
    rising = AllPairs-filter (λ (a b : Source). a.role < b.role) (λ s. has_slot slots s.role) sources may.rising;
    serves = λ i slot below. any_that_passes (λ s. has_slot slots s.role) (λ s. s.role ≡ (get_or slots i slot).source) sources (may.serves i slot below)
        (λ s e. slot_of slots i slot (λ none. absurd (omega (arith, below, none))) below s.role e);
  }

  copied_of_all : (copy : Copying) (copied : _) (sources : List Source) (devices : List D) (old new : D) → AreCopied g copy copied (with_slots copy.slots sources) devices old new → AreCopied g copy copied sources devices old new
  copied_of_all copy copied sources devices old new are i slot below mark k s within role =
      let among = all_that_pass (λ x. has_slot copy.slots x.role) (λ x. x.role ≡ (get_or copy.slots i slot).source → HoldsChunkOf g copy devices old new (get_or copy.slots i slot).chunk x) sources (are i slot below mark) in
      among k s within (slot_of copy.slots i slot (λ none. absurd (omega (arith, below, none))) below (get_or sources k s).role role) role

  there_of_all : (copy : Copying) (copied : _) (sources : List Source) (olds news : List D) → FailThere g copy copied (with_slots copy.slots sources) olds news → FailThere g copy copied sources olds news
  there_of_all copy copied sources olds news fail i slot below unset k s within role =
      let among = all_that_pass (λ x. has_slot copy.slots x.role) (λ x. x.role ≡ (get_or copy.slots i slot).source → (d : D) → FailsInChunk g (get_or olds x.place d) (get_or news x.place d) x.offset copy.chunks (get_or copy.slots i slot).chunk) sources (fail i slot below unset) in
      among k s within (slot_of copy.slots i slot (λ none. absurd (omega (arith, below, none))) below (get_or sources k s).role role) role

  only_of_all : (copy : Copying) (copied : _) (sources : List Source) (olds news : List D) → FailOnlyThere g copy copied (with_slots copy.slots sources) olds news → FailOnlyThere g copy copied sources olds news
  only_of_all copy copied sources olds news only k s within has e =
      all_that_pass (λ x. has_slot copy.slots x.role) (λ x. has_slot copy.slots x.role ≡ true → (d : D) → EachNewFault (g.faults (get_or olds x.place d)) (g.faults (get_or news x.place d)) (IsOfFailedSlot copy copied x)) sources only k s within has has e

  -- a source without slots has none that failed
  failed_of_all : (slots : List Slot) (copied : _) (sources : List Source) (olds news : List D) → AreOnlyRead g olds news → All (λ (s : Source). s.place < length olds) sources → CountFailed g slots copied (with_slots slots sources) olds news → CountFailed g slots copied sources olds news
  failed_of_all slots copied sources olds news read within counts k s below e h = by (has_slot slots (get_or sources k s).role) refl
    where
      by : (b : Bool) → has_slot slots (get_or sources k s).role ≡ b
          → g.failures (get_or olds (get_or sources k s).place e) + count_by (is_of (get_or sources k s).role) (failed_slots slots copied) ≤ g.failures (get_or news (get_or sources k s).place e)
      by true has =
          all_that_pass (λ (x : Source). has_slot slots x.role) (λ (x : Source). (d : D) → g.honest (get_or olds x.place d) ≡ true → g.failures (get_or olds x.place d) + count_by (is_of x.role) (failed_slots slots copied) ≤ g.failures (get_or news x.place d)) sources counts
          k s below has e h
      by false none =
          let up = (read.each (get_or sources k s).place e (within k s below)).counted in
          let zero = none_of_role copied (get_or sources k s).role slots none in
          omega (arith, up, zero)

  -- a plan that was prepared for these sources
  pub can_copy : (slots : List Slot) (chunks : Chunks) (offset : ℕ) (sources : List Source) (p : Preparation) (now : PassState D) → IsPreparedFor slots chunks offset sources p → ArePlanned chunks slots
      → MayRead g chunks slots sources now.devices → HasRoom (g.content now.target) offset chunks → now.copied.chunks ≡ div_ceil chunks.size chunks.sectors → AreUncopied slots now.copied → CanCopy g p now
  can_copy slots chunks offset sources p now is planned may room marks uncopied =
      let own : p.collector.slots ≡ slots = ap (λ (c : Copying). c.slots) is.copy in
      let grid : p.collector.chunks ≡ chunks = ap (λ (c : Copying). c.chunks) is.copy in
      let from : p.collector.offset ≡ offset = ap (λ (c : Copying). c.offset) is.copy in
      record {
        ordered = is.ordered;
        planned = rw (own, grid) planned;
        sources = rw (own, grid, is.reads) (may_read_those slots sources now.devices may);
        room = rw (from, grid) room;
        marks = rw grid marks;
        uncopied = rw own uncopied;
      }

  has_of_all : (copy : Copying) (sources : List Source) (old new : PassState D) → HasCopied g copy (with_slots copy.slots sources) old new → HasCopied g copy sources old new
  has_of_all copy sources old new has = record { joined = has.joined; holds = copied_of_all copy new.copied sources old.devices old.target new.target has.holds; beside = has.beside }

  -- what a pass gives, of all sources
  pub gives_of_all : (copy : Copying) (sources : List Source) (old new : PassState D) (r : Result BoardCounts PassFault) → AreOnlyRead g old.devices new.devices → All (λ (s : Source). s.place < length old.devices) sources
      → MatchResult r (EndsPass g copy (with_slots copy.slots sources) old new) (BreaksOff g old new) → MatchResult r (EndsPass g copy sources old new) (BreaksOff g old new)
  gives_of_all copy sources old new (Ok counts) read within gives = record {
    copied = has_of_all copy sources old new gives.copied;
    none_left = gives.none_left;
    failed = gives.failed;
    counted = failed_of_all copy.slots new.copied sources old.devices new.devices read within gives.counted;
    there = there_of_all copy new.copied sources old.devices new.devices gives.there;
    only_there = only_of_all copy new.copied sources old.devices new.devices gives.only_there;
  }
  gives_of_all copy sources old new (Err why) read within gives = gives

  -- nothing was done yet
  pub nothing_written : (copy : Copying) (now : PassState D) → WritesPlanned g copy now now
  nothing_written copy now = record { sources = record { as_many = refl; each = λ k d below. not_read (get_or now.devices k d) }; target = none_copied copy now.target }
