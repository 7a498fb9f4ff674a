-- Passes are made one after another: what holds between two of them, and where they end.
use Rattle.std.proofs.Common.{◌≡◌, ◌≢◌, ◌∙◌, ℕ, suc, ◌+◌, ◌-◌, ◌<◌, ◌≤◌, ◌^◌, false, List, [], ◌∷◌, ◌++◌, length, length-append, Contains, All, None, count_by, get_or, map, slice_get, refl, sym, ap, subst, arith, inl, inr}
use Rattle.std.specs.Int.{div_ceil}
use Rattle.std.specs.List.{AllPairs}
use Rattle.std.proofs.lemmas.Bool.{both_ways}
use Rattle.std.proofs.lemmas.List.{length-map, map-append, nil_from_length}
use Rattle.std.proofs.lemmas.List.Elements.{All-map, Contains-append_left, Contains-get_or}
use Rattle.std.proofs.lemmas.List.Sums.{count_by-le-length, length-filter}
use Rattle.std.proofs.lemmas.Nat.{mul-le}
use Rattle.std.proofs.lemmas.Option.{slice_get_within}
use Rattle.md_assembly.proofs.Indices.{got_within}
use Rattle.md_assembly.specs.States.{is_in_sync}
use Rattle.md_bitmap.specs.declared.chunks.Chunks.{Chunks}
use Rattle.md_bitmap.specs.Marks.{Bitmap, is_set}
use Rattle.md_cert.specs.declared.slots.Slot.{Slot}
use Rattle.md_cert.specs.declared.table.Row.{Row}
use Rattle.md_cert.specs.Plans.{SlotsRise}
use Rattle.md_cert.specs.Tables.{chunks_of_rows}
use Rattle.md_kept_members.specs.View.{MemberView}
use Rattle.md_pass.specs.Copied.{failed_slots, is_failed_slot}
use Rattle.md_copy.proofs.PassLemmas.ArrayPasses.{copies_add, others, passes_go_on, permits}
use Rattle.md_copy.proofs.PassLemmas.Kept.{From, mapped, mapped_from}
use Rattle.md_copy.proofs.PassLemmas.Listing.{lists_add}
use Rattle.md_copy.proofs.PassLemmas.OnePass.{slot_permitted}
use Rattle.md_copy.specs.PassLaws.Listed.{ListsFailed, MayServe, ServesAs, most_failures}
use Rattle.md_copy.specs.PassLaws.Passes.{PassView, ServesAtMost, failed_chunks, slots_of_pass}
use Rattle.md_cert.specs.declared.planned.Planned.{Planned}
use Rattle.md_state.specs.Members.{IsMember}
use Rattle.md_state.specs.View.{ArrayView, MirrorView}
use Rattle.md_array.specs.Consistency.{IsConsistent}
use Rattle.md_array.proofs.StepLemmas.FailedParts.{halted_array}
use Rattle.md_copy.specs.declared.beginning.fault.RebuildFault.{RebuildFault}
use Rattle.md_copy.specs.declared.beginning.fault.RebuildFault.TheVariants.{Halted, NotSpare, Dirty, InFlight, LogFull, NoMemory, TargetFault, MetadataFault, EventsFull}
use Rattle.md_copy.specs.Table.Beginning.{RefusesTable}
use Rattle.md_copy.specs.Table.Orphans.{IsSetOf}
use Rattle.md_copy.specs.Table.Sources.{LacksChunk, IsTableOf, missing_chunks}
use Rattle.md_copy.specs.declared.passes.all_passes.Passed.{Passed}
use Rattle.md_copy.specs.Passes.Held.{AreHeld}
use Rattle.md_copy.specs.Ending.Leaving.{MayRecordAtEnd}
use Rattle.md_copy.specs.Passes.Listing.{ListsAll, NotesLists, EndsListing, EndsNoting}
use Rattle.md_copy.specs.Passes.Passing.{AreListedPasses, BreaksOffPass, EndsBetween, FailsListing, FailsOne, FailsRecording, GoesOnWith, IsTableFor, LacksMemoryToPass, ListsPass, MakesOne, PassesAll, PassesFail, FailsBetween}
use Rattle.md_copy.specs.Preparing.{IsNoMemory}
use Rattle.md_copy.specs.Readying.Ready.{IsReadyToCopy, IsRecordable}
use Rattle.md_copy.proofs.Held.HeldChunks.{recordable}
use Rattle.md_copy.proofs.Held.HeldListed.{GrowsOnly, none_written}
use Rattle.md_copy.proofs.Held.HeldRecorded.{out_of_sync}
use Rattle.md_copy.proofs.Plans.Lists.{got_of}
use Rattle.md_copy.proofs.Passing.PassRecorded.{failed_clear, failed_lacks, grown_held, grown_missing, recorded_held, recorded_lists, recorded_ready, stretches_held, stretches_ready}
use Rattle.md_copy.proofs.Passing.PassRecorded as pass
use Rattle.md_copy.proofs.Plans.PlanChunks.{table_in}
use Rattle.md_copy.proofs.Ready.Readied.{recovering_target}
use Rattle.md_copy.proofs.Ready.ReadyStill.{list_lost, ready_listed, ready_noted}

-- ---- one pass more
pub chain_more : (target : ℕ) (passes : List PassView) (chunks left : List ℕ) (before mid after : Bitmap) (old now new : MirrorView) (p : PassView) → AreListedPasses target passes chunks left before mid old now
    → ListsPass target left p mid after now new → AreListedPasses target (passes ++ p ∷ []) chunks (failed_chunks p) before after old new
chain_more target [] chunks left before mid after old now new p so_far h =
    (after, new, subst (λ (v : MirrorView). ListsPass target chunks p before after v new) so_far.2 (subst (λ (b : Bitmap). ListsPass target chunks p b after now new) so_far.1 (subst (λ xs. ListsPass target xs p mid after now new) so_far.0 h)), (refl, refl, refl))
chain_more target (q ∷ qs) chunks left before mid after old now new p so_far h =
    (so_far.0, so_far.1, so_far.2, chain_more target qs (failed_chunks q) left so_far.0 mid after so_far.1 now new p so_far.3 h)

-- ---- how many rows there are
rise_bound : (n : ℕ) (x : ℕ) (xs : List ℕ) → AllPairs (λ a b. a < b) (x ∷ xs) → All (λ a. a < n) (x ∷ xs) → x + length (x ∷ xs) ≤ n
rise_bound n x [] rise low = (let l = low 0 x (omega arith) in omega (arith, l))
rise_bound n x (y ∷ ys) rise low =
    let more = rise_bound n y ys (λ i j d less below. rise (suc i) (suc j) d (omega (arith, less)) (omega (arith, below))) (λ k d below. low (suc k) d (omega (arith, below))) in
    let up = rise 0 1 x (omega arith) (omega arith) in
    omega (arith, more, up)

pub few_rising : (n : ℕ) (xs : List ℕ) → AllPairs (λ a b. a < b) xs → All (λ a. a < n) xs → length xs ≤ n
few_rising n [] rise low = omega arith
few_rising n (x ∷ xs) rise low = (let most = rise_bound n x xs rise low in omega (arith, most))

slots_few : (n : ℕ) (slots : List Slot) → SlotsRise slots → All (λ (s : Slot). s.chunk < n) slots → length slots ≤ n
slots_few n slots rise low =
    let many = length-map slots (λ (s : Slot). s.chunk) in
    let most = few_rising n (map (λ (s : Slot). s.chunk) slots)
    (λ i j d less below. mapped_pair slots i j d less (omega (arith, below, many)) rise)
    (All-map (λ a. a < n) (λ (s : Slot). s.chunk) slots low) in
    omega (arith, most, many)
  where
    mapped_pair : (ss : List Slot) (i j d : ℕ) → i < j → j < length ss → SlotsRise ss → get_or (map (λ (s : Slot). s.chunk) ss) i d < get_or (map (λ (s : Slot). s.chunk) ss) j d
    mapped_pair ss i j d less below rises =
        let none : Slot = record { chunk = d; source = 0; round = 0 } in
        let x = got_of (λ (s : Slot). s.chunk) ss i none in
        let y = got_of (λ (s : Slot). s.chunk) ss j none in
        let up = rises i j none less below in
        omega (arith, up, x, y)

-- ---- what holds before a pass
pub record GoesSoFar (target : ℕ) (m : MemberView) (none : Bitmap) (first now : MirrorView) (copied : Bitmap) (rows : List Row) (plans : List Planned) (made : ℕ) : Type 0 where
  pub passes : List PassView
  pub plans_are : plans ≡ map (λ (p : PassView). p.planned) passes
  pub counted : length plans ≡ made
  pub passed : AreListedPasses target passes (missing_chunks first.array m) (chunks_of_rows rows) none copied first now
  pub ready : IsReadyToCopy target now
  pub held : AreHeld now target copied
  pub table : IsTableFor now target copied rows
  pub few : length rows ≤ 2 ^ 20
  pub within : target < length now.array.members
  pub left : ℕ
  pub most : made + left ≤ 2 ^ 26
  pub served : ServesAtMost ServesAs MayServe ListsFailed now.array left

few_chunks : (v : MirrorView) → IsConsistent v → (k : ℕ) (m : MemberView) → IsMember v.array k m → div_ceil v.array.chunks.size v.array.chunks.sectors ≤ 2 ^ 20
few_chunks v sound k m at =
    let low = slice_get_within v.array.members k m at in
    let many = sound.fits.as_many in
    let d = got_within v.disks k (omega (arith, low, many)) in
    let few = (sound.fits.each k d.0 m d.1 at).few_chunks in
    let count = sound.chunks.member_count k m at in
    let chunks = sound.chunks.count in
    omega (arith, few, count, chunks)

most_low : (v : MirrorView) → IsConsistent v → (k : ℕ) (m : MemberView) → IsMember v.array k m → most_failures v.array ≤ 2 ^ 26
most_low v sound k m at =
    let chunks = few_chunks v sound k m at in
    let counted = count_by-le-length (λ (x : MemberView). is_in_sync x.state) v.array.members in
    let few = sound.roles.few in
    let product = mul-le (count_by (λ (x : MemberView). is_in_sync x.state) v.array.members) (div_ceil v.array.chunks.size v.array.chunks.sectors) 64 (2 ^ 20) (omega (arith, counted, few)) chunks in
    omega (arith, product)

pub none_held : (target : ℕ) (none : Bitmap) (first : MirrorView) → IsSetOf first.array (λ c. false) none → AreHeld first target none
none_held target none first is_none = record {
  chunks = is_none.chunks;
  held = λ c low set. absurd (both_ways (is_set none.bytes c) (is_none.bits c) set);
  unlisted = λ n there c low set has lists. both_ways (is_set none.bytes c) (is_none.bits c) set;
}

pub begins_so : (target : ℕ) (m : MemberView) (none : Bitmap) (first : MirrorView) (rows : List Row) → IsReadyToCopy target first → IsSetOf first.array (λ c. false) none → IsMember first.array target m
    → ((n : MemberView) → IsMember first.array target n → IsTableOf first.array n rows) → length rows ≤ 2 ^ 20 → GoesSoFar target m none first first none rows [] 0
begins_so target m none first rows ready is_none at table few = record {
  passes = [];
  plans_are = refl;
  counted = refl;
  passed = ((table m at).chunks, refl, refl);
  ready = ready;
  held = none_held target none first is_none;
  table = record { table = λ n there. table_in first.array n rows (table n there); fresh = λ k d below. is_none.bits (get_or rows k d).chunk };
  few = few;
  within = slice_get_within first.array.members target m at;
  left = most_failures first.array;
  most = (let most = most_low first ready.sound target m at in omega (arith, most));
  served = copies_add.most first.array;
}

module _ (target : ℕ) (m : MemberView) (none : Bitmap) (first now : MirrorView) (copied : Bitmap) (rows : List Row) (plans : List Planned) (made : ℕ) (so : GoesSoFar target m none first now copied rows plans made) where
  rows_lacking : (n : MemberView) → IsMember now.array target n → All (LacksChunk now.array n) (chunks_of_rows rows)
  rows_lacking n at = All-map (LacksChunk now.array n) (λ (row : Row). row.chunk) rows (so.table.table n at).lacking

  -- ---- one that was not made
  abbrev Between : (List ℕ → Bitmap → MirrorView → Type 0) → Type 0
  Between Why = EndsBetween target m none first Why

  between : (Why : List ℕ → Bitmap → MirrorView → Type 0) → Why (chunks_of_rows rows) copied now → Between Why
  between Why why = record { passes = so.passes; left = chunks_of_rows rows; copied = copied; now = now; passed = so.passed; why = why }

  pub lacks_room : PassesFail target m none copied first now NoMemory
  lacks_room = inl (between (λ left done mid. LacksMemoryToPass target left done copied mid now) (inl (refl, refl)))

  pub leaves_now : MayRecordAtEnd target copied now NoMemory
  leaves_now = (recordable target now so.ready, so.held)

  pub fails_one : (after : Bitmap) (new : MirrorView) (fault : RebuildFault) → FailsOne target rows copied after now new fault → PassesFail target m none after first new fault
  fails_one after new NoMemory h = inl (between (λ left done mid. LacksMemoryToPass target left done after mid new) h)
  fails_one after new TargetFault h = elim h [
    | inl off ↦ inl (between (λ left done mid. BreaksOffPass target left done mid new) off)
    | inr fails ↦ inr (between (λ left done mid. FailsRecording target left done mid new) fails)
  ]
  fails_one after new Halted h = absurd h
  fails_one after new NotSpare h = absurd h
  fails_one after new Dirty h = absurd h
  fails_one after new (InFlight n) h = absurd h
  fails_one after new (LogFull k) h = absurd h
  fails_one after new (MetadataFault k) h = absurd h
  fails_one after new EventsFull h = absurd h

  pub leaves_one : (after : Bitmap) (new : MirrorView) (fault : RebuildFault) → FailsOne target rows copied after now new fault → MayRecordAtEnd target after new fault
  leaves_one after new NoMemory h = elim h [
    | inl same ↦ subst (λ (v : MirrorView). MayRecordAtEnd target after v NoMemory) (sym same.1) (subst (λ (b : Bitmap). MayRecordAtEnd target b now NoMemory) (sym same.0) leaves_now)
    | inr part ↦ (
      recordable target new (stretches_ready target part.rounds (slots_of_pass part.pass) part.left copied after now new part.stretches so.ready),
      stretches_held target part.rounds (slots_of_pass part.pass) part.left copied after now new part.stretches so.held,
    )
  ]
  leaves_one after new TargetFault h = tt
  leaves_one after new Halted h = absurd h
  leaves_one after new NotSpare h = absurd h
  leaves_one after new Dirty h = absurd h
  leaves_one after new (InFlight n) h = absurd h
  leaves_one after new (LogFull k) h = absurd h
  leaves_one after new (MetadataFault k) h = absurd h
  leaves_one after new EventsFull h = absurd h

  -- ---- one that was made
  module _ (after : Bitmap) (mid : MirrorView) (told : Passed) (one : MakesOne target rows copied after now mid told) where
    abbrev p : PassView
    p = one.pass

    abbrev slots : List Slot
    slots = told.planned.plan.slots

    pub slots_same : slots ≡ slots_of_pass p
    slots_same = ap (λ (x : Planned). x.plan.slots) one.planned

    -- its failed slots, by the plan that is told
    pub failed_same : failed_slots slots after ≡ p.failed
    failed_same = ap (λ xs. failed_slots xs after) slots_same ∙ sym one.records.failed

    pub mid_ready : IsReadyToCopy target mid
    mid_ready = recorded_ready target (chunks_of_rows rows) p copied after now mid one.records so.ready so.held rows_lacking

    pub mid_held : AreHeld mid target after
    mid_held = recorded_held target (chunks_of_rows rows) p copied after now mid one.records so.ready so.held rows_lacking

    mid_lists : ListsFailed [] now.array mid.array
    mid_lists = recorded_lists target (chunks_of_rows rows) p copied after now mid one.records so.ready so.held rows_lacking

    pub mid_within : target < length mid.array.members
    mid_within = (let many = mid_lists.as_many in let low = so.within in omega (arith, many, low))

    one_more : (x : Planned) → length (plans ++ x ∷ []) ≡ made + 1
    one_more x = length-append plans (x ∷ []) ∙ ap (λ n. n + 1) so.counted

    -- no slot failed
    pub passes_all : told.failed ≡ 0 → PassesAll target m none after first mid (plans ++ told.planned ∷ [])
    passes_all zero_is = record {
      passes = so.passes ++ p ∷ [];
      plans_are = ap (λ xs. xs ++ told.planned ∷ []) so.plans_are ∙ ap (λ (x : Planned). map (λ (q : PassView). q.planned) so.passes ++ x ∷ []) one.planned ∙ sym (map-append (λ (q : PassView). q.planned) so.passes (p ∷ []));
      copies = record {
        listed = so.passes;
        left = chunks_of_rows rows;
        mid = copied;
        now = now;
        passed = so.passed;
        last = p;
        records = one.records;
        done = nil_from_length p.failed (sym one.failed ∙ zero_is);
        passes_are = refl;
      };
      few = (let most = so.most in let many = one_more told.planned in omega (arith, most, many));
      within = mid_within;
      ready = mid_ready;
      held = mid_held;
    }

    -- ---- slots failed
    some_failed : (told.failed ≡ 0 → ⊥) → p.failed ≢ []
    some_failed some none_failed = some (one.failed ∙ ap length none_failed)

    -- the plan's slots are served as it is made, and as it is recorded
    pub served_mid : All (λ (s : Slot). ServesAs mid.array s.chunk s.source) slots
    served_mid k d below =
        let s = get_or slots k d in
        let there = subst (λ xs. Contains xs s) slots_same (Contains-get_or slots k d below) in
        others [] now.array mid.array s.chunk s.source mid_lists (permits.served now.array s.chunk s.source (slot_permitted one.records.is s there)) (λ t none chunk source. (let low = none.1 in omega (arith, low)))

    pub rising : SlotsRise slots
    rising = subst SlotsRise (sym slots_same) one.records.is.certified.rising

    pub marks_mid : after.chunks ≡ div_ceil mid.array.chunks.size mid.array.chunks.sectors
    marks_mid = mid_held.chunks ∙ mid_ready.sound.chunks.count

    slots_low : All (λ (s : Slot). s.chunk < div_ceil mid.array.chunks.size mid.array.chunks.sectors) slots
    slots_low k d below = (served_mid k d below).1

    listed_one : (new : MirrorView) → (told.failed ≡ 0 → ⊥) → ListsAll (failed_slots slots after) mid new → ListsPass target (chunks_of_rows rows) p copied after now new
    listed_one new some lists = record { recorded = mid; records = one.records; some = some_failed some; lists = subst (λ xs. ListsAll xs mid new) failed_same lists }

    grows_all : (new : MirrorView) → ListsAll (failed_slots slots after) mid new → GrowsOnly (failed_slots slots after) mid new
    grows_all new h = record { lists = h.lists; out = h.out; writes = h.writes }

    in_failed : (s : Slot) → Contains (failed_slots slots after) s → Contains p.failed s
    in_failed s there = subst (λ xs. Contains xs s) failed_same there

    next_held : (new : MirrorView) → ListsAll (failed_slots slots after) mid new → AreHeld new target after
    next_held new h = grown_held target (chunks_of_rows rows) p copied after now mid one.records so.ready so.held rows_lacking (failed_slots slots after) new (grows_all new h) in_failed

    next_ready : (new : MirrorView) → ListsAll (failed_slots slots after) mid new → IsReadyToCopy target new
    next_ready new h = ready_listed target (failed_slots slots after) mid new h mid_ready

    next_lists : (new : MirrorView) → ListsAll (failed_slots slots after) mid new → ListsFailed p.failed now.array new.array
    next_lists new h = lists_add.more [] p.failed now.array mid.array new.array mid_lists (subst (λ xs. ListsFailed xs mid.array new.array) failed_same h.lists)

    fewer : (new : MirrorView) → (told.failed ≡ 0 → ⊥) → ListsAll (failed_slots slots after) mid new → (n : ℕ) × (n + 1 ≤ so.left) × ServesAtMost ServesAs MayServe ListsFailed new.array n
    fewer new some h =
        (passes_go_on.step [] now.array now.array new.array (chunks_of_rows rows) (chunks_of_rows rows) p (passes_go_on.begin now.array (chunks_of_rows rows)) one.records.is (some_failed some) (next_lists new h)).fewer so.left so.served

    next_lacks : (new : MirrorView) → ListsAll (failed_slots slots after) mid new → (u : MemberView) → IsMember new.array target u → (s : Slot) → Contains p.failed s → LacksChunk new.array u s.chunk
    next_lacks new h u at_u s there =
        let y = pass.y target (chunks_of_rows rows) p copied after now mid one.records so.ready so.held rows_lacking in
        let at_y = pass.at_y target (chunks_of_rows rows) p copied after now mid one.records so.ready so.held rows_lacking in
        let was = failed_lacks target (chunks_of_rows rows) p copied after now mid one.records so.ready so.held rows_lacking y at_y s there in
        record {
          low = subst (λ (q : Chunks). s.chunk < div_ceil q.size q.sectors) (sym h.lists.chunks) was.low;
          missing = grown_missing target (chunks_of_rows rows) p copied after now mid one.records so.ready so.held rows_lacking (failed_slots slots after) new (grows_all new h) in_failed u at_u s.chunk ∙ was.missing;
        }

    pub goes_on : (new : MirrorView) (next : List Row) → (told.failed ≡ 0 → ⊥) → GoesOnWith (failed_slots slots after) mid new next → GoesSoFar target m none first new after next (plans ++ told.planned ∷ []) (made + 1)
    goes_on new next some h =
        let n = fewer new some h.lists in
        let ready = next_ready new h.lists in
        record {
          passes = so.passes ++ p ∷ [];
          plans_are = ap (λ xs. xs ++ told.planned ∷ []) so.plans_are ∙ ap (λ (x : Planned). map (λ (q : PassView). q.planned) so.passes ++ x ∷ []) one.planned ∙ sym (map-append (λ (q : PassView). q.planned) so.passes (p ∷ []));
          counted = one_more told.planned;
          passed = subst (λ xs. AreListedPasses target (so.passes ++ p ∷ []) (missing_chunks first.array m) xs none after first new) (sym (h.chunks ∙ ap (map (λ (s : Slot). s.chunk)) failed_same))
              (chain_more target so.passes (missing_chunks first.array m) (chunks_of_rows rows) none copied after first now new p so.passed (listed_one new some h.lists));
          ready = ready;
          held = next_held new h.lists;
          table = record {
            table = λ u at_u. record {
              lacking = λ k d below. row_lacks u at_u k d below;
              sources = h.sources;
            };
            fresh = λ k d below. row_fresh k d below;
          };
          few = next_few;
          within = (let many = h.lists.lists.as_many in let low = mid_within in omega (arith, many, low));
          left = n.0;
          most = (let less = n.1 in let most = so.most in omega (arith, less, most));
          served = n.2;
        }
      where
        -- a row's chunk is a failed slot's
        row_slot : (k : ℕ) (d : Row) → k < length next → From (λ (s : Slot). s.chunk) (failed_slots slots after) (get_or next k d).chunk
        row_slot k d below =
            mapped_from (λ (s : Slot). s.chunk) (failed_slots slots after) (get_or next k d).chunk (subst (λ xs. Contains xs (get_or next k d).chunk) h.chunks (mapped (λ (r : Row). r.chunk) next (get_or next k d) (Contains-get_or next k d below)))

        row_lacks : (u : MemberView) → IsMember new.array target u → (k : ℕ) (d : Row) → k < length next → LacksChunk new.array u (get_or next k d).chunk
        row_lacks u at_u k d below =
            let from = row_slot k d below in
            subst (LacksChunk new.array u) from.is (next_lacks new h.lists u at_u from.x (in_failed from.x from.there))

        row_fresh : (k : ℕ) (d : Row) → k < length next → is_set after.bytes (get_or next k d).chunk ≡ false
        row_fresh k d below =
            let from = row_slot k d below in
            ap (λ n. is_set after.bytes n) (sym from.is) ∙ failed_clear target (chunks_of_rows rows) p copied after now mid one.records so.ready so.held rows_lacking from.x (in_failed from.x from.there)

        next_few : length next ≤ 2 ^ 20
        next_few =
            let few = few_chunks now so.ready.sound target one.records.member one.records.at in
            let low : All (λ (s : Slot). s.chunk < div_ceil now.array.chunks.size now.array.chunks.sectors) slots =
            subst (λ (q : Chunks). All (λ (s : Slot). s.chunk < div_ceil q.size q.sectors) slots) mid_lists.chunks slots_low in
            let all = slots_few (div_ceil now.array.chunks.size now.array.chunks.sectors) slots rising low in
            let filtered = length-filter (is_failed_slot after) slots in
            let less = count_by-le-length (is_failed_slot after) slots in
            let rows_are = length-map next (λ (r : Row). r.chunk) in
            let slots_are = length-map (failed_slots slots after) (λ (s : Slot). s.chunk) in
            let same = ap length h.chunks in
            omega (arith, few, all, filtered, less, rows_are, slots_are, same)

    -- ---- they are not all listed
    some_taken : (taken : List Slot) (next : Slot) (rest : List Slot) → failed_slots slots after ≡ taken ++ next ∷ rest → (s : Slot) → Contains taken s → Contains p.failed s
    some_taken taken next rest is s there = in_failed s (subst (λ xs. Contains xs s) (sym is) (Contains-append_left taken (next ∷ rest) s there))

    noted_grows : (taken : List Slot) (new : MirrorView) → NotesLists taken mid new → GrowsOnly taken mid new
    noted_grows taken new h = record {
      lists = h.lists;
      out = λ k x z at_x at_z out. (h.members k x z at_x at_z).out out;
      writes = none_written mid new h.disks;
    }

    noted_leaves : (new : MirrorView) (fault : RebuildFault) → EndsNoting (failed_slots slots after) mid new fault → IsRecordable target new × AreHeld new target after
    noted_leaves new fault h = (
      recordable target new (ready_noted target h.taken mid new h.notes mid_ready),
      grown_held target (chunks_of_rows rows) p copied after now mid one.records so.ready so.held rows_lacking h.taken new (noted_grows h.taken new h.notes) (some_taken h.taken h.next h.rest h.slots),
    )

    lost_leaves : (new : MirrorView) (k : ℕ) → EndsListing (failed_slots slots after) mid new (MetadataFault k) → MayRecordAtEnd target after new (MetadataFault k)
    lost_leaves new k h =
        let noted = h.0 in
        let stops = h.2 in
        let ready_n = ready_noted target (failed_slots slots after) mid noted h.1 mid_ready in
        let is_other : k ≢ target = λ here.
        both_ways (is_in_sync stops.member.state) (out_of_sync stops.member.state (ready_n.recovering stops.member (ap (slice_get noted.array.members) (sym here) ∙ stops.was.member))) stops.was.in_sync in
        let held_n = mid_held.chunks ∙ sym (ap (λ (b : Bitmap). b.chunks) h.1.lists.marks) in
        elim stops.ends [
          | inl lost ↦ (
            held_n ∙ sym (ap (λ (b : Bitmap). b.chunks) lost.loses.goes.array.marks),
            lost.loses.goes.sound,
            λ running. list_lost target k noted new is_other lost running (recordable target noted ready_n),
          )
          | inr halts ↦
              let at = halts.halts.halts in
              let is = halted_array at.mid new (λ n. None) at.failing (at.halts (λ n. None)) in (
                held_n ∙ sym (ap (λ (a : ArrayView). a.marks.chunks) is ∙ ap (λ (b : Bitmap). b.chunks) at.goes.array.marks),
                at.sound,
                λ running. absurd (both_ways new.array.halted running (ap (λ (a : ArrayView). a.halted) is)),
              )
        ]

    pub listing_fails : (new : MirrorView) (fault : RebuildFault) → (told.failed ≡ 0 → ⊥) → FailsBetween (failed_slots slots after) mid new fault → PassesFail target m none after first new fault
    listing_fails new fault some h = elim h [
      | inl stops ↦ by fault stops
      | inr listed ↦ more fault listed.0 listed.1
    ]
      where
        fails : (f : RebuildFault) → EndsListing (failed_slots slots after) mid new f → FailsListing target f (chunks_of_rows rows) copied after now new
        fails f stops = record { pass = p; recorded = mid; records = one.records; some = some_failed some; fails = subst (λ xs. EndsListing xs mid new f) failed_same stops }

        by : (f : RebuildFault) → EndsListing (failed_slots slots after) mid new f → PassesFail target m none after first new f
        by (LogFull k) stops = between (λ left done v. FailsListing target (LogFull k) left done after v new) (fails (LogFull k) stops)
        by NoMemory stops = inr (between (λ left done v. FailsListing target NoMemory left done after v new) (fails NoMemory stops))
        by (MetadataFault k) stops = between (λ left done v. FailsListing target (MetadataFault k) left done after v new) (fails (MetadataFault k) stops)
        by Halted stops = absurd stops
        by NotSpare stops = absurd stops
        by Dirty stops = absurd stops
        by (InFlight n) stops = absurd stops
        by TargetFault stops = absurd stops
        by EventsFull stops = absurd stops

        more : (f : RebuildFault) → IsNoMemory f → ListsAll (failed_slots slots after) mid new → PassesFail target m none after first new f
        more NoMemory is lists = inl (record {
          passes = so.passes ++ p ∷ [];
          left = failed_chunks p;
          copied = after;
          now = new;
          passed = chain_more target so.passes (missing_chunks first.array m) (chunks_of_rows rows) none copied after first now new p so.passed (listed_one new some lists);
          why = inl (refl, refl);
        })
        more Halted is lists = absurd is
        more NotSpare is lists = absurd is
        more Dirty is lists = absurd is
        more (InFlight n) is lists = absurd is
        more (LogFull k) is lists = absurd is
        more TargetFault is lists = absurd is
        more (MetadataFault k) is lists = absurd is
        more EventsFull is lists = absurd is

    pub listing_leaves : (new : MirrorView) (fault : RebuildFault) → FailsBetween (failed_slots slots after) mid new fault → MayRecordAtEnd target after new fault
    listing_leaves new fault h = elim h [
      | inl stops ↦ by fault stops
      | inr listed ↦ more fault listed.0 listed.1
    ]
      where
        by : (f : RebuildFault) → EndsListing (failed_slots slots after) mid new f → MayRecordAtEnd target after new f
        by (LogFull k) stops = noted_leaves new (LogFull k) stops
        by NoMemory stops = noted_leaves new NoMemory stops
        by (MetadataFault k) stops = lost_leaves new k stops
        by Halted stops = absurd stops
        by NotSpare stops = absurd stops
        by Dirty stops = absurd stops
        by (InFlight n) stops = absurd stops
        by TargetFault stops = absurd stops
        by EventsFull stops = absurd stops

        more : (f : RebuildFault) → IsNoMemory f → ListsAll (failed_slots slots after) mid new → MayRecordAtEnd target after new f
        more NoMemory is lists = (recordable target new (next_ready new lists), next_held new lists)
        more Halted is lists = absurd is
        more NotSpare is lists = absurd is
        more Dirty is lists = absurd is
        more (InFlight n) is lists = absurd is
        more (LogFull k) is lists = absurd is
        more TargetFault is lists = absurd is
        more (MetadataFault k) is lists = absurd is
        more EventsFull is lists = absurd is

    pub listing_sound : (new : MirrorView) (fault : RebuildFault) → FailsBetween (failed_slots slots after) mid new fault → IsConsistent new
    listing_sound new fault h = elim h [
      | inl stops ↦ by fault stops
      | inr listed ↦ (next_ready new listed.1).sound
    ]
      where
        by : (f : RebuildFault) → EndsListing (failed_slots slots after) mid new f → IsConsistent new
        by (LogFull k) stops = (noted_leaves new (LogFull k) stops).0.sound
        by NoMemory stops = (noted_leaves new NoMemory stops).0.sound
        by (MetadataFault k) stops = (lost_leaves new k stops).1
        by Halted stops = absurd stops
        by NotSpare stops = absurd stops
        by Dirty stops = absurd stops
        by (InFlight n) stops = absurd stops
        by TargetFault stops = absurd stops
        by EventsFull stops = absurd stops

-- ---- there is no table
module _ (target : ℕ) (m : MemberView) (none : Bitmap) (first : MirrorView) (ready : IsReadyToCopy target first) (is_none : IsSetOf first.array (λ c. false) none) (at : IsMember first.array target m) where
  pub table_stops : (fault : RebuildFault) → RefusesTable first.array m fault → PassesFail target m none none first first fault
  table_stops NoMemory h = inl (record { passes = []; left = missing_chunks first.array m; copied = none; now = first; passed = (refl, refl, refl); why = inl (refl, refl) })
  table_stops NotSpare h = absurd (h (recovering_target first.array m.superblock.dev_number m.state (ready.recovering m at)))
  table_stops Halted h = absurd h
  table_stops Dirty h = absurd h
  table_stops (InFlight n) h = absurd h
  table_stops (LogFull k) h = absurd h
  table_stops TargetFault h = absurd h
  table_stops (MetadataFault k) h = absurd h
  table_stops EventsFull h = absurd h

  pub table_leaves : (fault : RebuildFault) → RefusesTable first.array m fault → MayRecordAtEnd target none first fault
  table_leaves NoMemory h = (recordable target first ready, none_held target none first is_none)
  table_leaves NotSpare h = tt
  table_leaves Halted h = tt
  table_leaves Dirty h = tt
  table_leaves (InFlight n) h = tt
  table_leaves (LogFull k) h = absurd h
  table_leaves TargetFault h = tt
  table_leaves (MetadataFault k) h = absurd h
  table_leaves EventsFull h = tt

-- ---- all passes are not so many
pub ends_before : (target : ℕ) (m : MemberView) (none : Bitmap) (first now : MirrorView) (copied : Bitmap) (rows : List Row) (plans : List Planned) (made : ℕ) → GoesSoFar target m none first now copied rows plans made → 2 ^ 64 - 1 ≤ made → ⊥
ends_before target m none first now copied rows plans made so past = (let most = so.most in absurd (omega (arith, most, past)))
