-- A salvage from the moment at which its pass may be planned: the pass, the chunks that it left, and what is listed.
use Rattle.std.proofs.Common.{◌≡◌, ◌∙◌, ◌⊎◌, ℕ, ◌/◌, ◌<◌, ◌&&◌, true, false, true≢false, List, [], ◌∷◌, length, length-set, All, refl, sym, ap, subst, arith, inl, inr}
use Rattle.std.proofs.lemmas.Bool.{and_parts, cases_Bool}
use Rattle.std.proofs.lemmas.Option.{same_Some, slice_get_within}
use Rattle.md_array.specs.Consistency.{IsConsistent}
use Rattle.md_array.proofs.Rebuilding.HeldContent.{chunk_unique, its_chunk}
use Rattle.md_assembly.proofs.Indices.{got_within}
use Rattle.md_badblocks.specs.declared.run.Run.{Run}
use Rattle.md_badblocks.specs.Runs.{IsBad}
use Rattle.md_bitmap.specs.declared.chunks.Chunks.{Chunks}
use Rattle.md_bitmap.specs.Marks.{Bitmap, is_set}
use Rattle.md_bitmap.proofs.Limits.{div-lt-div_ceil}
use Rattle.md_kept_members.specs.View.{MemberView}
use Rattle.md_cert.specs.declared.planned.Planned.{Planned}
use Rattle.md_state.specs.Members.{IsMember}
use Rattle.md_state.specs.Missing.{AreMissing, is_missing}
use Rattle.md_state.specs.View.{ArrayView, MirrorView}
use Rattle.md_copy.specs.declared.beginning.fault.RebuildFault.{RebuildFault}
use Rattle.md_copy.specs.declared.beginning.fault.RebuildFault.TheVariants.{NoMemory}
use Rattle.md_copy.specs.declared.salvaging.salvaged.Salvaged.{Salvaged}
use Rattle.md_copy.specs.Passes.Held.{AreHeld}
use Rattle.md_copy.specs.Readying.Ready.{IsReadyToCopy, IsRecordable}
use Rattle.md_copy.specs.Salvaging.Filling.{AllAreFilled, AreSalvaged, EndsSalvaging, SalvagesAll, SalvagesChunk}
use Rattle.md_copy.specs.Salvaging.Fitting.{IsFitting}
use Rattle.md_copy.specs.Salvaging.Losing.{EnrolsWithout, FailsWithout}
use Rattle.md_copy.specs.Salvaging.Sectors.{AreSectorsHeld, IsLacked}
use Rattle.md_copy.specs.Salvaging.Enrolling.{EndsSalvaged, EnrolsSalvaged, KeepsLacked}
use Rattle.md_copy.specs.Salvaging.Steps.{EndsSalvageReadied, FillsBut, MakesWhole, SalvagesReadied}
use Rattle.md_copy.specs.Readying.Storing.{StoresUntilDone}
use Rattle.md_copy.specs.Table.Orphans.{IsSetOf}
use Rattle.md_copy.specs.Table.Sources.{LacksChunk, missing_chunks}
use Rattle.md_copy.proofs.Held.HeldChunks.{recordable}
use Rattle.md_copy.proofs.Passing.PassesLack.{pass_lacks}
use Rattle.md_copy.proofs.Passing.PassRecorded.{recorded_held, recorded_ready}
use Rattle.md_copy.proofs.Plans.PlanChunks.{all_lacking}
use Rattle.md_copy.proofs.SalvageLemmas.HeldSectors.{sectors_of_chunks}

-- ---- chunks that are filled
-- The array is of the same sectors, with as many members, and what is lost lies in it.
pub record KeepsArray (first lost : List Run) (old new : MirrorView) : Type 0 where
  pub chunks : new.array.chunks ≡ old.array.chunks
  pub many : length new.array.members ≡ length old.array.members
  pub low : (s : ℕ) → IsBad lost s → IsBad first s ⊎ (s < old.array.chunks.size)

one_keeps : (target c : ℕ) (before after : Bitmap) (first lost : List Run) (v w : MirrorView) → SalvagesChunk target c before after first lost v w → KeepsArray first lost v w
one_keeps target c before after first lost v w h =
    let same = h.fills.fills.within.array in
    record {
      chunks = elim h.ends [
        | inl none ↦ ap (λ (x : MirrorView). x.array.chunks) none.1 ∙ ap (λ (a : ArrayView). a.chunks) same
        | inr is ↦ ap (λ (a : ArrayView). a.chunks) is.1.array ∙ ap (λ (a : ArrayView). a.chunks) same
      ];
      many = elim h.ends [
        | inl none ↦ ap (λ (x : MirrorView). length x.array.members) none.1 ∙ ap (λ (a : ArrayView). length a.members) same
        | inr is ↦ ap (λ (a : ArrayView). length a.members) is.1.array ∙ length-set h.filled.array.members target _ ∙ ap (λ (a : ArrayView). length a.members) same
      ];
      low = λ s bad. elim (h.fills.fills.none s bad) [
        | inl was ↦ inl was
        | inr here ↦ inr ((h.fills.range s).1 (here.0, here.1)).within
      ];
    }

pub all_keep : (target : ℕ) (cs : List ℕ) (before after : Bitmap) (first lost : List Run) (v w : MirrorView) → AreSalvaged target cs before after first lost v w → KeepsArray first lost v w
all_keep target [] before after first lost v w h = record {
  chunks = ap (λ (x : MirrorView). x.array.chunks) h.2;
  many = ap (λ (x : MirrorView). length x.array.members) h.2;
  low = λ s bad. inl (subst (λ (runs : List Run). IsBad runs s) h.1 bad);
}
all_keep target (c ∷ cs) before after first lost v w h =
    let one = one_keeps target c before h.0 first h.1 v h.2 h.3 in
    let rest = all_keep target cs h.0 after h.1 lost h.2 w h.4 in
    record {
      chunks = rest.chunks ∙ one.chunks;
      many = rest.many ∙ one.many;
      low = λ s bad. elim (rest.low s bad) [
        | inl was ↦ one.low s was
        | inr low ↦ inr (subst (λ (q : Chunks). s < q.size) one.chunks low)
      ];
    }

module _ (target : ℕ) (m : MemberView) (copied after : Bitmap) (lost : List Run) (v w : MirrorView) (s : SalvagesAll target m copied after v w lost) where
  keeps : KeepsArray [] lost v w
  keeps = all_keep target s.chunks copied after [] lost v w s.salvaged

  pub as_many : length w.array.members ≡ length v.array.members
  as_many = keeps.many

  pub lost_low : (t : ℕ) → IsBad lost t → t < w.array.chunks.size
  lost_low t bad = elim (keeps.low t bad) [
    | inl none ↦ absurd none
    | inr low ↦ subst (λ (q : Chunks). t < q.size) (sym keeps.chunks) low
  ]

-- ---- of what is held a part is held
pub part_held : (v : MirrorView) (target : ℕ) (copied less : Bitmap) → AreSectorsHeld v target copied → less.chunks ≡ copied.chunks → ((c : ℕ) → c < v.array.marks.chunks → is_set less.bytes c ≡ true → is_set copied.bytes c ≡ true)
    → AreSectorsHeld v target less
part_held v target copied less held many of = record {
  chunks = many ∙ held.chunks;
  held = λ c s low set inside. held.held c s low (of c low set) inside;
  unlisted = λ m at c low set has. held.unlisted m at c low (of c low set) has;
}

-- ---- what is to be listed
module _ (target : ℕ) (v : MirrorView) (sound : IsConsistent v) (m : MemberView) (at : IsMember v.array target m) (missing : Bitmap) (are : AreMissing v.array m missing) (lost listed : List Run)
    (low : (s : ℕ) → IsBad lost s → s < v.array.chunks.size) (fits : IsFitting target missing lost v.array listed) where
  abbrev size : ℕ
  size = v.array.chunks.size

  abbrev width : ℕ
  width = v.array.chunks.sectors

  abbrev wide : 0 < width
  wide = sound.chunks.wide

  abbrev many : missing.chunks ≡ v.array.marks.chunks
  many = are.chunks

  inside : (s : ℕ) → IsBad listed s → s < size
  inside s bad = elim (fits.fewest.widened.more s bad) [
    | inl is ↦ low s is.0
    | inr between ↦ let below = between.below in let under = low between.after between.after_is.0 in omega (arith, below, under)
  ]

  chunk_low : (s : ℕ) → s < size → s / width < missing.chunks
  chunk_low s within = subst (λ n. s / width < n) (sym (many ∙ sound.chunks.count)) (div-lt-div_ceil size width s wide within)

  pub listed_lacked : (s : ℕ) → IsBad listed s → IsLacked v.array m s
  listed_lacked s bad =
      let within = inside s bad in
      record {
        inside = within;
        missing = elim (cases_Bool (is_set missing.bytes (s / width))) [
          | inl set ↦ sym (are.bits (s / width) (chunk_low s within)) ∙ set
          | inr clear ↦ absurd (fits.fewest.widened.lists.beside s bad (s / width) (chunk_low s within) clear (its_chunk size width s wide within))
        ];
      }

  -- what is lost of what it lacks is listed
  lost_listed : (s : ℕ) → IsLacked v.array m s → IsBad lost s → IsBad listed s
  lost_listed s lacks bad =
      fits.fewest.widened.lists.all s (
        bad,
        λ c below clear in_c.
            (let same : c ≡ s / width = chunk_unique size width s c wide in_c in
            true≢false (sym (are.bits (s / width) (chunk_low s lacks.inside) ∙ lacks.missing) ∙ sym (ap (is_set missing.bytes) same) ∙ clear)),
      )

  pub listed_filled : AllAreFilled target v lost → AllAreFilled target v listed
  listed_filled filled x there s lacks isnt =
      filled x there s lacks (λ bad. isnt (lost_listed s (subst (λ (z : MemberView). IsLacked v.array z s) (same_Some x m (sym there ∙ at)) lacks) bad))

-- ---- the pass
module _ (target : ℕ) (m : MemberView) (none : Bitmap) (ready : MirrorView) (at : IsMember ready.array target m) (is_ready : IsReadyToCopy target ready) (is_none : IsSetOf ready.array (λ c. false) none) where
  none_held : AreHeld ready target none
  none_held = record {
    chunks = is_none.chunks;
    held = λ c low set. absurd (true≢false (sym set ∙ is_none.bits c));
    unlisted = λ x there c low set has lists. absurd (true≢false (sym set ∙ is_none.bits c));
  }

  lacking : (n : MemberView) → IsMember ready.array target n → All (LacksChunk ready.array n) (missing_chunks ready.array m)
  lacking n there = subst (λ (z : MemberView). All (LacksChunk ready.array z) (missing_chunks ready.array m)) (same_Some m n (sym at ∙ there)) (all_lacking ready.array m)

  module _ (whole : Bitmap) (passed : MirrorView) (planned : Planned) (h : MakesWhole target m none whole ready passed planned) where
    abbrev chunks : List ℕ
    chunks = missing_chunks ready.array m

    pub pass_ready : IsReadyToCopy target passed
    pass_ready = recorded_ready target chunks h.pass none whole ready passed h.records is_ready none_held lacking

    pub pass_held : AreSectorsHeld passed target whole
    pass_held = sectors_of_chunks passed target whole (recorded_held target chunks h.pass none whole ready passed h.records is_ready none_held lacking)

    pub pass_then : (n : MemberView) × IsMember passed.array target n
    pass_then = (let n = (pass_lacks target chunks h.pass none whole ready passed h.records).there m at in (n.0, n.1))

    pub pass_within : target < length passed.array.members
    pass_within = slice_get_within passed.array.members target pass_then.0 pass_then.1

    -- chunks can't all be filled
    pub left_ends : (after : Bitmap) (new : MirrorView) (fault : RebuildFault) → EndsSalvaging target pass_then.0 whole after passed new fault → EndsSalvageReadied target m none after ready new fault
    left_ends after new fault e = inr (inl (h.pass, whole, passed, h.records, (pass_then.0, pass_then.1, e)))

    -- ---- and the chunks that it left
    module _ (copied : Bitmap) (filled : MirrorView) (lost : List Run) (s : SalvagesAll target pass_then.0 whole copied passed filled lost) (filled_ready : IsReadyToCopy target filled) (held : AreSectorsHeld filled target copied) where
      pub filled_within : target < length filled.array.members
      filled_within = (let low = pass_within in let many = as_many target pass_then.0 whole copied lost passed filled s in omega (arith, low, many))

      fills_but : (kept : Bitmap) → KeepsLacked target copied kept filled → FillsBut target m h.pass none copied kept lost ready filled
      fills_but kept k = record {
        whole = whole;
        passed = passed;
        records = h.records;
        then = pass_then.0;
        at_then = pass_then.1;
        salvages = s;
        now = k.now;
        there = k.there;
        kept_are = k.kept_are;
        sound = filled_ready.sound;
      }

      -- it does not come into sync
      pub enrol_ends : (after : Bitmap) (new : MirrorView) (fault : RebuildFault) → EndsSalvaged target copied after lost filled new fault → EndsSalvageReadied target m none after ready new fault
      enrol_ends after new fault (kept, k, of, why) = inr (inr (h.pass, copied, kept, lost, filled, fills_but kept k, of, why))

      -- it does
      pub salvages_readied : (enrolled new : MirrorView) (told : Salvaged) → told.planned ≡ planned → told.lost ≡ lost → EnrolsSalvaged target copied lost filled enrolled told.listed → IsConsistent enrolled → StoresUntilDone enrolled new
          → SalvagesReadied target m none ready new told
      salvages_readied enrolled new told planned_is lost_is e sound stores = record {
        pass = h.pass;
        planned = planned_is ∙ h.planned_is;
        copied = copied;
        kept = e.kept;
        filled = filled;
        fills = subst (λ (runs : List Run). FillsBut target m h.pass none copied e.kept runs ready filled) (sym lost_is) (fills_but e.kept e.keeps);
        missing = e.missing;
        fits = subst (λ (runs : List Run). IsFitting target e.missing runs filled.array told.listed) (sym lost_is) e.fits;
        enrolled = enrolled;
        enrols = e.enrols;
        sound = sound;
        stores_until_done = stores;
      }

-- ---- the target comes into sync, once it is found what is listed
module _ (target : ℕ) (v : MirrorView) (ready : IsReadyToCopy target v) (within : target < length v.array.members) (copied kept : Bitmap) (held : AreSectorsHeld v target copied) (kept_chunks : kept.chunks ≡ copied.chunks)
    (kept_are : (n : MemberView) → IsMember v.array target n → (c : ℕ) → c < copied.chunks → is_set kept.bytes c ≡ (is_missing v.array n c && is_set copied.bytes c)) where
  now : (n : MemberView) × IsMember v.array target n
  now = (let n = got_within v.array.members target within in (n.0, n.1))

  low_copied : (c : ℕ) → c < v.array.marks.chunks → c < copied.chunks
  low_copied c low = subst (λ n. c < n) (sym held.chunks) low

  keeps_lacked : KeepsLacked target copied kept v
  keeps_lacked = record { now = now.0; there = now.1; kept_are = λ c low. kept_are now.0 now.1 c (low_copied c low) }

  pub kept_held : AreSectorsHeld v target kept
  kept_held = part_held v target copied kept held kept_chunks
      (λ c low set. (and_parts (is_missing v.array now.0 c) (is_set copied.bytes c) (sym (kept_are now.0 now.1 c (low_copied c low)) ∙ set)).1)

  -- memory is refused for what is to be listed
  pub memory_ends : (lost : List Run) → EndsSalvaged target copied kept lost v v NoMemory
  memory_ends lost = (kept, keeps_lacked, (λ c low set. set), inl (refl, refl))

  pub memory_leaves : IsRecordable target v × AreSectorsHeld v target kept
  memory_leaves = (recordable target v ready, kept_held)

  module _ (missing : Bitmap) (lost listed : List Run) (fits : IsFitting target missing lost v.array listed) where
    pub refused_ends : ((m : MemberView) → IsMember v.array target m → AreMissing v.array m missing) → (after : Bitmap) → ((c : ℕ) → is_set after.bytes c ≡ true → is_set kept.bytes c ≡ true) → (new : MirrorView) (fault : RebuildFault) → FailsWithout target missing listed v new fault
        → EndsSalvaged target copied after lost v new fault
    refused_ends are after of new fault e = (kept, keeps_lacked, (λ c low set. of c set), inr (missing, are, listed, fits, e))

    pub enrols_salvaged : (new : MirrorView) → EnrolsWithout target missing listed v new → EnrolsSalvaged target copied lost v new listed
    enrols_salvaged new e = record { kept = kept; keeps = keeps_lacked; missing = missing; fits = fits; enrols = e }

-- the mirror runs then
pub enrolled_runs : (target : ℕ) (missing : Bitmap) (listed : List Run) (v w : MirrorView) → EnrolsWithout target missing listed v w → w.array.halted ≡ false
enrolled_runs target missing listed v w e = ap (λ (a : ArrayView). a.halted) e.enrols.array ∙ e.enrols.may.running
