-- Parts that are given one after another.
use Rattle.std.proofs.Common.{slice_get, ◌≡◌, ◌∙◌, ℕ, ◌+◌, ◌/◌, ◌%◌, List, [], ◌∷◌, ◌++◌, length, refl, sym, ap, subst, arith, inl, inr, length-append, append-nil}
use Rattle.std.specs.List.{concat}
use Rattle.std.proofs.lemmas.Option.{slice_get_within}
use Rattle.std.proofs.lemmas.List.Folds.{concat-append}
use Rattle.md_assembly.proofs.Indices.{got_within}
use Rattle.std.specs.Prelude.{⊤}
use Rattle.md_device.proofs.Failing.{fails_since}
use Rattle.md_state.specs.Steps.CopyData.{IsSource, Lists}
use Rattle.md_state.specs.Members.{AllInSync}
use Rattle.md_state.specs.Rests.{Rests}
use Rattle.md_state.specs.View.{ArrayView, MirrorView}
use Rattle.md_laws.proofs.Runs.Rests.{rests_same, rests_then}
use Rattle.md_read.specs.Reading.{HasReadFailed, IsReadOfMember}
use Rattle.md_read.specs.Unresynced.{EndsPart, GivesNoPart, GivesPart, GivesParts, IsSectorMarked, IsUnmarkedAt, NoneGivesPart, PartsInTurn}
use Rattle.md_read.specs.declared.unresynced_fault.UnresyncedFault.{UnresyncedFault}
use Rattle.md_read.specs.declared.unresynced_fault.UnresyncedFault.TheVariants.{Halted, OutOfRange, ReadFault, Unreadable}
use Rattle.md_read.proofs.RunsRead.{held_earlier, none_gives_earlier, run_earlier}

-- ---- devices are read before
pub part_whole : (sector : ℕ) (run : List ℕ) (old new : MirrorView) → GivesPart sector run old new → length run % 512 ≡ 0
part_whole sector run old new (inl given) = given.whole
part_whole sector run old new (inr given) = given.gives.whole

pub part_rests : (sector : ℕ) (run : List ℕ) (old new : MirrorView) → GivesPart sector run old new → Rests old new
part_rests sector run old new (inl given) = given.rests
part_rests sector run old new (inr given) = given.gives.rests

module _ (old mid new : MirrorView) (first : Rests old mid) where
  marked_earlier : (s : ℕ) → IsSectorMarked mid.array s → IsSectorMarked old.array s
  marked_earlier s marked = subst (λ (a : ArrayView). IsSectorMarked a s) first.array marked

  unmarked_earlier : (s : ℕ) → IsUnmarkedAt mid.array s → IsUnmarkedAt old.array s
  unmarked_earlier s unmarked = subst (λ (a : ArrayView). IsUnmarkedAt a s) first.array unmarked

  source_earlier : (k s : ℕ) → IsSource k s mid.array → IsSource k s old.array
  source_earlier k s source = subst (λ (a : ArrayView). IsSource k s a) first.array source

  failed_earlier : (k sector sectors : ℕ) → HasReadFailed k sector sectors mid new → HasReadFailed k sector sectors old new
  failed_earlier k sector sectors failed d f was is =
      let low = slice_get_within old.disks k d was in
      let many = first.disks.same.as_many in
      let e = got_within mid.disks k (omega arith) in
      let stays = first.disks.same.honest k d e.0 was e.1 in
      let told = failed e.0 f e.1 is in (
        λ honest. (let rose = told.0 (stays.honest ∙ honest) in let counted = stays.counted in omega arith),
        λ m at. fails_since d.faults e.0.faults f.faults (IsReadOfMember m sector sectors) (λ _. ⊤) stays.grown (told.1 m (ap (λ (a : ArrayView). slice_get a.members k) first.array ∙ at)),
      )

  pub part_earlier : (sector : ℕ) (run : List ℕ) → GivesPart sector run mid new → GivesPart sector run old new
  part_earlier sector run (inl given) = inl (record {
    rests = rests_then old mid new first given.rests;
    whole = given.whole;
    marked = λ s from below. marked_earlier s (given.marked s from below);
    from = given.from;
    source = λ s from below. source_earlier given.from s (given.source s from below);
    holds = held_earlier old mid first given.from sector run given.holds;
  })
  part_earlier sector run (inr given) = inr (record {
    unmarked = λ s from below. unmarked_earlier s (given.unmarked s from below);
    gives = run_earlier old mid new first given.gives.rests sector run given.gives;
  })

  none_gives_part_earlier : (s : ℕ) → Rests mid new → NoneGivesPart s mid new → NoneGivesPart s old new
  none_gives_part_earlier s second (inl all) = inl (marked_earlier s all.0, subst (λ (a : ArrayView). AllInSync a (λ m. Lists m s)) first.array all.1)
  none_gives_part_earlier s second (inr none) = inr (unmarked_earlier s none.0, none_gives_earlier old mid new first second s none.1)

  ends_earlier : (at : ℕ) (reason : UnresyncedFault) → Rests mid new → EndsPart at reason mid new → EndsPart at reason old new
  ends_earlier at Halted second ends = absurd ends
  ends_earlier at OutOfRange second ends = absurd ends
  ends_earlier at (Unreadable s) second ends = (ends.0, none_gives_part_earlier s second ends.1)
  ends_earlier at (ReadFault k s) second ends = (
    ends.0,
    record { marked = marked_earlier s ends.1.marked; source = source_earlier k s ends.1.source; failed = failed_earlier k s 1 ends.1.failed },
  )

  pub no_part_earlier : (at : ℕ) (reason : UnresyncedFault) → GivesNoPart at mid new reason → GivesNoPart at old new reason
  no_part_earlier at reason none = record { rests = rests_then old mid new first none.rests; ends = ends_earlier at reason none.rests none.ends }

-- ---- in turn
pub parts_rest : (sector : ℕ) (runs : List (List ℕ)) (old new : MirrorView) → PartsInTurn sector runs old new → Rests old new
parts_rest sector [] old new rests = rests
parts_rest sector (run ∷ runs) old new h =
    rests_then old h.0 new (part_rests sector run old h.0 h.1) (parts_rest (sector + length run / 512) runs h.0 new h.2)

parts_earlier : (sector : ℕ) (runs : List (List ℕ)) (old mid new : MirrorView) → Rests old mid → PartsInTurn sector runs mid new → PartsInTurn sector runs old new
parts_earlier sector [] old mid new first rests = rests_then old mid new first rests
parts_earlier sector (run ∷ runs) old mid new first h = (h.0, part_earlier old mid h.0 first sector run h.1, h.2)

parts_then : (sector : ℕ) (xs ys : List (List ℕ)) (old mid new : MirrorView) → PartsInTurn sector xs old mid
    → PartsInTurn (sector + length (concat xs) / 512) ys mid new → PartsInTurn sector (xs ++ ys) old new
parts_then sector [] ys old mid new rests then =
    let here : sector + 0 / 512 ≡ sector = omega arith in
    parts_earlier sector ys old mid new rests (subst (λ (s : ℕ). PartsInTurn s ys mid new) here then)
parts_then sector (run ∷ xs) ys old mid new h then =
    let whole = part_whole sector run old h.0 h.1 in
    let long = length-append run (concat xs) in
    let here : sector + length (run ++ concat xs) / 512 ≡ sector + length run / 512 + length (concat xs) / 512 = omega arith in
    (h.0, h.1, parts_then (sector + length run / 512) xs ys h.0 mid new h.2 (subst (λ (s : ℕ). PartsInTurn s ys mid new) here then))

-- ---- the bytes
module _ (sector : ℕ) where
  pub no_parts : (v : MirrorView) → GivesParts sector [] v v
  no_parts v = record { runs = []; joined = refl; in_turn = rests_same v }

  pub one_part : (run : List ℕ) (old new : MirrorView) → GivesPart sector run old new → GivesParts sector run old new
  one_part run old new given = record { runs = run ∷ []; joined = sym (append-nil run); in_turn = (new, given, rests_same new) }

  pub given_rests : (bytes : List ℕ) (old new : MirrorView) → GivesParts sector bytes old new → Rests old new
  given_rests bytes old new given = parts_rest sector given.runs old new given.in_turn

  module _ (old mid new : MirrorView) where
    pub more_parts : (xs ys : List ℕ) → GivesParts sector xs old mid → GivesParts (sector + length xs / 512) ys mid new → GivesParts sector (xs ++ ys) old new
    more_parts xs ys first second = record {
      runs = first.runs ++ second.runs;
      joined = ap (λ (l : List ℕ). l ++ ys) first.joined ∙ ap (λ (l : List ℕ). concat first.runs ++ l) second.joined ∙ sym (concat-append first.runs second.runs);
      in_turn = parts_then sector first.runs second.runs old mid new first.in_turn
          (subst (λ (l : List ℕ). PartsInTurn (sector + length l / 512) second.runs mid new) first.joined second.in_turn);
    }

    pub parts_later : (bytes : List ℕ) → GivesParts sector bytes old mid → Rests mid new → GivesParts sector bytes old new
    parts_later bytes given rests =
        subst (λ (l : List ℕ). GivesParts sector l old new) (append-nil bytes) (more_parts bytes [] given (record { runs = []; joined = refl; in_turn = rests }))
