-- Runs that are given one after another.
use Rattle.std.proofs.Common.{◌≡◌, ◌∙◌, ℕ, ◌+◌, ◌-◌, ◌/◌, ◌<◌, List, [], ◌∷◌, ◌++◌, length, refl, sym, ap, subst, arith, inl, inr, length-append, append-nil}
use Rattle.std.specs.List.{concat}
use Rattle.std.proofs.lemmas.Bool.{cases_lt}
use Rattle.std.proofs.lemmas.List.Folds.{concat-append}
use Rattle.md_device.specs.Device.{held}
use Rattle.md_state.specs.Steps.CopyData.{Lists}
use Rattle.md_state.specs.Steps.ReadData.{HoldsData}
use Rattle.md_state.specs.Rests.{Rests}
use Rattle.md_state.specs.View.{MirrorView}
use Rattle.md_laws.proofs.Runs.Rests.{rests_same, rests_then}
use Rattle.md_read.specs.Reading.{GivesInTurn, GivesRun, GivesSectors, IsInRole}
use Rattle.md_read.proofs.RunsRead.{held_earlier, is_earlier, run_earlier}
use Rattle.md_read.proofs.SectorsGiven.{held_end, held_front, run_holds}

-- ---- devices are read before, and after
pub rests_in_turn : (sector : ℕ) (runs : List (List ℕ)) (old new : MirrorView) → GivesInTurn sector runs old new → Rests old new
rests_in_turn sector [] old new rests = rests
rests_in_turn sector (run ∷ runs) old new h = rests_then old h.0 new h.1.rests (rests_in_turn (sector + length run / 512) runs h.0 new h.2)

in_turn_earlier : (sector : ℕ) (runs : List (List ℕ)) (old mid new : MirrorView) → Rests old mid → GivesInTurn sector runs mid new → GivesInTurn sector runs old new
in_turn_earlier sector [] old mid new first rests = rests_then old mid new first rests
in_turn_earlier sector (run ∷ runs) old mid new first h = (h.0, run_earlier old mid h.0 first h.1.rests sector run h.1, h.2)

in_turn_then : (sector : ℕ) (xs ys : List (List ℕ)) (old mid new : MirrorView) → GivesInTurn sector xs old mid
    → GivesInTurn (sector + length (concat xs) / 512) ys mid new → GivesInTurn sector (xs ++ ys) old new
in_turn_then sector [] ys old mid new rests then =
    let here : sector + 0 / 512 ≡ sector = omega arith in
    in_turn_earlier sector ys old mid new rests (subst (λ (s : ℕ). GivesInTurn s ys mid new) here then)
in_turn_then sector (run ∷ xs) ys old mid new h then =
    let whole = h.1.whole in
    let long = length-append run (concat xs) in
    let here : sector + length (run ++ concat xs) / 512 ≡ sector + length run / 512 + length (concat xs) / 512 = omega arith in
    (h.0, h.1, in_turn_then (sector + length run / 512) xs ys h.0 mid new h.2 (subst (λ (s : ℕ). GivesInTurn s ys mid new) here then))

-- ---- the bytes
module _ (sector : ℕ) where
  pub gives_none : (v : MirrorView) → GivesSectors sector [] v v
  gives_none v = record { runs = []; joined = refl; in_turn = rests_same v }

  pub gives_run : (run : List ℕ) (old new : MirrorView) → GivesRun sector run old new → GivesSectors sector run old new
  gives_run run old new given = record { runs = run ∷ []; joined = sym (append-nil run); in_turn = (new, given, rests_same new) }

  pub gives_rests : (bytes : List ℕ) (old new : MirrorView) → GivesSectors sector bytes old new → Rests old new
  gives_rests bytes old new given = rests_in_turn sector given.runs old new given.in_turn

  module _ (old mid new : MirrorView) where
    pub gives_then : (xs ys : List ℕ) → GivesSectors sector xs old mid → GivesSectors (sector + length xs / 512) ys mid new → GivesSectors sector (xs ++ ys) old new
    gives_then xs ys first second = record {
      runs = first.runs ++ second.runs;
      joined = ap (λ (l : List ℕ). l ++ ys) first.joined ∙ ap (λ (l : List ℕ). concat first.runs ++ l) second.joined ∙ sym (concat-append first.runs second.runs);
      in_turn = in_turn_then sector first.runs second.runs old mid new first.in_turn
          (subst (λ (l : List ℕ). GivesInTurn (sector + length l / 512) second.runs mid new) first.joined second.in_turn);
    }

    pub gives_later : (bytes : List ℕ) → GivesSectors sector bytes old mid → Rests mid new → GivesSectors sector bytes old new
    gives_later bytes given rests =
        subst (λ (l : List ℕ). GivesSectors sector l old new) (append-nil bytes) (gives_then bytes [] given (record { runs = []; joined = refl; in_turn = rests }))

-- ---- each sector
-- a member in sync holds these bytes in the sector, and does not list it
pub record IsHeld (s : ℕ) (bytes : List ℕ) (v : MirrorView) : Type 0 where
  pub from : ℕ
  pub role : ℕ
  pub is : IsInRole v.array role from
  pub unlisted : Lists is.member s → ⊥
  pub holds : HoldsData v from s bytes

pub run_held : (sector : ℕ) (run : List ℕ) (old new : MirrorView) → GivesRun sector run old new → (i : ℕ) → i < length run / 512 → IsHeld (sector + i) (held run i 512) old
run_held sector run old new given i low = record {
  from = given.gives.from;
  role = given.role;
  is = given.gives.is;
  unlisted = given.gives.unlisted (sector + i) (omega arith) (omega arith);
  holds = run_holds given.role sector run old new given.gives i low;
}

is_held_earlier : (s : ℕ) (bytes : List ℕ) (old mid : MirrorView) → Rests old mid → IsHeld s bytes mid → IsHeld s bytes old
is_held_earlier s bytes old mid first h = record {
  from = h.from;
  role = h.role;
  is = is_earlier old mid first h.role h.from h.is;
  unlisted = h.unlisted;
  holds = held_earlier old mid first h.from s bytes h.holds;
}

in_turn_held : (sector : ℕ) (runs : List (List ℕ)) (old new : MirrorView) → GivesInTurn sector runs old new → (i : ℕ) → i < length (concat runs) / 512 → IsHeld (sector + i) (held (concat runs) i 512) old
in_turn_held sector [] old new h i low = absurd (omega arith)
in_turn_held sector (run ∷ runs) old new h i low = elim (cases_lt i (length run / 512)) [
  | inl early ↦ subst (λ (b : List ℕ). IsHeld (sector + i) b old) (sym (held_front run (concat runs) i early)) (run_held sector run old h.0 h.1 i early)
  | inr late ↦
      let whole = h.1.whole in
      let long = length-append run (concat runs) in
      let j : ℕ = i - length run / 512 in
      let at : ℕ = sector + length run / 512 + j in
      let there : length run / 512 + j ≡ i = omega arith in
      let place : at ≡ sector + i = omega arith in
      let rest = in_turn_held (sector + length run / 512) runs h.0 new h.2 j (omega arith) in
      subst (λ (s : ℕ). IsHeld s (held (run ++ concat runs) i 512) old) place
      (subst (λ (k : ℕ). IsHeld at (held (run ++ concat runs) k 512) old) there
      (subst (λ (b : List ℕ). IsHeld at b old) (sym (held_end run (concat runs) j whole))
      (is_held_earlier at (held (concat runs) j 512) old h.0 h.1.rests rest)))
]

pub sector_held : (sector : ℕ) (bytes : List ℕ) (old new : MirrorView) → GivesSectors sector bytes old new → (i : ℕ) → i < length bytes / 512 → IsHeld (sector + i) (held bytes i 512) old
sector_held sector bytes old new given i low =
    subst (λ (b : List ℕ). IsHeld (sector + i) (held b i 512) old) (sym given.joined)
    (in_turn_held sector given.runs old new given.in_turn i (let same = ap length given.joined in omega arith))
