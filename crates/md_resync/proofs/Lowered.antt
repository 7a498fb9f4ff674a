-- Sure offsets are lowered in memory, and stored where that is due: then no recovering member's superblock says that it has a marked chunk.
use Rattle.std.proofs.Common.{◌≡◌, ℕ, ◌*◌, ◌≤◌, ◌&&◌, ◌||◌, Bool, true, false, cond, min, nat_lt, List, map, slice_get, refl, sym, ap, ◌∙◌, subst, arith, inl, inr}
use Rattle.std.specs.Prelude.{Result, Ok, Err, MatchResult}
use Rattle.std.proofs.lemmas.Bool.{cases_lt}
use Rattle.std.proofs.Math.Nat.{mul-le-mul_right}
use Rattle.md_bitmap.specs.Marks.{IsMarked, IsNextMarked}
use Rattle.md_model.specs.Events.{Event, MemberPart}
use Rattle.md_model.proofs.Cases.{below-nat_lt, by_test}
use Rattle.md_assembly.specs.States.{is_recorded, is_recovering}
use Rattle.md_assembly.proofs.Indices.{got_same}
use Rattle.md_kept_members.specs.TakingBack.{lowered_member}
use Rattle.md_kept_members.specs.View.{MemberView}
use Rattle.md_kept_members.proofs.Kept.Offsets.{mapped_from}
use Rattle.md_state.specs.Members.{IsMember}
use Rattle.md_state.specs.Steps.MakeClean.{IsIdle}
use Rattle.md_state.specs.Steps.WriteMember.{IsNotDue}
use Rattle.md_state.specs.View.{ArrayView, MirrorView}
use Rattle.md_array.specs.Consistency.{IsConsistent}
use Rattle.md_array.specs.Worlds.{none_in_flight}
use Rattle.md_array.proofs.StepLemmas.FailedParts.{halted_then}
use Rattle.md_array.proofs.StepLemmas.Turns.{all_such}
use Rattle.md_laws.proofs.Crashes.WithinTarget.{recovering_recorded}
use Rattle.md_metadata.specs.declared.fault.PartFault.{PartFault}
use Rattle.md_metadata.specs.declared.fault.PartFault.TheVariants as part
use Rattle.md_metadata.specs.Going.{only_others}
use Rattle.md_metadata.specs.Lowering.{IsLowering, LowersAll}
use Rattle.md_metadata.specs.Storing.{HaltsStoring, IsNoFailure, IsRecording, IsToldAs, IsUpToDate, LosesStoring, RecordsAll, StaysReady, StoresAll, StoringFails}
use Rattle.md_metadata.proofs.Going.{GoesUnfailing, halts_on, stops_as, stops_on, stores_on, unfailing_as, unfailing_loses, unfailing_none, unfailing_on}
use Rattle.md_resync.specs.Telling.{HaltsTelling, IsAsTold, IsTelling, StoresLowered, Tells}

-- ---- events
lowering_tells : (sector : ℕ) (e : Event) → IsLowering sector e → IsTelling e
lowering_tells sector (Event.LowerOffset k s) is = tt
lowering_tells sector e is = absurd is

lowering_unfailing : (sector : ℕ) (e : Event) → IsLowering sector e → IsNoFailure e
lowering_unfailing sector (Event.LowerOffset k s) is = tt
lowering_unfailing sector e is = absurd is

recording_tells : (e : Event) → IsRecording e → IsTelling e
recording_tells (Event.Record k) is = tt
recording_tells (Event.StoreMarks k b) is = is
recording_tells (Event.WriteFails k MemberPart.Superblock) is = tt
recording_tells (Event.WriteFails k (MemberPart.BitmapSector b)) is = is
recording_tells e is = absurd is

-- ---- what is due is stored
pub stores_lowered : (a b c : MirrorView) → StoresAll IsRecording IsNotDue a b
    → {T : Type 0} (result : Result T PartFault) → MatchResult result (λ _. RecordsAll b c) (StoringFails IsRecording b c) → MatchResult result (λ _. StoresLowered a c) (StoringFails IsRecording a c)
stores_lowered a b c x (Ok t) others =
    record { stores = stores_on IsRecording a b c x.stores others.stores; done = λ k m at on. others.done k m at (recovering_recorded m.state on) }
stores_lowered a b c x (Err fault) s = stops_on IsRecording a b c fault x.stores s

-- ---- one member
min_below : (own sector : ℕ) → min own sector ≤ sector
min_below own sector = omega arith

sure_below : (b : Bool) (own sector : ℕ) → cond b (min own sector) own ≤ own
sure_below true own sector = omega arith
sure_below false own sector = omega arith

not_said : (b : Bool) (offset sector : ℕ) (due : Bool) → b ≡ true → ((b && nat_lt sector offset) || due) ≡ false → offset ≤ sector
not_said b offset sector due on none = elim (cases_lt sector offset) [
  | inl low ↦ absurd (let says = below-nat_lt sector offset low in let off : (true && nat_lt sector offset || due) ≡ false = ap (λ x. (x && nat_lt sector offset) || due) (sym on) ∙ none in cc)
  | inr high ↦ high
]

module _ (sector : ℕ) (m n : MemberView) (same : n ≡ record (lowered_member sector m) { stored = n.stored; due = n.due; stored_offset = n.stored_offset })
    (recorded : IsNotDue (lowered_member sector m) → IsNotDue n) (told : IsToldAs (lowered_member sector m) n) (done : is_recovering n.state ≡ true → IsNotDue n) where
  abbrev sure : Bool → ℕ
  sure b = cond b (min m.superblock.recovery_offset sector) m.superblock.recovery_offset

  state_is : is_recovering n.state ≡ is_recovering m.state
  state_is = ap (λ (x : MemberView). is_recovering x.state) same

  offset_is : n.superblock.recovery_offset ≡ sure (is_recovering m.state)
  offset_is = ap (λ (x : MemberView). x.superblock.recovery_offset) same

  pub goes_on_from : is_recovering m.state ≡ true → n.superblock.recovery_offset ≡ min m.superblock.recovery_offset sector
  goes_on_from on = offset_is ∙ ap sure on

  pub is_as_told : IsAsTold m n
  is_as_told = record {
    same = same ∙ ap (λ (o : ℕ). record m { superblock = record m.superblock { recovery_offset = o }; stored = n.stored; due = n.due; stored_offset = n.stored_offset }) (sym offset_is);
    recorded = λ was. by_test (is_recovering m.state)
        (λ on. done (state_is ∙ on))
        (λ off. recorded (ap (λ b. (b && nat_lt sector m.stored_offset) || m.due) off ∙ was));
    sure = subst (λ (o : ℕ). o ≤ m.superblock.recovery_offset) (sym offset_is) (sure_below (is_recovering m.state) m.superblock.recovery_offset sector);
    others = λ off. offset_is ∙ ap sure off;
  }

  pub says_below : is_recovering n.state ≡ true → n.stored_offset ≤ sector
  says_below on =
      let was_on : is_recovering m.state ≡ true = sym state_is ∙ on in
      elim told [
        | inl was ↦ subst (λ (o : ℕ). o ≤ sector) (sym was.1) (not_said (is_recovering m.state) m.stored_offset sector m.due was_on (sym was.0 ∙ done on))
        | inr stored ↦ subst (λ (o : ℕ). o ≤ sector) (sym (stored.1 ∙ offset_is ∙ ap sure was_on)) (min_below m.superblock.recovery_offset sector)
      ]

-- ---- nothing is marked
pub tells_nothing : (m : MirrorView) → IsConsistent m → ((c : ℕ) → IsMarked m.array.marks c → ⊥) → Tells m m
tells_nothing m sound none = record {
  goes = (unfailing_none IsTelling m sound).0.goes;
  unfailing = (unfailing_none IsTelling m sound).0.unfailing;
  members = record {
    as_many = refl;
    each = λ k x y was is.
        subst (IsAsTold x) (got_same m.array.members k x y was is) (record { same = refl; recorded = λ not_due. not_due; sure = omega arith; others = λ off. refl });
  };
  array = refl;
  told = λ k x at on c marked. absurd (none c marked);
  as_far = λ chunk first. absurd (none chunk first.marked);
  unmarked = λ _. refl;
}

-- ---- some chunk is
module _ (sector : ℕ) (old mid : MirrorView) (l : LowersAll sector old mid) where
  lowered_goes : GoesUnfailing IsTelling old mid
  lowered_goes = (unfailing_as (IsLowering sector) IsTelling (lowering_tells sector) old mid (record {
    goes = l.goes;
    unfailing = all_such (IsLowering sector) IsNoFailure (lowering_unfailing sector) l.goes.events l.goes.steps;
    halted = ap (λ (a : ArrayView). a.halted) l.array;
  })).0

  members_are : mid.array.members ≡ map (lowered_member sector) old.array.members
  members_are = ap (λ (a : ArrayView). a.members) l.array

  -- who is kept up to date was so
  up_to_date : (k : ℕ) → IsUpToDate mid.array k → IsUpToDate old.array k
  up_to_date k is =
      let x = mapped_from (lowered_member sector) old.array.members k is.member (ap (λ (xs : List MemberView). slice_get xs k) (sym members_are) ∙ is.at) in
      record { member = x.from; at = x.at; recorded = subst (λ (y : MemberView). is_recorded y.state ≡ true) (sym x.is) is.recorded }

  pub telling_idle : IsIdle old.array → mid.array.halted ≡ false
  telling_idle idle = ap (λ (a : ArrayView). a.halted) l.array ∙ idle.running

  module _ (new : MirrorView) where
    pub telling_loses : (k : ℕ) → StoringFails IsRecording mid new (part.MemberFailed k) → LosesStoring IsTelling k old new
    telling_loses k s =
        let lost : LosesStoring IsTelling k mid new = stops_as IsRecording IsTelling recording_tells mid new (part.MemberFailed k) s in
        unfailing_loses IsTelling old mid new lowered_goes k (up_to_date k lost.was) lost

    pub telling_halts : StoringFails IsRecording mid new part.Halted → HaltsTelling old new
    telling_halts s =
        let h : HaltsStoring IsTelling mid new = stops_as IsRecording IsTelling recording_tells mid new part.Halted s in
        record {
          halts = halts_on only_others only_others only_others IsTelling old mid new lowered_goes.goes h.halts;
          halted = halted_then h.halts.mid new none_in_flight h.halts.failing (h.halts.halts none_in_flight);
        }

    module _ (s : StoresLowered mid new) where
      stored_goes : GoesUnfailing IsTelling mid new
      stored_goes = (unfailing_as IsRecording IsTelling recording_tells mid new (record { goes = s.stores.goes; unfailing = s.stores.unfailing; halted = s.stores.ready.halted })).0

      all_goes : GoesUnfailing IsTelling old new
      all_goes = (unfailing_on IsTelling old mid new lowered_goes stored_goes).0

      -- a member is one that was lowered, and then stored
      record WasLowered (k : ℕ) (n : MemberView) : Type 0 where
        from : MemberView
        at : IsMember old.array k from
        as_told : IsAsTold from n
        goes_on : is_recovering from.state ≡ true → n.superblock.recovery_offset ≡ min from.superblock.recovery_offset sector
        says : is_recovering n.state ≡ true → n.stored_offset ≤ sector

      was_lowered : (k : ℕ) (n : MemberView) → IsMember new.array k n → WasLowered k n
      was_lowered k n at =
          let r : StaysReady mid.array new.array k n = s.stores.ready.each k n at in
          let x = mapped_from (lowered_member sector) old.array.members k r.before (ap (λ (xs : List MemberView). slice_get xs k) (sym members_are) ∙ r.member) in
          let same : n ≡ record (lowered_member sector x.from) { stored = n.stored; due = n.due; stored_offset = n.stored_offset } =
          subst (λ (b : MemberView). n ≡ record b { stored = n.stored; due = n.due; stored_offset = n.stored_offset }) (sym x.is) r.same in
          let recorded = subst (λ (b : MemberView). IsNotDue b → IsNotDue n) (sym x.is) r.recorded in
          let told = subst (λ (b : MemberView). IsToldAs b n) (sym x.is) r.told in
          record {
            from = x.from;
            at = x.at;
            as_told = is_as_told sector x.from n same recorded told (s.done k n at);
            goes_on = goes_on_from sector x.from n same recorded told (s.done k n at);
            says = says_below sector x.from n same recorded told (s.done k n at);
          }

      array_is : new.array ≡ record old.array { members = new.array.members }
      array_is = s.stores.ready.others ∙ ap (λ (a : ArrayView). record a { members = new.array.members }) l.array

      pub tells : (chunk : ℕ) → IsNextMarked old.array.marks 0 chunk → sector ≡ chunk * old.array.chunks.sectors → Tells old new
      tells chunk first is = record {
        goes = all_goes.goes;
        unfailing = all_goes.unfailing;
        members = record {
          as_many = all_goes.goes.array.as_many;
          each = λ k m n was at.
              let w = was_lowered k n at in
              subst (λ (x : MemberView). IsAsTold x n) (sym (got_same old.array.members k m w.from was w.at)) w.as_told;
        };
        array = array_is;
        told = λ k n at on c marked.
            let w = was_lowered k n at in
            let there : IsMarked old.array.marks c = subst (λ (a : ArrayView). IsMarked a.marks c) array_is marked in
            subst (λ (a : ArrayView). n.stored_offset ≤ c * a.chunks.sectors) (sym array_is)
            (below_chunk chunk c old.array.chunks.sectors sector n.stored_offset is (first.least c (omega arith) there) (w.says on));
        as_far = λ other also k m n was at on.
            let w = was_lowered k n at in
            let from : m ≡ w.from = got_same old.array.members k m w.from was w.at in
            let same : other ≡ chunk = one_least other chunk (also.least chunk (omega arith) first.marked) (first.least other (omega arith) also.marked) in
            subst (λ (o : ℕ). n.superblock.recovery_offset ≡ min m.superblock.recovery_offset o) (is ∙ ap (λ (c : ℕ). c * old.array.chunks.sectors) (sym same))
            (subst (λ (x : MemberView). n.superblock.recovery_offset ≡ min x.superblock.recovery_offset sector) (sym from)
            (w.goes_on (sym (ap (λ (x : MemberView). is_recovering x.state) from) ∙ on)));
        unmarked = λ none. absurd (none chunk first.marked);
      }
        where
          one_least : (a b : ℕ) → a ≤ b → b ≤ a → a ≡ b
          one_least a b up down = omega arith

          below_chunk : (low c width at offset : ℕ) → at ≡ low * width → low ≤ c → offset ≤ at → offset ≤ c * width
          below_chunk low c width at offset same below most = let more = mul-le-mul_right width below in let at_most = subst (λ (x : ℕ). offset ≤ x) same most in omega arith
