-- An enrolment fails by the write of its superblock: the member is prepared, and spoiled, and those are the model's events.
use Rattle.std.proofs.Common.{◌≡◌, ◌≢◌, ℕ, ◌*◌, ◌<◌, Bool, true, cond, List, [], ◌∷◌, ◌++◌, append_assoc, length, length-set, set, slice_get, Option, Some, refl, sym, ap, ◌∙◌, subst, arith}
use Rattle.std.proofs.lemmas.Option.{slice_get_within}
use Rattle.md_assembly.proofs.Indices.{got_same}
use Rattle.md_assembly.specs.States.{is_recovering}
use Rattle.md_device.specs.Splice.{SameOutside}
use Rattle.md_device.proofs.Leaving.{leaves_none}
use Rattle.md_kept_members.specs.View.{MemberView}
use Rattle.md_members.specs.Areas.{bitmap_sectors}
use Rattle.md_model.specs.Events.{Event}
use Rattle.md_model.proofs.Cases.{by_test}
use Rattle.md_kept_members.specs.OnDevices.Storing.{IsStorable, log_writes}
use Rattle.md_kept_members.specs.OnDevices.Superblocks.{write_of}
use Rattle.md_state.specs.DeviceChanges.{StaysHonest}
use Rattle.md_state.specs.Steps.Enrol.{enrolled}
use Rattle.md_state.specs.Missing.{is_rebuilt}
use Rattle.md_state.specs.Requests.{AreInFlight}
use Rattle.md_state.specs.View.{ArrayView, Disk, MirrorView, of_disks}
use Rattle.md_members.specs.DeviceWrites.Bitmaps.{bitmap_writes}
use Rattle.md_members.proofs.DeviceWriteLemmas.Frames.{outside_none}
use Rattle.md_members.specs.DeviceWrites.Writes.{DoesWrites, FailsInWrites, IsAnyIn, IsCutShort, Write, after}
use Rattle.md_array.specs.Consistency.{IsConsistent}
use Rattle.md_array.specs.Steps.Enrol.{Enrols, FailsToEnrol, KeepsData, MayEnrolSectors}
use Rattle.md_array.specs.Steps.EnrolEvents.{FailsAtSuper, Prepares, before_last, prepared_only, with_first, writes_before}
use Rattle.md_array.specs.Events.{IsChangedAlone, IsSameBesideMarks}
use Rattle.md_array.specs.InTurn.{Leads, Requests}
use Rattle.md_array.specs.Spoiling.{SpoilsTarget}
use Rattle.md_array.proofs.General.Indices.{at_set_same, got_other}
use Rattle.md_array.proofs.Rebuilding.Enrol.{can_store}
use Rattle.md_array.proofs.Rebuilding.InBetween.{may_rebuild_it, recovers_rebuilt, set_alone, then_beside, then_long}
use Rattle.md_array.proofs.Rebuilding.MemberStored.{all_long, data_kept}
use Rattle.md_array.proofs.Rebuilding.OneDevice.{changed_only, only_is_consistent}
use Rattle.md_array.proofs.Rebuilding.PreparedEvent.{prepare_happens}
use Rattle.md_array.proofs.Rebuilding.SpoiledEvent.{spoil_happens}
use Rattle.md_array.proofs.StepLemmas.OneWrite.{at_device}
use Rattle.md_device.proofs.Failing.{fails_none}
use Rattle.md_state.proofs.Stays.{stays_written}

-- two lists that are the same end alike
not_empty : (ws : List Write) (w : Write) → ws ++ w ∷ [] ≢ []
not_empty [] w e = let d : ◌≡◌ {A = List Write} (w ∷ []) [] = e in cc
not_empty (x ∷ ws) w e = let d : ◌≡◌ {A = List Write} (x ∷ (ws ++ w ∷ [])) [] = e in cc

pub ends_alike : (xs ys : List Write) (x y : Write) → xs ++ x ∷ [] ≡ ys ++ y ∷ [] → (xs ≡ ys) × (x ≡ y)
ends_alike [] [] x y e = let d : ◌≡◌ {A = List Write} (x ∷ []) (y ∷ []) = e in (refl, cc)
ends_alike [] (w ∷ ys) x y e = let d : ◌≡◌ {A = List Write} (x ∷ []) (w ∷ (ys ++ y ∷ [])) = e in absurd (not_empty ys y cc)
ends_alike (w ∷ xs) [] x y e = let d : ◌≡◌ {A = List Write} (w ∷ (xs ++ x ∷ [])) (y ∷ []) = e in absurd (not_empty xs x cc)
ends_alike (w ∷ xs) (v ∷ ys) x y e =
    let d : ◌≡◌ {A = List Write} (w ∷ (xs ++ x ∷ [])) (v ∷ (ys ++ y ∷ [])) = e in
    let first : w ≡ v = cc in
    let others : xs ++ x ∷ [] ≡ ys ++ y ∷ [] = cc in
    let rest = ends_alike xs ys x y others in
    ((λ i. first i ∷ rest.0 i), rest.1)

module _ (k : ℕ) (copied lost : ℕ → Bool) (old new : MirrorView) (c : IsConsistent old) (f : FailsToEnrol k copied lost old new) where
  abbrev a : ArrayView
  a = old.array

  abbrev m : MemberView
  m = f.comes.member

  abbrev n : MemberView
  n = f.member

  abbrev b : ArrayView
  b = enrolled a k n f.role

  abbrev write : Write
  write = write_of b.shared n

  -- ---- the enrolment, had that write not failed
  module _ (d : Disk) (was : slice_get old.disks k ≡ Some d) where
    storable : IsStorable n d.content
    storable = can_store k f.role copied lost old c n f.comes d was

    abbrev pub done : Disk
    done = record d { content = after d.content f.writes }

    abbrev pub instead : MirrorView
    instead = record { disks = set old.disks k done; array = b }

    done_long : length done.content ≡ length d.content
    done_long = ap (λ (ws : List Write). length (after d.content ws)) f.are.are
        ∙ all_long b n f.are.start f.are.starts f.are.header f.are.header_is b.shared d.content storable f.readable

    pub done_keeps : KeepsData n d done
    done_keeps = subst (λ (ws : List Write). KeepsData n d (record d { content = after d.content ws })) (sym f.are.are)
        (data_kept b n f.are.start f.are.starts f.are.header f.are.header_is b.shared d.content storable f.readable)

    pub done_writes : DoesWrites of_disks f.writes d done
    done_writes = record {
      kept = record { size = done_long; honest_kept = refl; counted = omega arith; grown = fails_none d.faults (λ f. f.writes ≡ true) };
      unfailing = refl;
      none_failed = refl;
      all_done = λ _. refl;
      within = λ _. leaves_none d.crashes (IsCutShort d.content f.writes);
    }

    abbrev pub enrols_instead : Enrols k copied lost old instead
    enrols_instead = record {
      role = f.role;
      may = f.may;
      member = n;
      comes = f.comes;
      array = refl;
      readable = f.readable;
      writes = f.writes;
      are = f.are;
      disks = record {
        as_many = length-set old.disks k done;
        others = λ j apart. got_other old.disks k j done apart;
        change = at_device old.disks k d done (λ x y. DoesWrites of_disks f.writes x y × KeepsData n x y) was (done_writes, done_keeps);
      };
    }

  -- ---- the mirror in between
  module _ (s : FailsAtSuper f) where
    abbrev d : Disk
    d = s.disk

    abbrev e : Disk
    e = s.left

    abbrev fails : FailsInWrites of_disks f.writes d e
    fails = (f.disks.change d e s.is s.left_is).0

    abbrev then : Disk
    then = before_last (writes_before f) d e

    abbrev mid : MirrorView
    mid = record old { disks = set old.disks k then }

    mid_is : prepared_only f ≡ mid
    mid_is = λ i. record old { disks = with_first old.disks k (writes_before f) (s.is i) (s.left_is i) }

    abbrev instead_done : Enrols k copied lost old (instead d s.is)
    instead_done = enrols_instead d s.is

    as_then : d.honest ≡ true → then.content ≡ after d.content (writes_before f)
    as_then honest = ap (λ (t : Bool). cond t (after d.content (writes_before f)) e.content) honest

    long : length then.content ≡ length d.content
    long = by_test d.honest
        (λ on. ap length (as_then on) ∙ then_long k copied lost old (instead d s.is) c instead_done d s.is)
        (λ off. ap (λ (t : Bool). length (cond t (after d.content (writes_before f)) e.content)) off ∙ fails.kept.size)

    mid_alone : IsChangedAlone k (IsSameBesideMarks m) old.disks mid.disks
    mid_alone = set_alone k old.disks d s.is then.content (IsSameBesideMarks m) long
        (λ honest. subst (IsSameBesideMarks m d.content) (sym (as_then honest)) (then_beside k copied lost old (instead d s.is) c instead_done d s.is))

    prepares_mid : MayEnrolSectors k copied lost old → Prepares k old mid
    prepares_mid may = record { may = may_rebuild_it k copied lost old (instead d s.is) c instead_done may; array = refl; disks = mid_alone }

    -- ---- the last write
    order : writes_before f ++ write ∷ [] ≡ fails.done ++ fails.tried ∷ []
    order =
        append_assoc (bitmap_writes f.are.start f.are.header n.stored (bitmap_sectors n.stored.chunks)) (log_writes n.superblock n.bad) (write ∷ [])
        ∙ sym f.are.are ∙ fails.order ∙ ap (λ (ws : List Write). fails.done ++ fails.tried ∷ ws) s.last

    left_any : SameOutside (512 * 8) (length write.bytes) then.content e.content
    left_any = by_test d.honest
        (λ on.
        let same = ends_alike (writes_before f) fails.done write fails.tried order in
        subst (λ (xs : List ℕ). IsAnyIn write xs e.content) (sym (as_then on))
        (subst (λ (ws : List Write). IsAnyIn write (after d.content ws) e.content) (sym same.0)
        (subst (λ (w : Write). IsAnyIn w (after d.content fails.done) e.content) (sym same.1) (fails.outside on))))
        (λ off. subst (λ (xs : List ℕ). IsAnyIn write xs e.content) (sym (ap (λ (t : Bool). cond t (after d.content (writes_before f)) e.content) off))
        (outside_none (512 * 8) (length write.bytes) e.content))

    rebuilt : is_rebuilt m.state ≡ true
    rebuilt =
        let same = got_same a.members k f.may.member m f.may.at f.comes.at in
        recovers_rebuilt m.state (ap (λ (x : MemberView). is_recovering x.state) (sym same) ∙ ap is_recovering f.may.recovering)

    at_mid : slice_get mid.disks k ≡ Some then
    at_mid = at_set_same old.disks k then (slice_get_within old.disks k d s.is)

    -- of the device that was, and of the one that is
    at_both : (Related : Disk → Disk → Type 0) → Related then e → (x y : Disk) → slice_get mid.disks k ≡ Some x → slice_get new.disks k ≡ Some y → Related x y
    at_both Related related x y before now =
        let first : x ≡ then = got_same mid.disks k x then before at_mid in
        let second : y ≡ e = got_same new.disks k y e now s.left_is in
        rw (first, second) related

    spoils_mid : SpoilsTarget k mid new
    spoils_mid = record {
      member = m;
      at = f.comes.at;
      rebuilt = rebuilt;
      running = f.may.running;
      array = f.array;
      write = write;
      sector = refl;
      size = f.readable.size;
      disks = record {
        tried = record {
          as_many = f.disks.as_many ∙ sym (length-set old.disks k then);
          others = λ j apart. f.disks.others j apart ∙ sym (got_other old.disks k j then apart);
          stays = at_both StaysHonest (let s = stays_written of_disks d e fails.kept in record { honest = s.honest; counted = s.counted; grown = s.grown });
          outside = at_both (λ x y. SameOutside (512 * 8) (length write.bytes) x.content y.content) left_any;
        };
        failed = at_both (λ x y. x.honest ≡ true → x.failures < y.failures) fails.failed;
      };
    }

    -- ---- the two events
    pub prepares : MayEnrolSectors k copied lost old → Prepares k old (prepared_only f)
    prepares may = subst (Prepares k old) (sym mid_is) (prepares_mid may)

    pub spoils : SpoilsTarget k (prepared_only f) new
    spoils = subst (λ (v : MirrorView). SpoilsTarget k v new) (sym mid_is) spoils_mid

    prepared_sound : IsConsistent (prepared_only f)
    prepared_sound = subst IsConsistent (sym mid_is) (only_is_consistent k m old mid c f.comes.at rebuilt refl (changed_only k (IsSameBesideMarks m) old.disks mid.disks mid_alone))

    pub unenrol_leads : MayEnrolSectors k copied lost old → (previous : Option Event) (requests : Requests) → AreInFlight a requests
        → Leads previous old requests (Event.Prepare k ∷ Event.SpoilTarget k ∷ []) new requests
    unenrol_leads may previous requests in_flight =
        let first = prepares may in
        let there : AreInFlight (prepared_only f).array requests = in_flight in (
          prepared_only f,
          requests,
          tt,
          (refl, first),
          λ honest _. prepare_happens k old (prepared_only f) c first honest requests in_flight,
          (new, requests, tt, (refl, spoils), λ honest _. spoil_happens k (prepared_only f) new prepared_sound spoils honest requests there, (refl, refl)),
        )
