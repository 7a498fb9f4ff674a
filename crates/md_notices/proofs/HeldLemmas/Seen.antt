-- A device of which no superblock was read, and whose signatures are looked for then.
use Rattle.std.proofs.Common.{◌≡◌, ◌≢◌, ◌⊎◌, ◌∙◌, ◌<◌, ℕ, Bool, List, length, true, false, inl, inr, sym, ap, arith, subst}
use Rattle.std.specs.List.{filter}
use Rattle.md_device.specs.declared.fault_list.Fault.{Fault}
use Rattle.md_device.proofs.Failing.{fails_still}
use Rattle.md_members.specs.declared.fault.MemberFault.{MemberFault}
use Rattle.md_members.specs.declared.fault.MemberFault.TheVariants.{TooShort, ReadFault, Super, Region, Bitmap, Log, NoMemory}
use Rattle.md_members.specs.Reading.{CallFails, RefusesSuper}
use Rattle.md_notices.specs.declared.signatures.signature.Signature.{Signature}
use Rattle.md_notices.specs.Signatures.Bearing.{bears_signature}
use Rattle.md_notices.specs.Signatures.Finding.{signatures}
use Rattle.md_notices.specs.Signatures.Reading.{IsOnlySearched}
use Rattle.md_state.specs.View.{Disk, of_disks}
use Rattle.md_notices.specs.declared.held.held.Held.{Held}
use Rattle.md_notices.specs.declared.held.held.Held.TheVariants.{Nothing, Unseen, Unread, Member, Signed}
use Rattle.md_notices.specs.Held.Holding.{HasNoSuper, IsToldOfDevice, HoldsSigned, LacksSuper, MissesEach, borne}

-- a failure that was counted stays so
refused_still : {F G : (Fault → Type 0) → Type 0} (content : List ℕ) (honest : _) (fault : MemberFault) → ((P : Fault → Type 0) → F P → G P) → RefusesSuper content honest F fault → RefusesSuper content honest G fault
refused_still content honest TooShort more h = h
refused_still content honest ReadFault more h = (h.0, more _ h.1)
refused_still content honest (Super f) more h = h
refused_still content honest Region more h = absurd h
refused_still content honest (Bitmap f) more h = absurd h
refused_still content honest (Log f) more h = absurd h
refused_still content honest NoMemory more h = h

module _ (a b c : Disk) (fault : MemberFault) (first : IsOnlySearched of_disks a b) (then : IsOnlySearched of_disks b c) (other : fault ≢ NoMemory) (refused : RefusesSuper a.content a.honest (CallFails of_disks a b) fault) where
  no_super : HasNoSuper a c
  no_super = record {
    fault = fault;
    no_memory = other;
    refused = refused_still {F = CallFails of_disks a b} {G = CallFails of_disks a c} a.content a.honest fault (λ P lt. let more = then.counted in (omega (arith, lt.0, more), fails_still a.faults b.faults c.faults P (λ f. f.writes ≡ false) lt.1 then.grown)) refused;
  }

  late : c.failures ≡ a.failures → c.failures ≡ b.failures
  late same = let x = first.counted in let y = then.counted in omega (arith, x, y, same)

  as_borne : borne a ≡ borne b
  as_borne = ap (λ (content : List ℕ). filter (bears_signature content) signatures) (sym first.kept)

  lacks : fault ≢ ReadFault → LacksSuper a c
  unfolding no_super
  lacks read = record { fault = fault; no_memory = other; read = read; refused = no_super.refused }

  -- the read of the superblock failed
  read_failed : (f : MemberFault) → f ≡ ReadFault → RefusesSuper a.content a.honest (CallFails of_disks a b) f → a.honest ≡ true → a.failures < c.failures
  read_failed f is h honest = let failed = by is h in let more = then.counted in omega (arith, failed, more)
    where
      by : f ≡ ReadFault → RefusesSuper a.content a.honest (CallFails of_disks a b) f → a.failures < b.failures
      by e r = (subst (λ x. RefusesSuper a.content a.honest (CallFails of_disks a b) x) e r).1.0

  -- a read failed, before the look at the signatures or in it
  unread : (failed : Bool) → (failed ≡ true → fault ≡ ReadFault) → (failed ≡ true) ⊎ (b.honest ≡ true → b.failures < c.failures) → a.honest ≡ true → a.failures < c.failures
  unread failed told (inl e) is = read_failed fault (told e) refused is
  unread failed told (inr more) is = let late_one = more (first.honest ∙ is) in let early = first.counted in omega (arith, late_one, early)

  missed : MissesEach b c → MissesEach a c
  missed each is =
      let later = each (first.honest ∙ is) in
      let early = first.counted in
      let as_many = ap (λ (found : List Signature). length found) as_borne in
      omega (arith, later, early, as_many)

  pub seen_then : (failed : Bool) → (failed ≡ true → fault ≡ ReadFault) → (failed ≡ false → fault ≢ ReadFault) → (held : Held) → HoldsSigned failed b c held → IsToldOfDevice a c held
  seen_then failed told untold Nothing h = (lacks (untold h.0), λ is. as_borne ∙ h.1 (first.honest ∙ is))
  seen_then failed told untold Unseen h = absurd h
  seen_then failed told untold Unread h = (no_super, unread failed told h.0, missed h.1)
  seen_then failed told untold (Member v) h = absurd h
  seen_then failed told untold (Signed s) h = (
    no_super,
    record {
      bears_it = λ is. ap (λ (content : List ℕ). bears_signature content s) (sym first.kept) ∙ h.bears_it (first.honest ∙ is);
      first = λ is same. let so = h.first (first.honest ∙ is) (late same) in (so.0, as_borne ∙ so.1);
    },
  )
