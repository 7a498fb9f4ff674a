-- Members are read one after another, and their devices stay what they are.
use Rattle.std.proofs.Common.{◌≡◌, ◌≢◌, ℕ, ◌<◌, ◌+◌, ◌++◌, ◌∷◌, [], Bool, List, length, refl, sym, ap, ◌∙◌, arith, set, subst, ⊎_elim, get_or, ◌^◌, ◌≤◌}
use Rattle.std.specs.Prelude.{slice_get, Some}
use Rattle.std.proofs.Math.Logic.{⊎_map}
use Rattle.std.proofs.lemmas.List.{length_push}
use Rattle.std.proofs.lemmas.Bool.Decides.{eqb_tells}
use Rattle.std.proofs.lemmas.Option.{slice_get_cases, slice_get_within, same_Some}
use Rattle.md_super.specs.declared.superblock.Superblock.{Superblock}
use Rattle.md_members.specs.declared.fault.MemberFault.{MemberFault}
use Rattle.md_members.specs.declared.fault.MemberFault.TheVariants.{TooShort, ReadFault, Super, Region, Bitmap, Log, NoMemory}
use Rattle.md_members.specs.declared.info.MemberInfo.{MemberInfo}
use Rattle.md_members.specs.Members.{IsReadMember, RefusesMember, RefusesRest, by_place, by_bitmap, by_log, sectors_of_device}
use Rattle.md_members.specs.Reading.{CallFails, RefusesSuper, RefusesBitmap, RefusesLog}
use Rattle.std.specs.Prelude.{⊤}
use Rattle.md_device.specs.declared.fault_list.Fault.{Fault}
use Rattle.md_members.proofs.Failed.{fails_later}
use Rattle.md_state.specs.View.{Disk, of_disks}
use Rattle.md_state.specs.DeviceChanges.{IsUntouched}
use Rattle.md_array.specs.Open.Members.{CallFailsAt, RefusesDeviceRead as RefusesMemberAt, RefusesReading, open_fault_of}
use Rattle.md_array.proofs.Openings.DevicesInTurn.{at_push_before, at_push_last, same_place}
use Rattle.md_array.proofs.General.Indices.{at_set_same}

-- those that were read so far, from the first device on
abbrev pub AreReadSoFar : List Disk → List MemberInfo → Type 0
AreReadSoFar disks infos = (k : ℕ) (d : Disk) (info : MemberInfo) → slice_get disks k ≡ Some d → slice_get infos k ≡ Some info → IsReadMember d.content d.honest info

-- what is true of a member on a device is true on one of the same content
pub member_on : (d a : Disk) (info : MemberInfo) → d.content ≡ a.content → d.honest ≡ a.honest → IsReadMember d.content d.honest info → IsReadMember a.content a.honest info
member_on d a info content honest is = subst (λ (h : Bool). IsReadMember a.content h info) honest (subst (λ (c : List ℕ). IsReadMember c d.honest info) content is)

-- what is said of each failed call, said of another moment
abbrev Moves : ((Fault → Type 0) → Type 0) → ((Fault → Type 0) → Type 0) → Type 1
Moves F G = (P : Fault → Type 0) → F P → G P

-- a refusal for which a call failed, where the same says that another did
super_more : (content : List ℕ) (honest : Bool) {F G : (Fault → Type 0) → Type 0} (fault : MemberFault) → Moves F G → RefusesSuper content honest F fault → RefusesSuper content honest G fault
super_more content honest TooShort f r = r
super_more content honest ReadFault f r = (r.0, f _ r.1)
super_more content honest (Super e) f r = r
super_more content honest Region f r = r
super_more content honest (Bitmap e) f r = r
super_more content honest (Log e) f r = r
super_more content honest NoMemory f r = r

bitmap_more : (content : List ℕ) (honest : Bool) {F G : (Fault → Type 0) → Type 0} (sectors : ℕ) (v : Superblock) (fault : MemberFault) → Moves F G → RefusesBitmap content honest F sectors v fault → RefusesBitmap content honest G sectors v fault
bitmap_more content honest sectors v TooShort f r = r
bitmap_more content honest sectors v ReadFault f r = record { start = r.start; at = r.at; failed = ⊎_map (f _) (λ x. (x.0, x.1, f _ x.2)) r.failed }
bitmap_more content honest sectors v (Super e) f r = r
bitmap_more content honest sectors v Region f r = r
bitmap_more content honest sectors v (Bitmap e) f r = r
bitmap_more content honest sectors v (Log e) f r = r
bitmap_more content honest sectors v NoMemory f r = r

log_more : {F G : (Fault → Type 0) → Type 0} (v : Superblock) (fault : MemberFault) → Moves F G → RefusesLog F v fault → RefusesLog G v fault
log_more v TooShort f r = r
log_more v ReadFault f r = (r.0, r.1, f _ r.2)
log_more v (Super e) f r = r
log_more v Region f r = r
log_more v (Bitmap e) f r = r
log_more v (Log e) f r = r
log_more v NoMemory f r = r

rest_more : (content : List ℕ) (honest : Bool) {F G : (Fault → Type 0) → Type 0} (v : Superblock) (fault : MemberFault) → Moves F G → RefusesRest content honest F v fault → RefusesRest content honest G v fault
rest_more content honest v fault f (by_place is unplaced) = by_place is unplaced
rest_more content honest v fault f (by_bitmap placed has r) = by_bitmap placed has (bitmap_more content honest (sectors_of_device content) v fault f r)
rest_more content honest v fault f (by_log placed h m has reads r) = by_log placed h m has reads (log_more v fault f r)

refuses_more : (content : List ℕ) (honest : Bool) {F G : (Fault → Type 0) → Type 0} (fault : MemberFault) → Moves F G → RefusesMember content honest F fault → RefusesMember content honest G fault
refuses_more content honest fault f r =
    ⊎_map (super_more content honest fault f) (λ rest. (rest.0, rest.1, rest_more content honest rest.0 fault f rest.2)) r

-- one member more
pub read_more : (before now : List Disk) (infos : List MemberInfo) (k : ℕ) (d : Disk) (info : MemberInfo) → length infos ≡ k → slice_get now k ≡ Some d → IsUntouched before now
    → AreReadSoFar before infos → IsReadMember d.content d.honest info → AreReadSoFar before (infos ++ info ∷ [])
read_more before now infos k d info count here untouched read is = λ j a x was at.
    ⊎_elim
    (λ same. let at_k : j ≡ length infos = same.1 ∙ sym count in
    let last : x ≡ info = at_push_last infos info x (length infos) refl (subst (λ (i : ℕ). slice_get (infos ++ info ∷ []) i ≡ Some x) at_k at) in
    let here_j : slice_get now j ≡ Some d = ap (slice_get now) same.1 ∙ here in
    rw last (member_on d a info (untouched.content j a d was here_j) (untouched.same.honest j a d was here_j).honest is))
    (λ other. let total : length (infos ++ info ∷ []) ≡ length infos + 1 = length_push infos info in
    let within : j < length infos = omega (arith, slice_get_within (infos ++ info ∷ []) j x at, other.1) in
    read j a x was (at_push_before infos info x j within at))
    (eqb_tells j k)

-- so many devices are no longer than any
abbrev pub AreShortSoFar : List Disk → ℕ → Type 0
AreShortSoFar disks k = (j : ℕ) (d : Disk) → j < k → slice_get disks j ≡ Some d → sectors_of_device d.content ≤ 2 ^ 54

pub short_more : (before now : List Disk) (k : ℕ) (d : Disk) → slice_get now k ≡ Some d → IsUntouched before now → sectors_of_device d.content ≤ 2 ^ 54
    → AreShortSoFar before k → AreShortSoFar before (k + 1)
short_more before now k d here untouched short earlier j a below was =
    ⊎_elim
    (λ same. subst (λ (content : List ℕ). sectors_of_device content ≤ 2 ^ 54) (untouched.content j a d was (ap (slice_get now) same.1 ∙ here)) short)
    (λ other. earlier j a (omega (arith, below, other.1)) was)
    (eqb_tells j k)

-- device k is refused, and those before it were read
refused_member : (before now : List Disk) (infos : List MemberInfo) (k : ℕ) (d e : Disk) (fault : MemberFault) → length infos ≡ k → slice_get now k ≡ Some d → IsUntouched before now
    → AreReadSoFar before infos → RefusesMember d.content d.honest (CallFails of_disks d e) fault → fault ≢ NoMemory → RefusesMemberAt before (set now k e) k fault
refused_member before now infos k d e fault count here untouched read refused memory =
    let was : slice_get before k ≡ Some (get_or before k d) = same_place before now k d untouched.same.as_many here d in
    let a = get_or before k d in
    let stayed = untouched.same.honest k a d was here in
    let Fails = CallFailsAt before (set now k e) k in
    let fails : Moves (CallFails of_disks d e) Fails = λ P more x y is_x is_y.
    let x_is = same_Some a x (sym was ∙ is_x) in
    let y_is = same_Some e y (sym (at_set_same now k e (slice_get_within now k d here)) ∙ is_y) in
    rw (sym x_is, sym y_is) (fails_later of_disks a d e P (λ _. ⊤) stayed.counted stayed.grown more) in
    record {
      disk = a;
      is = was;
      refused = subst (λ (h : Bool). RefusesMember a.content h Fails fault) stayed.honest
          (subst (λ (c : List ℕ). RefusesMember c d.honest Fails fault) (untouched.content k a d was here) (refuses_more d.content d.honest fault fails refused));
      memory = memory;
      earlier = λ j b below at.
          let within : j < length infos = omega arith in
          let found = slice_get_cases infos j in
          ⊎_elim (λ p. (p.0, read j b p.0 at p.2)) (λ p. absurd (omega (arith, p.0))) found.1;
    }

pub refused_at : (before now : List Disk) (infos : List MemberInfo) (k : ℕ) (d e : Disk) (fault : MemberFault) → length infos ≡ k → slice_get now k ≡ Some d → IsUntouched before now
    → AreReadSoFar before infos → RefusesMember d.content d.honest (CallFails of_disks d e) fault → RefusesReading before (set now k e) (open_fault_of k fault)
refused_at before now infos k d e TooShort count here untouched read refused = refused_member before now infos k d e TooShort count here untouched read refused (λ same. cc)
refused_at before now infos k d e ReadFault count here untouched read refused = refused_member before now infos k d e ReadFault count here untouched read refused (λ same. cc)
refused_at before now infos k d e (Super f) count here untouched read refused = refused_member before now infos k d e (Super f) count here untouched read refused (λ same. cc)
refused_at before now infos k d e Region count here untouched read refused = refused_member before now infos k d e Region count here untouched read refused (λ same. cc)
refused_at before now infos k d e (Bitmap f) count here untouched read refused = refused_member before now infos k d e (Bitmap f) count here untouched read refused (λ same. cc)
refused_at before now infos k d e (Log f) count here untouched read refused = refused_member before now infos k d e (Log f) count here untouched read refused (λ same. cc)
refused_at before now infos k d e NoMemory count here untouched read refused = tt
