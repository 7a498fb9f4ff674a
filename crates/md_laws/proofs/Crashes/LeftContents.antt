-- What is read of devices goes by what stands on them.
use Rattle.std.proofs.Common.{◌≡◌, ℕ, List, length, slice_get, set, Option, Some, None, refl, sym, ap, ◌∙◌, arith}
use Rattle.std.specs.Prelude.{option_map}
use Rattle.std.proofs.lemmas.List.{length-map}
use Rattle.std.proofs.lemmas.Option.{none-some, same_Some, slice_get-map, slice_get_within}
use Rattle.md_model.specs.Devices.{Stored}
use Rattle.md_kept_members.specs.View.{MemberView}
use Rattle.md_state.specs.View.{ArrayView, Disk}
use Rattle.md_state.specs.Members.{IsMember}
use Rattle.md_array.specs.Worlds.{stored_of, stored_on}
use Rattle.md_laws.specs.Left.{contents_of}
use Rattle.md_array.proofs.General.Replaced.{read_kept}
use Rattle.md_assembly.proofs.Indices.{got_within}

-- what this array's fields read of device k
abbrev pub read_in : ArrayView → List Disk → ℕ → Stored
read_in a disks k = stored_on a (slice_get a.members k) (slice_get disks k)

by_content : (a : ArrayView) (o : Option MemberView) (x y : Option Disk) → option_map (λ (d : Disk). d.content) x ≡ option_map (λ (d : Disk). d.content) y → stored_on a o x ≡ stored_on a o y
by_content a None None None same = refl
by_content a None None (Some e) same = refl
by_content a None (Some d) None same = refl
by_content a None (Some d) (Some e) same = refl
by_content a (Some m) None None same = refl
by_content a (Some m) None (Some e) same = absurd (none-some e.content same)
by_content a (Some m) (Some d) None same = absurd (none-some d.content (sym same))
by_content a (Some m) (Some d) (Some e) same = ap (stored_of a m) (same_Some d.content e.content same)

contents_at : (xs ys : List Disk) → contents_of xs ≡ contents_of ys → (k : ℕ) → option_map (λ (d : Disk). d.content) (slice_get xs k) ≡ option_map (λ (d : Disk). d.content) (slice_get ys k)
contents_at xs ys same k = sym (slice_get-map (λ (d : Disk). d.content) xs k) ∙ ap (λ (cs : List (List ℕ)). slice_get cs k) same ∙ slice_get-map (λ (d : Disk). d.content) ys k

pub read_same : (a : ArrayView) (xs ys : List Disk) → contents_of xs ≡ contents_of ys → (k : ℕ) → read_in a xs k ≡ read_in a ys k
read_same a xs ys same k = by_content a (slice_get a.members k) (slice_get xs k) (slice_get ys k) (contents_at xs ys same k)

-- a device of the one list is in the other
pub got_like : (xs ys : List Disk) → contents_of xs ≡ contents_of ys → (k : ℕ) (e : Disk) → slice_get ys k ≡ Some e → (d : Disk) × (slice_get xs k ≡ Some d) × (d.content ≡ e.content)
got_like xs ys same k e at =
    let low = slice_get_within ys k e at in
    let long : length xs ≡ length ys = sym (length-map xs (λ (d : Disk). d.content)) ∙ ap length same ∙ length-map ys (λ (d : Disk). d.content) in
    let d = got_within xs k (omega arith) in
    (d.0, d.1, same_Some d.0.content e.content (sym (ap (option_map (λ (x : Disk). x.content)) d.1) ∙ contents_at xs ys same k ∙ ap (option_map (λ (x : Disk). x.content)) at))

-- ---- the fields of the array after a step read the same
same_parts : (a : ArrayView) (k : ℕ) (n : MemberView) (x : Option MemberView) (d : Option Disk) → stored_on (record a { members = set a.members k n }) x d ≡ stored_on a x d
same_parts a k n (Some x) (Some d) = refl
same_parts a k n (Some x) None = refl
same_parts a k n None (Some d) = refl
same_parts a k n None None = refl

same_own : (a : ArrayView) (m n : MemberView) (d : Option Disk) → n.superblock ≡ m.superblock → stored_on a (Some n) d ≡ stored_on a (Some m) d
same_own a m n None same = refl
same_own a m n (Some d) same = λ i. stored_of a (record m { superblock = same i }) d.content

pub read_changed : (a : ArrayView) (k : ℕ) (m n : MemberView) → IsMember a k m → n.superblock ≡ m.superblock → (disks : List Disk) (j : ℕ) → read_in (record a { members = set a.members k n }) disks j ≡ read_in a disks j
read_changed a k m n at same disks j =
    same_parts a k n (slice_get (set a.members k n) j) (slice_get disks j)
    ∙ read_kept (λ o. stored_on a o (slice_get disks j)) a.members k m n at (same_own a m n (slice_get disks j) same) j

-- what was left of a device is that device's
pub got_content : (left : List Disk) (k : ℕ) (c : List ℕ) → slice_get (contents_of left) k ≡ Some c → (x : Disk) × (slice_get left k ≡ Some x) × (x.content ≡ c)
got_content left k c is =
    let low = slice_get_within (contents_of left) k c is in
    let long = length-map left (λ (d : Disk). d.content) in
    let x = got_within left k (omega arith) in
    let at : slice_get (contents_of left) k ≡ Some x.0.content = slice_get-map (λ (d : Disk). d.content) left k ∙ ap (option_map (λ (d : Disk). d.content)) x.1 in
    (x.0, x.1, same_Some x.0.content c (sym at ∙ is))
