-- The devices of a new array: its members, and how they are laid out.
use Rattle.std.proofs.Common.{◌≡◌, ◌∙◌, ◌*◌, ◌/◌, ◌≤◌, ◌<◌, ℕ, zero, suc, Bool, List, [], ◌∷◌, ◌++◌, drop, take, length, Option, Some, Result, Ok, Err, IfOk, is_err, refl, sym, subst, ap, arith, append-nil, true, false, true≢false}
use Rattle.std.proofs.lemmas.List.{take_all}
use Rattle.std.specs.Prelude.{slice_get}
use Rattle.std.proofs.lemmas.Nat.{div-add-mod'}
use Rattle.std.proofs.lemmas.Option.{slice_get_within}
use Rattle.clap.specs.Words.{Text}
use Rattle.md_create.specs.Geometry.{IsGeometry}
use Rattle.md_create.specs.Values.{AreMembers}
use Rattle.md_create.specs.declared.params.CreateParams.{CreateParams}
use Rattle.md_create.specs.declared.params.NewMember.{NewMember}
use Rattle.md_state.specs.View.{Disk}
use Rattle.md_notices.specs.declared.held.held.Held.{Held}
use Rattle.md_notices.specs.Held.Holding.{LooksAtEach}
use Rattle.md_cli.specs.Creating.{AreLaidOut, AreNewMembers, At, sizes_of}
use Rattle.md_images.specs.Taking.{image_list}
use Rattle.md_cli.proofs.Counted.{has_room, member_count}
use Rattle.md_cli.proofs.Sizes.{all_dropped}

-- what `create` gives by the sizes of the devices
pub made : (params : CreateParams) (names : List Text) (before : List Disk) (sizes : List (Option ℕ)) (members : List NewMember) → sizes ≡ sizes_of names before → length before ≡ length (image_list true names)
    → (size : ℕ) × IsGeometry params sizes size × AreMembers params sizes size members → AreNewMembers params names before members
made params names before sizes members sizes_are many given =
    let are = subst (λ s. AreMembers params s given.0 members) sizes_are given.2 in
    record {
      size = given.0;
      geometry = subst (λ s. IsGeometry params s given.0) sizes_are given.1;
      are = are;
      as_many = member_count params names before many given.0 members are;
    }

whole_sectors : (n : ℕ) → 2048 ≤ n / 512 → 512 * 2048 ≤ n
whole_sectors n h = omega (arith, h, div-add-mod' n 512)

pub room : (params : CreateParams) (names : List Text) (before : List Disk) (members : List NewMember) → length before ≡ length (image_list true names) → AreNewMembers params names before members → (k : ℕ) (d : Disk) → slice_get before k ≡ Some d → 512 * 2048 ≤ length d.content
room params names before members many new k d is = whole_sectors (length d.content) (has_room params names before many new.size new.geometry k d (slice_get_within before k d is) is)

-- a list that was written through as a slice
pub written_back : {X : Type 0} (n : ℕ) (new old : List X) → n ≡ length old → length new ≡ length old → take n (new ++ drop (length new) old) ≡ new
written_back n new old long same =
    ap (λ rest. take n (new ++ rest)) (all_dropped old (length new) (omega (arith, same))) ∙ ap (take n) (append-nil new) ∙ take_all n new (omega (arith, long, same))

pub laid_out_of : (b b' a a' : List Disk) (m m' : List NewMember) (n : ℕ) → b ≡ b' → a ≡ a' → m ≡ m' → AreLaidOut b a m n → AreLaidOut b' a' m' n
laid_out_of b b' a a' m m' n eb ea em h = subst (λ x. AreLaidOut b' a' x n) em (subst (λ x. AreLaidOut b' x m n) ea (subst (λ x. AreLaidOut x a m n) eb h))

pub at_of : (Related : Disk → Disk → NewMember → Type 0) (b b' a a' : List Disk) (m m' : List NewMember) (n : ℕ) → b ≡ b' → a ≡ a' → m ≡ m' → At Related b a m n → At Related b' a' m' n
at_of Related b b' a a' m m' n eb ea em h = subst (λ x. At Related b' a' x n) em (subst (λ x. At Related b' x m n) ea (subst (λ x. At Related x a m n) eb h))

-- what a call that did not fail says
pub when_ok : {T E : Type 0} (r : Result T E) (b : Bool) (P : Type 0) → b ≡ is_err r → b ≡ false → IfOk r (λ _. P) → P
when_ok (Ok x) b P is fine h = h
when_ok (Err e) b P is fine h = absurd (true≢false (sym is ∙ fine))

got : {X : Type 0} (xs : List X) (k : ℕ) → k < length xs → (x : X) × (slice_get xs k ≡ Some x)
got [] k lt = absurd (omega (arith, lt))
got (x ∷ xs) zero lt = (x, refl)
got (x ∷ xs) (suc k) lt = got xs k (omega (arith, lt))

-- a look leaves each device its sectors
pub seen_room : (before seen : List Disk) (held : List Held) → LooksAtEach before seen held → ((k : ℕ) (d : Disk) → slice_get before k ≡ Some d → 512 * 2048 ≤ length d.content) → (k : ℕ) (e : Disk) → slice_get seen k ≡ Some e → 512 * 2048 ≤ length e.content
seen_room before seen held looks long k e is =
    let inside : k < length seen = slice_get_within seen k e is in
    let lt : k < length before = omega (arith, inside, looks.as_many) in
    let d = got before k lt in
    let h = got held k (omega (arith, lt, looks.all)) in
    let one = looks.each k lt d.0 e h.0 d.1 is h.1 in
    subst (λ (content : List ℕ). 512 * 2048 ≤ length content) (sym one.only_read.kept) (long k d.0 d.1)
