-- What reading the superblocks of images gives, one after another.
use Rattle.std.specs.Prelude.{◌≡◌, ◌≢◌, ◌⊎◌, ℕ, All, Bool, true, List, [], ◌∷◌, ◌++◌, Some, None, Result, Ok, Err, MatchResult, length, take}
use Rattle.std.specs.Borrow.{Bor}
use Rattle.md_device.specs.declared.device.Device.{Ghosts}
use Rattle.md_device.specs.declared.fault_list.Fault.{Fault}
use Rattle.md_super.specs.declared.superblock.Superblock.{Superblock}
use Rattle.md_device.specs.Failing.{EachNewFault}
use Rattle.md_members.specs.Reading.{CallFails, IsReadOf, ReadsSuper, RefusesSuper}
use Rattle.md_members.specs.declared.fault.MemberFault.TheVariants.{NoMemory}
use Rattle.md_images.specs.declared.images.Images.{Ghosts as ImagesGhosts}
use Rattle.md_images.specs.declared.image_fault.ImageFault.{ImageFault}
use Rattle.md_examine_commands.specs.Examining.{OthersStay}
use Rattle.md_examine_commands.specs.declared.scan.seen.Seen.{Seen}
use Rattle.md_examine_commands.specs.declared.scan.each_image.Looked.{Looked}
use Rattle.md_examine_commands.specs.declared.scan.refused.Refused.{Refused}
use Rattle.md_examine_commands.specs.declared.scan.refused.ScanFault.{ScanFault}
use Rattle.md_examine_commands.specs.declared.scan.refused.ScanFault.TheVariants.{Image, Member}

-- what an image shows: a superblock, or why there is none
abbrev pub Shown : Type 0
Shown = Result Superblock ScanFault

abbrev pub Name : Type 0
Name = Bor (List ℕ)

abbrev pub seen_in : Name → Shown → List Seen
seen_in name (Ok v) = record { name = name; superblock = v } ∷ []
seen_in name (Err f) = []

abbrev pub refused_in : Name → Shown → List Refused
refused_in name (Ok v) = []
refused_in name (Err f) = record { name = name; fault = f } ∷ []

-- what an image shows is known: there was memory for it
abbrev pub IsKnownWhy : Shown → Type 0
IsKnownWhy shown = shown ≢ Err (Member NoMemory)

-- no image is told as refused because there was no memory for what it shows
abbrev pub AreKnownWhy : List Refused → Type 0
AreKnownWhy refused = All (λ one. one.fault ≢ Member NoMemory) refused

-- the superblocks, and the images that show none, of images and what they show
unfoldable pub seen_of : List Name → List Shown → List Seen
seen_of [] shown = []
seen_of (name ∷ names) [] = []
seen_of (name ∷ names) (one ∷ shown) = seen_in name one ++ seen_of names shown

unfoldable pub refused_of : List Name → List Shown → List Refused
refused_of [] shown = []
refused_of (name ∷ names) [] = []
refused_of (name ∷ names) (one ∷ shown) = refused_in name one ++ refused_of names shown

-- why no superblock is taken
abbrev pub RefusesShown : List ℕ → Bool → ((Fault → Type 0) → Type 0) → ScanFault → Type 0
RefusesShown content honest Failed (Member f) = RefusesSuper content honest Failed f
RefusesShown content honest Failed (Image f) = ⊥

abbrev pub GivesShown : List ℕ → Bool → ((Fault → Type 0) → Type 0) → Shown → Type 0
GivesShown content honest Failed shown =
    MatchResult shown (ReadsSuper content honest) (RefusesShown content honest Failed)

module _ {I D : Type 0} (i : ImagesGhosts I D) (g : Ghosts D) where
  -- The device of an image is taken out, its superblock read, and it is put back.
  pub record LooksAtDevice (name : List ℕ) (before after : I) (shown : Shown) : Type 0 where
    pub taken : D
    pub given : D
    pub was : i.known before ≡ true → i.device_at before name ≡ Some taken
    pub back : i.known before ≡ true → i.device_at after name ≡ Some given
    pub others : i.known before ≡ true → OthersStay (i.device_at before) (i.device_at after) name
    pub kept : g.content given ≡ g.content taken
    pub stays_honest : g.honest given ≡ g.honest taken
    pub grown : EachNewFault (g.faults taken) (g.faults given) (IsReadOf 8 4096)
    pub gives : GivesShown (g.content taken) (g.honest taken) (CallFails g taken given) shown

  -- The image can't be opened.
  pub record RefusesToLook (name : List ℕ) (before after : I) (shown : Shown) : Type 0 where
    pub fault : ImageFault
    pub is : shown ≡ Err (Image fault)
    pub was : i.known before ≡ true → i.device_at before name ≡ None
    pub stays : i.known before ≡ true → i.device_at after name ≡ None
    pub others : i.known before ≡ true → OthersStay (i.device_at before) (i.device_at after) name

  abbrev pub LooksAt : List ℕ → I → I → Shown → Type 0
  LooksAt name before after shown =
      LooksAtDevice name before after shown ⊎ RefusesToLook name before after shown

  -- images are looked at one after another
  abbrev pub LooksAtEach : List Name → I → I → List Shown → Type 0
  LooksAtEach [] before after [] = after ≡ before
  LooksAtEach [] before after (one ∷ shown) = ⊥
  LooksAtEach (name ∷ names) before after [] = ⊥
  LooksAtEach (name ∷ names) before after (one ∷ shown) =
      (mid : I) × LooksAt name.now before mid one × LooksAtEach names mid after shown

  -- so many images are looked at, from the first on
  pub record LooksAtFirst (names : List Name) (count : ℕ) (before after : I) (shown : List Shown)
      : Type 0 where
    pub many : length shown ≡ count
    pub each : LooksAtEach (take count names) before after shown

  -- all images are looked at
  pub record LooksAtAll (names : List Name) (before after : I) (looked : Looked) : Type 0 where
    pub shown : List Shown
    pub first : LooksAtFirst names (length names) before after shown
    pub seen : looked.seen.items ≡ seen_of names shown
    pub refused : looked.refused.items ≡ refused_of names shown
    pub memory : AreKnownWhy looked.refused.items

  -- after some images there was no memory
  pub record LooksInPart (names : List Name) (before after : I) : Type 0 where
    pub count : ℕ
    pub shown : List Shown
    pub first : LooksAtFirst names count before after shown

  abbrev pub LooksAtSome : {E : Type 0} → List Name → I → I → Result Looked E → Type 0
  LooksAtSome names before after result =
      MatchResult result (LooksAtAll names before after) (λ _. LooksInPart names before after)
