-- What the commands that show one image give.
use Rattle.md_device.specs.declared.device.Device.{Ghosts}
use Rattle.md_device.specs.declared.fault_list.Fault.{Fault}
use Rattle.std.specs.Prelude.{◌≡◌, ◌≢◌, ◌⊎◌, ℕ, Bool, true, false, List, ◌++◌, codes, Option, Some, None, Result, Err, MatchResult, take}
use Rattle.md_badblocks.specs.declared.run.Run.{Run}
use Rattle.md_super.specs.declared.superblock.Superblock.{Superblock as SuperblockValue}
use Rattle.md_bitmap.specs.declared.header.BitmapHeader.{BitmapHeader}
use Rattle.md_bitmap.specs.Marks.{Bitmap as BitmapValue}
use Rattle.serde_json.specs.Written.{compact_text}
use Rattle.md_members.specs.declared.info.MemberInfo.{MemberInfo}
use Rattle.md_members.specs.declared.fault.MemberFault.TheVariants as member
use Rattle.md_members.specs.Reading.{CallFails, ReadsSuper, RefusesSuper}
use Rattle.md_members.specs.Members.{IsReadMember, RefusesMember}
use Rattle.md_streams.specs.declared.sink.Sink.{Ghosts as SinkGhosts}
use Rattle.md_examine.specs.SuperblockReport.{examine_text}
use Rattle.md_examine.specs.BitmapReport.{bitmap_report}
use Rattle.md_examine.specs.BadblocksReport.{badblocks_report}
use Rattle.md_raw_reports.specs.SuperFields.{all_text}
use Rattle.md_raw_reports.specs.BitmapFields.{bitmap_all_text}
use Rattle.md_raw_reports.specs.LogFields.{log_all_text}
use Rattle.md_raw_reports.specs.declared.raw_bitmap.RawBitmap.{RawBitmap}
use Rattle.md_raw_reports.specs.declared.super_fields.Found.{Found}
use Rattle.md_report.specs.AsJson.OneImage.BadblocksObject.{badblocks_object}
use Rattle.md_report.specs.AsJson.OneImage.BitmapObject.{bitmap_object}
use Rattle.md_report.specs.AsJson.Objects.{object_line}
use Rattle.md_raw_reports.specs.RawJson.RawBitmap.{raw_bitmap_object}
use Rattle.md_raw_reports.specs.RawJson.RawLog.{raw_log_object}
use Rattle.md_raw_reports.specs.RawJson.RawSuper.{raw_super_object}
use Rattle.md_report.specs.AsJson.OneImage.SuperblockObject.{superblock_object}
use Rattle.md_raw_reports.specs.RawMembers.Elsewhere.{FindsElsewhere}
use Rattle.md_raw_reports.specs.RawMembers.Raw.{ReadsRawBitmap, ReadsFront, ReadsRawLog, RefusesRawBitmap, RefusesRawSuper, RefusesRawLog}
use Rattle.md_raw_reports.specs.declared.raw_members.fault.RawFault.{RawFault}
use Rattle.md_raw_reports.specs.declared.raw_members.fault.RawFault.TheVariants as raw
use Rattle.md_raw_reports.specs.declared.raw_members.read_parts.RawLog.{RawLog}
use Rattle.md_words.specs.Asks.{Ask, examines, examines_badblocks, examines_bitmap}
use Rattle.md_examine_commands.specs.ScanObject.{scan_object}
use Rattle.md_examine_commands.specs.ScanText.{scan_text}
use Rattle.md_examine_commands.specs.Unshown.{refused_value}
use Rattle.md_examine_commands.specs.declared.scan.refused.Refused.{Refused}
use Rattle.md_examine_commands.specs.declared.scan.seen.Seen.{Seen}
use Rattle.md_words.specs.declared.form.ImageForm.TheVariants as form
use Rattle.md_images.specs.declared.image_fault.ImageFault.{ImageFault}
use Rattle.md_images.specs.declared.image_refusal.ImageRefusal.TheVariants.{Unopened}
use Rattle.md_streams.specs.Putting.{PutsOut}
use Rattle.md_refusals.specs.declared.fault.CommandFault.{CommandFault}
use Rattle.md_refusals.specs.declared.fault.CommandFault.TheVariants.{BadImage, Member, NoBitmap, OutputFault}

-- ---- By which text an image is shown.
-- what is read and taken, as a JSON object or as text
abbrev pub superblock_shown : Bool → SuperblockValue → List ℕ
superblock_shown true v = object_line (superblock_object v)
superblock_shown false v = examine_text v

abbrev pub bitmap_shown : Bool → BitmapHeader → BitmapValue → List ℕ
bitmap_shown true h m = object_line (bitmap_object h m)
bitmap_shown false h m = bitmap_report h m

abbrev pub badblocks_shown : Bool → List Run → List ℕ
badblocks_shown true bad = object_line (badblocks_object bad)
badblocks_shown false bad = badblocks_report bad

-- of which arrays images are members, and as an object also which are none; `named` says that a person named them
abbrev pub scan_shown : Bool → Bool → List Seen → List Refused → List ℕ
scan_shown true named all refused = object_line (scan_object named all refused)
scan_shown false named all refused = scan_text all

-- the object where no image is a member: no array, and the images that it is told of
abbrev pub no_array_line : Bool → List Refused → List ℕ
no_array_line named refused =
    codes "{\"report\":\"scan\",\"arrays\":[],\"refused\":" ++ compact_text (refused_value named refused)
    ++ codes "}\n"

-- A text of what a device of this content holds.
module _ (content : List ℕ) (honest json : Bool) (text : List ℕ) where
  abbrev pub IsSuperblockText : Type 0
  IsSuperblockText = (v : SuperblockValue) × ReadsSuper content honest v × (text ≡ superblock_shown json v)

  abbrev pub IsBitmapText : Type 0
  IsBitmapText =
      (info : MemberInfo) × (h : BitmapHeader) × (m : BitmapValue) × IsReadMember content honest info
      × (info.header ≡ Some h) × (info.marks ≡ Some m) × (text ≡ bitmap_shown json h m)

  abbrev pub IsBadblocksText : Type 0
  IsBadblocksText =
      (info : MemberInfo) × IsReadMember content honest info × (text ≡ badblocks_shown json info.bad)

-- What stands there, though it may be refused, as far as it could be read: so many sectors of the superblock.
abbrev pub raw_superblock_shown : Bool → ℕ → List ℕ → List Found → List ℕ
raw_superblock_shown true sectors bytes found = object_line (raw_super_object sectors bytes found)
raw_superblock_shown false sectors bytes found = all_text sectors bytes found

abbrev pub raw_bitmap_shown : Bool → ℕ → List ℕ → RawBitmap → List ℕ
raw_bitmap_shown true sectors superblock bitmap = object_line (raw_bitmap_object sectors superblock bitmap)
raw_bitmap_shown false sectors superblock bitmap = bitmap_all_text sectors superblock bitmap

abbrev pub raw_log_shown : Bool → ℕ → List ℕ → Option ℕ → List ℕ → List ℕ
raw_log_shown true sectors superblock lost area = object_line (raw_log_object sectors superblock lost area)
raw_log_shown false sectors superblock lost area = log_all_text sectors superblock lost area

-- A text of what stands on a device of this content, as far as it was read. `Failed P` says that a call on it failed that has P.
module _ (content : List ℕ) (honest : Bool) (Failed : (Fault → Type 0) → Type 0) (json : Bool)
    (text : List ℕ) where
  pub record ShowsSuper : Type 0 where
    pub sectors : ℕ
    pub bytes : List ℕ
    pub found : List Found
    pub read : ReadsFront content honest Failed sectors bytes
    pub elsewhere : FindsElsewhere content honest Failed found
    pub is : text ≡ raw_superblock_shown json sectors bytes found

  pub record ShowsBitmap : Type 0 where
    pub sectors : ℕ
    pub superblock : List ℕ
    pub bitmap : RawBitmap
    pub read : ReadsFront content honest Failed sectors superblock
    pub placed : ReadsRawBitmap content honest Failed sectors superblock bitmap
    pub is : text ≡ raw_bitmap_shown json sectors superblock bitmap

  pub record ShowsLog : Type 0 where
    pub sectors : ℕ
    pub superblock : List ℕ
    pub area : List ℕ
    pub log : RawLog
    pub read : ReadsFront content honest Failed sectors superblock
    pub placed : ReadsRawLog content honest Failed sectors superblock area log
    pub is : text ≡ raw_log_shown json sectors superblock log.lost (take log.len area)

-- the text that a device of this content is shown by, where `Failed P` says that a call on it failed that has P
abbrev pub ShownBy : Ask → List ℕ → Bool → ((Fault → Type 0) → Type 0) → List ℕ → Type 0
ShownBy (examines form.Text) content honest Failed text = IsSuperblockText content honest false text
ShownBy (examines form.Json) content honest Failed text = IsSuperblockText content honest true text
ShownBy (examines form.Raw) content honest Failed text = ShowsSuper content honest Failed false text
ShownBy (examines form.RawJson) content honest Failed text = ShowsSuper content honest Failed true text
ShownBy (examines_bitmap form.Text) content honest Failed text = IsBitmapText content honest false text
ShownBy (examines_bitmap form.Json) content honest Failed text = IsBitmapText content honest true text
ShownBy (examines_bitmap form.Raw) content honest Failed text = ShowsBitmap content honest Failed false text
ShownBy (examines_bitmap form.RawJson) content honest Failed text =
    ShowsBitmap content honest Failed true text
ShownBy (examines_badblocks form.Text) content honest Failed text = IsBadblocksText content honest false text
ShownBy (examines_badblocks form.Json) content honest Failed text = IsBadblocksText content honest true text
ShownBy (examines_badblocks form.Raw) content honest Failed text = ShowsLog content honest Failed false text
ShownBy (examines_badblocks form.RawJson) content honest Failed text =
    ShowsLog content honest Failed true text
ShownBy _ content honest Failed text = ⊥

-- ---- Why an image is not shown.
module _ (content : List ℕ) (honest : Bool) (Failed : (Fault → Type 0) → Type 0) where
  abbrev pub IsSuperblockRefusal : CommandFault → Type 0
  IsSuperblockRefusal (Member f) = RefusesSuper content honest Failed f
  IsSuperblockRefusal fault = ⊥

  abbrev pub IsBitmapRefusal : CommandFault → Type 0
  IsBitmapRefusal (Member f) = RefusesMember content honest Failed f
  IsBitmapRefusal NoBitmap =
      (info : MemberInfo) × IsReadMember content honest info × ((info.header ≡ None) ⊎ (info.marks ≡ None))
  IsBitmapRefusal fault = ⊥

  abbrev pub IsBadblocksRefusal : CommandFault → Type 0
  IsBadblocksRefusal (Member f) = RefusesMember content honest Failed f
  IsBadblocksRefusal fault = ⊥

-- why the bytes of a part are not read, as a command says it
abbrev pub of_raw : RawFault → CommandFault
of_raw raw.TooShort = Member member.TooShort
of_raw raw.NoBitmap = NoBitmap
of_raw raw.Region = Member member.Region

abbrev pub IsRaw : (RawFault → Type 0) → CommandFault → Type 0
IsRaw Refuses fault = (f : RawFault) × (fault ≡ of_raw f) × Refuses f

abbrev pub RefusedBy : Ask → List ℕ → Bool → ((Fault → Type 0) → Type 0) → CommandFault → Type 0
RefusedBy (examines form.Text) content honest Failed fault = IsSuperblockRefusal content honest Failed fault
RefusedBy (examines form.Json) content honest Failed fault = IsSuperblockRefusal content honest Failed fault
RefusedBy (examines form.Raw) content honest Failed fault = IsRaw (RefusesRawSuper content) fault
RefusedBy (examines form.RawJson) content honest Failed fault = IsRaw (RefusesRawSuper content) fault
RefusedBy (examines_bitmap form.Text) content honest Failed fault =
    IsBitmapRefusal content honest Failed fault
RefusedBy (examines_bitmap form.Json) content honest Failed fault =
    IsBitmapRefusal content honest Failed fault
RefusedBy (examines_bitmap form.Raw) content honest Failed fault =
    IsRaw (RefusesRawBitmap content honest Failed) fault
RefusedBy (examines_bitmap form.RawJson) content honest Failed fault =
    IsRaw (RefusesRawBitmap content honest Failed) fault
RefusedBy (examines_badblocks form.Text) content honest Failed fault =
    IsBadblocksRefusal content honest Failed fault
RefusedBy (examines_badblocks form.Json) content honest Failed fault =
    IsBadblocksRefusal content honest Failed fault
RefusedBy (examines_badblocks form.Raw) content honest Failed fault =
    IsRaw (RefusesRawLog content honest Failed) fault
RefusedBy (examines_badblocks form.RawJson) content honest Failed fault =
    IsRaw (RefusesRawLog content honest Failed) fault
RefusedBy _ content honest Failed fault = ⊥

-- ---- What is put out.
module _ {S : Type 0} (s : SinkGhosts S) where
  -- a refusal, before which nothing is written, or an output that failed while a report was written
  abbrev pub RefusesOrFails : (List ℕ → Type 0) → (CommandFault → Type 0) → S → S → CommandFault → Type 0
  RefusesOrFails Shown Refused old new OutputFault = (s.failed new ≡ true) × (text : List ℕ) × Shown text
  RefusesOrFails Shown Refused old new fault = (new ≡ old) × Refused fault

  -- a text by which it is shown, or why it is not
  abbrev pub Reports : (List ℕ → Type 0) → (CommandFault → Type 0) → S → S → Result (Unit {0}) CommandFault
      → Type 0
  Reports Shown Refused old new result =
      MatchResult result
      (λ _. (text : List ℕ) × Shown text × PutsOut s old new text)
      (RefusesOrFails Shown Refused old new)

-- what a command gives on a device of this content
abbrev pub Examines : {S : Type 0} → Ask → SinkGhosts S → List ℕ → Bool → ((Fault → Type 0) → Type 0) → S → S
    → Result (Unit {0}) CommandFault → Type 0
Examines ask s content honest Failed old new result =
    Reports s (ShownBy ask content honest Failed) (RefusedBy ask content honest Failed) old new result

-- ---- The image.
-- every other name has the device that it had
abbrev pub OthersStay : {D : Type 0} → (List ℕ → Option D) → (List ℕ → Option D) → List ℕ → Type 0
OthersStay old new name = (other : List ℕ) → other ≢ name → new other ≡ old other

-- the one image's device is taken out, read and put back. Where it is known which devices there are, it is the one under
-- the name.
pub record ExaminesDevice {D S : Type 0} (ask : Ask) (g : Ghosts D) (s : SinkGhosts S) (known : Bool)
    (before after : List ℕ → Option D) (name : List ℕ) (old new : S)
    (result : Result (Unit {0}) CommandFault) : Type 0 where
  pub taken : D
  pub given : D
  pub was : known ≡ true → before name ≡ Some taken
  pub back : known ≡ true → after name ≡ Some given
  pub others : known ≡ true → OthersStay before after name
  pub kept : g.content given ≡ g.content taken
  pub stays_honest : g.honest given ≡ g.honest taken
  pub gives : Examines ask s (g.content taken) (g.honest taken) (CallFails g taken given) old new result

-- the image can't be opened
pub record RefusesImage {D S : Type 0} (known : Bool) (before after : List ℕ → Option D) (name : List ℕ)
    (old new : S) (result : Result (Unit {0}) CommandFault) : Type 0 where
  pub fault : ImageFault
  pub refused : result ≡ Err (BadImage 0 (Unopened fault))
  pub was : known ≡ true → before name ≡ None
  pub stays : known ≡ true → after name ≡ None
  pub others : known ≡ true → OthersStay before after name
  pub unwritten : new ≡ old

abbrev pub ExaminesOne : {D S : Type 0} → Ask → Ghosts D → SinkGhosts S → Bool → (List ℕ → Option D)
    → (List ℕ → Option D) → List ℕ → S → S → Result (Unit {0}) CommandFault → Type 0
ExaminesOne ask g s known before after name old new result =
    ExaminesDevice ask g s known before after name old new result
    ⊎ RefusesImage known before after name old new result
