-- What a command is, and what it may do with the images.
use Rattle.std.specs.Prelude.{ℕ, Bool, true, false, Option, Some, None, is_none, option_map, if◌then◌else◌}
use Rattle.clap.specs.Words.{Text}
use Rattle.md_images.specs.declared.access.Access.{Access}
use Rattle.md_images.specs.declared.access.Access.TheVariants.{Change, ChangeOrLook, Look}
use Rattle.md_words.specs.declared.create_options.CreateOptions.{CreateOptions}
use Rattle.md_words.specs.declared.array_command.ArrayCommand.{ArrayCommand}
use Rattle.md_words.specs.declared.array_command.ArrayCommand.TheVariants as array
use Rattle.md_words.specs.declared.image_command.ImageCommand.{ImageCommand}
use Rattle.md_words.specs.declared.image_command.ImageCommand.TheVariants as image
use Rattle.md_words.specs.declared.command.Command.{Command}
use Rattle.md_words.specs.declared.command.Command.TheVariants as command
use Rattle.md_words.specs.declared.form.CheckForm.{CheckForm}
use Rattle.md_words.specs.declared.form.CheckForm.TheVariants as check_form
use Rattle.md_words.specs.declared.form.DetailForm.{DetailForm}
use Rattle.md_words.specs.declared.form.DetailForm.TheVariants as detail_form
use Rattle.md_words.specs.declared.form.RebuildForm.{RebuildForm}
use Rattle.md_words.specs.declared.form.RebuildForm.TheVariants as rebuild_form
use Rattle.md_words.specs.declared.loss.Loss.{Loss}
use Rattle.md_words.specs.declared.loss.Loss.TheVariants as losing
use Rattle.md_words.specs.declared.form.ImageForm.{ImageForm}
use Rattle.md_words.specs.declared.form.ImageForm.TheVariants as image_form
use Rattle.md_words.specs.declared.overwritten.Overwritten.{Overwritten}
use Rattle.md_words.specs.declared.overwritten.Overwritten.TheVariants as overwritten
use Rattle.md_words.specs.declared.long_task.LongTask.{LongTask}
use Rattle.md_words.specs.declared.long_task.LongTask.TheVariants as long

-- the options of `create`
pub record Options : Type 0 where
  pub level : Text
  pub raid_devices : ℕ
  pub uuid : Option Text
  pub name : Text
  pub bitmap_chunk : ℕ
  pub size : Option ℕ
  pub time : ℕ
  pub write_mostly : Option ℕ  -- the role of the member that is read only where no other can serve
  pub assume_clean : Bool
  pub json : Bool  -- the report is a JSON object

-- What is asked for. Of a command that may change no image a last `Bool` says whether it is not to. One before it, or else the last,
-- says whether the report is a JSON object.
pub data Ask : Type 0 where
  examines : ImageForm → Ask
  examines_bitmap : ImageForm → Ask
  examines_badblocks : ImageForm → Ask
  scans : Bool → Ask
  creates : Options → Ask
  grows : Text → ℕ → Ask  -- the members get a bitmap of this kind, with chunks of so many KiB
  assembles : Bool → Bool → Ask
  details : DetailForm → Bool → Ask
  plans : ℕ → Bool → Bool → Ask  -- the rebuild of the member with this index
  reads : ℕ → Option ℕ → Bool → Bool → Ask  -- from a sector on, so many or all; whether zeros stand for those that are not given
  serves : Bool → Ask  -- reading only; whether zeros stand for sectors that are not given
  serves_writable : Ask
  checks : CheckForm → Bool → Bool → Ask  -- whether the status says that members differ
  writes : ℕ → Option ℕ → Ask  -- from a sector on, an input of so many sectors, where that is said
  resyncs : Ask
  stops : Bool → Ask
  fails : ℕ → Ask  -- the member with this index
  removes : ℕ → Ask  -- it leaves the array
  adds : Text → Bool → Ask  -- the image under this name joins it
  re_adds : Text → Bool → Bool → Ask  -- the image under this name, which left it, comes back and gets what it lacks; whether that is all of it
  rebuilds : ℕ → Loss → RebuildForm → Ask  -- the member with this index gets what it lacks, but for what is lost

-- whether no image may be changed, by a command that else might change some
abbrev pub is_readonly : Ask → Bool
is_readonly (assembles json readonly) = readonly
is_readonly (details form readonly) = readonly
is_readonly (plans k json readonly) = readonly
is_readonly (reads sector count fill readonly) = readonly
is_readonly (serves fill) = true
is_readonly (checks form exit_code readonly) = readonly
is_readonly _ = false

-- How images are opened where they may be changed: opening an array to show what it is may store marks, and what writes to
-- images needs all of them to be changed.
abbrev pub full_access_of : Ask → Access
full_access_of (examines form) = Look
full_access_of (examines_bitmap form) = Look
full_access_of (examines_badblocks form) = Look
full_access_of (scans json) = Look
full_access_of (assembles json readonly) = ChangeOrLook
full_access_of (details form readonly) = ChangeOrLook
full_access_of (plans k json readonly) = ChangeOrLook
full_access_of (reads sector count fill readonly) = ChangeOrLook
full_access_of (serves fill) = ChangeOrLook
full_access_of (checks form exit_code readonly) = ChangeOrLook
full_access_of _ = Change

-- how the images are opened
abbrev pub access_of : Ask → Access
access_of ask = if is_readonly ask then Look else full_access_of ask

-- where it tells of which arrays images are members: whether the report is a JSON object
abbrev pub scan_form : Ask → Option Bool
scan_form (scans json) = Some json
scan_form _ = None

-- whether it puts out zeros for sectors that are not given
abbrev pub fills : Ask → Bool
fills (reads sector count fill readonly) = fill
fills (serves fill) = fill
fills _ = false

-- the image that is to join it
abbrev pub device_to_add : Ask → Option Text
device_to_add (adds name json) = Some name
device_to_add (re_adds name full json) = Some name
device_to_add _ = None

-- the member that it names
abbrev pub member_of : Ask → Option ℕ
member_of (plans k json readonly) = Some k
member_of (fails k) = Some k
member_of (removes k) = Some k
member_of (rebuilds k loss form) = Some k
member_of _ = None

-- the member that is to leave it
abbrev pub leaving_of : Ask → Option ℕ
leaving_of (removes k) = Some k
leaving_of _ = None

-- the member that it makes faulty itself
abbrev pub failing_of : Ask → Option ℕ
failing_of (fails k) = Some k
failing_of _ = None

-- whether it says which members were used without those in sync: it shows the array, or rebuilds
abbrev pub tells_parted : Ask → Bool
tells_parted (assembles json readonly) = true
tells_parted (details form readonly) = true
tells_parted (plans k json readonly) = true
tells_parted (re_adds name full json) = true
tells_parted (rebuilds k loss form) = true
tells_parted _ = false

-- what it overwrites that perhaps should stay
abbrev pub overwritten_by : Ask → Overwritten
overwritten_by (creates o) = overwritten.Images
overwritten_by (adds name json) = overwritten.NewDevice
overwritten_by (re_adds name full json) = overwritten.ReturningDevice
overwritten_by (rebuilds k loss form) = overwritten.Member k
overwritten_by _ = overwritten.Nothing

-- whether it may part the array: it can go on without members in sync that are not among the images
abbrev pub may_part : Ask → Bool
may_part (grows bitmap kib) = true
may_part serves_writable = true
may_part (writes sector count) = true
may_part resyncs = true
may_part (stops json) = true
may_part (fails k) = true
may_part (removes k) = true
may_part (adds name json) = true
may_part (re_adds name full json) = true
may_part (rebuilds k loss form) = true
may_part _ = false

-- whether a report is a JSON object
abbrev pub is_json_of_image : ImageForm → Bool
is_json_of_image image_form.Json = true
is_json_of_image image_form.RawJson = true
is_json_of_image _ = false

abbrev pub is_json_of_check : CheckForm → Bool
is_json_of_check check_form.Json = true
is_json_of_check _ = false

abbrev pub is_json_of_rebuild : RebuildForm → Bool
is_json_of_rebuild rebuild_form.Json = true
is_json_of_rebuild _ = false

abbrev pub is_json_of_detail : DetailForm → Bool
is_json_of_detail detail_form.Json = true
is_json_of_detail _ = false

abbrev pub is_json : Ask → Bool
is_json (examines form) = is_json_of_image form
is_json (examines_bitmap form) = is_json_of_image form
is_json (examines_badblocks form) = is_json_of_image form
is_json (scans json) = json
is_json (assembles json readonly) = json
is_json (details form readonly) = is_json_of_detail form
is_json (plans k json readonly) = json
is_json (checks form exit_code readonly) = is_json_of_check form
is_json (creates o) = o.json
is_json (stops json) = json
is_json (adds name json) = json
is_json (re_adds name full json) = json
is_json (rebuilds k loss form) = is_json_of_rebuild form
is_json _ = false

-- whether it compares the members in sync
abbrev pub compares : Ask → Bool
compares (checks form exit_code readonly) = true
compares _ = false

-- whether its status says that chunks differ
abbrev pub tells_by_status : Ask → Bool
tells_by_status (checks form exit_code readonly) = exit_code
tells_by_status _ = false

-- whether it reads the input
abbrev pub takes_input : Ask → Bool
takes_input (writes sector count) = true
takes_input _ = false

-- whether it makes a UUID of random bytes
abbrev pub needs_random_bytes : Ask → Bool
needs_random_bytes (creates o) = is_none o.uuid
needs_random_bytes _ = false

-- what a terminal is shown the progress of, where it takes long
abbrev pub long_task_of : Ask → Option LongTask
long_task_of (reads sector count fill readonly) = Some (long.Read count)
long_task_of (checks form exit_code readonly) = Some long.Check
long_task_of resyncs = Some long.Resync
long_task_of (re_adds name full json) = Some long.Rebuild
long_task_of (rebuilds k loss form) = Some long.Rebuild
long_task_of (writes sector count) = Some long.Write
long_task_of _ = None

-- what a rebuild that it does loses for a bad sector
abbrev pub loss_of : Ask → Option Loss
loss_of (re_adds name full json) = Some losing.Chunks
loss_of (rebuilds k loss form) = Some loss
loss_of _ = None

-- The options of `create` as they were parsed.
abbrev pub options_of : CreateOptions → Options
options_of o = record {
  level = o.level.now;
  raid_devices = o.raid_devices;
  uuid = option_map (λ s. s.now) o.uuid;
  name = o.name.now;
  bitmap_chunk = o.bitmap_chunk;
  size = o.size;
  time = o.time;
  write_mostly = o.write_mostly;
  assume_clean = o.assume_clean;
  json = o.json;
}

abbrev pub image_ask : ImageCommand → Ask
image_ask (image.Examine form) = examines form
image_ask (image.ExamineBitmap form) = examines_bitmap form
image_ask (image.ExamineBadblocks form) = examines_badblocks form

abbrev pub array_ask : ArrayCommand → Ask
array_ask (array.Assemble json readonly) = assembles json readonly
array_ask (array.Detail form readonly) = details form readonly
array_ask (array.Plan k json readonly) = plans k json readonly
array_ask (array.Read sector count fill readonly) = reads sector count fill readonly
array_ask (array.Serve fill) = serves fill
array_ask array.ServeWritable = serves_writable
array_ask (array.Check form exit_code readonly) = checks form exit_code readonly
array_ask (array.Write sector count) = writes sector count
array_ask array.Resync = resyncs
array_ask (array.Stop json) = stops json
array_ask (array.Fail k) = fails k
array_ask (array.Remove k) = removes k
array_ask (array.Add device json) = adds device.now json
array_ask (array.ReAdd device full json) = re_adds device.now full json
array_ask (array.Rebuild k loss form) = rebuilds k loss form

abbrev pub ask_of : Command → Ask
ask_of (command.Image c) = image_ask c
ask_of (command.Scan json) = scans json
ask_of (command.Create options) = creates (options_of options)
ask_of (command.Grow bitmap kib) = grows bitmap.now kib
ask_of (command.Array c) = array_ask c
