-- How a command comes from the words.
use Rattle.std.specs.Prelude.{ℕ, Bool, false, List, [], ◌∷◌, Option, Some, None, ◌&&◌, ◌||◌, codes, is_none, min, option_map, position, unwrap_or, if◌then◌else◌, is_some, not}
use Rattle.std.specs.Str.{bytes_eq}
use Rattle.clap.specs.Kinds.{or_else}
use Rattle.clap.specs.Words.{Kinds, Row, Text, all_of, fault_of, first_of, subcommand_of}
use Rattle.clap.specs.declared.error.kind.ErrorKind.TheVariants as kind
use Rattle.md_words.specs.Numbers.{fits_bits, kib_in, number_or_zero, sectors_in}
use Rattle.md_words.specs.Words.{mdcli}
use Rattle.md_words.specs.declared.form.CheckForm.{CheckForm}
use Rattle.md_words.specs.declared.form.CheckForm.TheVariants as check_form
use Rattle.md_words.specs.declared.form.DetailForm.{DetailForm}
use Rattle.md_words.specs.declared.form.DetailForm.TheVariants as detail_form
use Rattle.md_words.specs.declared.form.RebuildForm.{RebuildForm}
use Rattle.md_words.specs.declared.form.RebuildForm.TheVariants as rebuild_form
use Rattle.md_words.specs.declared.loss.Loss.{Loss}
use Rattle.md_words.specs.declared.loss.Loss.TheVariants as loss
use Rattle.md_words.specs.declared.form.ImageForm.{ImageForm}
use Rattle.md_words.specs.declared.form.ImageForm.TheVariants as image_form
use Rattle.md_words.specs.Asks.{Ask, Options, examines, examines_bitmap, examines_badblocks, scans, creates, grows, assembles, details, plans, reads, serves, serves_writable, checks, writes, resyncs, stops, fails, removes, adds, re_adds, rebuilds}

-- the value of an option among a command's, empty where it has none
abbrev pub text_in : Text → List Row → Text
text_in name rows = unwrap_or (first_of name rows) []

-- whether the words have an option that takes no value
abbrev pub has_flag : Text → List Row → Bool
has_flag name rows = bytes_eq (text_in name rows) (codes "true")

abbrev pub number_in : ℕ → Text → List Row → ℕ
number_in bits name rows = number_or_zero bits (text_in name rows)

-- the UUID, where one is given
abbrev pub uuid_in : List Row → Option Text
uuid_in rows = first_of (codes "uuid") rows

-- a size in KiB, 0 for what is none, which is not taken
abbrev pub kib_or_zero : ℕ → Text → ℕ
kib_or_zero bits text = unwrap_or (kib_in bits text) 0

-- the size of a chunk of the bitmap, and the one of the array, where it is given
abbrev pub chunk_in : List Row → ℕ
chunk_in rows = kib_or_zero 32 (text_in (codes "bitmap-chunk") rows)

abbrev pub size_in : List Row → Option ℕ
size_in rows = option_map (kib_or_zero 64) (first_of (codes "size") rows)

abbrev pub options_in : List Row → Options
options_in rows = record {
  level = text_in (codes "level") rows;
  raid_devices = number_in 32 (codes "raid-devices") rows;
  uuid = uuid_in rows;
  name = text_in (codes "name") rows;
  bitmap_chunk = chunk_in rows;
  size = size_in rows;
  time = number_in 64 (codes "time") rows;
  write_mostly = option_map (number_or_zero 32) (first_of (codes "write-mostly") rows);
  assume_clean = has_flag (codes "assume-clean") rows;
  json = has_flag (codes "json") rows;
}

-- how the report on an image is shown, and that of a check; the object of a check lists the chunks in any case
abbrev pub image_form_in : List Row → ImageForm
image_form_in rows =
    if has_flag (codes "all") rows
    then (if has_flag (codes "json") rows then image_form.RawJson else image_form.Raw)
    else if has_flag (codes "json") rows then image_form.Json else image_form.Text

abbrev pub check_form_in : List Row → CheckForm
check_form_in rows =
    if has_flag (codes "json") rows then check_form.Json
    else if has_flag (codes "list") rows then check_form.List else check_form.Count

-- how an array is shown in detail; the object names the images in any case
abbrev pub detail_form_in : List Row → DetailForm
detail_form_in rows =
    if has_flag (codes "json") rows then detail_form.Json
    else if has_flag (codes "verbose") rows then detail_form.Verbose else detail_form.Text

-- how the report of a rebuild is shown; the object has no plan in any case
abbrev pub rebuild_form_in : List Row → RebuildForm
rebuild_form_in rows =
    if has_flag (codes "json") rows then rebuild_form.Json
    else if has_flag (codes "quiet") rows then rebuild_form.Line else rebuild_form.Plans

-- what a rebuild loses
abbrev pub loss_in : List Row → Loss
loss_in rows = if has_flag (codes "salvage") rows then loss.Sectors else loss.Chunks

-- the images that a command names
abbrev pub images_in : List Row → List Text
images_in rows = unwrap_or (all_of (codes "image") rows) []

-- the maps that it names
abbrev pub maps_in : List Row → List Text
maps_in rows = unwrap_or (all_of (codes "map") rows) []

abbrev pub maps_found : Option (Text × List Row) → List Text
maps_found None = []
maps_found (Some p) = maps_in p.1

-- the file that it makes
abbrev pub map_out_in : List Row → Option Text
map_out_in rows = first_of (codes "map-out") rows

abbrev pub map_out_found : Option (Text × List Row) → Option Text
map_out_found None = None
map_out_found (Some p) = map_out_in p.1

-- the file that gets what is put out
abbrev pub output_in : List Row → Option Text
output_in rows = first_of (codes "output") rows

abbrev pub output_found : Option (Text × List Row) → Option Text
output_found None = None
output_found (Some p) = output_in p.1

-- the kind of the bitmap that it names
abbrev pub bitmap_in : List Row → Option Text
bitmap_in rows = first_of (codes "bitmap") rows

abbrev pub bitmap_found : Option (Text × List Row) → Option Text
bitmap_found None = None
bitmap_found (Some p) = bitmap_in p.1

-- the image that counts as a device of the array
abbrev pub data_of_in : List Row → Option Text
data_of_in rows = first_of (codes "data-of") rows

abbrev pub data_of_found : Option (Text × List Row) → Option Text
data_of_found None = None
data_of_found (Some p) = data_of_in p.1

-- the place among images of the first of this name; 2^32 - 1 stands for all that are greater, at which no array has a member
abbrev pub place_in : List Text → Text → Option ℕ
place_in images name =
    option_map (λ place. min place 4294967295) (position (λ image. bytes_eq image name) images)

-- the member that a text says: a number is its place among the images, and any other text the image as it is listed
abbrev pub member_at : List Text → Text → Option ℕ
member_at images text = if fits_bits 32 text then Some (number_or_zero 32 text) else place_in images text

abbrev pub member_named : List Row → Option ℕ
member_named rows = member_at (images_in rows) (text_in (codes "member") rows)

abbrev pub resume_found : Option (Text × List Row) → Bool
resume_found None = false
resume_found (Some p) = has_flag (codes "resume") p.1

abbrev pub run_found : Option (Text × List Row) → Bool
run_found None = false
run_found (Some p) = has_flag (codes "run") p.1

-- so many sectors, 0 for what is none, which is not taken
abbrev pub sectors_or_zero : Text → ℕ
sectors_or_zero text = unwrap_or (sectors_in text) 0

-- the member, the sector and the number of sectors, where there is one, that a command names
abbrev pub member_in : List Row → ℕ
member_in rows = unwrap_or (member_named rows) 0

abbrev pub sector_in : List Row → ℕ
sector_in rows = sectors_or_zero (text_in (codes "sector") rows)

abbrev pub count_in : List Row → Option ℕ
count_in rows = option_map sectors_or_zero (first_of (codes "count") rows)

-- what the command of a name asks for, where it is one that changes an array; of any other name it is examine
abbrev pub ask_to_change : Text → List Row → Ask
ask_to_change name rows =
    if bytes_eq name (codes "write") then writes (sector_in rows) (count_in rows)
    else if bytes_eq name (codes "resync") then resyncs
    else if bytes_eq name (codes "stop") then stops (has_flag (codes "json") rows)
    else if bytes_eq name (codes "fail") then fails (member_in rows)
    else if bytes_eq name (codes "remove") then removes (member_in rows)
    else if bytes_eq name (codes "add") then adds (text_in (codes "device") rows)
    (has_flag (codes "json") rows)
    else if bytes_eq name (codes "re-add") then re_adds (text_in (codes "device") rows)
    (has_flag (codes "full") rows) (has_flag (codes "json") rows)
    else if bytes_eq name (codes "rebuild") then rebuilds (member_in rows) (loss_in rows)
    (rebuild_form_in rows)
    else examines (image_form_in rows)

-- what `serve` asks for
abbrev pub serve_in : List Row → Ask
serve_in rows =
    if has_flag (codes "readonly") rows then serves (has_flag (codes "fill") rows) else serves_writable

-- what the command of any name asks for
abbrev pub ask_named : Text → List Row → Ask
ask_named name rows =
    if bytes_eq name (codes "examine-bitmap") then examines_bitmap (image_form_in rows)
    else if bytes_eq name (codes "examine-badblocks") then examines_badblocks (image_form_in rows)
    else if bytes_eq name (codes "scan") then scans (has_flag (codes "json") rows)
    else if bytes_eq name (codes "create") then creates (options_in rows)
    else if bytes_eq name (codes "grow") then grows (text_in (codes "bitmap") rows)
    (chunk_in rows)
    else if bytes_eq name (codes "assemble") then assembles (has_flag (codes "json") rows)
    (has_flag (codes "readonly") rows)
    else if bytes_eq name (codes "detail") then details (detail_form_in rows)
    (has_flag (codes "readonly") rows)
    else if bytes_eq name (codes "plan") then plans (member_in rows)
    (has_flag (codes "json") rows) (has_flag (codes "readonly") rows)
    else if bytes_eq name (codes "read") then reads (sector_in rows) (count_in rows)
    (has_flag (codes "fill") rows) (has_flag (codes "readonly") rows)
    else if bytes_eq name (codes "serve") then serve_in rows
    else if bytes_eq name (codes "check") then checks (check_form_in rows) (has_flag (codes "exit-code") rows)
    (has_flag (codes "readonly") rows)
    else ask_to_change name rows

abbrev pub ask_found : Option (Text × List Row) → Ask
ask_found None = examines image_form.Text
ask_found (Some p) = ask_named p.0 p.1

abbrev pub images_found : Option (Text × List Row) → List Text
images_found None = []
images_found (Some p) = images_in p.1

abbrev pub verbose_found : Option (Text × List Row) → Bool
verbose_found None = false
verbose_found (Some p) = has_flag (codes "verbose") p.1

-- what the words ask for
unfoldable pub asked : List Text → Ask
asked words = ask_found (subcommand_of mdcli words)

-- whether nothing is to be asked by the words
unfoldable pub runs : List Text → Bool
runs words = run_found (subcommand_of mdcli words)

-- the image words
unfoldable pub image_words : List Text → List Text
image_words words = images_found (subcommand_of mdcli words)

-- the maps of images that lack sectors
unfoldable pub map_words : List Text → List Text
map_words words = maps_found (subcommand_of mdcli words)

-- the file that is to be made, a map of what is read
unfoldable pub map_out_word : List Text → Option Text
map_out_word words = map_out_found (subcommand_of mdcli words)

-- the file that gets what is put out
unfoldable pub output_word : List Text → Option Text
output_word words = output_found (subcommand_of mdcli words)

-- the kind of the bitmap that is named
unfoldable pub bitmap_word : List Text → Option Text
bitmap_word words = bitmap_found (subcommand_of mdcli words)

-- the image that counts as a device of the array, with its number
unfoldable pub data_of_word : List Text → Option Text
data_of_word words = data_of_found (subcommand_of mdcli words)

-- whether the words ask that a read which was interrupted goes on
unfoldable pub resumes : List Text → Bool
resumes words = resume_found (subcommand_of mdcli words)

-- whether the words ask that more is said of a refusal
unfoldable pub is_verbose : List Text → Bool
is_verbose words = verbose_found (subcommand_of mdcli words)

-- whether a member is named that is neither a number nor listed
abbrev pub is_unknown : Option Text → Option ℕ → Bool
is_unknown None member = false
is_unknown (Some text) member = is_none member

abbrev pub names_no_member : List Row → Bool
names_no_member rows = is_unknown (first_of (codes "member") rows) (member_named rows)

abbrev pub member_fault : Option (Text × List Row) → Kinds
member_fault None = []
member_fault (Some p) = if names_no_member p.1 then kind.ValueValidation ∷ [] else []

-- whether a size is given that is none of so many bits
abbrev pub is_no_size : ℕ → Option Text → Bool
is_no_size bits None = false
is_no_size bits (Some text) = is_none (kib_in bits text)

-- whether sectors are given that are none
abbrev pub are_no_sectors : Option Text → Bool
are_no_sectors None = false
are_no_sectors (Some text) = is_none (sectors_in text)

abbrev pub names_no_sectors : Text → List Row → Bool
names_no_sectors name rows = are_no_sectors (first_of name rows)

abbrev pub names_no_size : List Row → Bool
names_no_size rows =
    is_no_size 64 (first_of (codes "size") rows) || is_no_size 32 (first_of (codes "bitmap-chunk") rows)
    || names_no_sectors (codes "sector") rows || names_no_sectors (codes "count") rows

abbrev pub size_fault : Option (Text × List Row) → Kinds
size_fault None = []
size_fault (Some p) = if names_no_size p.1 then kind.ValueValidation ∷ [] else []

-- whether a map is to be made of a read that ends at what is not given, and does not go on
abbrev pub names_map_alone : List Row → Bool
names_map_alone rows =
    is_some (map_out_in rows) && not (has_flag (codes "fill") rows) && not (has_flag (codes "resume") rows)

-- whether a read is to go on that changes images, or of which a file is not named
abbrev pub resumes_alone : List Row → Bool
resumes_alone rows =
    has_flag (codes "resume") rows
    && (not (has_flag (codes "readonly") rows) || is_none (output_in rows) || is_none (map_out_in rows))

-- whether what is only for reading is asked of an array that is served for writing
abbrev pub has_maps : List Row → Bool
has_maps rows = is_some (all_of (codes "map") rows)

abbrev pub needs_readonly : Text → List Row → Bool
needs_readonly name rows =
    bytes_eq name (codes "serve") && not (has_flag (codes "readonly") rows)
    && (has_flag (codes "fill") rows || has_maps rows)

-- whether a bitmap is named for an array whose images may be changed; `grow` gives them one
abbrev pub names_bitmap_alone : Text → List Row → Bool
names_bitmap_alone name rows =
    is_some (bitmap_in rows) && not (has_flag (codes "readonly") rows) && not (bytes_eq name (codes "grow"))

-- whether a command puts out sectors
abbrev pub puts_sectors : Text → Bool
puts_sectors name = bytes_eq name (codes "read") || bytes_eq name (codes "serve")

-- whether an image is to count as a device where images may be changed, or where sectors that no other gives end a read
abbrev pub names_data_of_alone : Text → List Row → Bool
names_data_of_alone name rows =
    is_some (data_of_in rows)
    && (not (has_flag (codes "readonly") rows) || puts_sectors name && not (has_flag (codes "fill") rows))

-- whether an option is named without one that it needs
abbrev pub lacks_option : Text → List Row → Bool
lacks_option name rows =
    names_map_alone rows || resumes_alone rows || names_bitmap_alone name rows
    || names_data_of_alone name rows || needs_readonly name rows

abbrev pub option_fault : Option (Text × List Row) → Kinds
option_fault None = []
option_fault (Some p) = if lacks_option p.0 p.1 then kind.MissingRequiredArgument ∷ [] else []

-- why the words of a command are not taken: for a value, first the member that they name, or else for its options
abbrev pub value_fault : Option (Text × List Row) → Kinds
value_fault command = or_else (member_fault command) (size_fault command)

abbrev pub command_fault : Option (Text × List Row) → Kinds
command_fault command = or_else (value_fault command) (option_fault command)

-- why the words are not taken: for what the parser says, or else for what the command is given
unfoldable pub words_fault : List Text → Kinds
words_fault words = or_else (fault_of mdcli words) (command_fault (subcommand_of mdcli words))
