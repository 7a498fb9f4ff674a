-- The command line.
use Rattle.std.specs.Prelude.{true, ◌∷◌, ◌++◌, [], List, Some, codes, pos}
use Rattle.clap.specs.Lexer.{usize_max}
use Rattle.clap.specs.Words.{App, Rule, Text, new_app, new_rule, with_rule, with_subcommand}
use Rattle.clap.specs.declared.builder.action.ArgAction.TheVariants.{Append, SetTrue}
use Rattle.clap.specs.declared.builder.value_parser.ValueParser.TheVariants.{Signed, Unsigned}

-- any number of images, listed last
abbrev pub image_rule : Rule
image_rule =
    record (new_rule (codes "image"))
    { range = Some (record { start_inclusive = 1; end_inclusive = usize_max }); value_names = 1 }

-- an option with a value, and with a number of 32 or 64 bits
abbrev pub value_rule : Text → Rule
value_rule name = record (new_rule name) { long = Some name; value_names = 1 }

abbrev pub u32_rule : Text → Rule
u32_rule name = record (value_rule name) { parser = Some (Signed (pos 0) (pos 4294967295)) }

abbrev pub u64_rule : Text → Rule
u64_rule name = record (value_rule name) { parser = Some (Unsigned 0 18446744073709551615) }

-- an option with a value, which may be given more than once
abbrev pub texts_rule : Text → Rule
texts_rule name = record (value_rule name) { action = Some Append }

-- an option without a value
abbrev pub flag_rule : Text → Rule
flag_rule name = record (new_rule name) { long = Some name; action = Some SetTrue }

-- of every command: more is said of a refusal
abbrev pub verbose_rule : Rule
verbose_rule = record (flag_rule (codes "verbose")) { short = Some 118 }  -- the letter v

abbrev pub required : Rule → Rule
required r = record r { required = true }

abbrev pub by_default : Text → Rule → Rule
by_default value r = record r { defaults = value ∷ [] }

-- what every command has after its own options
abbrev pub completed : App → App
completed a = with_rule (with_rule a verbose_rule) image_rule

-- An option that says of an image which sectors it lacks.
abbrev pub with_map : App → App
with_map a = with_rule a (texts_rule (codes "map"))

-- A command that may be asked to change no image.
abbrev pub with_readonly : App → App
with_readonly a = with_rule a (flag_rule (codes "readonly"))

-- A command whose report may be a JSON object.
abbrev pub with_json : App → App
with_json a = with_rule a (flag_rule (codes "json"))

-- an option by which nothing is asked
abbrev pub with_run : App → App
with_run a = with_rule a (flag_rule (codes "run"))

-- A command that stops an array.
abbrev pub stop_app : App
stop_app = completed (with_run (with_json (new_app (codes "stop"))))

-- A command that shows an image, and may show it as it stands. It changes none in any case.
abbrev pub examine_app : Text → App
examine_app name =
    completed (with_readonly (with_json (with_rule (new_app name) (flag_rule (codes "all")))))

-- a command under more names
abbrev pub with_aliases : List Text → App → App
with_aliases names a = record a { top = record a.top { aliases = a.top.aliases ++ names } }

-- A command that tells of which arrays images are members.
abbrev pub scan_app : App
scan_app = completed (with_readonly (with_json (new_app (codes "scan"))))

-- A command that may be asked to look at an array as one that has a bitmap.
abbrev pub with_bitmap_option : App → App
with_bitmap_option a = with_rule a (value_rule (codes "bitmap"))

-- A command that may be asked to count an image as a device of the array.
abbrev pub with_data_of : App → App
with_data_of a = with_rule a (value_rule (codes "data-of"))

-- A command that shows an array, the plan of a rebuild, or sectors, or compares the members.
abbrev pub with_images : App → App
with_images a = completed (with_data_of (with_bitmap_option (with_map (with_readonly a))))

abbrev pub array_app : Text → App
array_app name = with_images (with_json (new_app name))

-- A command that makes the members agree.
abbrev pub resync_app : App
resync_app = completed (with_map (with_run (new_app (codes "resync"))))

-- an option that is a member of the array, by its place or its image
abbrev pub with_member : App → App
with_member a = with_rule a (required (value_rule (codes "member")))

-- the members are compared, and where they differ may be listed, and told by the status
abbrev pub check_app : App
check_app =
    with_images
    (with_json
    (with_rule (with_rule (new_app (codes "check")) (flag_rule (codes "list")))
    (flag_rule (codes "exit-code"))))

abbrev pub plan_app : App
plan_app = with_images (with_json (with_member (new_app (codes "plan"))))

-- a command that changes the state of one member
abbrev pub member_app : Text → App
member_app name = completed (with_run (with_member (new_app name)))

-- an option that is the image of a device which is to join the array
abbrev pub with_device_option : App → App
with_device_option a = with_rule a (required (value_rule (codes "device")))

-- the commands by which a device joins an array: one that is new to it, and one that comes back, which may get all of its data
abbrev pub add_app : App
add_app = completed (with_run (with_json (with_device_option (new_app (codes "add")))))

abbrev pub re_add_app : App
re_add_app =
    completed
    (with_run
    (with_json (with_rule (with_device_option (new_app (codes "re-add"))) (flag_rule (codes "full")))))

-- A command by which a member gets the data that it lacks. It may lose bad sectors in place of their chunks, and its report may have no plan.
abbrev pub rebuild_app : App
rebuild_app =
    completed
    (with_map
    (with_run
    (with_json
    (with_rule
    (with_rule (with_member (new_app (codes "rebuild"))) (flag_rule (codes "salvage")))
    (flag_rule (codes "quiet"))))))

-- an option that is a sector of the array, as a number or as a size
abbrev pub with_sector : App → App
with_sector a = with_rule a (required (value_rule (codes "sector")))

-- options for sectors that nobody gives, and for where the others go, also after an interruption
abbrev pub with_fill : App → App
with_fill a =
    with_rule
    (with_rule (with_rule (with_rule a (flag_rule (codes "fill"))) (value_rule (codes "map-out")))
    (value_rule (codes "output")))
    (flag_rule (codes "resume"))

abbrev pub read_app : App
read_app =
    with_images
    (with_fill (with_rule (with_sector (new_app (codes "read"))) (value_rule (codes "count"))))

abbrev pub serve_app : App
serve_app = with_images (with_run (with_rule (new_app (codes "serve")) (flag_rule (codes "fill"))))

abbrev pub write_app : App
write_app =
    completed (with_run (with_rule (with_sector (new_app (codes "write"))) (value_rule (codes "count"))))

-- `create`: what it must be given, and what it may
abbrev pub with_required : App → App
with_required a =
    with_rule (with_rule a (required (value_rule (codes "level"))))
    (required (u32_rule (codes "raid-devices")))

abbrev pub with_optional : App → App
with_optional a =
    with_rule
    (with_rule
    (with_rule
    (with_rule
    (with_rule
    (with_rule
    (with_rule a (value_rule (codes "uuid")))
    (by_default (codes "md") (value_rule (codes "name"))))
    (by_default (codes "65536") (value_rule (codes "bitmap-chunk"))))
    (value_rule (codes "size")))
    (by_default (codes "0") (u64_rule (codes "time"))))
    (u32_rule (codes "write-mostly")))
    (flag_rule (codes "assume-clean"))

abbrev pub create_app : App
create_app =
    completed (with_run (with_json (with_optional (with_required (new_app (codes "create"))))))

-- `grow`: the bitmap that the members get
abbrev pub grow_app : App
grow_app =
    completed
    (with_run
    (with_rule (with_rule (new_app (codes "grow")) (required (value_rule (codes "bitmap"))))
    (by_default (codes "65536") (value_rule (codes "bitmap-chunk")))))

-- the program itself has a version, and asks for a command
abbrev pub with_version : App → App
with_version a = record a { top = record a.top { has_version = true } }

abbrev pub required_command : App → App
required_command a = record a { top = record a.top { subcommand_required = true } }

-- the commands on one image, and the one that tells of which arrays images are members, those that make an array or show it, those on its data, and those by which members change
abbrev pub with_examine_commands : App → App
with_examine_commands a =
    with_subcommand
    (with_subcommand
    (with_subcommand
    (with_subcommand a
    (with_aliases (codes "--examine" ∷ codes "-E" ∷ []) (examine_app (codes "examine"))).top)
    (examine_app (codes "examine-bitmap")).top)
    (examine_app (codes "examine-badblocks")).top)
    scan_app.top

abbrev pub with_array_commands : App → App
with_array_commands a =
    with_subcommand
    (with_subcommand
    (with_subcommand (with_subcommand (with_subcommand a create_app.top) grow_app.top)
    (array_app (codes "assemble")).top)
    (with_aliases (codes "--detail" ∷ codes "-D" ∷ []) (array_app (codes "detail"))).top)
    plan_app.top

abbrev pub with_data_commands : App → App
with_data_commands a =
    with_subcommand
    (with_subcommand
    (with_subcommand
    (with_subcommand (with_subcommand (with_subcommand a read_app.top) serve_app.top) write_app.top)
    check_app.top)
    resync_app.top)
    stop_app.top

abbrev pub with_member_commands : App → App
with_member_commands a =
    with_subcommand
    (with_subcommand (with_subcommand a (member_app (codes "fail")).top) (member_app (codes "remove")).top)
    add_app.top

-- the commands by which a member gets the data that it lacks
abbrev pub with_rebuild_commands : App → App
with_rebuild_commands a =
    with_subcommand (with_subcommand a re_add_app.top) rebuild_app.top

-- the whole command line
unfoldable pub mdcli : App
mdcli =
    with_rebuild_commands
    (with_member_commands
    (with_data_commands (with_array_commands
    (with_examine_commands (required_command (with_version (new_app (codes "mdcli"))))))))
