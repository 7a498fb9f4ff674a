-- What clap is told of a command and its options.
use Rattle.std.specs.Prelude.{◌∷◌, [], Option, Some, None}
use Rattle.std.specs.List.{fold}
use Rattle.std.specs.Borrow.{Bor}
use Rattle.clap.specs.Words.{App, Rule, Text, new_app, with_rule, with_subcommand}
use Rattle.clap.specs.Walk.{texts}
use Rattle.md_words.specs.Words.{completed, flag_rule, u32_rule, texts_rule, u64_rule, value_rule, with_aliases}
use Rattle.md_words.specs.declared.commands.CommandWords.{CommandWords}
use Rattle.md_words.specs.declared.commands.Kind.{Kind}
use Rattle.md_words.specs.declared.commands.Kind.TheVariants as kind
use Rattle.md_words.specs.declared.commands.OptionWords.{OptionWords}

-- an option of this kind and name
abbrev pub rule_of_kind : Kind → Text → Rule
rule_of_kind kind.Text = value_rule
rule_of_kind kind.U32 = u32_rule
rule_of_kind kind.U64 = u64_rule
rule_of_kind kind.Texts = texts_rule
rule_of_kind kind.Flag = flag_rule

abbrev pub with_default : Option (Bor Text) → Rule → Rule
with_default None r = r
with_default (Some text) r = record r { defaults = text.now ∷ [] }

abbrev pub rule_in : OptionWords → Rule
rule_in o = with_default o.default (record (rule_of_kind o.kind o.name.now) { required = o.required })

abbrev pub with_option : App → OptionWords → App
with_option a o = with_rule a (rule_in o)

-- a command: its names, its options, and then what every command has
abbrev pub app_in : CommandWords → App
app_in w =
    completed
    (fold with_option (with_aliases (texts w.aliases.now) (new_app w.name.now)) w.options.now)

abbrev pub with_command : App → CommandWords → App
with_command a w = with_subcommand a (app_in w).top
