-- The command line as a value, and its image words.
use Rattle.std.proofs.Common.{◌≡◌, ◌||◌, ◌++◌, ◌∷◌, Bool, true, false, map, ap₂, List, [], Option, inl, inr, subst, Some, None, codes, refl, sym, ap, ◌∙◌, option_map, unwrap_or, IsSomeAnd}
use Rattle.std.proofs.lemmas.List.{map-append}
use Rattle.std.proofs.lemmas.Simd.{map-map}
use Rattle.std.specs.Box.{box_value}
use Rattle.clap.proofs.OnLiterals.{clap_on_literals}
use Rattle.clap.proofs.WalkLemmas.{raw_values-rows}
use Rattle.clap.specs.Simple.{app_of_fields}
use Rattle.clap.specs.Walk.{texts}
use Rattle.clap.specs.declared.builder.command.Command.{Command}
use Rattle.clap.specs.declared.builder.command.Command.TheOpen.{Command-F}
use Rattle.clap.specs.declared.parser.matches.Found.{Found}
use Rattle.clap.specs.declared.parser.matches.ArgMatches.{ArgMatches}
use Rattle.clap.specs.declared.parser.matches.ArgMatches.TheViews.{out-ArgMatches, out-SubCommand}
use Rattle.clap.specs.Kinds.{or_else}
use Rattle.clap.specs.declared.error.Error.{Error}
use Rattle.clap.specs.Words.{App, HasKind, Kinds, Row, Text, matched_of, raw_values, rule_of, rows_of, found_of, is_simple, is_simple_and_free, subcommand_name_of, subcommand_rows_of}
use Rattle.clap.specs.declared.builder.arg.Arg.{Arg}
use Rattle.clap.specs.declared.builder.range.ValueRange.{ValueRange}
use Rattle.std.specs.Borrow.{Bor}
use Rattle.clap.specs.declared.builder.texts.Texts.TheVariants.{One}
use Rattle.md_words.specs.Words.{mdcli, with_aliases}
use Rattle.md_words.specs.Parsing.{ask_found, ask_named, bitmap_found, bitmap_in, data_of_found, data_of_in, images_found, map_out_found, map_out_in, maps_found, output_found, output_in, verbose_found, has_flag}

pub some_is : {X : Type 0} (o : Option X) (x : X) → IsSomeAnd o (λ r. r ≡ x) → o ≡ Some x
some_is None x h = absurd h
some_is (Some y) x h = ap (λ z. Some z) h

pub with_range : (a : Arg) (range : Option ValueRange) → rule_of (record a { num_vals = range }) ≡ record (rule_of a) { range = range }
with_range a range = refl

pub with_value_name : (a named : Arg) (name : Bor Text) → named ≡ record a { val_names = One name } → rule_of named ≡ record (rule_of a) { value_names = 1 }
with_value_name a named name e = ap rule_of e

-- the name that a subcommand goes by
abbrev pub name_in : Option (Text × List Row) → Option Text
name_in = option_map (λ p. p.0)

abbrev pub rows_in : Option (Text × List Row) → Option (List Row)
rows_in = option_map (λ p. p.1)

-- a pair by its parts
pub pair_is : {A B : Type 0} (o : Option (A × B)) (a : A) (b : B) → option_map (λ p. p.0) o ≡ Some a → option_map (λ p. p.1) o ≡ Some b → o ≡ Some (a, b)
pair_is None a b first second = absurd cc
pair_is (Some p) a b first second =
    let left : p.0 ≡ a = cc in
    let right : p.1 ≡ b = cc in
    ap (λ x. Some (x, p.1)) left ∙ ap (λ y. Some (a, y)) right

no_pair : {A B : Type 0} (o : Option (A × B)) → option_map (λ p. p.0) o ≡ None → o ≡ None
no_pair None e = refl
no_pair (Some p) e = absurd cc

names_of : {X : Type 0} (f : X → Text) (g : X → List Row) (o : Option X) → option_map f o ≡ name_in (option_map (λ x. (f x, g x)) o)
names_of f g None = refl
names_of f g (Some x) = refl

pub name_is : (m : ArgMatches) → subcommand_name_of m ≡ name_in (subcommand_rows_of m)
name_is m = names_of (λ b. (out-SubCommand (box_value b)).name.now) (λ b. rows_of (found_of (out-SubCommand (box_value b)).matches)) (out-ArgMatches m).subcommand

pub is_simple_command : is_simple mdcli ≡ true
unfolding mdcli clap_on_literals
is_simple_command = refl

pub is_free_command : is_simple_and_free mdcli ≡ true
unfolding mdcli clap_on_literals
is_free_command = refl

-- the subcommand of the matches, by what `subcommand` gives
pub subcommand_is : (m : ArgMatches) (name : Text) (rows : List Row) → subcommand_name_of m ≡ Some name → rows_in (subcommand_rows_of m) ≡ Some rows → subcommand_rows_of m ≡ Some (name, rows)
subcommand_is m name rows named read = pair_is (subcommand_rows_of m) name rows (sym (name_is m) ∙ named) read

-- there is none
pub no_subcommand : (m : ArgMatches) → subcommand_name_of m ≡ None → subcommand_rows_of m ≡ None
no_subcommand m none = no_pair (subcommand_rows_of m) (sym (name_is m) ∙ none)

-- the images of a subcommand's matches
pub images_read : (m : ArgMatches) (name : Text) (f : Found) → subcommand_rows_of m ≡ Some (name, rows_of f) → unwrap_or (option_map raw_values (matched_of f (codes "image"))) [] ≡ images_found (subcommand_rows_of m)
images_read m name f is =
    ap (λ (o : Option (List Text)). unwrap_or o []) (raw_values-rows f (codes "image")) ∙ sym (ap images_found is)

-- the maps that they name
pub maps_read : (m : ArgMatches) (name : Text) (f : Found) → subcommand_rows_of m ≡ Some (name, rows_of f) → unwrap_or (option_map raw_values (matched_of f (codes "map"))) [] ≡ maps_found (subcommand_rows_of m)
maps_read m name f is =
    ap (λ (o : Option (List Text)). unwrap_or o []) (raw_values-rows f (codes "map")) ∙ sym (ap maps_found is)

-- the file that is to be made
pub map_out_read : (m : ArgMatches) (name : Text) (f : Found) → subcommand_rows_of m ≡ Some (name, rows_of f) → map_out_in (rows_of f) ≡ map_out_found (subcommand_rows_of m)
map_out_read m name f is = sym (ap map_out_found is)

-- the file that gets what is put out
pub output_read : (m : ArgMatches) (name : Text) (f : Found) → subcommand_rows_of m ≡ Some (name, rows_of f) → output_in (rows_of f) ≡ output_found (subcommand_rows_of m)
output_read m name f is = sym (ap output_found is)

-- the kind of the bitmap that is named
pub bitmap_read : (m : ArgMatches) (name : Text) (f : Found) → subcommand_rows_of m ≡ Some (name, rows_of f) → bitmap_in (rows_of f) ≡ bitmap_found (subcommand_rows_of m)
bitmap_read m name f is = sym (ap bitmap_found is)

-- the image that counts as a device of the array
pub data_of_read : (m : ArgMatches) (name : Text) (f : Found) → subcommand_rows_of m ≡ Some (name, rows_of f) → data_of_in (rows_of f) ≡ data_of_found (subcommand_rows_of m)
data_of_read m name f is = sym (ap data_of_found is)

-- what a subcommand's name and matches ask for
pub asks_read : (m : ArgMatches) (name : Text) (f : Found) → subcommand_rows_of m ≡ Some (name, rows_of f) → ask_named name (rows_of f) ≡ ask_found (subcommand_rows_of m)
asks_read m name f is = sym (ap ask_found is)

-- whether a subcommand's matches ask that more is said
pub verbose_read : (m : ArgMatches) (name : Text) (f : Found) → subcommand_rows_of m ≡ Some (name, rows_of f) → has_flag (codes "verbose") (rows_of f) ≡ verbose_found (subcommand_rows_of m)
verbose_read m name f is = sym (ap verbose_found is)

-- a command gets no global argument with one that is local
pub no_globals : (old arg new : Bool) → new ≡ (old || arg) → old ≡ false → arg ≡ false → new ≡ false
no_globals old arg new e first second = e ∙ ap₂ (λ a b. a || b) first second

-- what a parse reads of a command under more names
pub aliased : (old new : Command-F Command) (names : List (Bor Text)) → new ≡ record old { aliases = new.aliases }
    → new.aliases.items ≡ old.aliases.items ++ map (λ n. (n, false)) names → app_of_fields new ≡ with_aliases (texts names) (app_of_fields old)
aliased old new names rest more =
    let text_of : Bor Text × Bool → Text = λ alias. alias.0.now in
    let flagged : Bor Text → Bor Text × Bool = λ n. (n, false) in
    let under : List Text → App = λ aliases. record (app_of_fields old) { top = record (app_of_fields old).top { aliases = aliases } } in
    ap app_of_fields rest
    ∙ ap under (ap (map text_of) more ∙ map-append text_of old.aliases.items (map flagged names)
    ∙ ap (λ (t : List Text). map text_of old.aliases.items ++ t) (map-map text_of flagged names))

-- what fails first decides, and what is looked at next only where nothing did
pub first_fails : (first next : Kinds) (e : Error) → HasKind first e → HasKind (or_else first next) e
first_fails [] next e h = elim h [
  | inl memory ↦ inl memory
  | inr none ↦ absurd none
]
first_fails (k ∷ ks) next e h = h

pub next_fails : (first next : Kinds) (e : Error) → first ≡ [] → HasKind next e → HasKind (or_else first next) e
next_fails first next e empty h = subst (λ (f : Kinds). HasKind (or_else f next) e) (sym empty) h

pub none_fails : (first next : Kinds) → first ≡ [] → next ≡ [] → or_else first next ≡ []
none_fails first next empty rest = ap (λ (f : Kinds). or_else f next) empty ∙ rest
