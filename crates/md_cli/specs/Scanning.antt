-- What is shown and told of the arrays of which images are members.
use Rattle.std.specs.Prelude.{◌≡◌, ◌⊎◌, ◌==◌, ℕ, Bool, true, false, not, ◌&&◌, if◌then◌else◌, List, [], ◌++◌, codes, length, Result, Ok, Err}
use Rattle.std.specs.List.{flat_map, list_any}
use Rattle.md_device.specs.declared.device.Device.{Ghosts}
use Rattle.md_images.specs.declared.images.Images.{Ghosts as ImagesGhosts}
use Rattle.md_refusals.specs.Output.{ShowsText}
use Rattle.md_refusals.specs.declared.fault.CommandFault.{CommandFault}
use Rattle.md_refusals.specs.declared.fault.CommandFault.TheVariants.{NoMemory}
use Rattle.md_streams.specs.declared.sink.Sink.{Ghosts as SinkGhosts}
use Rattle.md_streams.specs.ShownNames.Shown.{shown}
use Rattle.md_examine_commands.specs.EachImage.{LooksAtAll, LooksInPart, Name}
use Rattle.md_examine_commands.specs.Examining.{scan_shown}
use Rattle.md_examine_commands.specs.Unshown.{fault_word, is_told_why, may_be_member}
use Rattle.md_examine_commands.specs.declared.scan.each_image.Looked.{Looked}
use Rattle.md_examine_commands.specs.declared.scan.refused.Refused.{Refused}
use Rattle.md_messages.specs.FaultText.Commands.{refusal_line}
use Rattle.md_streams.specs.Putting.{PutsTold}
use Rattle.md_streams.specs.Messages.{has_advice}
use Rattle.md_cli.specs.declared.scanning.ScanOptions.{ScanOptions}

unfoldable pub unshown_line : Refused → List ℕ
unshown_line refused = shown refused.name.now ++ codes ": " ++ fault_word refused.fault ++ codes "\n"

abbrev pub unshown_text : Bool → Refused → List ℕ
unshown_text named refused = if is_told_why named refused then unshown_line refused else []

abbrev pub unshown_lines : Bool → List Refused → List ℕ
unshown_lines named all = flat_map (unshown_text named) all

-- the line of a report that is not put out
abbrev pub outcome_line : Result (Unit {0}) CommandFault → List ℕ
outcome_line (Ok done) = []
outcome_line (Err why) = refusal_line why

-- some image that a person named may be a member, and is not shown
abbrev pub lacks_member : Bool → List Refused → Bool
lacks_member named all = named && list_any (λ refused. may_be_member refused.fault) all

-- an array was found, and all that may be members are shown
abbrev pub is_complete : Bool → Looked → Bool
is_complete named found = not (length found.seen.items == 0) && not (lacks_member named found.refused.items)

abbrev pub scan_status : Bool → Result (Unit {0}) CommandFault → Looked → ℕ
scan_status named (Ok done) found = if is_complete named found then 0 else 1
scan_status named (Err why) found = 1

module _ {S E : Type 0} (s : SinkGhosts S) (e : SinkGhosts E) (how : ScanOptions) (found : Looked)
    (old new : S) (was now : E) (status : ℕ) where
  -- What images show is put out. Standard error is told of those that show no member, and where it is told more of a fault than
  -- its line, then what to do, of which nothing is said here.
  pub record ShowsLooked : Type 0 where
    pub answer : Result (Unit {0}) CommandFault
    pub shows : ShowsText s (scan_shown how.json how.is_named found.seen.items found.refused.items) old new
        answer
    pub mid : E
    pub told : E
    pub lines : PutsTold e was mid (unshown_lines how.is_named found.refused.items)
    pub outcome : PutsTold e mid told (outcome_line answer)
    pub plain : has_advice how.messages ≡ false → now ≡ told
    pub status_is : status ≡ scan_status how.is_named answer found

module _ {I D S E : Type 0} (i : ImagesGhosts I D) (g : Ghosts D) (s : SinkGhosts S) (e : SinkGhosts E)
    (how : ScanOptions) (names : List Name) (before after : I) (old new : S) (was now : E) (status : ℕ) where
  -- each image is looked at, and what they show is put out
  abbrev pub ScansAll : Type 0
  ScansAll =
      (found : Looked) × LooksAtAll i g names before after found
      × ShowsLooked s e how found old new was now status

  -- there is no memory for what they show
  pub record ScansNone : Type 0 where
    pub looked : LooksInPart i g names before after
    pub unwritten : new ≡ old
    pub told : PutsTold e was now (refusal_line NoMemory)
    pub status_is : status ≡ 1

  abbrev pub ScansImages : Type 0
  ScansImages = ScansAll ⊎ ScansNone
