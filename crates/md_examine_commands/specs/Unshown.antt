-- Images that show no member: whether each is told of, by which words, and as an object.
use Rattle.std.specs.Prelude.{ℕ, ◌||◌, Bool, true, false, List, [], ◌∷◌, codes}
use Rattle.std.specs.List.{filter}
use Rattle.serde_json.specs.Data.{Data, string}
use Rattle.md_super.specs.declared.fault.SuperFault.TheVariants.{Magic}
use Rattle.md_members.specs.declared.fault.MemberFault.TheVariants.{Super, TooShort}
use Rattle.md_images.specs.declared.image_fault.ImageFault.TheVariants.{Missing}
use Rattle.md_examine.specs.Members.{member_refusal_text}
use Rattle.md_report.specs.AsJson.Objects.{Field, field, list_of, object_of}
use Rattle.md_examine_commands.specs.declared.scan.refused.Refused.{Refused}
use Rattle.md_examine_commands.specs.declared.scan.refused.ScanFault.{ScanFault}
use Rattle.md_examine_commands.specs.declared.scan.refused.ScanFault.TheVariants.{Image, Member}

-- The image may be a member all the same: it is not read, or it has a superblock that is refused.
abbrev pub may_be_member : ScanFault → Bool
may_be_member (Member TooShort) = false
may_be_member (Member (Super Magic)) = false
may_be_member _ = true

-- Why an image shows no member is told though nobody named it: not where it is none, or has no node.
abbrev pub is_news : ScanFault → Bool
is_news (Image Missing) = false
is_news why = may_be_member why

-- told why the image shows no member: a person named it, or that is news
abbrev pub is_told_why : Bool → Refused → Bool
is_told_why named refused = named || is_news refused.fault

-- why an image shows no member, in a word
abbrev pub fault_word : ScanFault → List ℕ
fault_word (Image why) = codes "BadImage"
fault_word (Member why) = member_refusal_text why

-- the fields after the image
unfoldable pub unshown_fields : Refused → List Field
unshown_fields refused = field (codes "fault") (string (fault_word refused.fault)) ∷ []

abbrev pub unshown_object : Refused → Data
unshown_object refused = object_of (field (codes "image") (string refused.name.now) ∷ unshown_fields refused)

abbrev pub refused_value : Bool → List Refused → Data
refused_value named all = list_of unshown_object (filter (is_told_why named) all)
