-- What a scan's status says.
use Rattle.std.proofs.Common.{◌≡◌, ◌∙◌, ℕ, Bool, true, false, if◌then◌else◌, List, Result, Ok, Err, inl, inr, sym}
use Rattle.md_device.specs.declared.device.Device.{Ghosts as DeviceGhosts}
use Rattle.md_images.specs.declared.images.Images.{Ghosts as ImagesGhosts}
use Rattle.md_streams.specs.declared.sink.Sink.{Ghosts}
use Rattle.md_refusals.specs.Output.{ShowsText}
use Rattle.md_cli.specs.Scanning.{ScansImages, is_complete, scan_status}
use Rattle.md_cli.specs.declared.scanning.ScanOptions.{ScanOptions}
use Rattle.md_refusals.specs.declared.fault.CommandFault.{CommandFault}
use Rattle.md_examine_commands.specs.EachImage.{Name}
use Rattle.md_examine_commands.specs.declared.scan.each_image.Looked.{Looked}

-- A scan that found an array has put its report out.
pub flushed_if_found : {S : Type 0} (s : Ghosts S) (text : List ℕ) (old new : S) (named : Bool) (answer : Result (Unit {0}) CommandFault) (found : Looked) → ShowsText s text old new answer → scan_status named answer found ≡ 0 → s.is_flushed new
flushed_if_found s text old new named (Ok v) found h e = h.flushed
flushed_if_found s text old new named (Err f) found h e = absurd cc

one_of_two : (complete : Bool) → ◌≡◌ {A = ℕ} (if complete then 0 else 1) 3 → ⊥
one_of_two true e = cc
one_of_two false e = cc

below_three : (named : Bool) (answer : Result (Unit {0}) CommandFault) (found : Looked) → scan_status named answer found ≡ 3 → ⊥
below_three named (Ok v) found e = one_of_two (is_complete named found) e
below_three named (Err f) found e = cc

one_or_three : (status : ℕ) → status ≡ 1 → status ≡ 3 → ⊥
one_or_three status one three = cc

-- its status does not say that members differ
pub never_three : {I D S E : Type 0} (i : ImagesGhosts I D) (g : DeviceGhosts D) (s : Ghosts S) (e : Ghosts E) (how : ScanOptions) (names : List Name) (before after : I) (old new : S) (was now : E) (status : ℕ) → ScansImages i g s e how names before after old new was now status → status ≡ 3 → ⊥
never_three i g s e how names before after old new was now status (inl h) is = below_three how.is_named h.2.answer h.0 (sym h.2.status_is ∙ is)
never_three i g s e how names before after old new was now status (inr h) is = one_or_three status h.status_is is
