-- Devices that are taken out of their images, worked on and put back.
use Rattle.md_device.specs.declared.device.Device.{Ghosts}
use Rattle.std.proofs.Common.{◌≡◌, ◌∙◌, ℕ, Bool, true, false, List, length, Option, Result, subst, inl, ap}
use Rattle.std.specs.Prelude.{if◌then◌else◌}
use Rattle.clap.specs.Words.{Text}
use Rattle.md_state.specs.View.{Disk}
use Rattle.md_array.specs.Open.Refusals.{RefusesOpen}
use Rattle.md_array.specs.declared.fault.OpenFault.{OpenFault}
use Rattle.md_array.specs.declared.fault.OpenFault.TheVariants as opening
use Rattle.md_refusals.specs.declared.fault.CommandFault.{CommandFault}
use Rattle.md_images.specs.declared.access.Access.{Access}
use Rattle.md_images.specs.declared.access.Access.TheVariants.{Look}
use Rattle.md_images.specs.declared.images.Images.{Ghosts as ImagesGhosts}
use Rattle.md_images.specs.Images.{asks}
use Rattle.md_images.specs.Taking.{AreOut, ArePut, TakesImages, Word, names_of}
use Rattle.md_words.specs.Asks.{Ask, access_of, full_access_of, is_readonly}
use Rattle.md_cli.specs.Arrays.{UsesImages, Work, disks, may}

module _ {D : Type 0} where
  together : (before mid after : Text → Option D) (names : List Text) (n : ℕ) (taken given : List D) → AreOut before mid names n taken → ArePut mid after names n given → ArePut before after names n given
  together before mid after names n taken given out put = record { back = put.back; others = λ other h. put.others other h ∙ out.others other h }

  pub used : {I S : Type 0} (i : ImagesGhosts I D) (g : Ghosts D) (Does : Work S) (access : Access) (words : List Word) (before mid after : I) (taken given : List D) (old new : S) (result : Result (Unit {0}) CommandFault)
      → TakesImages (i.known before) (may i access before) (i.device_at before) (i.device_at mid) words taken → i.known mid ≡ i.known before → length given ≡ length taken
      → (i.known mid ≡ true → ArePut (i.device_at mid) (i.device_at after) (names_of words) (length given) given) → Does (disks g taken) (disks g given) old new result
      → UsesImages i g Does access words before after old new result
  used i g Does access words before mid after taken given old new result takes kept many put done = inl (record {
    taken = taken;
    given = given;
    distinct = takes.distinct;
    were = λ is. (takes.taken is).were;
    there = takes.there;
    put = λ is.
        together (i.device_at before) (i.device_at mid) (i.device_at after) (names_of words) (length words) taken given (takes.taken is) (subst (λ n. ArePut (i.device_at mid) (i.device_at after) (names_of words) n given) (many ∙ takes.many) (put (kept ∙ is)));
    done = done;
  })

-- a command that is to change no image opens none so that it might be changed
pub only_looks : (ask : Ask) → is_readonly ask ≡ true → asks (access_of ask) ≡ false
only_looks ask e = ap (λ (b : Bool). asks (if b then Look else full_access_of ask)) e

-- no device is lost or won by an opening that is refused
pub refused_as_many : (before after : List Disk) (fault : OpenFault) → RefusesOpen before after fault → length after ≡ length before
refused_as_many before after (opening.Member k f) h = h.0.same.as_many
refused_as_many before after (opening.Assemble f) h = h.0.same.as_many
refused_as_many before after (opening.MetadataFault k) h = h.stopped.same.as_many
refused_as_many before after opening.NoMemory h = h.same.as_many
