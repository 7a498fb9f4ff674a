-- What is found on a device.
use Rattle.std.specs.Prelude.{◌≡◌, ◌≤◌, ◌+◌, true, List, [], ◌∷◌, length}
use Rattle.std.specs.List.{All, filter}
use Rattle.md_device.specs.declared.device.Device.{Ghosts}
use Rattle.md_notices.specs.declared.signatures.signature.Signature.{Signature}
use Rattle.md_notices.specs.declared.signatures.signature.Signature.TheVariants.{Md090, Md10, Md11, Md12, Luks, Lvm2, Bcache, Gpt, Mbr, Swap, Ext, Xfs, Btrfs, F2fs, Jfs, Reiserfs, Ntfs, Exfat, Fat, Squashfs, Iso9660}
use Rattle.md_notices.specs.Signatures.Bearing.{bears_signature}

-- all of them, in the order in which they are told
abbrev pub signatures : List Signature
signatures =
    Md090 ∷ Md10 ∷ Md11 ∷ Md12 ∷ Luks ∷ Lvm2 ∷ Bcache ∷ Gpt ∷ Mbr ∷ Swap ∷ Ext ∷ Xfs ∷ Btrfs ∷ F2fs ∷ Jfs
    ∷ Reiserfs ∷ Ntfs ∷ Exfat
    ∷ Fat ∷ Squashfs ∷ Iso9660 ∷ []

-- an honest device bears all that was found; where no call failed, these are all that it bears, in their
-- order; and each one that is missed costs a failed call of its own
pub record FindsSignatures {D : Type 0} (g : Ghosts D) (old new : D) (found : List Signature) : Type 0 where
  pub sound : g.honest old ≡ true → All (λ s. bears_signature (g.content old) s ≡ true) found
  pub whole : g.honest old ≡ true → g.failures new ≡ g.failures old
      → found ≡ filter (bears_signature (g.content old)) signatures
  pub missed : g.honest old ≡ true
      → length (filter (bears_signature (g.content old)) signatures) + g.failures old
      ≤ length found + g.failures new
