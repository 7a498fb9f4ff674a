-- Signatures that are told by magic numbers at fixed places.
use Rattle.std.proofs.Common.{◌≡◌, ◌≢◌, ℕ, List, map, refl, ◌∙◌, ap}
use Rattle.std.specs.List.{list_any}
use Rattle.md_notices.specs.declared.signatures.magic.Magic.{Magic}
use Rattle.md_notices.specs.declared.signatures.signature.Signature.{Signature}
use Rattle.md_notices.specs.declared.signatures.signature.Signature.TheVariants.{Md090, Md10, Md11, Md12, Luks, Lvm2, Bcache, Gpt, Mbr, Swap, Ext, Xfs, Btrfs, F2fs, Jfs, Reiserfs, Ntfs, Exfat, Fat, Squashfs, Iso9660}
use Rattle.md_notices.specs.Signatures.Bearing.{bears_signature, has_magic}
use Rattle.md_notices.specs.Signatures.Magics.{has_sign, sign_of}
use Rattle.md_notices.specs.Signatures.Table.{magics}
use Rattle.md_notices.proofs.SignatureLemmas.Lists.{list_any_map}

by_magics : (content : List ℕ) (s : Signature) → s ≢ Md090 → s ≢ Md10 → s ≢ Mbr → has_magic content s ≡ bears_signature content s
unfolding bears_signature
by_magics content Md090 a b c = absurd (a refl)
by_magics content Md10 a b c = absurd (b refl)
by_magics content Mbr a b c = absurd (c refl)
by_magics content Md11 a b c = refl
by_magics content Md12 a b c = refl
by_magics content Luks a b c = refl
by_magics content Lvm2 a b c = refl
by_magics content Bcache a b c = refl
by_magics content Gpt a b c = refl
by_magics content Swap a b c = refl
by_magics content Ext a b c = refl
by_magics content Xfs a b c = refl
by_magics content Btrfs a b c = refl
by_magics content F2fs a b c = refl
by_magics content Jfs a b c = refl
by_magics content Reiserfs a b c = refl
by_magics content Ntfs a b c = refl
by_magics content Exfat a b c = refl
by_magics content Fat a b c = refl
by_magics content Squashfs a b c = refl
by_magics content Iso9660 a b c = refl

-- what the magic numbers of the table say
pub told_by_magics : (content : List ℕ) (s : Signature) → s ≢ Md090 → s ≢ Md10 → s ≢ Mbr → (ms : List Magic) → map sign_of ms ≡ magics s → list_any (λ m. has_sign content (sign_of m)) ms ≡ bears_signature content s
told_by_magics content s a b c ms e =
    list_any_map (has_sign content) sign_of ms ∙ ap (list_any (has_sign content)) e ∙ by_magics content s a b c
