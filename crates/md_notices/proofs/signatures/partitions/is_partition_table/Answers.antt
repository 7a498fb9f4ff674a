use Rattle.std.proofs.Common.{sym, ◌∙◌}
use Rattle.md_notices.specs.Signatures.Partitions.{are_sound, has_mark, is_boot_sector, is_one_used, is_partition_table}
use Rattle.md_notices.proofs.SignatureLemmas.Tables.{as_used, begins, no_mark, unsound}
use Rattle.md_notices.proofs.signatures.partitions.is_partition_table.Goals as goal

pub returns-then-not-has_mark : goal.returns-then-not-has_mark
unfolding is_partition_table
returns-then-not-has_mark c =
    let b = c.args.bytes.now in
    no_mark (has_mark b) (is_boot_sector b) (are_sound b) (is_one_used b) (sym c.has_mark.ensures ∙ c.if-not-has_mark.true)

pub returns-then-is_boot_sector : goal.returns-then-is_boot_sector
unfolding is_partition_table
returns-then-is_boot_sector c =
    let b = c.args.bytes.now in
    begins (has_mark b) (is_boot_sector b) (are_sound b) (is_one_used b) (sym c.is_boot_sector.ensures ∙ c.if-is_boot_sector.true)

pub returns-then-not-are_sound : goal.returns-then-not-are_sound
unfolding is_partition_table
returns-then-not-are_sound c =
    let b = c.args.bytes.now in
    unsound (has_mark b) (is_boot_sector b) (are_sound b) (is_one_used b) (sym c.are_sound.ensures ∙ c.if-not-are_sound.true)

pub returns : goal.returns
unfolding is_partition_table
returns c =
    let b = c.args.bytes.now in
    c.is_one_used.ensures ∙ as_used (has_mark b) (is_boot_sector b) (are_sound b) (is_one_used b) (sym c.has_mark.ensures ∙ c.if-not-has_mark.false) (sym c.is_boot_sector.ensures ∙ c.if-is_boot_sector.false) (sym c.are_sound.ensures ∙ c.if-not-are_sound.false)
