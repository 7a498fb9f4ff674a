use Rattle.std.proofs.Common.{◌≡◌, ◌∙◌, ℕ, List, length, ap, sym, subst}
use Rattle.md_bitmap.specs.declared.header.BitmapHeader.{BitmapHeader}
use Rattle.md_bitmap.specs.Header.{IsHeader, header_bytes}
use Rattle.md_metadata.proofs.GrowLemmas.ReadBack.{read_back}
use Rattle.md_metadata.proofs.bitmap_grow.laws.reads_back.Goals as goal

header_is : (c : goal.After-encode) → IsHeader (header_bytes c.args.header.now) c.args.header.now
header_is c = subst (λ (bytes : List ℕ). IsHeader bytes c.args.header.now) c.encode.ensures.bytes c.encode.ensures.header

long : (c : goal.After-encode) → length (header_bytes c.args.header.now) ≡ 256
long c = ap length (sym c.encode.ensures.bytes) ∙ c.encode.array_long

pub returns : goal.returns
returns c infos chunk_bytes g k was read old new same growth at was_read readable stored now_read =
    read_back infos chunk_bytes g growth k was at old new read
    (subst (λ (h : BitmapHeader). IsHeader (header_bytes h) h) (sym same) (header_is c))
    (subst (λ (h : BitmapHeader). length (header_bytes h) ≡ 256) (sym same) (long c))
    was_read readable stored now_read
