use Rattle.std.proofs.Common.{◌≡◌, ◌+◌, ◌++◌, List, ℕ, ap, ◌∙◌, length, take, replicate, sym, arith}
use Rattle.std.proofs.lemmas.List.{length-append, length-take}
use Rattle.md_bitmap.specs.Header.{IsHeader, header_bytes, format_bytes, count_bytes, setting_bytes}
use Rattle.md_bitmap.proofs.Encoded.{length-format_bytes, reads_back, take_whole}
use Rattle.md_bitmap.proofs.Accepted.{none_stands_in}
use Rattle.md_bitmap.proofs.header.BitmapHeader.encode.Goals as goal

whole : (c : goal.After-put_bytes-2) → c.put_bytes-2.new.out ≡ header_bytes c.args.self.now
unfolding header_bytes
whole c =
    let name : length c.args.self.now.cluster_name ≡ 64 = omega arith in
    let end : 72 + length c.args.self.now.cluster_name ≡ 136 = omega arith in
    let to_name : take 136 c.put_bytes.new.out ≡ take 72 c.put_settings.new.out ++ c.args.self.now.cluster_name = rw end at c.put_bytes.ensures.front in
    let long : length c.put_bytes-2.new.out ≡ 256 = omega arith in
    sym (take_whole 256 c.put_bytes-2.new.out long)
    ∙ c.put_bytes-2.ensures.front
    ∙ ap (λ (xs : List ℕ). xs ++ replicate 120 0) (to_name
    ∙ ap (λ (xs : List ℕ). xs ++ c.args.self.now.cluster_name) (c.put_settings.ensures.front
    ∙ ap (λ (xs : List ℕ). xs ++ setting_bytes c.args.self.now) (c.put_counts.ensures.front
    ∙ ap (λ (xs : List ℕ). xs ++ count_bytes c.args.self.now) c.put_front.ensures)))

spelled : (c : goal.After-put_bytes-2) → IsHeader c.put_bytes-2.new.out c.args.self.now
spelled c =
    let name : length c.args.self.now.cluster_name ≡ 64 = omega arith in
    let uuid : length c.args.self.now.uuid ≡ 16 =
    omega (arith, ap length c.put_front.ensures, length-take 24 c.put_front.new.out, length-append format_bytes c.args.self.now.uuid, length-format_bytes) in
    rw (whole c) (reads_back c.args.self.now uuid name c.put_counts.ensures.fit c.put_settings.ensures.fit)

pub returns-clause-bytes : goal.returns-clause-bytes
returns-clause-bytes c = whole c

pub returns-clause-header : goal.returns-clause-header
returns-clause-header c = spelled c

pub returns-clause-sound : goal.returns-clause-sound
returns-clause-sound c =
    let h = spelled c in
    none_stands_in c.put_bytes-2.new.out h.magic h.version (rw (← h.sync_size, ← h.chunksize) c.args.self.now.sound)
