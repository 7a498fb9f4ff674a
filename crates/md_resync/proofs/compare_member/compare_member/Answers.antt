use Rattle.std.proofs.Common.{◌≡◌, true, false, arith}
use Rattle.md_laws.proofs.Runs.Rests.{rests_then}
use Rattle.md_resync.proofs.Compared.{back_unlike, front_unlike, pieces_hold, size_fits}
use Rattle.md_resync.proofs.CopiedRuns.{read_holds}
use Rattle.md_resync.proofs.compare_member.compare_member.Goals as goal

pub holds-requires-clause-some : goal.holds-requires-clause-some
holds-requires-clause-some g c =
    let some = c.requires.some in
    let front = c.split_at.ensures.front_len in
    let least = c.min.ensures in
    omega arith

pub overflow_add-sector : goal.overflow_add-sector
overflow_add-sector g c =
    let fits = size_fits c.args.mirror.now c.requires.sound c.args.k c.requires.within in
    let inside = c.requires.inside in
    let front = c.split_at.ensures.front_len in
    let back = c.split_at.ensures.back_len in
    omega arith

pub returns-clause-rests : goal.returns-clause-rests
returns-clause-rests g c = rests_then c.args.mirror.now c.holds.new.mirror c.holds-2.new.mirror c.holds.ensures.rests c.holds-2.ensures.rests

pub returns-clause-holds : goal.returns-clause-holds
returns-clause-holds g c = λ yes.
    let mid = c.holds.new.mirror in
    let new = c.holds-2.new.mirror in
    let n = c.min.result in
    let least = c.min.ensures in
    let whole = c.requires.whole in
    let long = c.split_at.ensures.back_len in
    let no = c.if-not-holds.false in
    let same : c.holds.result ≡ true = cc in
    pieces_hold new c.args.k c.args.sector c.args.bytes.now n c.split_at.result.0.now c.split_at.result.1.now (omega arith) (omega arith) c.split_at.ensures.front c.split_at.ensures.back c.split_at.ensures.front_len
    (read_holds mid new c.holds-2.ensures.rests c.args.k c.args.sector c.split_at.result.0.now (c.holds.ensures.holds same)) (c.holds-2.ensures.holds yes)

pub returns-then-not-holds-clause-unlike : goal.returns-then-not-holds-clause-unlike
returns-then-not-holds-clause-unlike g c = λ no.
    let n = c.min.result in
    let least = c.min.ensures in
    let whole = c.requires.whole in
    let out = c.if-not-holds.true in
    let unlike : c.holds.result ≡ false = cc in
    let old = c.args.mirror.now in
    let mid = c.holds.new.mirror in
    front_unlike c.args.k c.args.sector c.args.bytes.now n (omega arith) (omega arith) old mid mid c.split_at.result.0.now c.split_at.ensures.front c.split_at.ensures.front_len (c.holds.ensures.unlike unlike)

pub returns-clause-unlike : goal.returns-clause-unlike
returns-clause-unlike g c = λ no.
    let n = c.min.result in
    let least = c.min.ensures in
    let whole = c.requires.whole in
    let long = c.split_at.ensures.front_len in
    let old = c.args.mirror.now in
    let mid = c.holds.new.mirror in
    let new = c.holds-2.new.mirror in
    back_unlike c.args.k c.args.sector c.args.bytes.now n (omega arith) (omega arith) old mid new c.split_at.result.1.now c.split_at.ensures.back (let back = c.split_at.ensures.back_len in omega arith) c.holds.ensures.rests
    (rw long at c.holds-2.ensures.unlike no)
