use Rattle.std.proofs.Common.{◌≡◌, ◌/◌, ◌<◌, length, true, false, arith}
use Rattle.md_array.proofs.General.Resting.{rests_sound}
use Rattle.md_read.specs.Reading.{all_listed, gives_none}
use Rattle.md_read.proofs.RunsRead.{both_list, first_group, none_given, one_failed, second_group, some_perhaps}
use Rattle.md_read.proofs.runs.read_run.Goals as goal

pub returns-then-not-is_none : goal.returns-then-not-is_none
returns-then-not-is_none g c =
    let first = c.read_group-first in
    let some : gives_none first.result ≡ false = let told = c.is_none.ensures in let out = c.if-not-is_none.true in cc in
    first_group c.args.sector c.args.buf.now c.requires.whole first.new.buf c.args.mirror.now first.new.mirror first.result first.auto.buf some first.ensures

pub read_group-second-requires-clause-sound : goal.read_group-second-requires-clause-sound
read_group-second-requires-clause-sound g c =
    let old = c.args.mirror.now in
    let first = c.read_group-first in
    let none : gives_none first.result ≡ true = let told = c.is_none.ensures in let out = c.if-not-is_none.false in cc in
    let tried = none_given c.args.sector c.args.buf.now c.requires.whole false first.new.buf old first.new.mirror first.result none first.ensures in
    rests_sound old first.new.mirror tried.0 c.requires.sound

pub returns-then-not-is_none-2 : goal.returns-then-not-is_none-2
returns-then-not-is_none-2 g c =
    let first = c.read_group-first in
    let second = c.read_group-second in
    let none : gives_none first.result ≡ true = let told = c.is_none.ensures in let out = c.if-not-is_none.false in cc in
    let some : gives_none second.result ≡ false = let told = c.is_none-2.ensures in let out = c.if-not-is_none-2.true in cc in
    second_group c.args.sector c.args.buf.now c.requires.whole first.new.buf first.auto.buf c.args.mirror.now first.new.mirror second.new.mirror first.result none first.ensures
    second.new.buf second.result second.auto.buf some second.ensures

pub returns-then-are_listed-2 : goal.returns-then-are_listed-2
returns-then-are_listed-2 g c =
    let first = c.read_group-first in
    let second = c.read_group-second in
    let none : gives_none first.result ≡ true = let told = c.is_none.ensures in let out = c.if-not-is_none.false in cc in
    let also : gives_none second.result ≡ true = let told = c.is_none-2.ensures in let out = c.if-not-is_none-2.false in cc in
    let listed : all_listed first.result ≡ true = let told = c.are_listed.ensures in let out = c.if-are_listed.true in cc in
    let listed_also : all_listed second.result ≡ true = let told = c.are_listed-then-are_listed.ensures in let out = c.if-are_listed-2.true in cc in
    both_list c.args.sector c.args.buf.now c.requires.whole first.new.buf first.auto.buf c.args.mirror.now first.new.mirror second.new.mirror first.result none first.ensures
    second.new.buf second.result also second.ensures listed listed_also

pub returns-then-buf-eq512 : goal.returns-then-buf-eq512
returns-then-buf-eq512 g c =
    let first = c.read_group-first in
    let second = c.read_group-second in
    let none : gives_none first.result ≡ true = let told = c.is_none.ensures in let out = c.if-not-is_none.false in cc in
    let also : gives_none second.result ≡ true = let told = c.is_none-2.ensures in let out = c.if-not-is_none-2.false in cc in
    let long = first.auto.buf in
    let as_long = second.auto.buf in
    let one : length c.args.buf.now ≡ 512 = let is = c.if-buf-eq512.true in omega arith in
    one_failed c.args.sector c.args.buf.now c.requires.whole first.new.buf first.auto.buf c.args.mirror.now first.new.mirror second.new.mirror first.result none first.ensures
    second.new.buf second.result also second.ensures one

pub returns : goal.returns
returns g c =
    let first = c.read_group-first in
    let second = c.read_group-second in
    let none : gives_none first.result ≡ true = let told = c.is_none.ensures in let out = c.if-not-is_none.false in cc in
    let also : gives_none second.result ≡ true = let told = c.is_none-2.ensures in let out = c.if-not-is_none-2.false in cc in
    let long = first.auto.buf in
    let as_long = second.auto.buf in
    let several : 1 < length c.args.buf.now / 512 =
    let more = c.if-buf-eq512.false in
    let some = c.requires.some in
    let whole = c.requires.whole in
    omega arith in
    some_perhaps c.args.sector c.args.buf.now c.requires.whole first.new.buf first.auto.buf c.args.mirror.now first.new.mirror second.new.mirror first.result none first.ensures
    second.new.buf second.result also second.ensures several
