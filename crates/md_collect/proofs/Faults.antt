-- Which calls a read of a chunk adds to those that failed.
use Rattle.std.proofs.Common.{◌≡◌, ℕ, ◌<◌, List, [], ◌++◌, ◌∷◌, refl, arith}
use Rattle.md_device.specs.declared.fault_list.Fault.{Fault}
use Rattle.md_device.specs.Failing.{EachNewFault, SomeNewFault, IsReadWithin, failed_read}
use Rattle.md_device.proofs.Failing.{fails_none, fails_now, fails_just}

-- a read of all of the range
read_of_all : (sector n at m : ℕ) → at ≡ sector → m ≡ n → 0 < n → IsReadWithin sector n (failed_read at m)
read_of_all sector n at m there all some = record { reads = refl; some = omega (arith, all, some); from = omega (arith, there); to = omega (arith, there, all) }

pub one_more : (past now : List Fault) (sector n at m : ℕ) → now ≡ past ++ failed_read at m ∷ [] → at ≡ sector → m ≡ n → 0 < n → EachNewFault past now (IsReadWithin sector n)
one_more past now sector n at m is there all some = fails_now past now (failed_read at m) (IsReadWithin sector n) is (read_of_all sector n at m there all some)

pub just_one : (past now : List Fault) (sector n at m : ℕ) → now ≡ past ++ failed_read at m ∷ [] → at ≡ sector → m ≡ n → 0 < n → SomeNewFault past now (IsReadWithin sector n)
just_one past now sector n at m is there all some = fails_just past now (failed_read at m) (IsReadWithin sector n) is (read_of_all sector n at m there all some)

-- no call failed
pub same_none : (past now : List Fault) (P : Fault → Type 0) → now ≡ past → EachNewFault past now P
same_none past now P is = rw is (fails_none past P)
