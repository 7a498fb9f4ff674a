-- Members in which no fault is found are of one size, and of chunks of one size.
use Rattle.std.proofs.Common.{◌≡◌, ◌∙◌, ℕ, ◌+◌, ◌/◌, ◌<◌, zero, suc, List, length, Some, Option, ap, sym, arith, inl, inr}
use Rattle.std.specs.Int.{div_ceil}
use Rattle.std.specs.List.{slice_get}
use Rattle.std.specs.Option.{option_map}
use Rattle.std.proofs.lemmas.Bool.{cases_eq, cases_lt}
use Rattle.std.proofs.lemmas.List.{length-map}
use Rattle.std.proofs.lemmas.Option.{slice_get_within}
use Rattle.md_bitmap.specs.declared.header.BitmapHeader.{BitmapHeader}
use Rattle.md_bitmap.specs.declared.chunks.Chunks.{Chunks}
use Rattle.md_bitmap.specs.Sound.{chunk_count}
use Rattle.md_members.specs.declared.info.MemberInfo.{MemberInfo}
use Rattle.md_assembly.specs.declared.assembling.Assembly.{Assembly}
use Rattle.md_assembly.specs.declared.fault.AssembleFault.TheVariants.{Geometry, NoBitmap}
use Rattle.md_assembly.specs.Assembled.{IsAssembled, superblocks}
use Rattle.md_assembly.specs.Faults.{HasOtherGeometry, LacksBitmap, NoAssembleFault}
use Rattle.md_assembly.specs.Listed.{IsLeast, MemberAt, PairAt}
use Rattle.md_assembly.proofs.Indices.{got_within}
use Rattle.md_kept_members.specs.View.{MemberView}
use Rattle.md_kept_members.specs.Remembering.{AreKept, AreWhole, HaveChunks, IsChunkingOf}

-- what holds of no least number holds of none
none_below : (Fact : ℕ → Type 0) → ((n : ℕ) → IsLeast Fact n → ⊥) → (m n : ℕ) → n < m → Fact n → ⊥
none_below Fact none zero n lt h = absurd (omega arith)
none_below Fact none (suc m) n lt h = none n (record {
  holds = h;
  least = λ k other. elim (cases_lt k n) [ inl less ↦ absurd (none_below Fact none m k (omega arith) other) | inr more ↦ more ];
})

pub none_by_least : (Fact : ℕ → Type 0) → ((n : ℕ) → IsLeast Fact n → ⊥) → (n : ℕ) → Fact n → ⊥
none_by_least Fact none n h = none_below Fact none (n + 1) n (omega arith) h

pub has_bitmap : (infos : List MemberInfo) (k : ℕ) (info : MemberInfo) → NoAssembleFault infos → slice_get infos k ≡ Some info → LacksBitmap info → ⊥
has_bitmap infos k info sound listed lacks =
    none_by_least (MemberAt LacksBitmap infos) (λ n least. sound (NoBitmap n) (omega arith) least) k (record { member = info; listed = listed; holds = lacks })

no_other : (infos : List MemberInfo) (k : ℕ) (first info : MemberInfo) → NoAssembleFault infos → slice_get infos 0 ≡ Some first → slice_get infos k ≡ Some info → HasOtherGeometry first info → ⊥
no_other infos k first info sound at_first at_k other =
    none_by_least (PairAt HasOtherGeometry infos 0) (λ n least. sound (Geometry n) (omega arith) least) k
    (record { member = first; listed = at_first; holds = record { member = info; listed = at_k; holds = other } })

by_options : (f : BitmapHeader → ℕ) (o p : Option BitmapHeader) (g h : BitmapHeader) → o ≡ Some g → p ≡ Some h → option_map f o ≡ option_map f p → f g ≡ f h
by_options f o p g h at_o at_p e =
    let left : option_map f o ≡ Some (f g) = ap (option_map f) at_o in
    let right : option_map f p ≡ Some (f h) = ap (option_map f) at_p in
    cc

-- two members, each with its bitmap's header
pub record AreAlike (a b : MemberInfo) (g h : BitmapHeader) : Type 0 where
  pub size : a.superblock.size ≡ b.superblock.size
  pub chunksize : g.chunksize ≡ h.chunksize

like_first : (infos : List MemberInfo) (k : ℕ) (first info : MemberInfo) (g h : BitmapHeader) → NoAssembleFault infos → slice_get infos 0 ≡ Some first → slice_get infos k ≡ Some info → info.header ≡ Some g → first.header ≡ Some h → AreAlike info first g h
like_first infos k first info g h sound at_first at_k has_g has_h =
    let same = no_other infos k first info sound at_first at_k in
    record {
      size = elim (cases_eq info.superblock.size first.superblock.size) [ inl e ↦ e | inr ne ↦ absurd (same (inl ne)) ];
      chunksize = elim (cases_eq g.chunksize h.chunksize) [ inl e ↦ e | inr ne ↦ absurd (same (inr (inr (λ e. ne (by_options (λ (x : BitmapHeader). x.chunksize) _ _ g h has_g has_h e))))) ];
    }

pub alike : (infos : List MemberInfo) (j k : ℕ) (a b : MemberInfo) (g h : BitmapHeader) → AreWhole infos → NoAssembleFault infos → slice_get infos j ≡ Some a → slice_get infos k ≡ Some b → a.header ≡ Some g → b.header ≡ Some h → AreAlike a b g h
alike infos j k a b g h whole sound at_j at_k has_g has_h =
    let within = slice_get_within infos j a at_j in
    let first = got_within infos 0 (omega arith) in
    let w = whole 0 first.0 first.1 in
    let left = like_first infos j first.0 a g w.header sound first.1 at_j has_g w.has_header in
    let right = like_first infos k first.0 b h w.header sound first.1 at_k has_h w.has_header in
    record { size = left.size ∙ sym right.size; chunksize = left.chunksize ∙ sym right.chunksize }

pub states_as_many : (infos : List MemberInfo) (assembly : Assembly) → IsAssembled infos assembly → length assembly.states.items ≡ length infos
states_as_many infos assembly a = ap length a.states ∙ length-map (superblocks infos) _ ∙ length-map infos _

pub freshest_within : (infos : List MemberInfo) (assembly : Assembly) → IsAssembled infos assembly → assembly.freshest < length infos
freshest_within infos assembly a =
    let within = slice_get_within (superblocks infos) assembly.freshest a.superblock a.freshest.listed in
    let as_many = length-map infos (λ (m : MemberInfo). m.superblock) in
    omega arith

-- the member that is kept at an index, with what was read of it
pub record IsKeptAt (events : ℕ) (infos : List MemberInfo) (k : ℕ) (m : MemberView) : Type 0 where
  pub info : MemberInfo
  pub listed : slice_get infos k ≡ Some info
  pub header : info.header ≡ Some m.header
  pub chunks : m.stored.chunks ≡ chunk_count info.superblock.size m.header.chunksize

pub kept_at : (events cleared : ℕ) (infos : List MemberInfo) (assembly : Assembly) (members : List MemberView) (k : ℕ) (m : MemberView) → IsAssembled infos assembly → AreKept events cleared infos assembly.states.items members → slice_get members k ≡ Some m → IsKeptAt events infos k m
kept_at events cleared infos assembly members k m assembled kept listed =
    let within = slice_get_within members k m listed in
    let as_many = kept.as_many in
    let states = states_as_many infos assembly assembled in
    let info = got_within infos k (omega arith) in
    let state = got_within assembly.states.items k (omega arith) in
    let is_kept = kept.each k info.0 state.0 m info.1 state.1 listed in
    record { info = info.0; listed = info.1; header = is_kept.header; chunks = is_kept.chunks }

-- all members have the width and the number of the chunks of the freshest
pub width_of : (events cleared : ℕ) (infos : List MemberInfo) (assembly : Assembly) (members : List MemberView) (fresh : MemberInfo) (chunks : Chunks) → AreWhole infos → NoAssembleFault infos → IsAssembled infos assembly → slice_get infos assembly.freshest ≡ Some fresh → IsChunkingOf fresh chunks → AreKept events cleared infos assembly.states.items members → (k : ℕ) (m : MemberView) → slice_get members k ≡ Some m → chunks.sectors ≡ m.header.chunksize / 512
width_of events cleared infos assembly members fresh chunks whole sound assembled at_fresh chunking kept k m listed =
    let at = kept_at events cleared infos assembly members k m assembled kept listed in
    let same = alike infos assembly.freshest k fresh at.info chunking.header m.header whole sound at_fresh at.listed chunking.has_header at.header in
    chunking.width ∙ ap (λ (n : ℕ). n / 512) same.chunksize

pub count_of : (events cleared : ℕ) (infos : List MemberInfo) (assembly : Assembly) (members : List MemberView) (fresh : MemberInfo) (chunks : Chunks) → AreWhole infos → NoAssembleFault infos → IsAssembled infos assembly → slice_get infos assembly.freshest ≡ Some fresh → IsChunkingOf fresh chunks → AreKept events cleared infos assembly.states.items members → HaveChunks members (div_ceil chunks.size chunks.sectors)
count_of events cleared infos assembly members fresh chunks whole sound assembled at_fresh chunking kept k m listed =
    let at = kept_at events cleared infos assembly members k m assembled kept listed in
    let same = alike infos assembly.freshest k fresh at.info chunking.header m.header whole sound at_fresh at.listed chunking.has_header at.header in
    at.chunks ∙ ap (λ (n : ℕ). chunk_count n m.header.chunksize) (sym same.size) ∙ ap (λ (n : ℕ). chunk_count fresh.superblock.size n) (sym same.chunksize) ∙ sym chunking.count
