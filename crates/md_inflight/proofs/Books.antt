-- What is known of a list of addresses that only grows, and how it is known twice. Assumes `Logic`.
use Rattle.std.proofs.Common.{◌≡◌, ℕ, zero, suc, ◌<◌, List, [], ◌∷◌, ◌++◌, refl, sym, ap, ◌∙◌, length, arith}
use Rattle.std.specs.Prelude.{slice_get}
use mathlib.Core.List.{IsPrefix}
use seplogic.Ra.Ura.{Ura}
use base.Fraction.{full_share}
use base.Logic.{ent, sep, emp, ex, wand, via, snd∗, apply∗}
use base.Fml.{Lft, Fml, fbor, fsep}
use base.Before.{before}
use base.Shift.{Keyless}
use base.Growing.{Least, latest, at_least, prefix_refl}
use mir.Val.{Val, vstruct, vcons, vnil}
use types.Growing.{latest_new, latest_grows, latest_shows, at_least_dup, at_least_join}
use types.Logic.{Logic, sem, lfts}
use types.Kit.{‵, raw, ◌⊛◌, some, given, later, ◌$◌, ◌∵◌, !, qed, by, move, drop, split, fsplit, fjoin, pick, learn, use0, use1, use2, await, updating, now, show, done}
use types.Owned.{basic}
use contract.Monad.{fact, fact_i}
use denote.RattleType.{RattleType}
use denote.RawPtr.{Ptr}
use denote.Shadow.{makes_shadow}
use denote.Sharing.{ShrLaws, said}
use denote.Struct.Lending.{Lends, Lends-first}
use denote.Struct.Owning.{shape}
use denote.Struct.Struct.{Struct}
use Rattle.md_inflight.specs.Addresses.{longer, page_owns, book_owns}
use Rattle.md_inflight.specs.contracts.book.Book as book
use Rattle.md_inflight.specs.contracts.book.Page as page

abbrev pub Bk : RattleType
Bk = book.the_row

abbrev pub Pg : RattleType
Pg = page.the_row

-- their fields take no bytes, and are had from nothing
abbrev pub BkFields : RattleType
BkFields = Struct (shape book.the_type)

abbrev pub PgFields : RattleType
PgFields = Struct (shape page.the_type)

abbrev pub no_bytes : Val
no_bytes = vstruct (vcons (vstruct vnil) vnil)

pub fields_made : {M : Type 1} {𝓤 : Ura M} (𝓛 : Logic 𝓤) → ent 𝓤 (emp 𝓤) (sem 𝓛 (BkFields.own_val (tt, tt) (no_bytes ∷ [])))
fields_made 𝓛 = makes_shadow 𝓛 (BkFields.own_val (tt, tt) (no_bytes ∷ [])) (λ vss. (tt, ((λ uss. (tt, tt)), tt))) ((vstruct vnil ∷ [], tt), (refl, ((tt, (refl, tt)), tt)))

-- ---- how a list begins
begins_alike : (ps more : List Ptr) (k : ℕ) → k < length ps → slice_get (ps ++ more) k ≡ slice_get ps k
begins_alike [] more k within = absurd (omega arith)
begins_alike (p ∷ ps) more zero within = refl
begins_alike (p ∷ ps) more (suc k) within = begins_alike ps more k (omega arith)

prefix_alike : (ps rs : List Ptr) → IsPrefix ps rs → (k : ℕ) → k < length ps → slice_get rs k ≡ slice_get ps k
prefix_alike ps rs prefix k within = ap (λ us. slice_get us k) (sym prefix.1) ∙ begins_alike ps prefix.0 k within

-- two lists have the same at each place that is in both
abbrev pub Agree : List Ptr → List Ptr → Type 0
Agree ps qs = (k : ℕ) → k < length ps → k < length qs → slice_get ps k ≡ slice_get qs k

module _ {M : Type 1} {𝓤 : Ura M} (𝓛 : Logic 𝓤) (name : ℕ) where
  abbrev Now : List Ptr → Fml
  Now ps = latest longer full_share name ps

  page_twice : (ps : List Ptr) → ent 𝓤 (sem 𝓛 (page_owns name ps)) (sep 𝓤 (sem 𝓛 (page_owns name ps)) (sem 𝓛 (page_owns name ps)))
  unfolding page_owns
  page_twice ps = at_least_dup longer 𝓛 name ps

  -- two pages of one name agree, since one list begins with both
  pub pages_agree : (ps qs : List Ptr) → ent 𝓤 (sep 𝓤 (sem 𝓛 (page_owns name ps)) (sem 𝓛 (page_owns name qs))) (fact 𝓤 (Agree ps qs))
  unfolding page_owns
  pages_agree ps qs = qed 𝓛 (‵ (at_least longer name ps) ∷ ‵ (at_least longer name qs) ∷ []) ∵
      use2 𝓛 (some (λ (rs : List Ptr). given (Least longer.le ps qs rs) (‵ (at_least longer name rs)))) (at_least_join longer 𝓛 name ps qs) $ pick ! (λ rs. learn ! (λ least.
      by ! (fact_i 𝓤 (Agree ps qs) _ (λ k in_ps in_qs. sym (prefix_alike ps rs least.0 k in_ps) ∙ prefix_alike qs rs least.1 k in_qs))))

  -- whoever may add to the list knows how it begins
  book_had : (ps : List Ptr) → ent 𝓤 (sem 𝓛 (Now ps)) (sem 𝓛 (book_owns name ps))
  unfolding book_owns page_owns
  book_had ps = qed 𝓛 (‵ (Now ps) ∷ []) ∵ use1 𝓛 (‵ (Now ps) ⊛ ‵ (at_least longer name ps)) (latest_shows longer 𝓛 full_share name ps ps (prefix_refl ps)) $ split ! $ move ! (1 ∷ 0 ∷ []) $ fjoin ! $ done !

  book_shows : (ps : List Ptr) → ent 𝓤 (sem 𝓛 (book_owns name ps)) (sep 𝓤 (sem 𝓛 (book_owns name ps)) (sem 𝓛 (page_owns name ps)))
  unfolding book_owns
  book_shows ps = qed 𝓛 (‵ (fsep (page_owns name ps) (Now ps)) ∷ []) ∵ fsplit ! $ use1 𝓛 (‵ (page_owns name ps) ⊛ ‵ (page_owns name ps)) (page_twice ps) $ split ! $ move ! (0 ∷ 2 ∷ []) $ fjoin ! $ done !

  book_now : (ps : List Ptr) → ent 𝓤 (sem 𝓛 (book_owns name ps)) (sem 𝓛 (Now ps))
  unfolding book_owns
  book_now ps = qed 𝓛 (‵ (fsep (page_owns name ps) (Now ps)) ∷ []) ∵ fsplit ! $ drop ! $ done !

  pub book_grows : (ps : List Ptr) (p : Ptr) → ent 𝓤 (sem 𝓛 (book_owns name ps)) (𝓛.H.⇛ (sep 𝓤 (sem 𝓛 (book_owns name (ps ++ p ∷ []))) (sem 𝓛 (page_owns name (ps ++ p ∷ [])))))
  book_grows ps p = let more : List Ptr = ps ++ p ∷ [] in
      qed 𝓛 (‵ (book_owns name ps) ∷ []) ∵ updating ! $ use1 𝓛 (‵ (Now ps)) (book_now ps) $ use1 𝓛 (later (‵ (Now more))) (via 𝓤 _ (latest_grows longer 𝓛 name ps more (p ∷ [], refl)) (basic 𝓛 _)) $ await ! tt $
      use1 𝓛 (‵ (book_owns name more)) (book_had more) $ use1 𝓛 (‵ (book_owns name more) ⊛ ‵ (page_owns name more)) (book_shows more) $ now ! $ done !

  -- a borrow of a page shows what the page knows
  page_lends : (ps : List Ptr) (l : Lft) → Lends 𝓛 (page_owns name ps) (said (page_owns name ps)) l
  page_lends ps l κ ts inc within = let P = page_owns name ps in let Back = 𝓛.H.⇛ (sep 𝓤 (𝓛.A.bor κ P) (lfts 𝓛 ts)) in
      qed 𝓛 (‵ (fbor κ P) ∷ raw (lfts 𝓛 ts) ∷ []) ∵ updating ! $ use2 𝓛 (later (‵ P ⊛ raw (wand 𝓤 (sem 𝓛 P) Back))) (𝓛.more.bor_acc_by κ ts P within) $ await ! tt $ split ! $
      use1 𝓛 (‵ P ⊛ ‵ P) (page_twice ps) $ split ! $ move ! (0 ∷ 2 ∷ []) $ use2 𝓛 (later (‵ (fbor κ P) ⊛ raw (lfts 𝓛 ts))) (apply∗ 𝓤 (sem 𝓛 P) Back) $ await ! tt $ split ! $ drop ! $ move ! (1 ∷ 0 ∷ []) $ now ! $ done !

  book_lends : (ps : List Ptr) (l : Lft) → Lends 𝓛 (book_owns name ps) (said (page_owns name ps)) l
  unfolding book_owns
  book_lends ps l = Lends-first 𝓛 (page_owns name ps) (Now ps) (said (page_owns name ps)) l (page_lends ps l)

-- a list under a new name
pub book_begins : {M : Type 1} {𝓤 : Ura M} (𝓛 : Logic 𝓤) (ps : List Ptr) → ent 𝓤 (emp 𝓤) (𝓛.H.⇛ (ex 𝓤 (λ (name : ℕ). sem 𝓛 (book_owns name ps))))
book_begins {𝓤 = 𝓤} 𝓛 ps = qed 𝓛 [] ∵ updating ! $ use0 𝓛 (later (some (λ (name : ℕ). ‵ (latest longer full_share name ps)))) (via 𝓤 _ (latest_new longer 𝓛 ps) (basic 𝓛 _)) $ await ! tt $ pick ! (λ name.
    use1 𝓛 (‵ (book_owns name ps)) (book_had 𝓛 name ps) $ now ! $ show ! (λ (n : ℕ). sem 𝓛 (book_owns n ps)) name $ done !)

-- ---- the laws of both types
pub shares_page : (name : ℕ) (ps : List Ptr) → ShrLaws (said (page_owns name ps))
shares_page name ps = record { contraction = λ M 𝓤 𝓛 _. page_twice 𝓛 name ps; mono = λ M 𝓤 𝓛 κ' κ. snd∗ 𝓤 (sem 𝓛 (before κ' κ)) (sem 𝓛 (page_owns name ps)) }

pub lends_page : {M : Type 1} {𝓤 : Ura M} (𝓛 : Logic 𝓤) (name : ℕ) (ps : List Ptr) (l : Lft) → Lends 𝓛 (page_owns name ps) (said (page_owns name ps)) l
lends_page 𝓛 name ps l = page_lends 𝓛 name ps l

pub lends_book : {M : Type 1} {𝓤 : Ura M} (𝓛 : Logic 𝓤) (name : ℕ) (ps : List Ptr) (l : Lft) → Lends 𝓛 (book_owns name ps) (said (page_owns name ps)) l
lends_book 𝓛 name ps l = book_lends 𝓛 name ps l

pub keyless_page : (name : ℕ) (ps : List Ptr) → Keyless (page_owns name ps)
unfolding page_owns at_least
keyless_page name ps = tt

pub keyless_book : (name : ℕ) (ps : List Ptr) → Keyless (book_owns name ps)
unfolding book_owns page_owns at_least latest
keyless_book name ps = (tt, tt)
