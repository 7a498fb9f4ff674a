-- The first member is read a window ahead, and its bytes change places with those of the window before.
use Rattle.std.proofs.Common.{◌≡◌, ℕ, ◌*◌, ◌/◌, ◌<◌, ◌≤◌, true, None, List, [], ◌∷◌, length, take, get_or, is_some, inl, inr, refl, ap, sym, ◌∙◌, subst, arith}
use Rattle.std.proofs.lemmas.Bool.{cases_lt}
use Rattle.std.proofs.lemmas.List.{length-take-le}
use Rattle.std.proofs.Math.Nat.{eq-or-lt_of_le}
use Rattle.md_device.specs.declared.device.Device.{Ghosts}
use Rattle.md_badblocks.specs.declared.run.Run.{Run}
use Rattle.md_check.specs.declared.reader.Reader.{Reader}
use Rattle.md_check.specs.Readings.{HasLed, HasUnlisted, IsLead}
use Rattle.md_check.specs.Readers.{AreReadersRead, HaveNotFailed, OnlyReaderRead}
use Rattle.md_check.proofs.SectorsRead.{taken_is_read}

module _ {D : Type 0} where
  -- readers of which nothing but the bytes changed
  abbrev pub SameButBytes : List (Reader D) → List (Reader D) → Type 0
  SameButBytes mids news = (k : ℕ) (d : Reader D) → k < length mids → get_or news k d ≡ record (get_or mids k d) { bytes = (get_or news k d).bytes }

  -- at one place the bytes changed, and elsewhere nothing did
  pub same_but_bytes : (mids news : List (Reader D)) (first : ℕ) → ((k : ℕ) (d : Reader D) → k < length mids → k ≡ first → get_or news k d ≡ record (get_or mids k d) { bytes = (get_or news k d).bytes })
      → ((k : ℕ) (d : Reader D) → k < length mids → (k ≡ first → ⊥) → get_or news k d ≡ get_or mids k d) → SameButBytes mids news
  same_but_bytes mids news first here others k d below = elim (cases_lt k first) [
    | inl low ↦ let is = others k d below (λ e. absurd (omega arith)) in is ∙ ap (λ (s : Reader D). record (get_or mids k d) { bytes = s.bytes }) (sym is)
    | inr up ↦ elim (eq-or-lt_of_le up) [
      | inl same ↦ here k d below (sym same)
      | inr high ↦ let is = others k d below (λ e. absurd (omega arith)) in is ∙ ap (λ (s : Reader D). record (get_or mids k d) { bytes = s.bytes }) (sym is)
    ]
  ]

  -- each buffer has room still
  pub rooms_exchanged : (n : ℕ) (mids news : List (Reader D)) (first : ℕ) (bytes : List ℕ) → length news ≡ length mids → n ≤ length bytes → ((k : ℕ) (d : Reader D) → k < length mids → n ≤ length (get_or mids k d).bytes.items)
      → ((k : ℕ) (d : Reader D) → k < length mids → k ≡ first → (get_or news k d).bytes.items ≡ bytes) → ((k : ℕ) (d : Reader D) → k < length mids → (k ≡ first → ⊥) → get_or news k d ≡ get_or mids k d)
      → (k : ℕ) (d : Reader D) → k < length news → n ≤ length (get_or news k d).bytes.items
  rooms_exchanged n mids news first bytes many room rooms here others k d below =
      let low : k < length mids = omega arith in
      elim (cases_lt k first) [
        | inl less ↦ let is = ap (λ (s : Reader D). length s.bytes.items) (others k d low (λ e. absurd (omega arith))) in let r = rooms k d low in omega arith
        | inr up ↦ elim (eq-or-lt_of_le up) [
          | inl same ↦ let is = ap length (here k d low (sym same)) in omega arith
          | inr high ↦ let is = ap (λ (s : Reader D). length s.bytes.items) (others k d low (λ e. absurd (omega arith))) in let r = rooms k d low in omega arith
        ]
      ]

  pub lead_room_after : (n : ℕ) (mids : List (Reader D)) (first : ℕ) (old new : List ℕ) → n ≤ length old → ((k : ℕ) (d : Reader D) → k < length mids → n ≤ length (get_or mids k d).bytes.items)
      → ((k : ℕ) (d : Reader D) → k < length mids → k ≡ first → new ≡ (get_or mids k d).bytes.items) → (length mids ≤ first → new ≡ old) → n ≤ length new
  lead_room_after n [] first old new room rooms here none = let is = ap length (none (omega arith)) in omega arith
  lead_room_after n (x ∷ xs) first old new room rooms here none = elim (cases_lt first (length (x ∷ xs))) [
    | inl low ↦ let is = ap length (here first x low refl) in let r = rooms first x low in omega arith
    | inr past ↦ let is = ap length (none past) in omega arith
  ]

module _ {D : Type 0} {g : Ghosts D} where
  -- what was read ahead of the first member is what its next window shows
  pub next_lead : (old new last : Reader D) (next ahead : ℕ) → OnlyReaderRead g old new → HasLed g next ahead old new → new.missed ≡ None → (bytes : List ℕ) → bytes ≡ new.bytes.items → 512 * ahead ≤ length bytes
      → last.device ≡ new.device → last.role ≡ new.role → last.offset ≡ new.offset → last.listed ≡ new.listed
      → IsLead g next (take (512 * ahead) bytes) last
  next_lead old new last next ahead read led none bytes is room device role offset listed reads honest =
      let long : length (take (512 * ahead) bytes) / 512 ≡ ahead = let l = length-take-le (512 * ahead) bytes room in omega arith in
      let was_role : old.role ≡ last.role = sym (ap (λ (s : Reader D). s.role) read.kept) ∙ sym role in
      let its_offset : old.offset ≡ last.offset = sym (ap (λ (s : Reader D). s.offset) read.kept) ∙ sym offset in
      let its_listed : old.listed ≡ last.listed = sym (ap (λ (s : Reader D). s.listed) read.kept) ∙ sym listed in
      let its_content : g.content old.device ≡ g.content last.device = sym read.only_read.content_kept ∙ ap g.content (sym device) in
      let its_honest : g.honest old.device ≡ true = sym read.only_read.honest_kept ∙ ap g.honest (sym device) ∙ honest in
      let has : HasUnlisted (g.content old.device) old.offset old.listed next ahead bytes = subst (λ (b : List ℕ). HasUnlisted (g.content old.device) old.offset old.listed next ahead b) (sym is) (led none (ap is_some was_role ∙ reads) its_honest) in
      let whole : (512 * ahead) / 512 ≡ ahead = omega arith in
      let here : HasUnlisted (g.content last.device) last.offset last.listed next ahead bytes =
      subst (λ (c : List ℕ). HasUnlisted c last.offset last.listed next ahead bytes) its_content
      (subst (λ (o : ℕ). HasUnlisted (g.content old.device) o last.listed next ahead bytes) its_offset
      (subst (λ (l : List Run). HasUnlisted (g.content old.device) old.offset l next ahead bytes) its_listed has)) in
      subst (λ n. HasUnlisted (g.content last.device) last.offset last.listed next n (take (512 * ahead) bytes)) (whole ∙ sym long)
      (taken_is_read (g.content last.device) last.offset last.listed next (512 * ahead) bytes
      (subst (λ n. HasUnlisted (g.content last.device) last.offset last.listed next n bytes) (sym whole) here))

  pub read_exchanged : (firsts mids news : List (Reader D)) → AreReadersRead g firsts mids → length news ≡ length mids → SameButBytes mids news → AreReadersRead g firsts news
  read_exchanged firsts mids news read many same = record {
    as_many = many ∙ read.as_many;
    each = λ k d below.
        let one = read.each k d below in
        let its = same k d (let m = read.as_many in omega arith) in
        record {
          kept = its ∙ ap (λ (s : Reader D). record s { bytes = (get_or news k d).bytes }) one.kept
              ∙ (let device : (get_or mids k d).device ≡ (get_or news k d).device = sym (ap (λ (s : Reader D). s.device) its) in
              let alike = sym (ap (λ (s : Reader D). s.alike) its) in
              let missed = sym (ap (λ (s : Reader D). s.missed) its) in
              rw (device, alike, missed) refl);
          only_read = rw (ap (λ (s : Reader D). s.device) its) one.only_read;
          unused = λ none. ap (λ (s : Reader D). s.device) its ∙ one.unused none;
        };
  }

module _ {D : Type 0} (g : Ghosts D) where
  pub unfailing_exchanged : (n : ℕ) (firsts mids news : List (Reader D)) → n ≤ length mids → HaveNotFailed g n firsts mids → SameButBytes mids news → HaveNotFailed g n firsts news
  unfailing_exchanged n firsts mids news few unfailing same k d below = ap (λ (s : Reader D). g.failures s.device) (same k d (omega arith)) ∙ unfailing k d below
