-- One image after another gets its mask.
use Rattle.md_device.specs.declared.device.Device.{Ghosts}
use Rattle.std.proofs.Common.{◌≡◌, ◌⊎◌, ◌∙◌, ℕ, ◌+◌, ◌<◌, List, [], ◌∷◌, ◌++◌, length, Option, Some, None, inl, inr, refl, sym, ap, subst, arith}
use Rattle.std.proofs.lemmas.List.{length-append}
use Rattle.md_badblocks.specs.declared.run.Run.{Run}
use Rattle.md_images.specs.Taking.{Text, name_at}
use Rattle.md_images.specs.declared.images.Images.{Ghosts as ImagesGhosts}
use Rattle.md_images.proofs.Taken.{get_before, get_last}
use Rattle.md_images.specs.declared.image_refusal.ImageRefusal.TheVariants as image
use Rattle.md_files.specs.declared.masks.maps.fault.MapFault.{MapFault}
use Rattle.md_files.specs.Masks.Images.Copies.{AreMasked, IsMaskedAt, LacksBy, LacksByFirstMap, RefusesMap, first_of}
use Rattle.md_files.specs.Masks.Images.Masks.{HasSize, IsMissingByMap, IsNoMap, KeepsAll, Masks, mask_of, named_mask}
use Rattle.md_files.specs.declared.masks.images.fault.MapRefusal.TheVariants as refusal
use Rattle.md_files.specs.declared.masks.images.fault.MapsFault.{MapsFault}
use Rattle.md_files.specs.declared.masks.images.fault.MapsFault.TheVariants as maps
use Rattle.md_files.specs.declared.masks.images.copies.MapText.{MapText}

below_next : (i k : ℕ) → i < k + 1 → (i < k) ⊎ (i ≡ k)
below_next i k lt = grind arith

module _ {I D : Type 0} (i : ImagesGhosts I D) where
  pub keeps_same : (s : I) → KeepsAll i s s
  keeps_same s = record { known = refl; holds = λ k n. refl; devices = λ k n. refl; rights = λ k n. refl; asked = λ k n. refl }

  pub keeps_then : (a b c : I) → KeepsAll i a b → KeepsAll i b c → KeepsAll i a c
  keeps_then a b c p q = record {
    known = q.known ∙ p.known;
    holds = λ k n. q.holds (p.known ∙ k) n ∙ p.holds k n;
    devices = λ k n. q.devices (p.known ∙ k) n ∙ p.devices k n;
    rights = λ k n. q.rights (p.known ∙ k) n ∙ p.rights k n;
    asked = λ k n. q.asked (p.known ∙ k) n ∙ p.asked k n;
  }

module _ {I D : Type 0} (i : ImagesGhosts I D) (g : Ghosts D) where
  -- what an image lacks now it lacked before, where all stay as they were
  lacked : (a b : I) (name map : Text) (missing : List Run) → KeepsAll i a b → IsMissingByMap i g name map b missing → IsMissingByMap i g name map a missing
  lacked a b name map missing kept l = record {
    size = l.size;
    sized = λ k. subst (λ (d : Option D). HasSize g d l.size) (kept.devices k name) (l.sized (kept.known ∙ k));
    lacks = l.lacks;
  }

  lacked_by : (a b : I) (maps : List MapText) (place : Option ℕ) (name : Text) (missing : List Run) → KeepsAll i a b → LacksBy i g b maps place name missing → LacksBy i g a maps place name missing
  lacked_by a b maps (Some place) name missing kept l = record { map = l.map; at = l.at; lacks = lacked a b name l.map.text.items missing kept l.lacks }
  lacked_by a b maps None name missing kept l = l

  pub lacked_at : (a b : I) (maps : List MapText) (image : ℕ) (name : Text) (missing : List Run) → KeepsAll i a b → LacksByFirstMap i g b maps image name missing → LacksByFirstMap i g a maps image name missing
  lacked_at a b maps image name missing kept l = lacked_by a b maps (first_of maps image) name missing kept l

  no_map : (a b : I) (name map : Text) (fault : MapFault) → KeepsAll i a b → IsNoMap i g name map b fault → IsNoMap i g name map a fault
  no_map a b name map fault kept n = record {
    size = n.size;
    sized = λ k. subst (λ (d : Option D). HasSize g d n.size) (kept.devices k name) (n.sized (kept.known ∙ k));
    refused = n.refused;
  }

  -- the same of a refusal
  pub refused_at : (a b : I) (texts : List MapText) (place : ℕ) (name : Text) (fault : MapsFault) → KeepsAll i a b → RefusesMap i g b texts place name fault → RefusesMap i g a texts place name fault
  refused_at a b texts place name (maps.BadMap k (refusal.Map f)) kept h =
      (h.0, record { map = h.1.map; at = h.1.at; refused = no_map a b name h.1.map.text.items f kept h.1.refused })
  refused_at a b texts place name (maps.BadMap k refusal.NotListed) kept h = absurd h
  refused_at a b texts place name (maps.BadMap k refusal.Repeated) kept h = absurd h
  refused_at a b texts place name (maps.BadMap k (refusal.Unread e)) kept h = absurd h
  refused_at a b texts place name (maps.BadMap k refusal.TooLong) kept h = absurd h
  refused_at a b texts place name (maps.BadMap k (refusal.OfImage other)) kept h = absurd h
  refused_at a b texts place name (maps.BadImage k (image.Unopened f)) kept h = h
  refused_at a b texts place name (maps.BadImage k image.Repeated) kept h = absurd h
  refused_at a b texts place name maps.NoMemory kept h = h

module _ {I D : Type 0} (i : ImagesGhosts I D) (g : Ghosts D) (images : I) (maps : List MapText) (names : List Text) where
  pub none_masked : (masks : Masks) → masks ≡ [] → AreMasked i g images maps names 0 masks
  none_masked masks e = record { many = ap length e; each = λ image lt. absurd (omega (arith, lt)) }

  -- one more
  pub masked_next : (n : ℕ) (masks now : Masks) (name : Text) (missing : List Run) → name_at names n ≡ name → AreMasked i g images maps names n masks → LacksByFirstMap i g images maps n name missing
      → now ≡ masks ++ named_mask name (mask_of missing []) ∷ [] → AreMasked i g images maps names (n + 1) now
  masked_next n masks now name missing is so lacks grows =
      subst (λ (ms : Masks). AreMasked i g images maps names (n + 1) ms) (sym grows) (record {
        many = length-append masks (named_mask name (mask_of missing []) ∷ []) ∙ ap (λ (k : ℕ). k + 1) so.many;
        each = λ image lt. elim (below_next image n lt) [
          | inl less ↦ earlier image less
          | inr here ↦ subst (λ (k : ℕ). IsMaskedAt i g images maps names all k) (sym here) last
        ];
      })
    where
      all : Masks
      all = masks ++ named_mask name (mask_of missing []) ∷ []

      earlier : (image : ℕ) → image < n → IsMaskedAt i g images maps names all image
      earlier image less =
          let was = so.each image less in
          record {
            missing = was.missing;
            lacks = was.lacks;
            at = get_before masks (named_mask name (mask_of missing []) ∷ []) image (subst (λ (k : ℕ). image < k) (sym so.many) less) ∙ was.at;
          }

      last : IsMaskedAt i g images maps names all n
      last = record {
        missing = missing;
        lacks = subst (λ (t : Text). LacksByFirstMap i g images maps n t missing) (sym is) lacks;
        at = get_last masks (named_mask name (mask_of missing [])) n (sym so.many) ∙ ap (λ (t : Text). Some (named_mask t (mask_of missing []))) (sym is);
      }
