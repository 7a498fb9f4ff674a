use Rattle.std.proofs.Common.{◌≡◌, ℕ, ap, ◌∙◌, arith}
use Rattle.md_nbd.specs.declared.request.Request.{Request}
use Rattle.md_nbd.specs.NbdRequests.{request_magic}
use Rattle.md_nbd.proofs.NumbersInFront.{same2, same4, same8}
use Rattle.md_nbd.proofs.laws.begins_with_one_request.Goals as goal

abbrev made : ℕ → ℕ → ℕ → ℕ → ℕ → Request
made f k c o l = record { flags = f; kind = k; cookie = c; offset = o; length = l }

same_request : (a b : Request) → a.flags ≡ b.flags → a.kind ≡ b.kind → a.cookie ≡ b.cookie → a.offset ≡ b.offset → a.length ≡ b.length → a ≡ b
same_request a b f k c o l =
    ap (λ x. made x a.kind a.cookie a.offset a.length) f ∙ ap (λ x. made b.flags x a.cookie a.offset a.length) k ∙ ap (λ x. made b.flags b.kind x a.offset a.length) c
    ∙ ap (λ x. made b.flags b.kind b.cookie x a.length) o ∙ ap (λ x. made b.flags b.kind b.cookie b.offset x) l

pub returns : goal.returns
returns c = λ a b x y ha hb e.
    let magic = same4 request_magic request_magic _ _ (omega arith) (omega arith) e in
    let flags = same2 a.flags b.flags _ _ ha.flags hb.flags magic.1 in
    let kind = same2 a.kind b.kind _ _ ha.kind hb.kind flags.1 in
    let cookie = same8 a.cookie b.cookie _ _ ha.cookie hb.cookie kind.1 in
    let offset = same8 a.offset b.offset _ _ ha.offset hb.offset cookie.1 in
    let len = same4 a.length b.length _ _ ha.length hb.length offset.1 in
    (same_request a b flags.0 kind.0 cookie.0 offset.0 len.0, len.1)
