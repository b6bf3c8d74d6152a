use Rattle.std.proofs.Common.{◌≡◌, ◌++◌, ◌+◌, ◌*◌, ℕ, List, ap, sym, ◌∙◌, replicate}
use Rattle.std.proofs.lemmas.Result.{on_ok_weaker}
use Rattle.sf_gen.specs.Object.{section_header_bytes}
use Rattle.sf_gen.proofs.Ranges.{seven_appended}
use Rattle.sf_gen.proofs.Sizes.{headers_are}
use Rattle.sf_gen.proofs.headers.push_section_headers.Goals as goal

pub returns : goal.returns
returns c =
    let n : ℕ = c.args.n in
    let zeros : List ℕ = replicate 64 0 in
    let p : c.extend_from_slice.new.self.items ≡ c.args.bytes.now.items ++ zeros = c.in_ok-extend_from_slice.ensures.items in
    let q : c.push_header.new.bytes.items ≡ c.extend_from_slice.new.self.items ++ section_header_bytes 1 1 6 64 (32 * n) 0 0 16 0 =
    c.in_ok-push_header.ensures in
    let r : c.push_header-2.new.bytes.items ≡ c.push_header.new.bytes.items ++ section_header_bytes 7 1 2 (64 + 32 * n) (24 + 32 * n) 0 0 8 0 =
    rw (← c.places_of-places.ensures.eh_frame) c.in_ok-push_header-2.ensures in
    let s : c.push_header-3.new.bytes.items ≡ c.push_header-2.new.bytes.items ++ section_header_bytes 17 4 0x40 (88 + 64 * n) (24 * n) 4 2 8 24 =
    rw (← c.places_of-places.ensures.rela) c.in_ok-push_header-3.ensures in
    let t : c.push_header-4.new.bytes.items ≡ c.push_header-3.new.bytes.items ++ section_header_bytes 32 2 0 (88 + 88 * n) 48 5 2 8 24 =
    rw (← c.places_of-places.ensures.symtab) c.in_ok-push_header-4.ensures in
    let u : c.push_header-5.new.bytes.items ≡ c.push_header-4.new.bytes.items ++ section_header_bytes 40 3 0 (136 + 88 * n) 1 0 0 1 0 =
    rw (← c.places_of-places.ensures.strtab) c.in_ok-push_header-5.ensures in
    on_ok_weaker c.push_header-6.result
    (λ last.
    let v : c.push_header-6.new.bytes.items ≡ c.push_header-5.new.bytes.items ++ section_header_bytes 48 3 0 (144 + 88 * n) 58 0 0 1 0 =
    rw (← c.places_of-places.ensures.shstrtab) last in
    seven_appended _ _ _ _ _ _ _ _ _ _ _ _ _ _ _ p q r s t u v
    ∙ ap (λ (headers : List ℕ). c.args.bytes.now.items ++ (zeros ++ headers)) (sym (headers_are n)))
    c.push_header-6.ensures
