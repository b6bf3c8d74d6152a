use Rattle.std.proofs.Common.{◌≡◌, ◌++◌, ◌+◌, ◌*◌, ◌∙◌, ℕ, List, [], ap, sym, append_assoc, append-nil, length}
use Rattle.sf_gen.specs.Frames.{eh_frame}
use Rattle.sf_gen.specs.Object.{all_headers, file_header, padded, relas, section_names, string_table, symbols, text}
use Rattle.sf_gen.proofs.Sizes.{object_is, length-object}
use Rattle.sf_gen.proofs.file.object.Goals as goal

joined : (a b c d e f g h : List ℕ) (b1 b2 b3 b4 b5 b6 b7 : List ℕ)
    → b1 ≡ [] ++ a → b2 ≡ b1 ++ b → b3 ≡ b2 ++ c → b4 ≡ b3 ++ d → b5 ≡ b4 ++ e → b6 ≡ b5 ++ f ++ g → b7 ≡ b6 ++ h
    → b7 ≡ a ++ (b ++ (c ++ (d ++ (e ++ (f ++ (g ++ [])))))) ++ h
joined a b c d e f g h b1 b2 b3 b4 b5 b6 b7 p q r s t u v = rw (v, u, t, s, r, q, p) (simp (append_assoc, append-nil))

pub returns-clause-bytes : goal.returns-clause-bytes
returns-clause-bytes c =
    let n : ℕ = c.args.n in
    let p : c.push_file_header.new.bytes.items ≡ [] ++ file_header (208 + 88 * n) 7 6 =
    rw (← c.places_of-headers.ensures.headers) (c.in_ok-push_file_header.ensures ∙ ap (λ (none : List ℕ). none ++ file_header c.places_of-headers.result.headers 7 6) c.in_ok-bytes.ensures.items) in
    let q : c.push_text.new.bytes.items ≡ c.push_file_header.new.bytes.items ++ text n = c.in_ok-push_text.ensures in
    let r : c.push_eh_frame.new.bytes.items ≡ c.push_text.new.bytes.items ++ eh_frame n = c.in_ok-push_eh_frame.ensures in
    let s : c.push_relas.new.bytes.items ≡ c.push_eh_frame.new.bytes.items ++ relas n = c.in_ok-push_relas.ensures in
    let t : c.push_symbols.new.bytes.items ≡ c.push_relas.new.bytes.items ++ symbols = c.in_ok-push_symbols.ensures in
    let u : c.push_string_tables.new.bytes.items ≡ c.push_symbols.new.bytes.items ++ padded (string_table []) ++ padded (string_table section_names) =
    c.in_ok-push_string_tables.ensures in
    let v : c.push_section_headers.new.bytes.items ≡ c.push_string_tables.new.bytes.items ++ all_headers n = c.in_ok-push_section_headers.ensures in
    joined _ _ _ _ _ _ _ _ _ _ _ _ _ _ _ p q r s t u v ∙ sym (object_is n)

pub returns-clause-len : goal.returns-clause-len
returns-clause-len c = c.push_section_headers.new.bytes.ok.0 ∙ (ap length (returns-clause-bytes c) ∙ length-object c.args.n)
