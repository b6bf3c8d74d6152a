-- How long the parts of the file are, and at which places they are.
use Rattle.std.proofs.Common.{◌≡◌, ℕ, ◌+◌, ◌*◌, ◌%◌, List, [], ◌∷◌, ◌++◌, length, replicate, refl, ap, ◌∙◌, arith, append-nil, length-append}
use Rattle.std.proofs.lemmas.List.{length-replicate}
use Rattle.std.specs.List.{flat_map, range_with_len}
use Rattle.std.specs.Prelude.{Bool, true, false, ◌==◌, cond}
use Rattle.byteorder.specs.Numbers.{length-bytes_low_first}
use Rattle.sf_gen.specs.Number.{half, word, xword}
use Rattle.sf_gen.specs.Instruction.{filled, frame_pointer_instructions, instructions, locals, other_register}
use Rattle.sf_gen.specs.Pattern.{kind}
use Rattle.sf_gen.specs.Frames.{cie, eh_frame, fde}
use Rattle.sf_gen.specs.Object.{all_contents, all_headers, file_header, file_kind, object_bytes, padded, padding_to_eight, rela, relas, section_header_bytes, section_headers, object_sections, section_names, start_rela, string_table, symbol, symbols, text}
use Rattle.sf_gen.proofs.Ranges.{length-range}

length-half : (n : ℕ) → length (half n) ≡ 2
unfolding half
length-half n = length-bytes_low_first 0 2 n

length-word : (n : ℕ) → length (word n) ≡ 4
unfolding word
length-word n = length-bytes_low_first 0 4 n

length-xword : (n : ℕ) → length (xword n) ≡ 8
unfolding xword
length-xword n = length-bytes_low_first 0 8 n

-- a part whose length is a multiple of 8 is followed at once
no_padding : (m : ℕ) → padding_to_eight (8 * m) ≡ 0
no_padding m = let none : (8 * m) % 8 ≡ 0 = omega arith in rw none refl

whole : (part : List ℕ) (m : ℕ) → length part ≡ 8 * m → padded part ≡ part
unfolding padded
whole part m e = rw (e, no_padding m) (append-nil part)

pub length-text : (n : ℕ) → length (text n) ≡ 32 * n
length-text n = let nop : ℕ = 0x90 in length-replicate (32 * n) nop

length-cie : length cie ≡ 24
unfolding cie
length-cie = simp (length-append, length-word) refl

length-filled : (k : ℕ) → length (filled 15 (instructions k)) ≡ 15
length-filled k = at_test (k == 0) (k == 1) (k == 2)
  where
    at_test : (a b c : Bool) → length (filled 15 (cond a [] (cond b frame_pointer_instructions (cond c locals other_register)))) ≡ 15
    at_test true b c = refl
    at_test false true c = refl
    at_test false false true = refl
    at_test false false false = refl

length-fde : (i k : ℕ) → length (fde i k) ≡ 32
unfolding fde
length-fde i k =
    sums (word 28) (word (28 + 32 * i)) (word 0) (word 32) (filled 15 (instructions k))
    (length-word 28) (length-word (28 + 32 * i)) (length-word 0) (length-word 32) (length-filled k)
  where
    sums : (a b c d e : List ℕ) → length a ≡ 4 → length b ≡ 4 → length c ≡ 4 → length d ≡ 4 → length e ≡ 15 → length (a ++ b ++ c ++ d ++ (0 ∷ []) ++ e) ≡ 32
    sums a b c d e p q r s t = simp (length-append, p, q, r, s, t) refl

length-rela : (a b c d : ℕ) → length (rela a b c d) ≡ 24
unfolding rela
length-rela a b c d = simp (length-append, length-xword) refl

length-symbol : (a b c d e f : ℕ) → length (symbol a b c d e f) ≡ 24
unfolding symbol
length-symbol a b c d e f = simp (length-append, length-xword, length-word, length-half) refl

length-header : (a b c d e f g h i : ℕ) → length (section_header_bytes a b c d e f g h i) ≡ 64
unfolding section_header_bytes
length-header a b c d e f g h i = simp (length-append, length-xword, length-word) refl

pub length-eh_frame : (n : ℕ) → length (eh_frame n) ≡ 24 + 32 * n
length-eh_frame n =
    let entries : List ℕ = flat_map (λ i. fde i (kind n i)) (range_with_len 0 n) in
    length-append cie entries ∙ omega (arith, length-cie, length-range (λ i. fde i (kind n i)) 32 0 n (λ i. length-fde i (kind n i)))

pub length-relas : (n : ℕ) → length (relas n) ≡ 24 * n
length-relas n = length-range start_rela 24 0 n (λ i. length-rela (32 + 32 * i) 1 2 (32 * i))

pub length-symbols : length symbols ≡ 48
length-symbols = simp (length-append, length-symbol) refl

-- ---- the parts with what follows them
pub text_whole : (n : ℕ) → padded (text n) ≡ text n
text_whole n = whole (text n) (4 * n) (length-text n ∙ omega arith)

pub eh_frame_whole : (n : ℕ) → padded (eh_frame n) ≡ eh_frame n
eh_frame_whole n = whole (eh_frame n) (3 + 4 * n) (length-eh_frame n ∙ omega arith)

pub relas_whole : (n : ℕ) → padded (relas n) ≡ relas n
relas_whole n = whole (relas n) (3 * n) (length-relas n ∙ omega arith)

pub symbols_whole : padded symbols ≡ symbols
symbols_whole = whole symbols 6 length-symbols

length-no_names : length (padded (string_table [])) ≡ 8
unfolding padded
length-no_names = refl

length-names : length (padded (string_table section_names)) ≡ 64
unfolding padded
length-names = refl

-- all contents, by their parts
pub contents_are : (n : ℕ) → all_contents (object_sections n)
    ≡ text n ++ (eh_frame n ++ (relas n ++ (symbols ++ (padded (string_table []) ++ (padded (string_table section_names) ++ [])))))
unfolding all_contents
contents_are n = rw (text_whole n, eh_frame_whole n, relas_whole n, symbols_whole) refl

pub length-contents : (n : ℕ) → length (all_contents (object_sections n)) ≡ 144 + 88 * n
length-contents n =
    ap length (contents_are n)
    ∙ sums (text n) (eh_frame n) (relas n) symbols (padded (string_table [])) (padded (string_table section_names)) n
    (length-text n) (length-eh_frame n) (length-relas n) length-symbols length-no_names length-names
  where
    sums : (a b c d e f : List ℕ) (n : ℕ) → length a ≡ 32 * n → length b ≡ 24 + 32 * n → length c ≡ 24 * n → length d ≡ 48 → length e ≡ 8 → length f ≡ 64
        → length (a ++ (b ++ (c ++ (d ++ (e ++ (f ++ [])))))) ≡ 144 + 88 * n
    sums a b c d e f n p q r s t u = simp (length-append, p, q, r, s, t, u) (omega arith)

-- ---- the section headers
-- the next part's place, by what follows a part
place_after : (part : List ℕ) (place len next : ℕ) → padded part ≡ part → length part ≡ len → place + len ≡ next → place + length (padded part) ≡ next
place_after part place len next e f g = rw (e, f) g

-- the headers, with their places by number
pub headers_are : (n : ℕ) → section_headers 1 64 section_names (object_sections n)
    ≡ section_header_bytes 1 1 6 64 (32 * n) 0 0 16 0
    ++ (section_header_bytes 7 1 2 (64 + 32 * n) (24 + 32 * n) 0 0 8 0
    ++ (section_header_bytes 17 4 0x40 (88 + 64 * n) (24 * n) 4 2 8 24
    ++ (section_header_bytes 32 2 0 (88 + 88 * n) 48 5 2 8 24
    ++ (section_header_bytes 40 3 0 (136 + 88 * n) 1 0 0 1 0
    ++ (section_header_bytes 48 3 0 (144 + 88 * n) 58 0 0 1 0 ++ [])))))
headers_are n =
    rw (
      place_after (text n) 64 (32 * n) (64 + 32 * n) (text_whole n) (length-text n) refl,
      place_after (eh_frame n) (64 + 32 * n) (24 + 32 * n) (88 + 64 * n) (eh_frame_whole n) (length-eh_frame n) (omega arith),
      place_after (relas n) (88 + 64 * n) (24 * n) (88 + 88 * n) (relas_whole n) (length-relas n) (omega arith),
      place_after symbols (88 + 88 * n) 48 (136 + 88 * n) symbols_whole length-symbols (omega arith),
      length-no_names,
      length-text n,
      length-eh_frame n,
      length-relas n,
      length-symbols,
    )
    (let last : 136 + 88 * n + 8 ≡ 144 + 88 * n = omega arith in rw last refl)

pub length-all_headers : (n : ℕ) → length (all_headers n) ≡ 448
length-all_headers n =
    let first : List ℕ = replicate 64 0 in
    let zeros : length first ≡ 64 = refl in
    let later : length (section_headers 1 64 section_names (object_sections n)) ≡ 384 = ap length (headers_are n) ∙ simp (length-append, length-header) refl in
    length-append first (section_headers 1 64 section_names (object_sections n)) ∙ omega (arith, later, zeros)

length-file_kind : length file_kind ≡ 40
unfolding file_kind
length-file_kind = simp (length-append, length-half, length-word, length-xword) refl

length-file_header : (e_shoff e_shnum e_shstrndx : ℕ) → length (file_header e_shoff e_shnum e_shstrndx) ≡ 64
unfolding file_header
length-file_header e_shoff e_shnum e_shstrndx = simp (length-append, length-half, length-word, length-xword, length-file_kind) refl

pub length-object : (n : ℕ) → length (object_bytes n) ≡ 656 + 88 * n
unfolding object_bytes
length-object n =
    sums (file_header (64 + length (all_contents (object_sections n))) 7 6) (all_contents (object_sections n)) (all_headers n) n
    (length-file_header (64 + length (all_contents (object_sections n))) 7 6) (length-contents n) (length-all_headers n)
  where
    sums : (a b c : List ℕ) (n : ℕ) → length a ≡ 64 → length b ≡ 144 + 88 * n → length c ≡ 448 → length (a ++ b ++ c) ≡ 656 + 88 * n
    sums a b c n p q r = simp (length-append, p, q, r) (omega arith)

-- the file by its parts
pub object_is : (n : ℕ) → object_bytes n
    ≡ file_header (208 + 88 * n) 7 6
    ++ (text n ++ (eh_frame n ++ (relas n ++ (symbols ++ (padded (string_table []) ++ (padded (string_table section_names) ++ []))))))
    ++ all_headers n
unfolding object_bytes
object_is n =
    let place : 64 + length (all_contents (object_sections n)) ≡ 208 + 88 * n = omega (arith, length-contents n) in
    rw (place, contents_are n) refl
