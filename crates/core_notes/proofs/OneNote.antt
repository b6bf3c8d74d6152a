-- A note is read exactly where one is.
use Rattle.std.specs.Prelude.{min}
use Rattle.std.proofs.Common.{◌≡◌, ℕ, ◌+◌, ◌<◌, List, ◌++◌, length, take, Ok, refl, sym, ap, subst, ◌∙◌, arith, append_assoc}
use Rattle.std.proofs.lemmas.List.{length-append, length-take-le}
use Rattle.sf_bytes.specs.Cursor.{Cursor, Read, ◌>>=◌, past, number_at, part_at}
use Rattle.sf_bytes.specs.Standing.{Passes, Stands, Number, Bytes}
use Rattle.sf_bytes.proofs.Fields.{bind_ok, ok_is, number_takes, number_again, part_takes, part_again, past-passes, passes-past}
use Rattle.core_notes.specs.Note.{NoteView, NoteStands, PaddingStands, note_at, padded_at, padding}

-- ---- a field and its padding
abbrev pad_count : ℕ → Cursor → ℕ
pad_count size at = min (padding size) (length at.left)

padding_there : (size : ℕ) (at : Cursor) → PaddingStands size at (past (pad_count size at) at)
padding_there size at = record {
  run = take (pad_count size at) at.left;
  width = length-take-le (pad_count size at) at.left (omega arith);
  passes = past-passes (pad_count size at) at (omega arith);
}

padding_is : (size : ℕ) (at after : Cursor) → PaddingStands size at after → past (pad_count size at) at ≡ after
padding_is size at after p = ap (λ (n : ℕ). past n at) (sym p.width) ∙ passes-past p.run at after p.passes

-- a field and its padding were read
record IsPadded (size : ℕ) (at field after : Cursor) : Type 0 where
  between : Cursor
  field_is : Stands (Bytes size) field.left at between
  place : field.place ≡ at.place
  padding_is : PaddingStands size between after

padded_takes : (size : ℕ) (at field after : Cursor) → padded_at size at ≡ Ok (field, after) → IsPadded size at field after
unfolding padded_at
padded_takes size at field after e =
    let b = bind_ok (part_at size at) _ (field, after) e in
    let same = ok_is _ (field, after) b.2 in
    let f : b.0.0 ≡ field = ap (λ (x : Cursor × Cursor). x.0) same in
    let a : past (pad_count size b.0.1) b.0.1 ≡ after = ap (λ (x : Cursor × Cursor). x.1) same in
    let t = part_takes size at b.0.0 b.0.1 b.1 in
    record {
      between = b.0.1;
      field_is = subst (λ (c : Cursor). Stands (Bytes size) c.left at b.0.1) f t.0;
      place = ap (λ (c : Cursor). c.place) (sym f) ∙ t.1;
      padding_is = subst (PaddingStands size b.0.1) a (padding_there size b.0.1);
    }

padded_again : (size : ℕ) (at field between after : Cursor) → Stands (Bytes size) field.left at between → field.place ≡ at.place → PaddingStands size between after
    → padded_at size at ≡ Ok (field, after)
unfolding padded_at
padded_again size at field between after s place p =
    ap (λ (r : Read Cursor). r >>= λ f. Ok (f.0, past (pad_count size f.1) f.1)) (part_again size at field.left between s)
    ∙ ap (λ (n : ℕ). Ok (record { place = n; left = field.left }, past (pad_count size between) between)) (sym place)
    ∙ ap (λ (c : Cursor). Ok (field, c)) (padding_is size between after p)

-- ---- the whole note
-- bytes as they are, as many as they are
sized : (size : ℕ) (bytes : List ℕ) (from to : Cursor) → Stands (Bytes size) bytes from to → (length bytes ≡ size) × Stands (Bytes (length bytes)) bytes from to
sized size bytes from to s =
    let len : length bytes ≡ length s.run = ap length s.kind.value in
    (len ∙ s.kind.width, record { run = s.run; kind = record { width = sym len; value = s.kind.value }; passes = s.passes })

note_of_fields : (at c1 c2 c3 name c4 descriptor after : Cursor) (name_size descriptor_size kind : ℕ)
    → Stands (Number 4) name_size at c1 → Stands (Number 4) descriptor_size c1 c2 → Stands (Number 4) kind c2 c3 → IsPadded name_size c3 name c4 → IsPadded descriptor_size c4 descriptor after
    → NoteStands (record { place = at.place; name = name.left; kind = kind; descriptor = descriptor }) at after
note_of_fields at c1 c2 c3 name c4 descriptor after name_size descriptor_size kind s1 s2 s3 p4 p5 =
    let n = sized name_size name.left c3 p4.between p4.field_is in
    let d = sized descriptor_size descriptor.left c4 p5.between p5.field_is in
    record {
      at_descriptor_size = c1;
      at_kind = c2;
      at_name = c3;
      after_name = p4.between;
      at_descriptor = c4;
      after_descriptor = p5.between;
      place = refl;
      name_size = subst (λ (k : ℕ). Stands (Number 4) k at c1) (sym n.0) s1;
      descriptor_size = subst (λ (k : ℕ). Stands (Number 4) k c1 c2) (sym d.0) s2;
      kind = s3;
      name = n.1;
      name_padding = subst (λ (k : ℕ). PaddingStands k p4.between c4) (sym n.0) p4.padding_is;
      start = p5.place;
      descriptor = d.1;
      descriptor_padding = subst (λ (k : ℕ). PaddingStands k p5.between after) (sym d.0) p5.padding_is;
    }

pub note_takes : (at : Cursor) (n : NoteView) (after : Cursor) → note_at at ≡ Ok (n, after) → NoteStands n at after
unfolding note_at
note_takes at n after e =
    let ns = bind_ok (number_at 4 at) _ (n, after) e in
    let ds = bind_ok (number_at 4 ns.0.1) _ (n, after) ns.2 in
    let k = bind_ok (number_at 4 ds.0.1) _ (n, after) ds.2 in
    let nm = bind_ok (padded_at ns.0.0 k.0.1) _ (n, after) k.2 in
    let d = bind_ok (padded_at ds.0.0 nm.0.1) _ (n, after) nm.2 in
    let same = ok_is _ (n, after) d.2 in
    let named = padded_takes ns.0.0 k.0.1 nm.0.0 nm.0.1 nm.1 in
    let described = padded_takes ds.0.0 nm.0.1 d.0.0 d.0.1 d.1 in
    let h = note_of_fields at ns.0.1 ds.0.1 k.0.1 nm.0.0 nm.0.1 d.0.0 d.0.1 ns.0.0 ds.0.0 k.0.0
    (number_takes 4 at ns.0.0 ns.0.1 ns.1) (number_takes 4 ns.0.1 ds.0.0 ds.0.1 ds.1) (number_takes 4 ds.0.1 k.0.0 k.0.1 k.1) named described in
    subst (λ (p : NoteView × Cursor). NoteStands p.0 at p.1) same h

pub note_again : (at : Cursor) (n : NoteView) (after : Cursor) → NoteStands n at after → note_at at ≡ Ok (n, after)
unfolding note_at
note_again at n after s =
    let e1 = number_again 4 at (length n.name) s.at_descriptor_size s.name_size in
    let e2 = number_again 4 s.at_descriptor_size (length n.descriptor.left) s.at_kind s.descriptor_size in
    let e3 = number_again 4 s.at_kind n.kind s.at_name s.kind in
    let named : Cursor = record { place = s.at_name.place; left = n.name } in
    let e4 : padded_at (length n.name) s.at_name ≡ Ok (named, s.at_descriptor) =
    padded_again (length n.name) s.at_name named s.after_name s.at_descriptor s.name refl s.name_padding in
    let e5 : padded_at (length n.descriptor.left) s.at_descriptor ≡ Ok (n.descriptor, after) =
    padded_again (length n.descriptor.left) s.at_descriptor n.descriptor s.after_descriptor after s.descriptor s.start s.descriptor_padding in
    rw (e1, e2, e3, e4, e5) (ap (λ (p : ℕ). Ok (record { place = p; name = n.name; kind = n.kind; descriptor = n.descriptor }, after)) (sym s.place))

-- ---- a note has bytes
passes-then : (r s : List ℕ) (a b c : Cursor) → Passes r a b → Passes s b c → Passes (r ++ s) a c
passes-then r s a b c p q =
    let len : length (r ++ s) ≡ length r + length s = length-append r s in
    record {
      bytes = p.bytes ∙ ap (λ (xs : List ℕ). r ++ xs) q.bytes ∙ sym (append_assoc r s c.left);
      moved = omega (p.moved, q.moved, len, arith);
    }

-- some bytes are between the cursors
pub record SomeBytes (from to : Cursor) : Type 0 where
  pub run : List ℕ
  pub some : 0 < length run
  pub passes : Passes run from to

more : (a b c : Cursor) (run : List ℕ) → SomeBytes a b → Passes run b c → SomeBytes a c
more a b c run s p =
    let len : length (s.run ++ run) ≡ length s.run + length run = length-append s.run run in
    record { run = s.run ++ run; some = omega (s.some, len, arith); passes = passes-then s.run run a b c s.passes p }

pub note_passes : (n : NoteView) (from to : Cursor) → NoteStands n from to → SomeBytes from to
note_passes n from to s =
    let first : SomeBytes from s.at_descriptor_size = record { run = s.name_size.run; some = omega (s.name_size.kind.width, arith); passes = s.name_size.passes } in
    let second = more from s.at_descriptor_size s.at_kind s.descriptor_size.run first s.descriptor_size.passes in
    let third = more from s.at_kind s.at_name s.kind.run second s.kind.passes in
    let fourth = more from s.at_name s.after_name s.name.run third s.name.passes in
    let fifth = more from s.after_name s.at_descriptor s.name_padding.run fourth s.name_padding.passes in
    let sixth = more from s.at_descriptor s.after_descriptor s.descriptor.run fifth s.descriptor.passes in
    more from s.after_descriptor to s.descriptor_padding.run sixth s.descriptor_padding.passes
