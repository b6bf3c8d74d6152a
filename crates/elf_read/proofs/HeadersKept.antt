-- Numbers in a part of a file are those of the whole file.
use Rattle.std.proofs.Common.{◌≡◌, ℕ, ◌+◌, ◌-◌, ◌*◌, ◌<◌, ◌≤◌, ◌==◌, ◌&&◌, [], Bool, true, false, cond, List, length, take, drop, min, nat_lt, nat_le, Ok, sym, ap, refl, ◌∙◌, arith, inl, inr, lt-ltb, le-ltb, le-leb, Err, subst}
use Rattle.std.proofs.lemmas.Bool.{cases_lt, leb-true}
use Rattle.elf_read.specs.declared.fault.ElfFault.TheVariants.{Short, NotElf, Class, Order, Version, Machine, Kind}
use Rattle.elf_read.specs.Checking.{unless, ◌>>◌}
use Rattle.elf_read.specs.Checks.{ElfCheck, is_string_table, identity_check, purpose_check, is_known_machine, is_known_type}
use Rattle.elf_read.specs.Linked.{IsLinkedHead}
use Rattle.std.proofs.lemmas.List.{length-take, drop-take, drop-drop}
use Rattle.byteorder.specs.Endian.{little_number}
use Rattle.byteorder.specs.Numbers.{little_from-take}
use Rattle.elf_read.specs.Number.{text_in, front_number, field_at, window}
use Rattle.elf_read.specs.Header.{FileHeader, header_fields, arch_of, kind_of}
use Rattle.elf_read.specs.declared.kind.Kind.{Kind as kind}
use Rattle.elf_read.specs.declared.kind.Kind.TheVariants.{Rel, Exec, Dyn, Core}
use Rattle.sf_model.specs.declared.machine.Arch.{Arch as machine}
use Rattle.sf_model.specs.declared.machine.Arch.TheVariants.{Amd64, Aarch64}
use Rattle.elf_read.specs.Sections.{section_by, section_fields, section_bytes, section_count, section_name, name_table}

same_test : (w m len : ℕ) → w ≤ m → nat_lt (min m len) w ≡ nat_lt len w
same_test w m len h = elim (cases_lt len w) [
  | inl short ↦ lt-ltb _ _ (omega (arith, short, h)) ∙ sym (lt-ltb _ _ short)
  | inr long ↦ le-ltb _ _ (omega (arith, long, h)) ∙ sym (le-ltb _ _ long)
]

front_kept : (w m : ℕ) (xs : List ℕ) → w ≤ m → front_number w (take m xs) ≡ front_number w xs
unfolding front_number
front_kept w m xs h =
    ap (λ (n : ℕ). cond (nat_lt n w) 0 (little_number w (take m xs))) (length-take m xs)
    ∙ ap (λ (b : Bool). cond b 0 (little_number w (take m xs))) (same_test w m (length xs) h)
    ∙ ap (λ (n : ℕ). cond (nat_lt (length xs) w) 0 n) (little_from-take 0 w m xs (omega (arith, h)))

-- a field in the first n bytes
pub number_kept : (w p n : ℕ) (xs : List ℕ) → p + w ≤ n → field_at w p (take n xs) ≡ field_at w p xs
number_kept w p n xs h =
    let all : n ≡ p + (n - p) = omega (arith, h) in
    ap (λ (k : ℕ). front_number w (drop p (take k xs))) all
    ∙ ap (front_number w) (drop-take p (n - p) xs)
    ∙ front_kept w (n - p) (drop p xs) (omega (arith, h))

-- ---- the header of a section, in its own bytes
same_header : (f g : ℕ → ℕ → ℕ) → ((width place : ℕ) → nat_le (place + width) 64 ≡ true → f width place ≡ g width place) → section_by f ≡ section_by g
same_header f g same =
    rw (same 4 0 refl, same 4 4 refl, same 8 8 refl, same 8 16 refl, same 8 24 refl, same 8 32 refl, same 4 40 refl, same 4 44 refl, same 8 48 refl, same 8 56 refl) refl

-- among all bytes from the first header on
pub header_in : (i : ℕ) (file table bytes : List ℕ) → table ≡ drop (header_fields file).e_shoff file → bytes ≡ drop (64 * i) table
    → section_by (λ width place. field_at width place bytes) ≡ section_fields file i
unfolding section_fields
header_in i file table bytes is at =
    same_header _ _ (λ width place _.
    ap (field_at width place) at ∙ ap (front_number width) (drop-drop place (64 * i) table) ∙ ap (field_at width (64 * i + place)) is)

-- among the section headers alone
pub header_kept : (i count : ℕ) (file sections bytes : List ℕ) → sections ≡ window (header_fields file).e_shoff (64 * count) file → bytes ≡ drop (64 * i) sections → i < count
    → section_by (λ width place. field_at width place bytes) ≡ section_fields file i
unfolding section_fields
header_kept i count file sections bytes is at below =
    same_header _ _ (λ width place within.
    let upto : place + width ≤ 64 = leb-true _ _ within in
    ap (field_at width place) at ∙ ap (front_number width) (drop-drop place (64 * i) sections) ∙ ap (field_at width (64 * i + place)) is
    ∙ number_kept width (64 * i + place) (64 * count) (drop (header_fields file).e_shoff file) (omega (arith, below, upto)))

-- ---- the file header
abbrev head_of : List ℕ → List ℕ
head_of file = window 0 64 file

abbrev fields_by : (ei_mag ei_class ei_data ei_version e_type e_machine e_version e_phoff e_shoff e_phentsize e_phnum e_shentsize e_shnum e_shstrndx : ℕ) → FileHeader
fields_by ei_mag ei_class ei_data ei_version e_type e_machine e_version e_phoff e_shoff e_phentsize e_phnum e_shentsize e_shnum e_shstrndx = record {
  ei_mag = ei_mag;
  ei_class = ei_class;
  ei_data = ei_data;
  ei_version = ei_version;
  e_type = e_type;
  e_machine = e_machine;
  e_version = e_version;
  e_phoff = e_phoff;
  e_shoff = e_shoff;
  e_phentsize = e_phentsize;
  e_phnum = e_phnum;
  e_shentsize = e_shentsize;
  e_shnum = e_shnum;
  e_shstrndx = e_shstrndx;
}

same_fields : (a b c d e f g h i j k l m n a2 b2 c2 d2 e2 f2 g2 h2 i2 j2 k2 l2 m2 n2 : ℕ)
    → a ≡ a2 → b ≡ b2 → c ≡ c2 → d ≡ d2 → e ≡ e2 → f ≡ f2 → g ≡ g2 → h ≡ h2 → i ≡ i2 → j ≡ j2 → k ≡ k2 → l ≡ l2 → m ≡ m2 → n ≡ n2
    → fields_by a b c d e f g h i j k l m n ≡ fields_by a2 b2 c2 d2 e2 f2 g2 h2 i2 j2 k2 l2 m2 n2
same_fields a b c d e f g h i j k l m n a2 b2 c2 d2 e2 f2 g2 h2 i2 j2 k2 l2 m2 n2 p1 p2 p3 p4 p5 p6 p7 p8 p9 p10 p11 p12 p13 p14 =
    rw (p1, p2, p3, p4, p5, p6, p7, p8, p9, p10, p11, p12, p13, p14) refl

pub fields_kept : (file : List ℕ) → header_fields (window 0 64 file) ≡ header_fields file
unfolding header_fields
fields_kept file =
    same_fields _ _ _ _ _ _ _ _ _ _ _ _ _ _ _ _ _ _ _ _ _ _ _ _ _ _ _ _
    (number_kept 4 0 64 file (omega arith)) (number_kept 1 4 64 file (omega arith)) (number_kept 1 5 64 file (omega arith)) (number_kept 1 6 64 file (omega arith))
    (number_kept 2 16 64 file (omega arith)) (number_kept 2 18 64 file (omega arith)) (number_kept 4 20 64 file (omega arith)) (number_kept 8 32 64 file (omega arith))
    (number_kept 8 40 64 file (omega arith)) (number_kept 2 54 64 file (omega arith)) (number_kept 2 56 64 file (omega arith)) (number_kept 2 58 64 file (omega arith))
    (number_kept 2 60 64 file (omega arith)) (number_kept 2 62 64 file (omega arith))

abbrev identity_by : Bool → (len : ℕ) → FileHeader → ElfCheck
identity_by long len h =
    unless long (Short len)
    >> unless (h.ei_mag == 0x464c457f) (NotElf 0)
    >> unless (h.ei_class == 2) (Class 4)
    >> unless (h.ei_data == 1) (Order 5)
    >> unless (h.ei_version == 1) (Version 6)
    >> unless (h.e_version == 1) (Version 20)

identity_is : (file : List ℕ) → identity_check file ≡ identity_by (nat_le 64 (length file)) (length file) (header_fields file)
unfolding identity_check header_fields
identity_is file = refl

purpose_is : (file : List ℕ) → purpose_check file ≡ (unless (is_known_machine (header_fields file).e_machine) (Machine 18) >> unless (is_known_type (header_fields file).e_type) (Kind 16))
unfolding purpose_check
purpose_is file = refl

long_head : (b : Bool) (len : ℕ) (h : FileHeader) → identity_by b len h ≡ Ok tt → b ≡ true
long_head true len h fine = refl
long_head false len h fine = absurd (let differ : Err (Short len) ≡ Ok tt = fine in cc)

any_len : (b c : Bool) (len other : ℕ) (h : FileHeader) → b ≡ true → c ≡ true → identity_by b len h ≡ identity_by c other h
any_len true true len other h p q = refl
any_len true false len other h p q = absurd (cc q)
any_len false c len other h p q = absurd (cc p)

identity_kept : (file : List ℕ) → identity_check (head_of file) ≡ Ok tt → identity_check file ≡ Ok tt
identity_kept file h =
    let by = sym (identity_is (head_of file)) ∙ h in
    let long : nat_le 64 (length (head_of file)) ≡ true = long_head (nat_le 64 (length (head_of file))) (length (head_of file)) (header_fields (head_of file)) by in
    let some : 64 ≤ length (head_of file) = leb-true _ _ long in
    let len : length (head_of file) ≡ min 64 (length file) = length-take 64 file in
    let all : nat_le 64 (length file) ≡ true = le-leb _ _ (omega (arith, some, len)) in
    identity_is file
    ∙ any_len (nat_le 64 (length file)) (nat_le 64 (length (head_of file))) (length file) (length (head_of file)) (header_fields file) all long
    ∙ ap (identity_by (nat_le 64 (length (head_of file))) (length (head_of file))) (sym (fields_kept file))
    ∙ by

purpose_kept : (file : List ℕ) → purpose_check (head_of file) ≡ purpose_check file
purpose_kept file =
    purpose_is (head_of file)
    ∙ ap (λ (h : FileHeader). unless (is_known_machine h.e_machine) (Machine 18) >> unless (is_known_type h.e_type) (Kind 16)) (fields_kept file)
    ∙ sym (purpose_is file)

-- what the file header says, the file says
pub head_kept : (file header : List ℕ) → header ≡ window 0 64 file → IsLinkedHead header → IsLinkedHead file
head_kept file header is h =
    let head : IsLinkedHead (head_of file) = subst IsLinkedHead is h in
    let same = sym (fields_kept file) in
    record {
      identity = identity_kept file head.identity;
      purpose = sym (purpose_kept file) ∙ head.purpose;
      no_object = ap (λ (h : FileHeader). h.e_type == 1) same ∙ head.no_object;
      no_core = ap (λ (h : FileHeader). h.e_type == 4) same ∙ head.no_core;
      entry = ap (λ (h : FileHeader). h.e_shentsize) same ∙ head.entry;
      place = ap (λ (h : FileHeader). h.e_shoff == 0) same ∙ head.place;
      count = ap (λ (h : FileHeader). h.e_shnum == 0) same ∙ head.count;
      names = ap (λ (h : FileHeader). h.e_shstrndx == 0xffff) same ∙ head.names;
      named = ap (λ (h : FileHeader). h.e_shstrndx == 0) same ∙ head.named;
    }

pub place_kept : (file header : List ℕ) → header ≡ window 0 64 file → (header_fields header).e_shoff ≡ (header_fields file).e_shoff
place_kept file header is = ap (λ (bytes : List ℕ). (header_fields bytes).e_shoff) is ∙ ap (λ (h : FileHeader). h.e_shoff) (fields_kept file)

abbrev kind_by : FileHeader → kind
kind_by h = cond (h.e_type == 1) Rel (cond (h.e_type == 2) Exec (cond (h.e_type == 3) Dyn Core))

kind_is : (file : List ℕ) → kind_of file ≡ kind_by (header_fields file)
unfolding kind_of
kind_is file = refl

pub kind_kept : (file header : List ℕ) → header ≡ window 0 64 file → kind_of header ≡ kind_of file
kind_kept file header is = ap kind_of is ∙ kind_is (head_of file) ∙ ap kind_by (fields_kept file) ∙ sym (kind_is file)

abbrev arch_by : FileHeader → machine
arch_by h = cond (h.e_machine == 62) Amd64 Aarch64

arch_is : (file : List ℕ) → arch_of file ≡ arch_by (header_fields file)
unfolding arch_of
arch_is file = refl

pub arch_kept : (file header : List ℕ) → header ≡ window 0 64 file → arch_of header ≡ arch_of file
arch_kept file header is = ap arch_of is ∙ arch_is (head_of file) ∙ ap arch_by (fields_kept file) ∙ sym (arch_is file)

-- how many sections there are
count_is : (file : List ℕ) → IsLinkedHead file → section_count file ≡ (header_fields file).e_shnum
unfolding section_count
count_is file h =
    let head = header_fields file in
    ap (λ (b : Bool). cond b 0 (cond ((header_fields file).e_shoff == 0) 0 (cond ((header_fields file).e_shnum == 0) (section_fields file 0).sh_size (header_fields file).e_shnum))) h.no_core
    ∙ ap (λ (b : Bool). cond b 0 (cond ((header_fields file).e_shnum == 0) (section_fields file 0).sh_size (header_fields file).e_shnum)) h.place
    ∙ ap (λ (b : Bool). cond b (section_fields file 0).sh_size (header_fields file).e_shnum) h.count

pub count_kept : (file header : List ℕ) → header ≡ window 0 64 file → IsLinkedHead file → (header_fields header).e_shnum ≡ section_count file
count_kept file header is h = ap (λ (bytes : List ℕ). (header_fields bytes).e_shnum) is ∙ ap (λ (h : FileHeader). h.e_shnum) (fields_kept file) ∙ sym (count_is file h)

-- the name table
pub table_is : (file : List ℕ) → IsLinkedHead file → name_table file ≡ (header_fields file).e_shstrndx
unfolding name_table
table_is file h = ap (λ (b : Bool). cond b (section_fields file 0).sh_link (header_fields file).e_shstrndx) h.names

pub table_kept : (file header : List ℕ) → header ≡ window 0 64 file → IsLinkedHead file → (header_fields header).e_shstrndx ≡ name_table file
table_kept file header is h = ap (λ (bytes : List ℕ). (header_fields bytes).e_shstrndx) is ∙ ap (λ (h : FileHeader). h.e_shstrndx) (fields_kept file) ∙ sym (table_is file h)

pub string_table : (file : List ℕ) (i : ℕ) → i < section_count file → (section_fields file i).sh_type ≡ 3 → is_string_table file i ≡ true
unfolding is_string_table
string_table file i below kind = ap (λ (b : Bool). b && ((section_fields file i).sh_type == 3)) (lt-ltb _ _ below) ∙ ap (λ (n : ℕ). n == 3) kind

pub name_is : (file : List ℕ) (i : ℕ) → IsLinkedHead file → section_name file i ≡ text_in (section_fields file i).sh_name (section_bytes file (name_table file))
unfolding section_name
name_is file i h =
    ap (λ (b : Bool). cond b [] (text_in (section_fields file i).sh_name (section_bytes file (name_table file)))) (ap (λ (n : ℕ). n == 0) (table_is file h) ∙ h.named)
