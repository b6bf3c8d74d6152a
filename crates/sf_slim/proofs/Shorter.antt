-- No section that recovers the same is shorter.
use Rattle.std.specs.List.{filter, AllAdjacentBelow, AllPairs}
use Rattle.std.specs.Option.{option_map}
use Rattle.std.proofs.Common.{◌≡◌, ℕ, suc, ◌+◌, ◌-◌, ◌<◌, ◌≤◌, true, IsTrue, List, [], ◌∷◌, All, get_or, length, map, Option, Some, None, refl, sym, ap, subst, ◌∙◌, arith, inl, inr}
use Rattle.std.proofs.lemmas.List.Elements.{All-nil, All-cons, All-head, All-tail, All-weaker}
use Rattle.std.proofs.lemmas.List.Kept.{AllPairs-cons}
use Rattle.std.proofs.lemmas.List.Sums.{sum_by-cons}
use Rattle.std.proofs.lemmas.List.{get_or_default, length-map}
use Rattle.std.proofs.Math.Nat.{mul-le-mul_left}
use Rattle.std.proofs.lemmas.Bool.{le-leb, lt-ltb}
use Rattle.sf_model.specs.declared.machine.Arch.{Arch}
use Rattle.sf_model.specs.declared.machine.Key.{Key}
use Rattle.sf_model.specs.declared.content.Content.{Content}
use Rattle.sf_model.specs.declared.function.Func.{Func}
use Rattle.sf_model.specs.declared.function.Shape.{Shape}
use Rattle.sf_model.specs.declared.function.Shape.TheVariants.{Plain}
use Rattle.sf_model.specs.declared.rows.Row.{Row}
use Rattle.sf_model.specs.Function.{RowsRise}
use Rattle.sf_model.specs.Lookup.{begins_by, begins_last, contains, found_at, offset_in_block, row_at, row_in}
use Rattle.sf_model.specs.Recovery.{deciding_registers, recovery}
use Rattle.sf_model.specs.RowBytes.{holds_row_offsets, row_offsets, spelled_row}
use Rattle.sf_model.specs.Section.{AnyWidth, FunctionsStand, RowsStand, Section, start_width_at, row_bytes_of}
use Rattle.sf_model.specs.Section as section
use Rattle.sf_model.specs.Table.{Table}
use Rattle.sf_model.specs.Tight.{WithoutGaps}
use Rattle.sf_model.specs.Union.{IsApart}
use Rattle.sf_model.specs.Walk.{recover_by_rows}
use Rattle.sf_model.specs.Width.{holds_unsigned, width_len}
use Rattle.sf_model.proofs.Recoveries.{same_contents}
use Rattle.sf_model.proofs.SpelledLengths.{length-spelled_row}
use Rattle.sf_sizes.specs.RowLength.{offset_width, row_len}
use Rattle.sf_write.specs.Row.{rows_len}
use Rattle.sf_write.specs.Section.{row_section_len, section_len}
use Rattle.sf_merge.proofs.Apart.{EndsBy, pairs_none, pairs_weaker}
use Rattle.sf_model.proofs.Unions.{Member, found_alone, found_by, member, one_contains}
use Rattle.sf_merge.proofs.Sound.{IsSound, functions_sound}
use Rattle.sf_slim.specs.Slim.{content_at, slim_function, slim_rows, slim_rows_of, AreNeeded}
use Rattle.sf_slim.specs.Shortest.{HasLeastRows, HoldsStarts, IsPlain, HasSameContent, StandsFor, row_bytes, span}
use Rattle.sf_slim.proofs.Alike.{all_member, by_content, from_table, one, recovers}
use Rattle.sf_slim.proofs.Least.{IsOne, found_one, least_is_least, none_is_shorter, of_filter, rows_alike, wider}
use Rattle.sf_slim.proofs.Ranges.{IsGood, functions_good}
use Rattle.sf_slim.proofs.Sweep.{slim_says}

-- ---- rows in a section take at least their least bytes
one_more : (width own : ℕ) (r : Row) → own ≤ 2 → IsTrue (holds_row_offsets r.content own) → row_len width r.content ≤ length (spelled_row width own r)
one_more width own r le held =
    let least : offset_width r.content ≤ own = least_is_least (holds_row_offsets r.content) own le held in
    let narrow : width_len (offset_width r.content) ≤ width_len own = wider (offset_width r.content) own least le in
    let bytes = mul-le-mul_left (length (row_offsets r.content)) narrow in
    let long = length-spelled_row width own r in
    omega (bytes, long, arith)

rows_take : (arch : Arch) (bytes : List ℕ) (width place end : ℕ) (rows : List Row) → RowsStand AnyWidth arch bytes width place end rows → place + row_bytes width rows ≤ end
rows_take arch bytes width place end [] h = let is : place ≡ end = h in omega (is, arith)
rows_take arch bytes width place end (r ∷ rows) (own, may, stands, later) =
    let here = one_more width own r stands.offset_width_fits.there_is stands.offset_width_fits.held in
    let rest = rows_take arch bytes width (place + length (spelled_row width own r)) end rows later in
    let sum = sum_by-cons (λ (x : Row). row_len width x.content) r rows in
    omega (here, rest, sum, arith)

starts_held : (arch : Arch) (bytes : List ℕ) (width place end : ℕ) (rows : List Row) → RowsStand AnyWidth arch bytes width place end rows → HoldsStarts width rows
starts_held arch bytes width place end [] h = All-nil (λ (r : Row). IsTrue (holds_unsigned r.start width))
starts_held arch bytes width place end (r ∷ rows) (own, may, stands, later) =
    All-cons (λ (r : Row). IsTrue (holds_unsigned r.start width)) r rows stands.start_width_fits.held
    (starts_held arch bytes width (place + length (spelled_row width own r)) end rows later)

-- ---- a function of the one section against one of the other
record Fits (arch : Arch) (f g : Func) : Type 0 where
  stands : StandsFor arch f g.rows
  least : slim_rows f.size f.rows ≡ f.rows

abbrev Each : Arch → List Func → List Func → Type 0
Each arch [] [] = Unit {0}
Each arch [] (g ∷ gs) = ⊥
Each arch (f ∷ fs) [] = ⊥
Each arch (f ∷ fs) (g ∷ gs) = Fits arch f g × Each arch fs gs

room : (arch : Arch) (bytes : List ℕ) (flags at place offset : ℕ) (fs gs : List Func) → Each arch fs gs → FunctionsStand arch bytes flags at place gs → WithoutGaps arch bytes place offset gs
    → offset + row_section_len fs ≤ section.rows_len bytes
room arch bytes flags at place offset [] [] each stand gaps = let is : offset ≡ section.rows_len bytes = gaps in omega (is, arith)
room arch bytes flags at place offset [] (g ∷ gs) each stand gaps = absurd each
room arch bytes flags at place offset (f ∷ fs) [] each stand gaps = absurd each
room arch bytes flags at place offset (f ∷ fs) (g ∷ gs) (fit, each) (entry, own, stand) (begins, padding, zero_byte, (end, rows, later)) =
    let width = start_width_at bytes place in
    let fewer : rows_len (slim_rows f.size f.rows) ≤ row_bytes width g.rows = none_is_shorter arch f g.rows width fit.stands entry.start_width (starts_held arch (row_bytes_of bytes) width offset end g.rows rows) in
    let same : rows_len (slim_rows f.size f.rows) ≡ rows_len f.rows = ap (λ (rs : List Row). rows_len rs) fit.least in
    let here = rows_take arch (row_bytes_of bytes) width offset end g.rows rows in
    let rest = room arch bytes flags at (place + 20) end fs gs each stand later in
    let sum = sum_by-cons (λ (h : Func). rows_len h.rows) f fs in
    omega (fewer, same, here, rest, sum, arith)

-- ---- the content at an offset
good_at : (arch : Arch) (rows : List Row) (o : ℕ) (r : Row) → All (IsGood arch) rows → row_at o rows ≡ Some r → IsGood arch r
unfolding row_at
good_at arch rows o r good e =
    let begun = filter (begins_by o) rows in
    let found = found_one (begins_last begun) r begun e in
    let own = of_filter (begins_by o) r rows found.0 in
    all_one rows good own.0
  where
    all_one : (rs : List Row) → All (IsGood arch) rs → IsOne r rs → IsGood arch r
    all_one [] h one = absurd one
    all_one (x ∷ rs) h (inl is) = subst (IsGood arch) (sym is) (All-head (IsGood arch) x rs h)
    all_one (x ∷ rs) h (inr one) = all_one rs (All-tail (IsGood arch) x rs h) one

same_said : (arch : Arch) (o : ℕ) (rows others : List Row) (key other_key : Key) → All (IsGood arch) rows → All (IsGood arch) others
    → option_map (λ (c : Content). recovery c key deciding_registers []) (content_at rows o) ≡ option_map (λ (c : Content). recovery c other_key deciding_registers []) (content_at others o)
    → content_at rows o ≡ content_at others o
same_said arch o rows others key other_key good other_good e = by_rows (row_at o rows) refl (row_at o others) refl e
  where
    by_rows : (x : Option Row) → row_at o rows ≡ x → (y : Option Row) → row_at o others ≡ y
        → option_map (λ (c : Content). recovery c key deciding_registers []) (option_map (λ (r : Row). r.content) (row_at o rows))
        ≡ option_map (λ (c : Content). recovery c other_key deciding_registers []) (option_map (λ (r : Row). r.content) (row_at o others))
        → content_at rows o ≡ content_at others o
    by_rows None p None q e = rw (p, q) refl
    by_rows None p (Some s) q e = let no = rw (p, q) at e in cc
    by_rows (Some r) p None q e = let no = rw (p, q) at e in cc
    by_rows (Some r) p (Some s) q e =
        let alike = rw (p, q) at e in
        let one = good_at arch rows o r good p in
        let other = good_at arch others o s other_good q in
        let same : r.content ≡ s.content = (same_contents arch r.content s.content key other_key one.range other.range one.fits other.fits (let is : recovery r.content key deciding_registers [] ≡ recovery s.content other_key deciding_registers [] = cc in is)).0 in
        rw (p, q) (ap (λ (c : Content). Some c) same)

-- ---- consecutive functions
next_ones : (f : Func) (fs : List Func) → AllAdjacentBelow EndsBy (f ∷ fs) (length (f ∷ fs)) → AllAdjacentBelow EndsBy fs (length fs)
next_ones f fs h k d lt =
    let same : suc k + 1 ≡ suc (k + 1) = omega arith in
    subst (λ j. EndsBy (get_or fs k d) (get_or (f ∷ fs) j d)) same (h (suc k) d (omega (lt, arith)))

all_after : (f : Func) (fs : List Func) → AllAdjacentBelow EndsBy (f ∷ fs) (length (f ∷ fs)) → All (EndsBy f) fs
all_after f [] h = All-nil (EndsBy f)
all_after f (g ∷ fs) h =
    let first : EndsBy f g = h 0 f (omega arith) in
    All-cons (EndsBy f) g fs first (All-weaker (EndsBy g) (EndsBy f) (λ x e. omega (first, e, arith)) fs (all_after g fs (next_ones f (g ∷ fs) h)))

pairs_of : (fs : List Func) → AllAdjacentBelow EndsBy fs (length fs) → AllPairs EndsBy fs
pairs_of [] h = pairs_none EndsBy
pairs_of (f ∷ fs) h = AllPairs-cons EndsBy f fs (all_after f fs h) (pairs_of fs (next_ones f fs h))

-- ---- the law
plain_rows : (shape : Shape) (size : ℕ) (rows : List Row) → shape ≡ Plain → slim_rows_of shape size rows ≡ slim_rows size rows
plain_rows shape size rows e = ap (λ s. slim_rows_of s size rows) e

plain_offset : (shape : Shape) (o : ℕ) → shape ≡ Plain → offset_in_block shape o ≡ o
plain_offset shape o e = ap (λ s. offset_in_block s o) e

slim_again : (size : ℕ) (rows : List Row) → RowsRise rows → slim_rows size (slim_rows size rows) ≡ slim_rows size rows
unfolding slim_rows
slim_again size rows h = rows_alike (content_at (slim_rows size rows)) (content_at rows) 0 size (λ p lt. slim_says size rows h p (omega (lt, arith)))

-- the rows of a section's functions rise
pub table_rises : (bytes : List ℕ) (at : ℕ) (given : Table) → Section bytes at given → All (λ (f : Func). RowsRise f.rows) given.functions
table_rises bytes at given is_section =
    All-weaker (IsSound given.arch) (λ (f : Func). RowsRise f.rows) (λ f s. s.rise) given.functions (functions_sound given.arch bytes given.flags at _ given.functions is_section.functions)

-- the own rows of a function that is needed are those that are needed
own_needed : (given : Table) (functions : List Func) → All (λ (f : Func). RowsRise f.rows) given.functions → AreNeeded given functions → (f : Func) → Member functions f → IsPlain f → slim_rows f.size f.rows ≡ f.rows
own_needed given functions rise slim f m plain =
    let back = from_table given functions rise slim 0 f m in
    let f0 = back.0 in
    let is : slim_function f0 ≡ f = back.3 in
    let rising = all_member (λ (x : Func). RowsRise x.rows) given.functions f0 rise back.1 in
    let p : f0.shape ≡ Plain = ap (λ (x : Func). x.shape) is ∙ plain in
    let size : f0.size ≡ f.size = ap (λ (x : Func). x.size) is in
    let rows : f.rows ≡ slim_rows f0.size f0.rows = sym (ap (λ (x : Func). x.rows) is) ∙ plain_rows f0.shape f0.size f0.rows p in
    ap (λ (k : ℕ). slim_rows k f.rows) (sym size) ∙ (ap (slim_rows f0.size) rows ∙ (slim_again f0.size f0.rows rising ∙ sym rows))

pub rows_least : (bytes : List ℕ) (at : ℕ) (given : Table) (functions : List Func) → Section bytes at given → AreNeeded given functions → All (λ (f : Func). IsPlain f → HasLeastRows given.arch f) functions
rows_least bytes at given functions is_section slim k d lt plain rows width stands le held =
    let f : Func = get_or functions k d in
    let m : Member functions f = member functions f (k, lt, get_or_default functions k f d lt) in
    let own = ap (λ (rs : List Row). rows_len rs) (own_needed given functions (table_rises bytes at given is_section) slim f m plain) in
    let fewer = none_is_shorter given.arch f rows width stands le held in
    omega (own, fewer, arith)

module _ (bytes : List ℕ) (at : ℕ) (given : Table) (functions : List Func) (is_section : Section bytes at given) (slim : AreNeeded given functions) (plain : All IsPlain functions)
    (place : ℕ) (other : List ℕ) (table : Table) (says : HasSameContent given functions place other table) where
  rise : All (λ (f : Func). RowsRise f.rows) given.functions
  rise = table_rises bytes at given is_section

  good : All (λ (f : Func). All (IsGood given.arch) f.rows) given.functions
  good = functions_good given.arch bytes given.flags at _ given.functions is_section.functions

  stand : FunctionsStand given.arch other table.flags place (section.functions_place other) table.functions
  stand = subst (λ (a : Arch). FunctionsStand a other table.flags place (section.functions_place other) table.functions) says.machine says.tight.section.functions

  other_good : All (λ (g : Func). All (IsGood given.arch) g.rows) table.functions
  other_good = functions_good given.arch other table.flags place _ table.functions stand

  other_sound : All (IsSound given.arch) table.functions
  other_sound = functions_sound given.arch other table.flags place _ table.functions stand

  other_apart : AllPairs IsApart table.functions
  other_apart =
      let sorted = says.tight.section.sorted (ap section.is_sorted says.tight.flags) in
      pairs_weaker EndsBy IsApart (λ f g h. inr (inr (inl h))) table.functions (pairs_of table.functions sorted)

  said_alike : (f0 g : Func) → Member given.functions f0 → Member table.functions g → f0.shape ≡ Plain → g.shape ≡ Plain → g.start ≡ f0.start → g.size ≡ f0.size → (o : ℕ) → o < f0.size → content_at g.rows o ≡ content_at f0.rows o
  unfolding recover_by_rows
  said_alike f0 g m n p q start size o lt =
      let pc : ℕ = f0.start + o in
      let in_f : contains pc f0 ≡ true = rw (le-leb f0.start pc (omega arith), lt-ltb pc (f0.start + f0.size) (omega (lt, arith))) refl in
      let in_g : contains pc g ≡ true = rw (le-leb g.start pc (omega (start, arith)), lt-ltb pc (g.start + g.size) (omega (lt, start, size, arith))) refl in
      let found_f : found_at given.functions pc ≡ row_in pc f0 = found_by given.functions pc (Some f0) (found_alone (contains pc) given.functions f0 (one_contains pc given.functions slim.apart) m in_f) in
      let found_g : found_at table.functions pc ≡ row_in pc g = found_by table.functions pc (Some g) (found_alone (contains pc) table.functions g (one_contains pc table.functions other_apart) n in_g) in
      let offset_f : offset_in_block f0.shape (pc - f0.start) ≡ o = plain_offset f0.shape (pc - f0.start) p ∙ omega arith in
      let offset_g : offset_in_block g.shape (pc - g.start) ≡ o = plain_offset g.shape (pc - g.start) q ∙ omega (start, arith) in
      let of_f : recovers deciding_registers [] (row_in pc f0) ≡ option_map (λ (c : Content). recovery c f0.key deciding_registers []) (content_at f0.rows o) =
      by_content f0 (row_at (offset_in_block f0.shape (pc - f0.start)) f0.rows) deciding_registers []
      ∙ ap (λ (k : ℕ). option_map (λ (c : Content). recovery c f0.key deciding_registers []) (content_at f0.rows k)) offset_f in
      let of_g : recovers deciding_registers [] (row_in pc g) ≡ option_map (λ (c : Content). recovery c g.key deciding_registers []) (content_at g.rows o) =
      by_content g (row_at (offset_in_block g.shape (pc - g.start)) g.rows) deciding_registers []
      ∙ ap (λ (k : ℕ). option_map (λ (c : Content). recovery c g.key deciding_registers []) (content_at g.rows k)) offset_g in
      let alike : recovers deciding_registers [] (found_at table.functions pc) ≡ recovers deciding_registers [] (found_at given.functions pc) = says.alike pc deciding_registers [] in
      same_said given.arch o g.rows f0.rows g.key f0.key
      (all_member (λ (x : Func). All (IsGood given.arch) x.rows) table.functions g other_good n)
      (all_member (λ (x : Func). All (IsGood given.arch) x.rows) given.functions f0 good m)
      (sym of_g ∙ (ap (recovers deciding_registers []) (sym found_g) ∙ (alike ∙ (ap (recovers deciding_registers []) found_f ∙ of_f))))

  fits : (f g : Func) → Member functions f → Member table.functions g → span g ≡ span f → Fits given.arch f g
  fits f g m n e =
      let back = from_table given functions rise slim 0 f m in
      let f0 = back.0 in
      let is : slim_function f0 ≡ f = back.3 in
      let rising = all_member (λ (x : Func). RowsRise x.rows) given.functions f0 rise back.1 in
      let p : f0.shape ≡ Plain = ap (λ (x : Func). x.shape) is ∙ all_member IsPlain functions f plain m in
      let q : g.shape ≡ Plain = all_member IsPlain table.functions g says.plain n in
      let start : g.start ≡ f0.start = ap (λ s. s.0) e ∙ sym (ap (λ (x : Func). x.start) is) in
      let size0 : f0.size ≡ f.size = ap (λ (x : Func). x.size) is in
      let size : g.size ≡ f0.size = ap (λ s. s.1) e ∙ sym size0 in
      let rows : f.rows ≡ slim_rows f0.size f0.rows = sym (ap (λ (x : Func). x.rows) is) ∙ plain_rows f0.shape f0.size f0.rows p in
      let own = all_member (IsSound given.arch) table.functions g other_sound n in
      record {
        stands = record {
          rise = own.rise;
          fit = own.fits;
          same = λ o lt.
              let within : o < f0.size = omega (lt, size0, arith) in
              said_alike f0 g back.1 n p q start size o within
              ∙ (sym (slim_says f0.size f0.rows rising o within) ∙ ap (λ (rs : List Row). content_at rs o) (sym rows));
        };
        least = own_needed given functions rise slim f m (all_member IsPlain functions f plain m);
      }

  each : (fs gs : List Func) → ((f : Func) → Member fs f → Member functions f) → ((g : Func) → Member gs g → Member table.functions g) → map span gs ≡ map span fs → Each given.arch fs gs
  each [] [] a b e = tt
  each [] (g ∷ gs) a b e = cc
  each (f ∷ fs) [] a b e = cc
  each (f ∷ fs) (g ∷ gs) a b e =
      let head : span g ≡ span f = cc in
      let rest : map span gs ≡ map span fs = cc in
      (fits f g (a f (inl refl)) (b g (inl refl)) head, each fs gs (λ x m. a x (inr m)) (λ x m. b x (inr m)) rest)

  pub not_shorter : section_len functions ≤ length other
  not_shorter =
      let gaps : WithoutGaps given.arch other (section.functions_place other) 0 table.functions =
      subst (λ (a : Arch). WithoutGaps a other (section.functions_place other) 0 table.functions) says.machine says.tight.without_gaps in
      let rows = room given.arch other table.flags place (section.functions_place other) 0 functions table.functions (each functions table.functions (λ f m. m) (λ g m. m) says.spans) stand gaps in
      let counts = ap length says.spans in
      let one = length-map table.functions span in
      let two = length-map functions span in
      omega (rows, says.tight.nothing_besides, counts, one, two, arith)

pub none_is_shorter_than : (bytes : List ℕ) (at : ℕ) (given : Table) (functions : List Func) → Section bytes at given → AreNeeded given functions → All IsPlain functions
    → (place : ℕ) (other : List ℕ) (table : Table) → HasSameContent given functions place other table → section_len functions ≤ length other
none_is_shorter_than bytes at given functions is_section slim plain place other table says = not_shorter bytes at given functions is_section slim plain place other table says
