-- The function that has an address, and what it says there.
use Rattle.std.specs.Option.{option_and_then, option_map}
use Rattle.std.proofs.Common.{◌≡◌, ℕ, ◌+◌, ◌-◌, ◌^◌, ◌<◌, ◌≤◌, Bool, true, false, cond, List, [], ◌∷◌, get_or, length, Option, Some, None, refl, sym, ap, subst, ◌∙◌, arith, inl, inr}
use Rattle.std.specs.Prelude.{nat_le}
use Rattle.std.proofs.lemmas.Bool.{cases_lt}
use Rattle.std.proofs.lemmas.List.{get_or_default}
use Rattle.std.proofs.lemmas.List.Elements.{All-head, All-tail}
use Rattle.sf_model.specs.declared.content.Content.{Content}
use Rattle.sf_model.specs.declared.function.Func.{Func}
use Rattle.sf_model.specs.declared.function.FuncHead.{FuncHead}
use Rattle.sf_model.specs.declared.function.Shape.{Shape}
use Rattle.sf_model.specs.declared.function.Shape.TheVariants.{Plain}
use Rattle.sf_model.specs.declared.machine.Arch.{Arch}
use Rattle.sf_model.specs.declared.rows.Row.{Row}
use Rattle.sf_model.specs.Lookup.{offset_in_block, row_at}
use Rattle.sf_decode.specs.declared.iter.RowIter.{RowIter}
use Rattle.sf_decode.specs.View.{head_of, rows_left}
use Rattle.sf_express.specs.declared.content_ranges.ContentRange.{ContentRange}
use Rattle.sf_express.specs.ContentRanges.{AreRanges, RangesHave, content_by}
use Rattle.frame_functions.specs.Functions.{Function}
use Rattle.sf_verify.specs.declared.dwarf_cursor.CurrentFunction.{CurrentFunction}
use Rattle.frame_functions.specs.ContentAt.{AllFit, Answers, IfFits, form_content, content_in_function, with_key}
use Rattle.sf_verify.specs.Asking.{AreHolders, IsHeld, IsKnownUpTo, IsRowed, KeptPassed, OmittedPassed}
use Rattle.sf_verify.specs.Comparing.{func_read, function_content}
use Rattle.sf_verify.specs.SectionContent.{by_row}
use Rattle.sf_verify.proofs.Rows.{as_ranges, as_ranges_are, as_ranges_fit, content_of_row, ranges_as_rows}

-- ---- what is known
said_fits : (arch : Arch) (o : ℕ) (found : Option (Option Content)) (ranges : List ContentRange) (content : Option Content) → ((c : Option Content) → found ≡ Some c → IfFits arch c) → AllFit arch ranges → content_by o found ranges ≡ Some content → IfFits arch content
said_fits arch o found [] content before h e = before content e
said_fits arch o found (p ∷ ranges) content before h e =
    let P : ContentRange → Type 0 = λ (q : ContentRange). IfFits arch q.content in
    at_test (nat_le p.start o) e
    (said_fits arch o (Some p.content) ranges content (λ c same. let is : p.content ≡ c = cc in subst (IfFits arch) is (All-head P p ranges h)) (All-tail P p ranges h))
  where
    at_test : (b : Bool) → cond b (content_by o (Some p.content) ranges) found ≡ Some content → (content_by o (Some p.content) ranges ≡ Some content → IfFits arch content) → IfFits arch content
    at_test true e later = later e
    at_test false e later = before content e

pub known_is : (arch : Arch) (answers : Answers) (h : CurrentFunction) (pc last : ℕ) (content : Content) → IsHeld arch answers h → h.start ≤ pc → pc < h.start + h.size → pc - h.start ≤ last → last < h.size
    → ((o : ℕ) → pc - h.start ≤ o → o ≤ last → content_by o None h.ranges.items ≡ Some (Some content))
    → IsKnownUpTo arch answers pc (record { said = record { content = content; key = h.key }; last = h.start + last })
known_is arch answers h pc last content held from to low within said = record {
  from_here = omega (arith, from, low);
  steady = λ p le high.
      held.says p (Some content) (omega (arith, from, le)) (omega (arith, high, within)) (said (p - h.start) (omega (arith, from, le)) (omega (arith, high, from, le)));
  fits = said_fits arch (pc - h.start) None h.ranges.items (Some content) (λ c same. cc) held.fits (said (pc - h.start) (omega arith) low);
}

pub nothing_known : (arch : Arch) (answers : Answers) (h : CurrentFunction) (pc : ℕ) → IsHeld arch answers h → h.start ≤ pc → pc < h.start + h.size → content_by (pc - h.start) None h.ranges.items ≡ Some None → answers pc ≡ None
nothing_known arch answers h pc held from to said = held.says pc None from to said

-- ---- a kept function
by_plain : (f : Func) (shape : Shape) (found : Option Row) → shape ≡ Plain → f.shape ≡ shape → option_and_then by_row (option_map (λ (row : Row). record { func = f; row = row }) found) ≡ option_map (with_key f.key) (option_map (λ (r : Row). r.content) found)
by_plain f shape None plain is = refl
by_plain f shape (Some r) plain is = let same : f.shape ≡ Plain = is ∙ plain in rw same refl

pub plain_says : (f : Func) (pc : ℕ) → f.shape ≡ Plain → function_content f pc ≡ option_map (with_key f.key) (option_map (λ (r : Row). r.content) (row_at (pc - f.start) f.rows))
plain_says f pc plain =
    ap (λ (s : Shape). option_and_then by_row (option_map (λ (row : Row). record { func = f; row = row }) (row_at (offset_in_block s (pc - f.start)) f.rows))) plain
    ∙ by_plain f f.shape (row_at (pc - f.start) f.rows) plain refl

row_content : (found : Option Row) (content : Option Content) → content_of_row found ≡ Some content → option_map (λ (r : Row). r.content) found ≡ content
row_content None content e = cc
row_content (Some r) content e = let is : Some r.content ≡ content = cc in is

record IsTaken (h : CurrentFunction) (f : Func) : Type 0 where
  start : h.start ≡ f.start
  size : h.size ≡ f.size
  key : h.key ≡ f.key
  ranges : h.ranges.items ≡ as_ranges f.rows

taken_held : (arch : Arch) (answers : Answers) (h : CurrentFunction) (f : Func) → IsTaken h f → IsRowed arch f → ((pc : ℕ) → f.start ≤ pc → pc < f.start + f.size → answers pc ≡ function_content f pc) → IsHeld arch answers h
taken_held arch answers h f t rowed holds = record {
  end = rw (t.start, t.size) rowed.end;
  ranges = λ some. rw (t.size, t.ranges) (as_ranges_are f.size f.rows rowed.first rowed.rise rowed.below);
  says = λ pc content from to said.
      let from' : f.start ≤ pc = omega (arith, from, t.start) in
      let to' : pc < f.start + f.size = omega (arith, to, t.start, t.size) in
      let said' : content_by (pc - f.start) None (as_ranges f.rows) ≡ Some content = subst (λ (k : ℕ). content_by (pc - k) None (as_ranges f.rows) ≡ Some content) t.start (subst (λ (ps : List ContentRange). content_by (pc - h.start) None ps ≡ Some content) t.ranges said) in
      let row : content_of_row (row_at (pc - f.start) f.rows) ≡ Some content = sym (ranges_as_rows (pc - f.start) f.rows rowed.rise) ∙ said' in
      holds pc from' to' ∙ plain_says f pc rowed.plain ∙ ap (option_map (with_key f.key)) (row_content (row_at (pc - f.start) f.rows) content row) ∙ ap (λ k. option_map (with_key k) content) (sym t.key);
  fits = subst (AllFit arch) (sym t.ranges) (as_ranges_fit arch f.rows rowed.fits);
}

pub kept_held : (arch : Arch) (answers : Answers) (kept : List Func) (omitted : List Function) (place : ℕ) (f : Func) (h : CurrentFunction) → AreHolders arch answers kept omitted → place < length kept → f ≡ get_or kept place f
    → h.start ≡ f.start → h.size ≡ f.size → h.key ≡ f.key → h.ranges.items ≡ as_ranges f.rows → IsHeld arch answers h
kept_held arch answers kept omitted place f h holders lt is start size key ranges =
    let taken : IsTaken h f = record { start = start; size = size; key = key; ranges = ranges } in
    taken_held arch answers h f taken (subst (IsRowed arch) (sym is) (holders.kept_rowed place f lt))
    (λ pc from to. subst (λ (g : Func). g.start ≤ pc → pc < g.start + g.size → answers pc ≡ function_content g pc) (sym is) (holders.kept_content place f lt pc) from to)

-- the function of a head and of rows that were read
read_is : (f : Func) (head : FuncHead) (rows : RowIter) → head_of f ≡ head → rows_left rows ≡ f.rows → f ≡ func_read head rows
read_is f head rows is same =
    ap (λ (h : FuncHead). record { start = h.start; size = h.size; shape = h.shape; key = h.key; rows = f.rows }) is
    ∙ ap (λ (rs : List Row). record { start = head.start; size = head.size; shape = head.shape; key = head.key; rows = rs }) (sym same)

-- a kept function that was read says what is said at each of its addresses
pub kept_alike : (arch : Arch) (answers : Answers) (kept : List Func) (omitted : List Function) (place : ℕ) (d : Func) (head : FuncHead) (rows : RowIter) → AreHolders arch answers kept omitted → place < length kept
    → head_of (get_or kept place d) ≡ head → rows_left rows ≡ (get_or kept place d).rows → (pc : ℕ) → head.start ≤ pc → pc < head.start + head.size → answers pc ≡ function_content (func_read head rows) pc
kept_alike arch answers kept omitted place d head rows holders lt is same pc from to =
    let f : Func = get_or kept place d in
    let start : f.start ≡ head.start = ap (λ (h : FuncHead). h.start) is in
    let size : f.size ≡ head.size = ap (λ (h : FuncHead). h.size) is in
    holders.kept_content place d lt pc (omega (arith, from, start)) (omega (arith, to, start, size)) ∙ ap (λ (g : Func). function_content g pc) (read_is f head rows is same)

-- ---- an omitted function
pub omitted_held : (arch : Arch) (answers : Answers) (kept : List Func) (omitted : List Function) (place : ℕ) (f : Function) (h : CurrentFunction) → AreHolders arch answers kept omitted → place < length omitted → f ≡ get_or omitted place f → f.start + f.size ≤ 2 ^ 64
    → h.start ≡ f.start → h.size ≡ f.size → h.key ≡ f.key → AreRanges f.size h.ranges.items → RangesHave f.size h.ranges.items (form_content f) → AllFit f.arch h.ranges.items → IsHeld arch answers h
omitted_held arch answers kept omitted place f h holders lt is end start size key ranges say fit = record {
  end = rw (start, size) end;
  ranges = λ some. rw size ranges;
  says = λ pc content from to said.
      let from' : f.start ≤ pc = omega (arith, from, start) in
      let to' : pc < f.start + f.size = omega (arith, to, start, size) in
      let here = subst (λ (g : Function). g.start ≤ pc → pc < g.start + g.size → answers pc ≡ content_in_function pc g) (sym is) (holders.omitted_content place f lt pc) from' to' in
      let there : content_by (pc - h.start) None h.ranges.items ≡ Some (form_content f (pc - h.start)) = say (pc - h.start) (omega (arith, from, to, size)) in
      let same : form_content f (pc - h.start) ≡ content = let e = sym there ∙ said in cc in
      here ∙ ap (λ (k : ℕ). option_map (with_key f.key) (form_content f (pc - k))) (sym start) ∙ ap (option_map (with_key f.key)) same ∙ ap (λ k. option_map (with_key k) content) (sym key);
  fits = subst (λ (a : Arch). AllFit a h.ranges.items) (ap (λ (g : Function). g.arch) is ∙ holders.omitted_here place f lt) fit;
}

-- the function at a place has the address
pub lent_has : (fs : List Function) (place pc : ℕ) (f : Function) → f ≡ get_or fs place f → (get_or fs place f).start ≤ pc → pc < (get_or fs place f).start + (get_or fs place f).size → (f.start ≤ pc) × (pc < f.start + f.size)
lent_has fs place pc f is from to = (subst (λ (g : Function). g.start ≤ pc) (sym is) from, subst (λ (g : Function). pc < g.start + g.size) (sym is) to)

-- ---- none has the address
pub none_kept : (kept : List Func) (next pc : ℕ) (d : Func) → KeptPassed kept next pc → ((i j : ℕ) (d : Func) → i ≤ j → j < length kept → (get_or kept i d).start ≤ (get_or kept j d).start) → (next < length kept → pc < (get_or kept next d).start)
    → (i : ℕ) (f : Func) → i < length kept → (get_or kept i f).start ≤ pc → pc < (get_or kept i f).start + (get_or kept i f).size → ⊥
none_kept kept next pc d passed rise after i f lt from to = elim (cases_lt i next) [
  | inl before ↦ let ends = passed i f before lt in omega (arith, ends, to)
  | inr not_before ↦
      let low : next ≤ i = omega (arith, not_before) in
      let here : next < length kept = omega (arith, low, lt) in
      let first : pc < (get_or kept next f).start = subst (λ (g : Func). pc < g.start) (get_or_default kept next d f here) (after here) in
      let up = rise next i f low lt in
      omega (arith, first, up, from)
]

pub none_omitted : (omitted : List Function) (next pc : ℕ) (d : Function) → OmittedPassed omitted next pc → ((i j : ℕ) (d : Function) → i ≤ j → j < length omitted → (get_or omitted i d).start ≤ (get_or omitted j d).start) → (next < length omitted → pc < (get_or omitted next d).start)
    → (i : ℕ) (f : Function) → i < length omitted → (get_or omitted i f).start ≤ pc → pc < (get_or omitted i f).start + (get_or omitted i f).size → ⊥
none_omitted omitted next pc d passed rise after i f lt from to = elim (cases_lt i next) [
  | inl before ↦ let ends = passed i f before lt in omega (arith, ends, to)
  | inr not_before ↦
      let low : next ≤ i = omega (arith, not_before) in
      let here : next < length omitted = omega (arith, low, lt) in
      let first : pc < (get_or omitted next f).start = subst (λ (g : Function). pc < g.start) (get_or_default omitted next d f here) (after here) in
      let up = rise next i f low lt in
      omega (arith, first, up, from)
]
