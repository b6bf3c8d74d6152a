-- What was compared so far, and what is compared next.
use Rattle.std.specs.Prelude.{IsTrue, is_some, min, slice_get}
use Rattle.std.proofs.Common.{◌≡◌, ℕ, zero, suc, ◌+◌, ◌-◌, ◌<◌, ◌≤◌, Bool, true, false, List, [], ◌∷◌, get_or, length, Option, Some, None, refl, sym, ap, subst, ◌∙◌, arith, inl, inr}
use Rattle.std.specs.Option.{option_map}
use Rattle.std.proofs.lemmas.Bool.{cases_lt}
use Rattle.std.proofs.lemmas.List.{get_or_default}
use Rattle.sf_model.specs.declared.content.Content.{Content}
use Rattle.sf_model.specs.declared.function.Func.{Func}
use Rattle.sf_model.specs.declared.function.Shape.{Shape}
use Rattle.sf_model.specs.declared.function.Shape.TheVariants.{Plain, Repeat}
use Rattle.sf_model.specs.declared.machine.Arch.{Arch}
use Rattle.sf_model.specs.declared.rows.Row.{Row}
use Rattle.sf_model.specs.Function.{RowsRise}
use Rattle.sf_model.specs.Lookup.{row_at}
use Rattle.sf_verify.specs.declared.dwarf_cursor.DwarfCursor.{DwarfCursor}
use Rattle.sf_verify.specs.declared.dwarf_cursor.ContentUntil.{ContentUntil}
use Rattle.frame_functions.specs.declared.keyed_content.KeyedContent.{KeyedContent}
use Rattle.sf_verify.specs.declared.sweep.Difference.{Difference}
use Rattle.sf_verify.specs.Agreement.{Agree, RecoverSameFrame, without_key, is_plain, is_plain_shape}
use Rattle.sf_verify.specs.Asking.{IsKnownUpTo, IsReady, IsSame, Knows}
use Rattle.sf_verify.specs.Comparing.{Compares, edge, edge_of, function_content}
use Rattle.frame_functions.specs.ContentAt.{Answers, with_key}
use Rattle.sf_verify.proofs.HolderContent.{plain_says}
use Rattle.sf_verify.proofs.Rows.{no_row_at_all, no_row_before, row_at_place}

-- ---- asked further on
pub later : (d : DwarfCursor) (pc more : ℕ) → IsReady d pc → pc ≤ more → IsReady d more
later d pc more h le = record {
  holders = h.holders;
  held = h.held;
  kept_passed = λ i f before lt. let ends = h.kept_passed i f before lt in omega (arith, ends, le);
  omitted_passed = λ i s before lt. let ends = h.omitted_passed i s before lt in omega (arith, ends, le);
}

pub same_again : (a b c : DwarfCursor) → IsSame a b → IsSame b c → IsSame a c
same_again a b c h g = record { arch = g.arch ∙ h.arch; kept = g.kept ∙ h.kept; omitted = g.omitted ∙ h.omitted; says = g.says ∙ h.says }

pub same_self : (a : DwarfCursor) → IsSame a a
same_self a = record { arch = refl; kept = refl; omitted = refl; says = refl }

-- ---- one run of addresses
-- what says the same agrees
pub agree_self : (said : Option KeyedContent) → Agree said said
agree_self None = tt
agree_self (Some said) = λ regs memory. refl

-- nothing was compared yet
pub none_yet : (section dwarf : Answers) (from : ℕ) → Compares section dwarf from from None
none_yet section dwarf from = λ pc low high. absurd (omega (arith, low, high))

-- they differ in a part
pub differ_in : (section dwarf : Answers) (from mid next end : ℕ) (d : Option Difference) → is_some d ≡ true → from ≤ mid → next ≤ end → Compares section dwarf from mid None → Compares section dwarf mid next d → Compares section dwarf from end d
differ_in section dwarf from mid next end None t le up h g = cc
differ_in section dwarf from mid next end (Some d) t le up h g = record {
  from_here = omega (arith, le, g.from_here);
  below = omega (arith, g.below, up);
  section_content = g.section_content;
  dwarf_content = g.dwarf_content;
  differ = g.differ;
  before = λ pc low high. elim (cases_lt pc mid) [
    | inl earlier ↦ h pc low earlier
    | inr not_earlier ↦ g.before pc (omega (arith, not_earlier)) high
  ];
}

-- two runs, one after the other
pub both_compare : (section dwarf : Answers) (from mid end : ℕ) (d : Option Difference) → from ≤ mid → mid ≤ end → Compares section dwarf from mid None → Compares section dwarf mid end d → Compares section dwarf from end d
both_compare section dwarf from mid end None le up h g = λ pc low high. elim (cases_lt pc mid) [
  | inl before ↦ h pc low before
  | inr not_before ↦ g pc (omega (arith, not_before)) high
]
both_compare section dwarf from mid end (Some d) le up h g = differ_in section dwarf from mid end end (Some d) refl le (omega arith) h g

-- an address at which they differ
pub differ_here : (section dwarf : Answers) (from end pc : ℕ) (ours : Content) (theirs : Option Content) → from ≤ pc → pc < end → Compares section dwarf from pc None → without_key (section pc) ≡ Some ours → without_key (dwarf pc) ≡ theirs → (Agree (section pc) (dwarf pc) → ⊥)
    → Compares section dwarf from end (Some (record { pc = pc; section = ours; dwarf = theirs }))
differ_here section dwarf from end pc ours theirs le lt h ours_is theirs_is differ = record {
  from_here = le;
  below = lt;
  section_content = ours_is;
  dwarf_content = theirs_is;
  differ = differ;
  before = λ p low high. h p low high;
}

-- nothing is known there
pub nothing_there : (said : KeyedContent) (dwarf : Answers) (from end pc : ℕ) → from ≤ pc → pc < end → Compares (λ p. Some said) dwarf from pc None → dwarf pc ≡ None
    → Compares (λ p. Some said) dwarf from end (Some (record { pc = pc; section = said.content; dwarf = None }))
nothing_there said dwarf from end pc le lt h none =
    differ_here (λ p. Some said) dwarf from end pc said.content None le lt h refl (ap without_key none) (λ agree. subst (Agree (Some said)) none agree)

-- something else is known there
pub other_there : (arch : Arch) (said : KeyedContent) (known : ContentUntil) (dwarf : Answers) (from end pc : ℕ) → from ≤ pc → pc < end → Compares (λ p. Some said) dwarf from pc None → IsKnownUpTo arch dwarf pc known → (RecoverSameFrame said known.said → ⊥)
    → Compares (λ p. Some said) dwarf from end (Some (record { pc = pc; section = said.content; dwarf = Some known.said.content }))
other_there arch said known dwarf from end pc le lt h there differ =
    let here : dwarf pc ≡ Some known.said = there.steady pc (omega arith) there.from_here in
    differ_here (λ p. Some said) dwarf from end pc said.content (Some known.said.content) le lt h refl (ap without_key here) (λ agree. differ (subst (Agree (Some said)) here agree))

-- what is known there recovers alike, up to where it goes
pub alike_on : (arch : Arch) (said : KeyedContent) (known : ContentUntil) (dwarf : Answers) (from pc end : ℕ) → end ≤ known.last + 1 → Compares (λ p. Some said) dwarf from pc None → IsKnownUpTo arch dwarf pc known → RecoverSameFrame said known.said → Compares (λ p. Some said) dwarf from end None
alike_on arch said known dwarf from pc end short h there alike = λ p low high. elim (cases_lt p pc) [
  | inl before ↦ h p low before
  | inr not_before ↦ subst (Agree (Some said)) (sym (there.steady p (omega (arith, not_before)) (omega (arith, high, short)))) alike
]

-- ---- one function
-- another way to say what the section says
pub compare_alike : (section other dwarf : Answers) (from end : ℕ) (d : Option Difference) → ((pc : ℕ) → from ≤ pc → pc < end → section pc ≡ other pc) → Compares section dwarf from end d → Compares other dwarf from end d
compare_alike section other dwarf from end None same h = λ pc low high. subst (λ x. Agree x (dwarf pc)) (same pc low high) (h pc low high)
compare_alike section other dwarf from end (Some d) same h =
    let here = same d.pc h.from_here h.below in
    record {
      from_here = h.from_here;
      below = h.below;
      section_content = ap without_key (sym here) ∙ h.section_content;
      dwarf_content = h.dwarf_content;
      differ = λ agree. h.differ (subst (λ x. Agree x (dwarf d.pc)) (sym here) agree);
      before = λ pc low high. subst (λ x. Agree x (dwarf pc)) (same pc low (omega (arith, high, h.below))) (h.before pc low high);
    }

plain_shape : (f : Func) (shape : Shape) → f.shape ≡ shape → IsTrue (is_plain f) → f.shape ≡ Plain
plain_shape f Plain is h = is
plain_shape f (Repeat size) is h = let no = subst (λ (s : Shape). IsTrue (is_plain_shape s)) is h in cc

pub is_plain_is : (f : Func) → IsTrue (is_plain f) → f.shape ≡ Plain
is_plain_is f h = plain_shape f f.shape refl h

-- the edge at a place
edge_there : (rows : List Row) (place size : ℕ) (d : Row) → place < length rows → edge rows place size ≡ min (get_or rows place d).start size
edge_there [] place size d lt = absurd (omega (arith, lt))
edge_there (r ∷ rows) zero size d lt = refl
edge_there (r ∷ rows) (suc place) size d lt = edge_there rows place size d (omega (arith, lt))

edge_past : (rows : List Row) (place size : ℕ) → length rows ≤ place → edge rows place size ≡ size
edge_past [] place size le = refl
edge_past (r ∷ rows) zero size le = absurd (omega (arith, le))
edge_past (r ∷ rows) (suc place) size le = edge_past rows place size (omega (arith, le))

pub edge_within : (rows : List Row) (place size : ℕ) → edge rows place size ≤ size
edge_within rows place size = within (slice_get rows place)
  where
    within : (found : Option Row) → edge_of found size ≤ size
    within (Some r) = omega arith
    within None = omega arith

-- the edges rise
pub edge_rises : (rows : List Row) (place size : ℕ) → RowsRise rows → edge rows place size ≤ edge rows (place + 1) size
edge_rises rows place size h = elim (cases_lt (place + 1) (length rows)) [
  | inl more ↦ by_row rows more h
  | inr last ↦
      let here = edge_within rows place size in
      let next = edge_past rows (place + 1) size (omega (arith, last)) in
      omega (arith, here, next)
]
  where
    by_row : (rows : List Row) → place + 1 < length rows → RowsRise rows → edge rows place size ≤ edge rows (place + 1) size
    by_row [] more h = absurd (omega (arith, more))
    by_row (r ∷ rows) more h =
        let here = edge_there (r ∷ rows) place size r (omega (arith, more)) in
        let next = edge_there (r ∷ rows) (place + 1) size r more in
        let rise = h place r more in
        omega (arith, here, next, rise)

-- before the first row the function says nothing
pub nothing_first : (f : Func) (dwarf : Answers) (from : ℕ) → f.shape ≡ Plain → RowsRise f.rows → from ≡ edge f.rows 0 f.size → Compares (function_content f) dwarf f.start (f.start + from) None
nothing_first f dwarf from plain rise is = go f.rows refl
  where
    go : (rows : List Row) → f.rows ≡ rows → Compares (function_content f) dwarf f.start (f.start + from) None
    go rows same = λ pc low high.
        let none : row_at (pc - f.start) f.rows ≡ None = before rows same pc low high in
        subst (λ x. Agree x (dwarf pc)) (sym (plain_says f pc plain ∙ ap (λ (o : Option Row). option_map (with_key f.key) (option_map (λ (r : Row). r.content) o)) none)) tt
      where
        before : (rows : List Row) → f.rows ≡ rows → (pc : ℕ) → f.start ≤ pc → pc < f.start + from → row_at (pc - f.start) f.rows ≡ None
        before [] same pc low high = ap (row_at (pc - f.start)) same ∙ no_row_at_all (pc - f.start)
        before (r ∷ rows) same pc low high =
            let edge_is : from ≡ min r.start f.size = is ∙ ap (λ (rs : List Row). edge rs 0 f.size) same in
            ap (row_at (pc - f.start)) same ∙ no_row_before (pc - f.start) (r ∷ rows) r (subst RowsRise same rise) (λ lt. omega (arith, high, low, edge_is))

-- in a run from a row to the next the function says what the row says
pub row_says : (f : Func) (place from end : ℕ) (row : Row) → f.shape ≡ Plain → RowsRise f.rows → place < length f.rows → row ≡ get_or f.rows place row → from ≡ edge f.rows place f.size → end ≡ edge f.rows (place + 1) f.size → from < end
    → (pc : ℕ) → f.start + from ≤ pc → pc < f.start + end → Some (with_key f.key row.content) ≡ function_content f pc
row_says f place from end row plain rise lt is from_is end_is some = λ pc low high.
    let here = from_is ∙ edge_there f.rows place f.size row lt in
    let within = edge_within f.rows (place + 1) f.size in
    let begins : (get_or f.rows place row).start ≤ pc - f.start = omega (arith, here, end_is, within, some, low) in
    let next : place + 1 < length f.rows → pc - f.start < (get_or f.rows (place + 1) row).start = λ more. let there = end_is ∙ edge_there f.rows (place + 1) f.size row more in omega (arith, there, high, low, some) in
    let found : row_at (pc - f.start) f.rows ≡ Some (get_or f.rows place row) = row_at_place (pc - f.start) place f.rows row rise lt begins next in
    sym (plain_says f pc plain ∙ ap (λ (o : Option Row). option_map (with_key f.key) (option_map (λ (r : Row). r.content) o)) found ∙ ap (λ (r : Row). Some (with_key f.key r.content)) (sym is))

-- ---- results
pub known_some : (arch : Arch) (answers : Answers) (pc : ℕ) (result : Option ContentUntil) (known : ContentUntil) → result ≡ Some known → Knows arch answers pc result → IsKnownUpTo arch answers pc known
known_some arch answers pc result known is h = subst (Knows arch answers pc) is h

-- the run of a row, as the function says it
run_of : (f : Func) (said : KeyedContent) (asked dwarf : Answers) (place from end first next : ℕ) (row : Row) (d : Option Difference) → asked ≡ dwarf → f.shape ≡ Plain → RowsRise f.rows → place < length f.rows → row ≡ get_or f.rows place row
    → from ≡ edge f.rows place f.size → end ≡ edge f.rows (place + 1) f.size → from < end → first ≡ f.start + from → next ≡ f.start + end → said ≡ with_key f.key row.content
    → Compares (λ pc. Some said) asked first next d → Compares (function_content f) dwarf (f.start + from) (f.start + end) d
run_of f said asked dwarf place from end first next row d same plain rise lt is from_is end_is some first_is next_is said_is h =
    compare_alike (λ pc. Some said) (function_content f) dwarf (f.start + from) (f.start + end) d
    (λ pc low high. ap (λ (s : KeyedContent). Some s) said_is ∙ row_says f place from end row plain rise lt is from_is end_is some pc low high)
    (subst (λ (n : ℕ). Compares (λ pc. Some said) dwarf (f.start + from) n d) next_is
    (subst (λ (m : ℕ). Compares (λ pc. Some said) dwarf m next d) first_is
    (subst (λ (q : Answers). Compares (λ pc. Some said) q first next d) same h)))

-- some row, where there is one
pub row_in_place : (rows : List Row) (place : ℕ) → place < length rows → (row : Row) × (row ≡ get_or rows place row)
row_in_place [] place lt = absurd (omega (arith, lt))
row_in_place (r ∷ rows) place lt = (get_or (r ∷ rows) place r, get_or_default (r ∷ rows) place r (get_or (r ∷ rows) place r) lt)

pub run_of_row : (f : Func) (rows : List Row) (said : KeyedContent) (asked dwarf : Answers) (place from end first next : ℕ) (d : Option Difference) → asked ≡ dwarf → f.shape ≡ Plain → RowsRise f.rows → rows ≡ f.rows → place < length rows
    → from ≡ edge rows place f.size → end ≡ edge rows (place + 1) f.size → from < end → first ≡ f.start + from → next ≡ f.start + end → ((row : Row) → said ≡ with_key f.key (get_or rows place row).content)
    → Compares (λ pc. Some said) asked first next d → Compares (function_content f) dwarf (f.start + from) (f.start + end) d
run_of_row f rows said asked dwarf place from end first next d same plain rise rows_are lt from_is end_is some first_is next_is said_is h =
    let lt' : place < length f.rows = subst (λ (rs : List Row). place < length rs) rows_are lt in
    let row = row_in_place f.rows place lt' in
    let said' : said ≡ with_key f.key row.0.content = said_is row.0 ∙ ap (λ (rs : List Row). with_key f.key (get_or rs place row.0).content) rows_are ∙ ap (λ (r : Row). with_key f.key r.content) (sym row.1) in
    run_of f said asked dwarf place from end first next row.0 d same plain rise lt' row.1 (from_is ∙ ap (λ (rs : List Row). edge rs place f.size) rows_are) (end_is ∙ ap (λ (rs : List Row). edge rs (place + 1) f.size) rows_are) some first_is next_is said' h

pub no_difference : (d : Option Difference) (b : Bool) → b ≡ is_some d → b ≡ false → d ≡ None
no_difference None b is e = refl
no_difference (Some d) b is e = cc
