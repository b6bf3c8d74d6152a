-- What the gathered functions of inputs say at each address, in the two lists of kept and omitted ones.
use Rattle.std.specs.Prelude.{not}
use Rattle.std.specs.List.{All, cons_option, filter, filter_map, find, range_with_len}
use Rattle.std.specs.List.Sorted.{IsPermutation, IsNonDecreasingBy}
use Rattle.std.specs.Option.{option_and_then, option_map}
use Rattle.std.proofs.Common.{◌≡◌, ℕ, zero, suc, ◌+◌, ◌-◌, ◌<◌, ◌≤◌, Bool, true, false, cond, List, [], ◌∷◌, get_or, length, map, Option, Some, None, Result, Ok, Err, refl, sym, ap, subst, ◌∙◌, arith}
use Rattle.std.proofs.lemmas.Bool.{le-leb, lt-ltb}
use Rattle.std.proofs.lemmas.List.{length-map}
use Rattle.std.proofs.lemmas.List.Elements.{All-nil, All-cons, All-filter, All-map, filter_passes}
use Rattle.std.proofs.lemmas.List.Kept.{IsNonDecreasingBy-filter}
use Rattle.std.proofs.lemmas.List.Sorted.{All-permutation}
use Rattle.sf_model.specs.declared.content.Content.{Content}
use Rattle.sf_model.specs.declared.function.Func.{Func}
use Rattle.sf_model.specs.declared.machine.Arch.{Arch}
use Rattle.sf_model.specs.declared.omission.Omission.{Omission}
use Rattle.sf_model.specs.declared.omission.Reason.{Reason}
use Rattle.sf_model.specs.declared.rows.Row.{Row}
use Rattle.sf_model.specs.Function.{IsWritable}
use Rattle.sf_model.specs.Lookup.{contains, row_at}
use Rattle.sf_express.specs.Offsets.{without_reason}
use Rattle.sf_express.specs.ContentRanges.{content_in}
use Rattle.sf_express.specs.Runs.{ContentsByOffset, begins, expressed, function_of, omission_of, row_there, rows_among, rows_of}
use Rattle.sf_express.proofs.Found.{SaysContent, content_said, row_said}
use Rattle.sf_express.proofs.Runs.{takes}
use Rattle.frame_functions.specs.ReadFunction.{kept_of}
use Rattle.frame_functions.specs.Functions.{holds_address, Function}
use Rattle.frame_functions.specs.Kept.{read_of, facts_of, is_kept, omitted_functions, row_contents}
use Rattle.frame_functions.specs.Order.{are_apart}
use Rattle.frame_functions.specs.Descriptions.{function_start}
use Rattle.sf_merge.proofs.Apart.{all_back}
use Rattle.sf_model.proofs.Unions as unions
use Rattle.sf_model.proofs.Unions.{Member, found, found_alone, in_filter, some_found}
use Rattle.sf_asm.proofs.OneFound.{found_alike}
use Rattle.sf_asm.proofs.OneHolder.{IsFine, fine, has_form_if, is_within, one_holds, within}
use Rattle.sf_asm.proofs.ListMembers.{all_members, in_map, placed}
use Rattle.sf_verify.specs.Asking.{AreHolders, IsRowed, RowsBegin, answers_of, by_holder}
use Rattle.sf_verify.specs.Comparing.{function_content}
use Rattle.frame_functions.specs.ContentAt.{Answers, dwarf_at, form_content, content_in_function, with_key}
use Rattle.sf_verify.proofs.HolderContent.{plain_says}

-- ---- a kept function
abbrev pub expressed_of : Function → Func
expressed_of f = expressed (facts_of f) (row_contents f)

row_is : (found : Option Row) (said : Result Content Reason) → without_reason (option_map (λ (r : Row). r.content) found) ≡ Some said → option_map (λ (r : Row). r.content) found ≡ content_in said
row_is None said e = cc
row_is (Some r) said e = let is : Ok r.content ≡ said = cc in ap content_in is

-- it says what its instructions say
kept_content : (f : Function) (pc : ℕ) → IsFine f → f.start ≤ pc → pc < f.start + f.size → content_in_function pc f ≡ function_content (expressed_of f) pc
kept_content f pc h low high =
    let lt : pc - f.start < f.size = omega (arith, low, high) in
    let form : form_content f (pc - f.start) ≡ content_in (row_contents f (pc - f.start)) = rw (has_form_if f h.whole) refl in
    let row = row_is (row_at (pc - f.start) (rows_of (row_contents f) f.size)) (row_contents f (pc - f.start)) (row_said (row_contents f) f.size h.rows (pc - f.start) lt) in
    ap (option_map (with_key f.key)) (form ∙ sym row) ∙ sym (plain_says (expressed_of f) pc refl)

-- its rows begin at 0 and below the size
rows_below : (says : ContentsByOffset) (a n end : ℕ) → a + n ≤ end → All (λ (r : Row). r.start < end) (rows_among says (range_with_len a n))
rows_below says a zero end le = All-nil (λ (r : Row). r.start < end)
rows_below says a (suc n) end le = at_test (begins says a) (rows_below says (a + 1) n end (omega (arith, le)))
  where
    one : (x : Result Content Reason) (rows : List Row) → All (λ (r : Row). r.start < end) rows → All (λ (r : Row). r.start < end) (cons_option (row_there a x) rows)
    one (Ok c) rows h = All-cons (λ (r : Row). r.start < end) (record { start = a; content = c }) rows (omega (arith, le)) h
    one (Err reason) rows h = h

    at_test : (b : Bool) → All (λ (r : Row). r.start < end) (rows_among says (range_with_len (a + 1) n))
        → All (λ (r : Row). r.start < end) (filter_map (λ (o : ℕ). row_there o (says o)) (cond b (a ∷ filter (begins says) (range_with_len (a + 1) n)) (filter (begins says) (range_with_len (a + 1) n))))
    at_test true h = one (says a) (rows_among says (range_with_len (a + 1) n)) h
    at_test false h = h

rows_begin : (says : ContentsByOffset) (size : ℕ) → 0 < size → ((o : ℕ) → o < size → SaysContent (says o)) → RowsBegin (rows_of says size)
unfolding rows_of
rows_begin says zero some h = absurd (omega (arith, some))
rows_begin says (suc size) some h =
    let first = content_said (says 0) (h 0 (omega arith)) in
    subst RowsBegin (sym (takes says 0 size first.0 refl first.1)) refl

all_rows_below : (says : ContentsByOffset) (size : ℕ) → All (λ (r : Row). r.start < size) (rows_of says size)
unfolding rows_of
all_rows_below says size = rows_below says 0 size size (omega arith)

rowed : (arch : Arch) (f : Function) → IsFine f → IsWritable arch (expressed_of f) → IsRowed arch (expressed_of f)
rowed arch f h w = record {
  plain = refl;
  end = w.end;
  first = rows_begin (row_contents f) f.size w.size h.rows;
  below = all_rows_below (row_contents f) f.size;
  rise = w.rows_rise;
  fits = w.contents;
}

-- ---- lists that are seen as others
pub mapped : {X Y : Type 0} (f : X → Y) (xs : List X) (i : ℕ) (d : Y) (e : X) → i < length xs → get_or (map f xs) i d ≡ f (get_or xs i e)
mapped f [] i d e lt = absurd (omega (arith, lt))
mapped f (x ∷ xs) zero d e lt = refl
mapped f (x ∷ xs) (suc i) d e lt = mapped f xs i d e (omega (arith, lt))

some_at : {X : Type 0} (xs : List X) (i : ℕ) → i < length xs → X
some_at [] i lt = absurd (omega (arith, lt))
some_at (x ∷ xs) i lt = x

kept_one : (f : Function) (omission : Option Omission) (others : List Function) → omission_of f.arch (facts_of f) (row_contents f) ≡ omission → kept_of (map read_of others) ≡ map expressed_of (filter is_kept others)
    → kept_of (map read_of (f ∷ others)) ≡ map expressed_of (filter is_kept (f ∷ others))
unfolding function_of
kept_one f None others e same = rw e (ap (λ (fs : List Func). expressed_of f ∷ fs) same)
kept_one f (Some omission) others e same = rw e same

pub kept_are : (fs : List Function) → kept_of (map read_of fs) ≡ map expressed_of (filter is_kept fs)
kept_are [] = refl
kept_are (f ∷ fs) = kept_one f (omission_of f.arch (facts_of f) (row_contents f)) fs refl (kept_are fs)

-- ---- at an address
module _ (functions sorted : List Function) (moved : IsPermutation functions sorted) (apart : are_apart 0 (map read_of sorted) ≡ true) where
  there : (f : Function) (pc : ℕ) → Member sorted f → f.start ≤ pc → pc < f.start + f.size → dwarf_at functions pc ≡ content_in_function pc f
  unfolding dwarf_at
  there f pc m low high =
      ap (option_and_then (content_in_function pc)) (found_alike (holds_address pc) functions sorted moved (one_holds pc 0 sorted apart) ∙ found_alone (holds_address pc) sorted f (one_holds pc 0 sorted apart) m (is_within pc f low high))

  nowhere : (pc : ℕ) → ((f : Function) → Member sorted f → f.start ≤ pc → pc < f.start + f.size → ⊥) → dwarf_at functions pc ≡ None
  unfolding dwarf_at
  nowhere pc none = ap (option_and_then (content_in_function pc)) (found_alike (holds_address pc) functions sorted moved (one_holds pc 0 sorted apart)) ∙ at_found (find (holds_address pc) sorted) refl
    where
      at_found : (o : Option Function) → find (holds_address pc) sorted ≡ o → option_and_then (content_in_function pc) (find (holds_address pc) sorted) ≡ None
      at_found None e = ap (option_and_then (content_in_function pc)) e
      at_found (Some f) e = let h = found (holds_address pc) sorted f e in let w = within pc f h.passes in absurd (none f h.within w.from w.to)

  -- a kept one
  record KeptHolds (arch : Arch) (k : Func) : Type 0 where
    rowed_is : IsRowed arch k
    says : (pc : ℕ) → k.start ≤ pc → pc < k.start + k.size → dwarf_at functions pc ≡ function_content k pc

  kept_holds : (arch : Arch) → All (IsWritable arch) (map expressed_of (filter is_kept sorted)) → All (KeptHolds arch) (map expressed_of (filter is_kept sorted))
  kept_holds arch writable =
      let members = All-filter is_kept (Member sorted) sorted (all_members sorted) in
      let passes = filter_passes is_kept sorted in
      let each = all_back (IsWritable arch) expressed_of (filter is_kept sorted) writable in
      All-map (KeptHolds arch) expressed_of (filter is_kept sorted)
      (λ k d lt.
      let f = get_or (filter is_kept sorted) k d in
      let good = fine f (passes k d lt) in
      record { rowed_is = rowed arch f good (each k d lt); says = λ pc low high. there f pc (members k d lt) low high ∙ kept_content f pc good low high })

  holders_by : (arch : Arch) (kept : List Func) (descriptions : List Function) → kept ≡ map expressed_of (filter is_kept sorted) → descriptions ≡ omitted_functions sorted → IsNonDecreasingBy function_start sorted
      → All (IsWritable arch) kept → All (λ (f : Function). f.arch ≡ arch) sorted → AreHolders arch (dwarf_at functions) kept descriptions
  holders_by arch kept descriptions kept_is descriptions_are rising writable machine = record {
    kept_content = λ i d lt. (holds i d lt).says;
    omitted_content = λ i d lt pc low high. there (get_or descriptions i d) pc (description_member i d lt) low high;
    no_content_there = λ pc no_kept no_omitted. nowhere pc (λ f m low high. by_kept pc f m low high no_kept no_omitted (is_kept f) refl);
    kept_rowed = λ i d lt. (holds i d lt).rowed_is;
    kept_rise = λ i j d le lt. rise_mapped i j d le lt;
    omitted_rise = λ i j d le lt. subst (IsNonDecreasingBy function_start) (sym descriptions_are) (IsNonDecreasingBy-filter function_start (λ (f : Function). not (is_kept f)) sorted rising) i j d le lt;
    omitted_here = subst (All (λ (f : Function). f.arch ≡ arch)) (sym descriptions_are) (All-filter (λ (f : Function). not (is_kept f)) (λ (f : Function). f.arch ≡ arch) sorted machine);
  }
    where
      holds : All (KeptHolds arch) kept
      holds = subst (All (KeptHolds arch)) (sym kept_is) (kept_holds arch (subst (All (IsWritable arch)) kept_is writable))

      kept_length : length kept ≡ length (filter is_kept sorted)
      kept_length = ap length kept_is ∙ length-map (filter is_kept sorted) expressed_of

      rise_mapped : (i j : ℕ) (d : Func) → i ≤ j → j < length kept → (get_or kept i d).start ≤ (get_or kept j d).start
      rise_mapped i j d le lt =
          let lt' : j < length (filter is_kept sorted) = subst (λ (n : ℕ). j < n) kept_length lt in
          let e : Function = some_at (filter is_kept sorted) j lt' in
          let starts = IsNonDecreasingBy-filter function_start is_kept sorted rising i j e le lt' in
          let here : get_or kept i d ≡ expressed_of (get_or (filter is_kept sorted) i e) = ap (λ (ks : List Func). get_or ks i d) kept_is ∙ mapped expressed_of (filter is_kept sorted) i d e (omega (arith, le, lt')) in
          let next : get_or kept j d ≡ expressed_of (get_or (filter is_kept sorted) j e) = ap (λ (ks : List Func). get_or ks j d) kept_is ∙ mapped expressed_of (filter is_kept sorted) j d e lt' in
          subst (λ (k : Func). k.start ≤ (get_or kept j d).start) (sym here) (subst (λ (k : Func). (get_or (filter is_kept sorted) i e).start ≤ k.start) (sym next) starts)

      description_member : (i : ℕ) (d : Function) → i < length descriptions → Member sorted (get_or descriptions i d)
      description_member i d lt = subst (All (Member sorted)) (sym descriptions_are) (All-filter (λ (f : Function). not (is_kept f)) (Member sorted) sorted (all_members sorted)) i d lt

      by_kept : (pc : ℕ) (f : Function) → Member sorted f → f.start ≤ pc → pc < f.start + f.size
          → ((i : ℕ) (d : Func) → i < length kept → (get_or kept i d).start ≤ pc → pc < (get_or kept i d).start + (get_or kept i d).size → ⊥)
          → ((i : ℕ) (d : Function) → i < length descriptions → (get_or descriptions i d).start ≤ pc → pc < (get_or descriptions i d).start + (get_or descriptions i d).size → ⊥)
          → (b : Bool) → is_kept f ≡ b → ⊥
      by_kept pc f m low high no_kept no_omitted true t =
          let p = placed kept (expressed_of f) (subst (λ (ks : List Func). Member ks (expressed_of f)) (sym kept_is) (in_map expressed_of (filter is_kept sorted) f (in_filter is_kept sorted f t m))) in
          let is = p.is (expressed_of f) in
          no_kept p.place (expressed_of f) p.within (subst (λ (k : Func). k.start ≤ pc) (sym is) low) (subst (λ (k : Func). pc < k.start + k.size) (sym is) high)
      by_kept pc f m low high no_kept no_omitted false t =
          let p = placed descriptions f (subst (λ (fs : List Function). Member fs f) (sym descriptions_are) (in_filter (λ (g : Function). not (is_kept g)) sorted f (ap not t) m)) in
          let is = p.is f in
          no_omitted p.place f p.within (subst (λ (g : Function). g.start ≤ pc) (sym is) low) (subst (λ (g : Function). pc < g.start + g.size) (sym is) high)

pub holders : (arch : Arch) (functions sorted : List Function) (kept : List Func) (descriptions : List Function) → IsPermutation functions sorted → are_apart 0 (map read_of sorted) ≡ true → kept ≡ kept_of (map read_of sorted) → descriptions ≡ omitted_functions sorted
    → IsNonDecreasingBy function_start sorted → All (IsWritable arch) kept → All (λ (f : Function). f.arch ≡ arch) functions → AreHolders arch (dwarf_at functions) kept descriptions
holders arch functions sorted kept descriptions moved apart kept_is descriptions_are rising writable machine =
    holders_by functions sorted moved apart arch kept descriptions (kept_is ∙ kept_are sorted) descriptions_are rising writable (All-permutation (λ (f : Function). f.arch ≡ arch) functions sorted moved machine)

-- ---- both lists say the same
module _ (arch : Arch) (answers : Answers) (kept : List Func) (descriptions : List Function) (h : AreHolders arch answers kept descriptions) where
  by_lent : (pc : ℕ) (o : Option Function) → find (contains pc) kept ≡ None → find (holds_address pc) descriptions ≡ o → by_holder pc None o ≡ answers pc
  by_lent pc None none e = sym (h.no_content_there pc
      (λ i d lt low high. some_found (contains pc) kept (get_or kept i d) (rw (le-leb (get_or kept i d).start pc low, lt-ltb pc ((get_or kept i d).start + (get_or kept i d).size) high) refl) (all_members kept i d lt) none)
      (λ i d lt low high. some_found (holds_address pc) descriptions (get_or descriptions i d) (is_within pc (get_or descriptions i d) low high) (all_members descriptions i d lt) e))
  by_lent pc (Some f) none e =
      let t = found (holds_address pc) descriptions f e in
      let w = within pc f t.passes in
      let p = placed descriptions f t.within in
      let is = p.is f in
      sym (h.omitted_content p.place f p.within pc (subst (λ (g : Function). g.start ≤ pc) (sym is) w.from) (subst (λ (g : Function). pc < g.start + g.size) (sym is) w.to) ∙ ap (content_in_function pc) is)

  by_found : (pc : ℕ) (o : Option Func) → find (contains pc) kept ≡ o → by_holder pc o (find (holds_address pc) descriptions) ≡ answers pc
  by_found pc None e = by_lent pc (find (holds_address pc) descriptions) e refl
  by_found pc (Some k) e =
      let t = found (contains pc) kept k e in
      let has = unions.within pc k t.passes in
      let p = placed kept k t.within in
      let is = p.is k in
      sym (h.kept_content p.place k p.within pc (subst (λ (g : Func). g.start ≤ pc) (sym is) has.from) (subst (λ (g : Func). pc < g.start + g.size) (sym is) has.to) ∙ ap (λ (g : Func). function_content g pc) is)

  pub same_answers : (pc : ℕ) → answers_of kept descriptions pc ≡ answers pc
  unfolding answers_of
  same_answers pc = by_found pc (find (contains pc) kept) refl

  pub holders_of_both : AreHolders arch (answers_of kept descriptions) kept descriptions
  holders_of_both = record {
    kept_content = λ i d lt pc low high. same_answers pc ∙ h.kept_content i d lt pc low high;
    omitted_content = λ i d lt pc low high. same_answers pc ∙ h.omitted_content i d lt pc low high;
    no_content_there = λ pc no_kept no_omitted. same_answers pc ∙ h.no_content_there pc no_kept no_omitted;
    kept_rowed = h.kept_rowed;
    kept_rise = h.kept_rise;
    omitted_rise = h.omitted_rise;
    omitted_here = h.omitted_here;
  }
