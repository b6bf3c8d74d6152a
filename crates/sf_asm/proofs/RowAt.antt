-- What the function that has an address says there, among all functions of inputs.
use Rattle.std.specs.Prelude.{◌&&◌, nat_le, nat_lt, not}
use Rattle.std.specs.List.{find}
use Rattle.std.specs.List.Sorted.{IsPermutation}
use Rattle.std.specs.Option.{option_and_then, option_map}
use Rattle.std.proofs.Common.{◌≡◌, ◌≢◌, ℕ, ◌+◌, ◌^◌, ◌-◌, ◌<◌, ◌≤◌, Bool, true, false, cond, List, [], ◌∷◌, drop, get_or, length, map, Option, Some, None, Ok, refl, sym, ap, subst, ◌∙◌, arith, inl, inr}
use Rattle.std.proofs.lemmas.Bool.{cases_lt}
use Rattle.std.proofs.lemmas.List.{drop_more}
use Rattle.sf_model.specs.declared.content.Content.{Content}
use Rattle.sf_model.specs.declared.function.Func.{Func}
use Rattle.sf_model.specs.declared.machine.Arch.{Arch}
use Rattle.sf_model.specs.declared.machine.Key.{Key}
use Rattle.sf_model.specs.declared.omission.Omitted.{Omitted}
use Rattle.sf_model.specs.Function.{IsWritable}
use Rattle.sf_model.specs.Lookup.{contains}
use Rattle.sf_express.specs.declared.content_ranges.ContentRange.{ContentRange}
use Rattle.sf_express.specs.ContentRanges.{AreRanges, AreRangesOf, RangesDiffer, range_of_row, content_by}
use Rattle.sf_asm.specs.Described.{Describe}
use Rattle.frame_functions.specs.ReadFunction.{kept_of}
use Rattle.frame_functions.specs.Functions.{holds_address, Function}
use Rattle.sf_asm.specs.Functions.{Object}
use Rattle.frame_functions.specs.Kept.{read_of, is_kept, kept_functions, omitted_functions}
use Rattle.frame_functions.specs.Order.{are_apart}
use Rattle.frame_functions.specs.ContentAt.{HoldsUpTo, RowAt, HoldsTo, GivesUpTo, dwarf_at, form_content, content_in_function, with_key}
use Rattle.sf_asm.specs.Descriptions.{AreWithDescriptions}
use Rattle.frame_functions.specs.declared.keyed_content.KeyedContent.{KeyedContent}
use Rattle.sf_asm.proofs.Agreeing.{expressed_of, find_kept, found_passes}
use Rattle.sf_asm.proofs.Described.{described}
use Rattle.sf_model.proofs.Unions.{Member, found, found_alone, from_filter, in_filter, some_found}
use Rattle.sf_asm.proofs.OneFound.{found_alike}
use Rattle.sf_asm.proofs.OneHolder.{IsWithin, gathered_apart, is_within, kept_said_by, one_holds, within}
use Rattle.sf_asm.proofs.ListMembers.{placed}

-- the kept functions are those of another list, too
pub with_kept : (before : Option Arch) (objects : List Object) (arch : Arch) (kept other : List Func) (omitted : List Omitted) (descriptions : List Function) → AreWithDescriptions before objects arch kept omitted descriptions → other ≡ kept → AreWithDescriptions before objects arch other omitted descriptions
with_kept before objects arch kept other omitted descriptions h is = subst (λ (fs : List Func). AreWithDescriptions before objects arch fs omitted descriptions) (sym is) h

-- ---- what calls found
pub found_in : {X Y : Type 0} (view : X → Y) (p : Y → Bool) (found : Option X) (x : X) (asked items : List Y) → asked ≡ items → option_map view found ≡ find p asked → found ≡ Some x → find p items ≡ Some (view x)
found_in view p found x asked items same e is = subst (λ (ys : List _). find p ys ≡ Some (view x)) same (sym e ∙ ap (option_map view) is)

pub none_in : {X Y : Type 0} (view : X → Y) (p : Y → Bool) (found : Option X) (asked items : List Y) → asked ≡ items → option_map view found ≡ find p asked → found ≡ None → find p items ≡ None
none_in view p found asked items same e is = subst (λ (ys : List _). find p ys ≡ None) same (sym e ∙ ap (option_map view) is)

-- ---- what is found, one function after another
pub found_here : {X : Type 0} (p : X → Bool) (xs : List X) (k : ℕ) (d x : X) → k < length xs → get_or xs k d ≡ x → p x ≡ true → find p (drop k xs) ≡ Some x
found_here p xs k d x lt is t = ap (find p) (drop_more xs k d lt ∙ ap (λ y. y ∷ drop (k + 1) xs) is) ∙ ap (λ (b : Bool). cond b (Some x) (find p (drop (k + 1) xs))) t

pub found_later : {X : Type 0} (p : X → Bool) (xs : List X) (k : ℕ) (d x : X) → k < length xs → get_or xs k d ≡ x → p x ≡ false → find p (drop k xs) ≡ find p (drop (k + 1) xs)
found_later p xs k d x lt is t = ap (find p) (drop_more xs k d lt ∙ ap (λ y. y ∷ drop (k + 1) xs) is) ∙ ap (λ (b : Bool). cond b (Some x) (find p (drop (k + 1) xs))) t

pub some_of : {X : Type 0} (xs : List X) (k : ℕ) → k < length xs → X
some_of [] k lt = absurd (omega (arith, lt))
some_of (x ∷ xs) k lt = x

pub has_it : (f : Function) (start size pc : ℕ) (b : Bool) → start ≡ f.start → size ≡ f.size → b ≡ (nat_le start pc && nat_lt pc (start + size)) → holds_address pc f ≡ b
has_it f start size pc b start_is size_is e =
    sym (e ∙ ap (λ (n : ℕ). nat_le n pc && nat_lt pc (n + size)) start_is ∙ ap (λ (n : ℕ). nat_le f.start pc && nat_lt pc (f.start + n)) size_is)

-- ---- one function
-- what its ranges say, from an address up to the last one of a range
record IsRange (f : Function) (ranges : List ContentRange) (pc last : ℕ) (content : Option Content) : Type 0 where
  low : f.start ≤ pc
  high : pc < f.start + f.size
  from_here : pc - f.start ≤ last
  below : last < f.size
  says : (o : ℕ) → pc - f.start ≤ o → o ≤ last → content_by o None ranges ≡ Some content
  after : last + 1 < f.size → content_by (last + 1) None ranges ≡ Some content → ⊥

form_is : (f : Function) (ranges : List ContentRange) (o : ℕ) (content : Option Content) → AreRangesOf f.size (form_content f) ranges → o < f.size → content_by o None ranges ≡ Some content → form_content f o ≡ content
form_is f ranges o content said lt e = let is : Some (form_content f o) ≡ Some content = sym (said.say o lt) ∙ e in cc

some_content : (key : Key) (found : Option Content) (content : Content) → option_map (with_key key) found ≡ Some (with_key key content) → found ≡ Some content
some_content key None content e = cc
some_content key (Some c) content e = let is : with_key key c ≡ with_key key content = cc in ap (λ (s : KeyedContent). Some s.content) is

says_up_to : (f : Function) (ranges : List ContentRange) (pc last : ℕ) (content : Content) → AreRangesOf f.size (form_content f) ranges → IsRange f ranges pc last (Some content) → HoldsUpTo (λ p. content_in_function p f) f pc (with_key f.key content) (f.start + last)
says_up_to f ranges pc last content said h =
    let from : f.start ≤ pc = h.low in
    record {
      from_here = (let le = h.from_here in omega (arith, from, le));
      within = (let lt = h.below in is_within (f.start + last) f (omega arith) (omega (arith, lt)));
      same = λ p low high.
          (let lt = h.below in
          let le : pc - f.start ≤ p - f.start = omega (arith, from, low) in
          let most : p - f.start ≤ last = omega (arith, high, from, low) in
          ap (option_map (with_key f.key)) (form_is f ranges (p - f.start) (Some content) said (omega (arith, most, lt)) (h.says (p - f.start) le most)));
      greatest = λ other has same. elim (cases_lt (f.start + last) other) [
        | inl past ↦ absurd (past_last other (within other f has) same past)
        | inr not_past ↦ omega (arith, not_past)
      ];
    }
  where
    past_last : (other : ℕ) → IsWithin other f.start f.size → HoldsTo (λ p. content_in_function p f) pc other (with_key f.key content) → f.start + last < other → ⊥
    past_last other w same past =
        let to = w.to in
        let from = h.low in
        let le = h.from_here in
        let lt : last + 1 < f.size = omega (arith, past, to) in
        let here = same (f.start + (last + 1)) (omega (arith, from, le)) (omega (arith, past)) in
        let offset : f.start + (last + 1) - f.start ≡ last + 1 = omega arith in
        let form = some_content f.key (form_content f (last + 1)) content (subst (λ (o : ℕ). option_map (with_key f.key) (form_content f o) ≡ Some (with_key f.key content)) offset here) in
        h.after lt (said.say (last + 1) lt ∙ ap (λ (x : Option Content). Some x) form)

by_range : (f : Function) (ranges : List ContentRange) (pc last : ℕ) (content : Option Content) → AreRangesOf f.size (form_content f) ranges → IsRange f ranges pc last content
    → GivesUpTo (λ p. content_in_function p f) f pc (option_map (λ (c : Content). (c, f.key, f.start + last)) content)
by_range f ranges pc last None said h =
    let from = h.low in
    let lt = h.below in
    let le = h.from_here in
    ap (option_map (with_key f.key)) (form_is f ranges (pc - f.start) None said (omega (arith, le, lt)) (h.says (pc - f.start) (omega arith) le))
by_range f ranges pc last (Some content) said h = says_up_to f ranges pc last content said h

-- what a function's ranges say at one of its addresses
pub range_row : (f : Function) (ranges : List ContentRange) (start size pc last : ℕ) (key : Key) (content : Option Content) → f.start ≡ start → f.size ≡ size → f.key ≡ key → AreRangesOf size (form_content f) ranges
    → start ≤ pc → pc < start + size → pc - start ≤ last → last < size → ((o : ℕ) → pc - start ≤ o → o ≤ last → content_by o None ranges ≡ Some content)
    → (RangesDiffer None ranges → last + 1 < size → content_by (last + 1) None ranges ≢ Some content) → GivesUpTo (λ p. content_in_function p f) f pc (option_map (λ (c : Content). (c, key, start + last)) content)
range_row f ranges start size pc last key content start_is size_is key_is said from to le lt says after =
    subst (λ (n : ℕ). GivesUpTo (λ p. content_in_function p f) f pc (option_map (λ (c : Content). (c, key, n + last)) content)) start_is
    (subst (λ (k : Key). GivesUpTo (λ p. content_in_function p f) f pc (option_map (λ (c : Content). (c, k, f.start + last)) content)) key_is
    (by_range f ranges pc last content (subst (λ (n : ℕ). AreRangesOf n (form_content f) ranges) (sym size_is) said) (record {
      low = omega (arith, from, start_is);
      high = omega (arith, to, start_is, size_is);
      from_here = omega (arith, le, start_is);
      below = omega (arith, lt, size_is);
      says = λ o low high. says o (omega (arith, low, start_is)) high;
      after = λ more same. after said.differ (omega (arith, more, size_is)) same;
    })))

-- ---- the function that has an address
record IsHolder (functions : List Function) (pc : ℕ) (f : Function) : Type 0 where
  is : find (holds_address pc) functions ≡ Some f
  has : holds_address pc f ≡ true
  there : (p : ℕ) → holds_address p f ≡ true → dwarf_at functions p ≡ content_in_function p f

between : (f : Function) (pc p last : ℕ) → holds_address pc f ≡ true → holds_address last f ≡ true → pc ≤ p → p ≤ last → holds_address p f ≡ true
between f pc p last one other low high =
    let from = (within pc f one).from in
    let to = (within last f other).to in
    is_within p f (omega (arith, from, low)) (omega (arith, to, high))

by_holder : (functions : List Function) (pc : ℕ) (f : Function) (row : Option (Content × Key × ℕ)) → IsHolder functions pc f → GivesUpTo (λ p. content_in_function p f) f pc row → RowAt functions pc row
by_holder functions pc f None h says = h.there pc h.has ∙ says
by_holder functions pc f (Some row) h says = (
  f,
  h.is,
  record {
    from_here = says.from_here;
    within = says.within;
    same = λ p low high. h.there p (between f pc p row.2 h.has says.within low high) ∙ says.same p low high;
    greatest = λ other has same. says.greatest other has (λ p low high. sym (h.there p (between f pc p other h.has has low high)) ∙ same p low high);
  },
)

no_function : (o : Option Function) → option_map expressed_of o ≡ None → o ≡ None
no_function None e = refl
no_function (Some f) e = cc

-- a kept function
record IsKeptThere (functions : List Function) (pc : ℕ) (g : Func) : Type 0 where
  f : Function
  kept : is_kept f ≡ true
  is : g ≡ expressed_of f
  holder : IsHolder functions pc f

module _ (functions sorted : List Function) (moved : IsPermutation functions sorted) (apart : are_apart 0 (map read_of sorted) ≡ true) (pc : ℕ) where
  holder_of : (f : Function) → Member sorted f → holds_address pc f ≡ true → IsHolder functions pc f
  unfolding dwarf_at
  holder_of f m has = record { is = alone pc has; has = has; there = λ p t. ap (option_and_then (content_in_function p)) (alone p t) }
    where
      alone : (p : ℕ) → holds_address p f ≡ true → find (holds_address p) functions ≡ Some f
      alone p t = found_alike (holds_address p) functions sorted moved (one_holds p 0 sorted apart) ∙ found_alone (holds_address p) sorted f (one_holds p 0 sorted apart) m t

  kept_there : (g : Func) → find (contains pc) (kept_of (map read_of sorted)) ≡ Some g → IsKeptThere functions pc g
  kept_there g e = at_found (find (holds_address pc) (kept_functions sorted)) refl (sym (find_kept pc sorted) ∙ e)
    where
      at_found : (o : Option Function) → find (holds_address pc) (kept_functions sorted) ≡ o → option_map expressed_of (find (holds_address pc) (kept_functions sorted)) ≡ Some g → IsKeptThere functions pc g
      at_found None is e = let never : None ≡ Some g = sym (ap (option_map expressed_of) is) ∙ e in cc
      at_found (Some f) is e =
          let passes = found_passes (holds_address pc) is_kept sorted f is in
          let same : Some (expressed_of f) ≡ Some g = sym (ap (option_map expressed_of) is) ∙ e in
          let one : expressed_of f ≡ g = cc in
          let m = from_filter is_kept sorted f (found (holds_address pc) (kept_functions sorted) f is).within in
          record { f = f; kept = passes.1; is = sym one; holder = holder_of f m passes.0 }

  omitted_there : (descriptions : List Function) (f : Function) → descriptions ≡ omitted_functions sorted → find (holds_address pc) descriptions ≡ Some f → IsHolder functions pc f
  omitted_there descriptions f are e =
      let h = found (holds_address pc) (omitted_functions sorted) f (subst (λ (fs : List Function). find (holds_address pc) fs ≡ Some f) are e) in
      holder_of f (from_filter (λ (g : Function). not (is_kept g)) sorted f h.within) h.passes

  none_there : (descriptions : List Function) → descriptions ≡ omitted_functions sorted → find (contains pc) (kept_of (map read_of sorted)) ≡ None → find (holds_address pc) descriptions ≡ None → dwarf_at functions pc ≡ None
  unfolding dwarf_at
  none_there descriptions are no_kept no_omitted = at_found (find (holds_address pc) sorted) refl
    where
      no_lent : find (holds_address pc) (omitted_functions sorted) ≡ None
      no_lent = subst (λ (fs : List Function). find (holds_address pc) fs ≡ None) are no_omitted

      neither : (f : Function) → holds_address pc f ≡ true → Member sorted f → (b : Bool) → is_kept f ≡ b → ⊥
      neither f t m true k = some_found (holds_address pc) (kept_functions sorted) f t (in_filter is_kept sorted f k m) (no_function (find (holds_address pc) (kept_functions sorted)) (sym (find_kept pc sorted) ∙ no_kept))
      neither f t m false k = some_found (holds_address pc) (omitted_functions sorted) f t (in_filter (λ (g : Function). not (is_kept g)) sorted f (ap not k) m) no_lent

      at_found : (o : Option Function) → find (holds_address pc) sorted ≡ o → option_and_then (content_in_function pc) (find (holds_address pc) functions) ≡ None
      at_found None e = ap (option_and_then (content_in_function pc)) (found_alike (holds_address pc) functions sorted moved (one_holds pc 0 sorted apart) ∙ e)
      at_found (Some f) e = let h = found (holds_address pc) sorted f e in absurd (neither f h.passes h.within (is_kept f) refl)

-- ---- gathered functions
module _ (objects : List Object) (arch : Arch) (kept : List Func) (omitted : List Omitted) (descriptions : List Function) (h : AreWithDescriptions None objects arch kept omitted descriptions) (pc : ℕ) where
  apart : are_apart 0 (map read_of h.sorted) ≡ true
  apart = gathered_apart None objects (map read_of h.sorted) h.is

  of_these : (row : Option (Content × Key × ℕ)) → RowAt h.functions pc row → (functions : List Function) → Describe 0 objects (Ok functions) → RowAt functions pc row
  of_these row is functions are =
      let both : Ok h.functions ≡ Ok functions = sym (described 0 objects (Ok h.functions) h.are) ∙ described 0 objects (Ok functions) are in
      let same : h.functions ≡ functions = cc in
      subst (λ (fs : List Function). RowAt fs pc row) same is

  kept_function : (g : Func) → find (contains pc) kept ≡ Some g → IsKeptThere h.functions pc g
  kept_function g e = kept_there h.functions h.sorted h.by_start.moved apart pc g (subst (λ (ks : List Func). find (contains pc) ks ≡ Some g) h.kept_are e)

  said_by_rows : (g : Func) (k : IsKeptThere h.functions pc g) → AreRangesOf g.size (form_content k.f) (map range_of_row g.rows)
  said_by_rows g k = subst (λ (x : Func). AreRangesOf x.size (form_content k.f) (map range_of_row x.rows)) (sym k.is) (kept_said_by k.f k.kept)

  -- what is owed of it
  pub record IsAskable (g : Func) : Type 0 where
    pub from : g.start ≤ pc
    pub to : pc < g.start + g.size
    pub end : g.start + g.size ≤ 2 ^ 64
    pub ranges : AreRanges g.size (map range_of_row g.rows)

  pub kept_askable : (g : Func) → find (contains pc) kept ≡ Some g → IsAskable g
  kept_askable g e =
      let t = found (contains pc) kept g e in
      let p = placed kept g t.within in
      let writable : IsWritable arch g = subst (IsWritable arch) (p.is g) (h.writable.each p.place g p.within) in
      let k = kept_function g e in
      let w = within pc k.f k.holder.has in
      record { from = subst (λ (x : Func). x.start ≤ pc) (sym k.is) w.from; to = subst (λ (x : Func). pc < x.start + x.size) (sym k.is) w.to; end = writable.end; ranges = (said_by_rows g k).are }

  pub row_of_kept : (g : Func) → find (contains pc) kept ≡ Some g → (row : Option (Content × Key × ℕ))
      → ((f : Function) → f.start ≡ g.start → f.size ≡ g.size → f.key ≡ g.key → AreRangesOf g.size (form_content f) (map range_of_row g.rows) → GivesUpTo (λ p. content_in_function p f) f pc row)
      → (functions : List Function) → Describe 0 objects (Ok functions) → RowAt functions pc row
  row_of_kept g e row says =
      let k = kept_function g e in
      let own = says k.f (sym (ap (λ (x : Func). x.start) k.is)) (sym (ap (λ (x : Func). x.size) k.is)) (sym (ap (λ (x : Func). x.key) k.is)) (said_by_rows g k) in
      of_these row (by_holder h.functions pc k.f row k.holder own)

  pub row_of_omitted : (f : Function) → find (holds_address pc) descriptions ≡ Some f → (row : Option (Content × Key × ℕ)) → GivesUpTo (λ p. content_in_function p f) f pc row → (functions : List Function) → Describe 0 objects (Ok functions) → RowAt functions pc row
  row_of_omitted f e row says = of_these row (by_holder h.functions pc f row (omitted_there h.functions h.sorted h.by_start.moved apart pc descriptions f h.descriptions_are e) says)

  pub omitted_within : (f : Function) → find (holds_address pc) descriptions ≡ Some f → IsWithin pc f.start f.size
  omitted_within f e = within pc f (found (holds_address pc) descriptions f e).passes

  pub no_row : find (contains pc) kept ≡ None → find (holds_address pc) descriptions ≡ None → (functions : List Function) → Describe 0 objects (Ok functions) → RowAt functions pc None
  no_row no_kept no_omitted = of_these None (none_there h.functions h.sorted h.by_start.moved apart pc descriptions h.descriptions_are (subst (λ (ks : List Func). find (contains pc) ks ≡ None) h.kept_are no_kept) no_omitted)
