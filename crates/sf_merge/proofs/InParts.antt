-- Sections merged in parts give the bytes of all merged at once.
use Rattle.std.specs.List.{filter}
use Rattle.std.specs.List.Sorted.{IsPermutation}
use Rattle.std.proofs.Common.{◌≡◌, ℕ, ◌<◌, Bool, true, cond, List, [], ◌∷◌, ◌++◌, All, length, refl, sym, ap, subst, ◌∙◌, arith}
use Rattle.std.proofs.lemmas.List.{append-nil, length-map, map-append}
use Rattle.std.proofs.lemmas.List.Concat.{flat_map-append}
use Rattle.std.proofs.lemmas.List.Elements.{All-head, All-tail, All-append, All-weaker, filter-append, filter_passes}
use Rattle.std.proofs.lemmas.List.Sorted.{IsPermutation-sym, IsPermutation-trans, IsPermutation-map, IsPermutation-append_left, All-permutation}
use Rattle.sf_model.specs.declared.machine.Arch.{Arch}
use Rattle.sf_model.specs.declared.function.Func.{Func}
use Rattle.sf_model.specs.Section.{AreBytes}
use Rattle.sf_model.specs.Table.{Table}
use Rattle.sf_model.specs.Tight.{Narrow, Tight}
use Rattle.sf_model.specs.Union.{all_functions, is_of_use}
use Rattle.sf_model.proofs.TableSame.{table_same}
use Rattle.sf_model.proofs.TightOne.{tight_one}
use Rattle.sf_write.specs.Section.{table_of}
use Rattle.sf_merge.specs.Answers.{IsMerged}
use Rattle.sf_merge.specs.Joining.{RisesStrictly}
use Rattle.sf_merge.specs.Parts.{AreMerged, AreMergedInParts, Part, SomeAreMerged, part_tables}
use Rattle.sf_merge.proofs.OneRising.{one_rising}
use Rattle.sf_merge.proofs.Permutations.{filter_permuted, flat_map_permuted}

-- ---- the functions that are of use
abbrev pub used : List Table → List Func
used tables = filter is_of_use (all_functions tables)

pub used_permuted : (xs ys : List Table) → IsPermutation xs ys → IsPermutation (used xs) (used ys)
used_permuted xs ys h = filter_permuted is_of_use (all_functions xs) (all_functions ys) (flat_map_permuted (λ (table : Table). table.functions) xs ys h)

used_append : (xs ys : List Table) → used (xs ++ ys) ≡ used xs ++ used ys
used_append xs ys =
    ap (filter is_of_use) (flat_map-append (λ (table : Table). table.functions) xs ys) ∙ filter-append is_of_use (all_functions xs) (all_functions ys)

all_pass : (fs : List Func) → All (λ (f : Func). is_of_use f ≡ true) fs → filter is_of_use fs ≡ fs
all_pass [] h = refl
all_pass (f ∷ fs) h =
    ap (λ (b : Bool). cond b (f ∷ filter is_of_use fs) (filter is_of_use fs)) (All-head (λ (g : Func). is_of_use g ≡ true) f fs h)
    ∙ ap (λ gs. f ∷ gs) (all_pass fs (All-tail (λ (g : Func). is_of_use g ≡ true) f fs h))

-- the functions of use of a merged table and the tables beside it
used_of_whole : (fs : List Func) (some others : List Table) (whole : Table) → IsPermutation (used some) fs → whole.functions ≡ fs → used (whole ∷ others) ≡ fs ++ used others
used_of_whole fs some others whole taken is =
    let pass = All-permutation (λ (f : Func). is_of_use f ≡ true) (used some) fs taken (filter_passes is_of_use (all_functions some)) in
    filter-append is_of_use whole.functions (all_functions others)
    ∙ ap (λ gs. filter is_of_use gs ++ used others) is
    ∙ ap (λ gs. gs ++ used others) (all_pass fs pass)

-- ---- a section of what is of use in tables
record IsOf (tables : List Table) (whole : Part) : Type 0 where
  arch : Arch
  functions : List Func
  machines : All (λ (table : Table). table.arch ≡ arch) tables
  taken : IsPermutation (used tables) functions
  rising : RisesStrictly functions
  tight : Tight whole.bytes whole.at (table_of arch functions)
  narrow : Narrow whole.bytes (table_of arch functions)
  are_bytes : AreBytes whole.bytes

of_merged : (tables : List Table) (whole : Part) (count rows : ℕ) → IsMerged tables whole.at whole.bytes count rows → IsOf tables whole
of_merged tables whole count rows h = record {
  arch = h.arch;
  functions = h.functions;
  machines = h.union.one_machine;
  taken = h.union.taken;
  rising = h.union.rising;
  tight = h.tight;
  narrow = h.narrow;
  are_bytes = h.are_bytes;
}

-- ---- one step
module _ (sections next : List Part) (step : SomeAreMerged sections next) where
  abbrev pub some : List Table
  some = part_tables step.some

  abbrev pub others : List Table
  others = part_tables step.others

  abbrev pub merged : IsMerged some step.whole.at step.whole.bytes step.merged.count step.merged.rows
  merged = step.merged.is

  pub said : step.whole.table ≡ table_of merged.arch merged.functions
  said = table_same step.whole.bytes step.whole.at step.whole.table (table_of merged.arch merged.functions) step.whole.says merged.tight.section

  pub next_tables : part_tables next ≡ step.whole.table ∷ others
  next_tables = ap part_tables step.left

  pub chosen : IsPermutation (part_tables sections) (some ++ others)
  chosen =
      subst (IsPermutation (part_tables sections)) (map-append (λ (part : Part). part.table) step.some step.others)
      (IsPermutation-map (λ (part : Part). part.table) sections (step.some ++ step.others) step.chosen)

  -- the functions of use are the same
  pub used_stay : IsPermutation (used (part_tables sections)) (used (part_tables next))
  used_stay =
      let before : IsPermutation (used (part_tables sections)) (used some ++ used others) =
      subst (IsPermutation (used (part_tables sections))) (used_append some others) (used_permuted (part_tables sections) (some ++ others) chosen) in
      let over : IsPermutation (used some ++ used others) (merged.functions ++ used others) =
      IsPermutation-append_left (used others) (used some) merged.functions merged.union.taken in
      let whole : used (part_tables next) ≡ merged.functions ++ used others =
      ap used next_tables ∙ used_of_whole merged.functions some others step.whole.table merged.union.taken (ap (λ (t : Table). t.functions) said) in
      subst (IsPermutation (used (part_tables sections))) (sym whole) (IsPermutation-trans (used (part_tables sections)) (used some ++ used others) (merged.functions ++ used others) before over)

  -- the machine is the same, where all that are there after the step have one
  machines_before : (arch : Arch) → All (λ (table : Table). table.arch ≡ arch) (part_tables next) → All (λ (table : Table). table.arch ≡ arch) (part_tables sections)
  machines_before arch machines =
      let Has : Table → Type 0 = λ (table : Table). table.arch ≡ arch in
      let after : All Has (step.whole.table ∷ others) = subst (All Has) next_tables machines in
      let machine : merged.arch ≡ arch = sym (ap (λ (t : Table). t.arch) said) ∙ All-head Has step.whole.table others after in
      let of_some : All Has some = All-weaker (λ (table : Table). table.arch ≡ merged.arch) Has (λ table e. e ∙ machine) some merged.union.one_machine in
      All-permutation Has (some ++ others) (part_tables sections) (IsPermutation-sym (part_tables sections) (some ++ others) chosen)
      (All-append Has some others of_some (All-tail Has step.whole.table others after))

  stepped : (last : Part) → IsOf (part_tables next) last → IsOf (part_tables sections) last
  stepped last later = record {
    arch = later.arch;
    functions = later.functions;
    machines = machines_before later.arch later.machines;
    taken = IsPermutation-trans (used (part_tables sections)) (used (part_tables next)) later.functions used_stay later.taken;
    rising = later.rising;
    tight = later.tight;
    narrow = later.narrow;
    are_bytes = later.are_bytes;
  }

-- ---- the last step merged all the sections
no_others : (whole last : Part) (others : List Part) → last ∷ [] ≡ whole ∷ others → others ≡ []
no_others whole last others e = cc

same_whole : (whole last : Part) (others : List Part) → last ∷ [] ≡ whole ∷ others → whole ≡ last
same_whole whole last others e = cc

last_step : (sections : List Part) (last : Part) → SomeAreMerged sections (last ∷ []) → IsOf (part_tables sections) last
last_step sections last step =
    let whole : step.whole ≡ last = same_whole step.whole last step.others step.left in
    let of_some : IsOf (part_tables step.some) step.whole = of_merged (part_tables step.some) step.whole step.merged.count step.merged.rows step.merged.is in
    let of_last : IsOf (part_tables step.some) last = subst (IsOf (part_tables step.some)) whole of_some in
    let chosen : IsPermutation sections (step.some ++ []) = subst (λ (os : List Part). IsPermutation sections (step.some ++ os)) (no_others step.whole last step.others step.left) step.chosen in
    of_permuted (part_tables step.some) (part_tables sections) last (IsPermutation-sym (part_tables sections) (part_tables step.some)
    (subst (λ (ps : List Part). IsPermutation (part_tables sections) (part_tables ps)) (append-nil step.some) (IsPermutation-map (λ (part : Part). part.table) sections (step.some ++ []) chosen))) of_last
  where
    of_permuted : (xs ys : List Table) (last : Part) → IsPermutation xs ys → IsOf xs last → IsOf ys last
    of_permuted xs ys last moved h = record {
      arch = h.arch;
      functions = h.functions;
      machines = All-permutation (λ (table : Table). table.arch ≡ h.arch) xs ys moved h.machines;
      taken = IsPermutation-trans (used ys) (used xs) h.functions (used_permuted ys xs (IsPermutation-sym xs ys moved)) h.taken;
      rising = h.rising;
      tight = h.tight;
      narrow = h.narrow;
      are_bytes = h.are_bytes;
    }

of_parts : (steps : List (List Part)) (sections : List Part) (last : Part) → 0 < length steps → AreMergedInParts steps sections (last ∷ []) → IsOf (part_tables sections) last
of_parts [] sections last some h = absurd (omega (some, arith))
of_parts (next ∷ []) sections last some (step, is) = last_step sections last (subst (SomeAreMerged sections) is step)
of_parts (next ∷ after ∷ later) sections last some (step, steps) = stepped sections next step last (of_parts (after ∷ later) next last (omega arith) steps)

-- ---- one section
one_section : (tables : List Table) (one other : Part) → 0 < length tables → one.at ≡ other.at → IsOf tables one → IsOf tables other → one.bytes ≡ other.bytes
one_section [] one other some at h k = absurd (omega (some, arith))
one_section (table ∷ tables) one other some at h k =
    let machine : k.arch ≡ h.arch = sym (All-head (λ (t : Table). t.arch ≡ k.arch) table tables k.machines) ∙ All-head (λ (t : Table). t.arch ≡ h.arch) table tables h.machines in
    let functions : k.functions ≡ h.functions =
    one_rising k.functions h.functions (IsPermutation-trans k.functions (used (table ∷ tables)) h.functions (IsPermutation-sym (used (table ∷ tables)) k.functions k.taken) h.taken) k.rising h.rising in
    let is : table_of k.arch k.functions ≡ table_of h.arch h.functions = ap (λ (a : Arch). table_of a k.functions) machine ∙ ap (table_of h.arch) functions in
    let tight : Tight other.bytes one.at (table_of h.arch h.functions) =
    subst (λ (a : ℕ). Tight other.bytes a (table_of h.arch h.functions)) (sym at) (subst (Tight other.bytes other.at) is k.tight) in
    tight_one one.bytes other.bytes one.at (table_of h.arch h.functions) h.are_bytes k.are_bytes h.tight tight h.narrow (subst (Narrow other.bytes) is k.narrow)

pub in_parts : (sections : List Part) (steps : List (List Part)) (once parts : Part) → 0 < length sections → 0 < length steps → once.at ≡ parts.at → AreMerged sections once → AreMergedInParts steps sections (parts ∷ []) → once.bytes ≡ parts.bytes
in_parts sections steps once parts some any at h k =
    let count : length (part_tables sections) ≡ length sections = length-map sections (λ (part : Part). part.table) in
    one_section (part_tables sections) once parts (omega (some, count, arith)) at (of_merged (part_tables sections) once h.count h.rows h.is) (of_parts steps sections parts any k)
