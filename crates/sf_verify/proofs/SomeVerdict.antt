-- Verifying comes to a result: there is a least address at which a section and the inputs differ, or they agree at each.
use Rattle.std.specs.Prelude.{IfSome, not}
use Rattle.std.specs.List.{All, filter, find}
use Rattle.std.specs.Option.{option_and_then}
use Rattle.std.proofs.Common.{◌≡◌, ◌⊎◌, ℕ, zero, suc, ◌+◌, ◌<◌, ◌≤◌, Bool, true, false, cond, List, [], ◌∷◌, length, map, Option, Some, None, Result, Ok, Err, refl, sym, ap, subst, arith, inl, inr}
use Rattle.std.proofs.lemmas.Bool.{cases_lt}
use Rattle.std.proofs.lemmas.List.Elements.{All-head, All-tail}
use Rattle.sf_model.specs.declared.content.Content.{Content}
use Rattle.sf_model.specs.declared.function.Func.{Func}
use Rattle.sf_model.specs.declared.machine.Arch.{Arch}
use Rattle.sf_model.specs.declared.verdict.Verdict.{Verdict}
use Rattle.sf_model.specs.declared.verdict.Verdict.TheVariants.{Agrees, Differs}
use Rattle.sf_model.specs.Lookup.{contains, found_at, row_in_first}
use Rattle.sf_model.specs.Table.{Table}
use Rattle.sf_model.proofs.Unions.{within}
use Rattle.sf_merge.proofs.SomeResult.{some_order}
use Rattle.frame_functions.specs.declared.read_function.ReadFunction.{ReadFunction}
use Rattle.sf_asm.specs.declared.fault.GatherFault.{GatherFault}
use Rattle.frame_functions.specs.declared.keyed_content.KeyedContent.{KeyedContent}
use Rattle.frame_functions.specs.Functions.{Function}
use Rattle.sf_asm.specs.Functions.{Object, functions_of, machine_of}
use Rattle.sf_asm.specs.Inputs.{all_functions}
use Rattle.frame_functions.specs.Kept.{read_of, kept_functions}
use Rattle.frame_functions.specs.Order.{start_of}
use Rattle.sf_asm.specs.Linking.{Gathers, GathersFrom, functions_fault, unless_fault}
use Rattle.frame_functions.specs.ContentAt.{Answers, dwarf_at}
use Rattle.sf_asm.proofs.Accepting.{gathered_can_be}
use Rattle.sf_functions.proofs.ByStart.{by_key, in_order}
use Rattle.sf_asm.proofs.Described.{describe, to_gathers}
use Rattle.sf_asm.proofs.GatheredInputs.{are_read}
use Rattle.sf_verify.specs.declared.fault.VerifyFault.{VerifyFault}
use Rattle.sf_verify.specs.Agreement.{Agree, DifferFirst, IsFitting, IsVerdict, agree, without_key, is_missing, is_plain}
use Rattle.sf_verify.specs.SectionContent.{by_row, section_at}
use Rattle.sf_verify.specs.Verifying.{Verifies, VerdictUnless, first_verify_fault, refused, section_fault, sized_in}
use Rattle.sf_verify.proofs.AlikeContents.{alike, says_agree}

-- ---- at one address they agree or don't
abbrev Decides : (section dwarf : Option KeyedContent) → Type 0
Decides section dwarf = Agree section dwarf ⊎ (Agree section dwarf → ⊥)

by_test : (arch : Arch) (s d : KeyedContent) → IsFitting arch s → IsFitting arch d → (b : Bool) → agree s d ≡ b → Decides (Some s) (Some d)
by_test arch s d f g true e = inl (alike s d e)
by_test arch s d f g false e = inr (λ same. let yes = says_agree arch s d f g same in cc)

decides : (arch : Arch) (section dwarf : Option KeyedContent) → IfSome section (IsFitting arch) → IfSome dwarf (IsFitting arch) → Decides section dwarf
decides arch None dwarf f g = inl tt
decides arch (Some s) None f g = inr (λ same. same)
decides arch (Some s) (Some d) f g = by_test arch s d f g (agree s d) refl

-- ---- below an address they agree, or there is a least one at which they don't
abbrev AgreeBelow : (section dwarf : Answers) → (end : ℕ) → Type 0
AgreeBelow section dwarf end = (pc : ℕ) → pc < end → Agree (section pc) (dwarf pc)

record DifferAt (section dwarf : Answers) : Type 0 where
  pc : ℕ
  differ : Agree (section pc) (dwarf pc) → ⊥
  before : AgreeBelow section dwarf pc

one_more : (section dwarf : Answers) (n : ℕ) → Decides (section n) (dwarf n) → AgreeBelow section dwarf n ⊎ DifferAt section dwarf → AgreeBelow section dwarf (suc n) ⊎ DifferAt section dwarf
one_more section dwarf n here (inr d) = inr d
one_more section dwarf n (inr differ) (inl below) = inr (record { pc = n; differ = differ; before = below })
one_more section dwarf n (inl here) (inl below) = inl (λ pc lt. elim (cases_lt pc n) [
  | inl less ↦ below pc less
  | inr not_less ↦ let same : n ≡ pc = omega (arith, lt, not_less) in subst (λ (k : ℕ). Agree (section k) (dwarf k)) same here
])

least_below : (section dwarf : Answers) → ((pc : ℕ) → Decides (section pc) (dwarf pc)) → (end : ℕ) → AgreeBelow section dwarf end ⊎ DifferAt section dwarf
least_below section dwarf decide zero = inl (λ pc lt. absurd (omega (arith, lt)))
least_below section dwarf decide (suc n) = one_more section dwarf n (decide n) (least_below section dwarf decide n)

-- ---- a section says nothing after the ends of its functions
abbrev all_ends : List Func → ℕ
all_ends [] = 0
all_ends (f ∷ functions) = f.start + f.size + all_ends functions

none_contains : (pc : ℕ) (functions : List Func) → all_ends functions ≤ pc → find (contains pc) functions ≡ None
none_contains pc [] le = refl
none_contains pc (f ∷ functions) le = at_test (contains pc f) refl (none_contains pc functions (omega (arith, le)))
  where
    at_test : (b : Bool) → contains pc f ≡ b → find (contains pc) functions ≡ None → cond b (Some f) (find (contains pc) functions) ≡ None
    at_test true t later = let has = within pc f t in absurd (omega (arith, has.to, le))
    at_test false t later = later

no_content : (pc : ℕ) (functions : List Func) → all_ends functions ≤ pc → section_at functions pc ≡ None
unfolding section_at found_at
no_content pc functions le = ap (λ (f : Option Func). option_and_then by_row (row_in_first pc f)) (none_contains pc functions le)

agree_on : (functions : List Func) (dwarf : Answers) → AgreeBelow (section_at functions) dwarf (all_ends functions) → (pc : ℕ) → Agree (section_at functions pc) (dwarf pc)
agree_on functions dwarf below pc = elim (cases_lt pc (all_ends functions)) [
  | inl less ↦ below pc less
  | inr not_less ↦ subst (λ (s : Option KeyedContent). Agree s (dwarf pc)) (sym (no_content pc functions (omega (arith, not_less)))) tt
]

-- ---- the verdict
differ_first : (section dwarf : Answers) (d : DifferAt section dwarf) → (ours : Content) × (theirs : Option Content) × DifferFirst section dwarf d.pc ours theirs
differ_first section dwarf d = at_said (section d.pc) refl
  where
    at_said : (said : Option KeyedContent) → section d.pc ≡ said → (ours : Content) × (theirs : Option Content) × DifferFirst section dwarf d.pc ours theirs
    at_said None e = absurd (d.differ (subst (λ (s : Option KeyedContent). Agree s (dwarf d.pc)) (sym e) tt))
    at_said (Some s) e = (s.content, without_key (dwarf d.pc), record { section_content = ap without_key e; dwarf_content = refl; differ = d.differ; before = d.before })

by_difference : (section : List Func) (functions : List Function) → AgreeBelow (section_at section) (dwarf_at functions) (all_ends section) ⊎ DifferAt (section_at section) (dwarf_at functions) → (verdict : Verdict) × IsVerdict section functions verdict
by_difference section functions (inl below) = (
  Agrees (length (filter is_plain section)) (length (filter (is_missing section) (kept_functions functions))) (length (filter (λ (f : Func). not (is_plain f)) section)),
  record { agree = agree_on section (dwarf_at functions) below; checked_are = refl; missing_are = refl; repeats_are = refl },
)
by_difference section functions (inr d) =
    let first = differ_first (section_at section) (dwarf_at functions) d in
    (Differs d.pc first.0 first.1, first.2)

-- where what both say fits the machine
pub some_verdict : (arch : Arch) (section : List Func) (functions : List Function) → ((pc : ℕ) → IfSome (section_at section pc) (IsFitting arch)) → ((pc : ℕ) → IfSome (dwarf_at functions pc) (IsFitting arch)) → (verdict : Verdict) × IsVerdict section functions verdict
some_verdict arch section functions f g =
    by_difference section functions (least_below (section_at section) (dwarf_at functions) (λ pc. decides arch (section_at section pc) (dwarf_at functions pc) (f pc) (g pc)) (all_ends section))

-- ---- the result
gathered_from : (given : Result (List Function) GatherFault) → (inputs : Result (List ReadFunction) GatherFault) × GathersFrom given inputs
gathered_from (Err fault) = (Err fault, refl)
gathered_from (Ok functions) =
    let all = map read_of functions in
    let ordered = by_key start_of all in (
      unless_fault (functions_fault ordered) ordered,
      (ordered, in_order start_of all, refl),
    )

-- gathering inputs comes to a result
some_gathering : (before : Option Arch) (objects : List Object) → (inputs : Result (List ReadFunction) GatherFault) × Gathers before objects inputs
some_gathering before objects = let some = gathered_from (all_functions before objects) in (some.0, to_gathers before objects some.0 some.1)

-- what the functions of inputs of a machine say fits it
abbrev pub InputsFit : Arch → List Object → Type 0
InputsFit arch objects = (functions : List Function) → functions_of 1 objects ≡ Ok functions → All (λ (machine : Arch). machine ≡ arch) (map machine_of objects) → (pc : ℕ) → IfSome (dwarf_at functions pc) (IsFitting arch)

some_unless : (table : Table) (objects : List Object) (inputs : Result (List ReadFunction) GatherFault) (section : Option VerifyFault) → Gathers (Some table.arch) objects inputs → ((pc : ℕ) → IfSome (section_at table.functions pc) (IsFitting table.arch)) → InputsFit table.arch objects
    → (result : Result Verdict VerifyFault) × VerdictUnless (first_verify_fault inputs section) table objects result
some_unless table objects (Err fault) section gathers f g = (Err (refused section fault), refl)
some_unless table objects (Ok entries) (Some fault) gathers f g = (Err fault, refl)
some_unless table objects (Ok entries) None gathers f g =
    let read = are_read (Some table.arch) objects entries gathers in
    let gathered = gathered_can_be (Some table.arch) objects entries gathers in
    let machine : table.arch ≡ gathered.arch = All-head (λ (m : Arch). m ≡ gathered.arch) table.arch (map machine_of objects) gathered.machine in
    let machines = subst (λ (a : Arch). All (λ (m : Arch). m ≡ a) (map machine_of objects)) (sym machine) (All-tail (λ (m : Arch). m ≡ gathered.arch) table.arch (map machine_of objects) gathered.machine) in
    let verdict = some_verdict table.arch table.functions read.functions f (g read.functions read.are machines) in
    (Ok verdict.0, (read.functions, describe 1 objects (Ok read.functions) read.are, verdict.0, verdict.1, refl))

pub some_result : (bytes : List ℕ) (table : Table) (objects : List Object) → ((pc : ℕ) → IfSome (section_at table.functions pc) (IsFitting table.arch)) → InputsFit table.arch objects → (result : Result Verdict VerifyFault) × Verifies bytes table objects result
some_result bytes table objects f g =
    let inputs = some_gathering (Some table.arch) objects in
    let order = some_order (sized_in table) in
    let unless = some_unless table objects inputs.0 (section_fault bytes order.0) inputs.1 f g in
    (unless.0, (inputs.0, inputs.1, order.0, order.1, unless.1))
