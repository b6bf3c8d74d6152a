-- What the checks of a file's entry say.
use Rattle.std.specs.List.{find, list_any}
use Rattle.std.specs.Prelude.{nat_lt, not}
use Rattle.std.proofs.Common.{◌≡◌, ℕ, ◌<◌, Bool, true, false, List, Option, Some, Ok, Err, refl, sym, ap, ◌∙◌, arith}
use Rattle.std.proofs.lemmas.Bool.{lt-ltb}
use Rattle.elf_read.specs.Checking.{unless, ◌>>◌}
use Rattle.sf_modules.specs.declared.fault.ModuleFault.{ModuleFault}
use Rattle.sf_modules.specs.declared.fault.ModuleFault.TheVariants.{NotMapped, Ambiguous, Build}
use Rattle.sf_modules.specs.Build.{is_same_build}
use Rattle.sf_modules.specs.Entry.{EntryView}
use Rattle.sf_modules.specs.Fault.{Check}
use Rattle.sf_modules.specs.Match.{matching_entry, is_ambiguous, is_candidate, longest_tail, matches, matches_too}
use Rattle.sf_modules.specs.Module.{file_base}
use Rattle.sf_modules.specs.Process.{ProcessView}
use Rattle.sf_modules.specs.Reading.{build_part, match_part, nearest_part}

-- ---- how a file's entry is found
pub no_candidate : (p : ProcessView) (word file : List ℕ) (load tail : ℕ) → tail ≡ longest_tail word p.entries → tail ≡ 0 → Err NotMapped ≡ nearest_part p word file load
unfolding nearest_part
no_candidate p word file load tail is zero = ap (λ (n : ℕ). unless (nat_lt 0 n) NotMapped >> match_part p word file load (matching_entry p word file load)) (sym zero ∙ is)

pub by_match : (p : ProcessView) (word file : List ℕ) (load tail : ℕ) (o : Option EntryView) → tail ≡ longest_tail word p.entries → (tail ≡ 0 → ⊥) → o ≡ find (matches p word file load tail) p.entries
    → match_part p word file load o ≡ nearest_part p word file load
unfolding nearest_part
by_match p word file load tail o is some found =
    let more : 0 < tail = omega (some, arith) in
    let candidate : nat_lt 0 (longest_tail word p.entries) ≡ true = ap (nat_lt 0) (sym is) ∙ lt-ltb 0 tail more in
    ap (match_part p word file load) (found ∙ ap (λ (n : ℕ). find (matches p word file load n) p.entries) is)
    ∙ ap (λ (b : Bool). unless b NotMapped >> match_part p word file load (matching_entry p word file load)) (sym candidate)

-- whether it fits at another name too
pub by_others : (p : ProcessView) (word file : List ℕ) (load tail : ℕ) (e : EntryView) (b : Bool) → tail ≡ longest_tail word p.entries → b ≡ list_any (matches_too p word file load tail e) p.entries
    → unless (not b) Ambiguous ≡ match_part p word file load (Some e)
by_others p word file load tail e b is others =
    ap (λ (t : Bool). unless (not t) Ambiguous) (others ∙ ap (λ (n : ℕ). list_any (matches_too p word file load n e) p.entries) is)

-- ---- what checks without a fault say
pub both_fine : (x y : Check) → (x >> y) ≡ Ok tt → (x ≡ Ok tt) × (y ≡ Ok tt)
both_fine (Ok u) y h = (refl, h)
both_fine (Err f) y h = cc

pub passes : (test : Bool) (fault : ModuleFault) → unless test fault ≡ Ok tt → test ≡ true
passes true fault h = refl
passes false fault h = cc

is_false : (test : Bool) → not test ≡ true → test ≡ false
is_false false h = refl
is_false true h = cc

pub record IsPlaced (p : ProcessView) (word file : List ℕ) (load : ℕ) (e : EntryView) : Type 0 where
  pub named : is_candidate word p.entries ≡ true
  pub alone : is_ambiguous p word file load e ≡ false

pub nearest_fine : (p : ProcessView) (word file : List ℕ) (load : ℕ) (e : EntryView) → nearest_part p word file load ≡ Ok tt → matching_entry p word file load ≡ Some e → IsPlaced p word file load e
unfolding nearest_part
nearest_fine p word file load e fine is =
    let both = both_fine (unless (is_candidate word p.entries) NotMapped) (match_part p word file load (matching_entry p word file load)) fine in
    let alone : unless (not (is_ambiguous p word file load e)) Ambiguous ≡ Ok tt = ap (match_part p word file load) (sym is) ∙ both.1 in
    record {
      named = passes (is_candidate word p.entries) NotMapped both.0;
      alone = is_false (is_ambiguous p word file load e) (passes (not (is_ambiguous p word file load e)) Ambiguous alone);
    }

pub build_fine : (p : ProcessView) (file : List ℕ) (load : ℕ) (e : EntryView) → build_part p file load e ≡ Ok tt → is_same_build p.core file (file_base file p.page e load) ≡ true
build_fine p file load e fine = passes (is_same_build p.core file (file_base file p.page e load)) Build fine
