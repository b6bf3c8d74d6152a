use Rattle.std.proofs.Common.{◌≡◌, ℕ, List, true, Some, Ok, sym, ap, subst, ◌∙◌}
use Rattle.elf_mapped.specs.Program.{program_bytes}
use Rattle.sf_modules.specs.Build.{is_same_build}
use Rattle.sf_modules.specs.Entry.{mapping_view}
use Rattle.sf_modules.specs.Match.{matching_entry}
use Rattle.sf_modules.specs.Module.{file_base}
use Rattle.sf_modules.specs.Process.{process_view}
use Rattle.sf_modules.specs.Reading.{nearest_part}
use Rattle.sf_modules.proofs.Placing.{build_fine, nearest_fine}
use Rattle.sf_modules.proofs.place.place_of.Goals as goal

pub returns-clause-value : goal.returns-clause-value
returns-clause-value c =
    let p = process_view c.args.process.now in
    let word = c.args.word.now in
    let f = program_bytes c.args.elf.now in
    let g = program_bytes c.in_ok-program.program.elf in
    let load = c.in_ok-program.program.load in
    let e = mapping_view c.in_ok-entry.entry.now in
    let same : g ≡ f = c.in_ok-program.ensures.file in
    let near : nearest_part p word f load ≡ Ok tt = subst (λ (h : List ℕ). nearest_part p word h load ≡ Ok tt) same (sym c.in_ok-entry.ensures.check) in
    let entry_is : matching_entry p word f load ≡ Some e = subst (λ (h : List ℕ). matching_entry p word h load ≡ Some e) same c.in_ok-entry.ensures.value in
    let placed = nearest_fine p word f load e near entry_is in
    let build : is_same_build p.core f (file_base f p.page e load) ≡ true =
    subst (λ (h : List ℕ). is_same_build p.core h (file_base h p.page e load) ≡ true) same (build_fine p g load e c.in_ok-check_build.ensures.check) in
    let base : c.file_base.result ≡ file_base f p.page e load = c.file_base.ensures ∙ ap (λ (h : List ℕ). file_base h p.page e load) same in
    record {
      load = load;
      load_is = c.in_ok-program.ensures.load;
      named = placed.named;
      entry_is = entry_is;
      alone = placed.alone;
      base_is = base;
      build = subst (λ (b : ℕ). is_same_build p.core f b ≡ true) (sym base) build;
      machine_is = c.arch.ensures;
    }
