use Rattle.std.specs.List.{zip}
use Rattle.std.specs.String.{string_bytes}
use Rattle.std.proofs.Common.{◌≡◌, ◌<◌, ◌^◌, ◌+◌, ℕ, true, List, [], map, length, get_or, refl, ap, sym, subst, ◌∙◌, arith}
use Rattle.std.proofs.lemmas.List.{length-map}
use Rattle.std.proofs.lemmas.Result.{err_from_is_err_and}
use Rattle.elf_mapped.specs.Program.{all_bytes}
use Rattle.sf_modules.specs.Match.{is_candidate}
use Rattle.sf_modules.specs.Process.{process_view}
use Rattle.sf_words.specs.ItemRead.{read_bytes}
use Rattle.sf_words.specs.declared.loaded.Loaded.{Loaded}
use Rattle.sf_words.specs.Loading.{loaded_bytes}
use Rattle.section_commands.specs.Coming.{Coming}
use Rattle.section_commands.proofs.Lists.{a_mapped_file, bytes_at, left, mapped_turn, none_left}
use Rattle.section_commands.proofs.Making.{unmade_as}
use Rattle.sf_run.specs.declared.named_files.NamedFiles.{NamedFiles}
use Rattle.sf_run.specs.NamedFiles.{IsOver}
use Rattle.sf_run.specs.Procbacktrace.{FileComes, ProcbacktraceComesIn}
use Rattle.sf_run.proofs.FilesRead.{Reached, all_read, none_reached, one_read, over_at, skipped}
use Rattle.sf_run.proofs.named_files.read_named_files.Goals as goal
use Rattle.sf_run.proofs.named_files.read_named_files.Goals.{then-is_mapped_name+in_ok-add_file, else-is_mapped_name}

pub loop-file-init : goal.loop-file-init
loop-file-init c =
    let names = map string_bytes c.args.names.now in
    record {
      count = refl;
      reached = none_reached (process_view c.args.process.now) (zip names (loaded_bytes c.args.files.now)) (left names c.args.files.now 0) _ refl c.new.ensures.items c.new-2.ensures.items;
    }

pub unreachable-requires : goal.unreachable-requires
unreachable-requires c =
    let name = a_mapped_file (map string_bytes c.args.names.now) c.args.files.now c.loop-file.file-index c.file-item.result c.requires.items c.loop-file-test.true in
    c.in_default.not-Mapped name.0 (ap (λ (l : Loaded). l.item) c.file-item.is ∙ name.1)

pub add_file-requires-clause-small : goal.add_file-requires-clause-small
add_file-requires-clause-small c =
    let files = c.args.files.now in
    let k = c.loop-file.file-index in
    let lt : k < length files = c.loop-file-test.true in
    let count = length-map files (λ (l : Loaded). read_bytes l.read) in
    let short : length (get_or (loaded_bytes files) k []) < 2 ^ 32 = c.requires.small k [] (omega (arith, lt, count)) in
    let is : all_bytes c.mapped.result ≡ get_or (loaded_bytes files) k [] = c.mapped.ensures ∙ ap (λ (l : Loaded). read_bytes l.read) c.file-item.is ∙ sym (bytes_at files k c.file-item.result lt) in
    let long = ap length is in
    omega (arith, short, long)

pub returns-in_err-add_file-clause-over : goal.returns-in_err-add_file-clause-over
returns-in_err-add_file-clause-over c =
    let e = err_from_is_err_and c.from_residual.result c.from_residual.ensures.1 in
    let names = map string_bytes c.args.names.now in
    let files = c.args.files.now in
    let k = c.loop-file.file-index in
    let p = process_view c.args.process.now in
    let word = c.in-Mapped.word.now in
    let is_mapped = ap (λ (l : Loaded). l.item) (sym c.file-item.is) ∙ c.in-Mapped.is in
    let here = mapped_turn names files k c.file-item.result c.in-Mapped.word c.requires.items c.loop-file-test.true is_mapped in
    let bytes : all_bytes c.mapped.result ≡ read_bytes (get_or files k c.file-item.result).read = c.mapped.ensures ∙ ap (λ (l : Loaded). read_bytes l.read) c.file-item.is in
    let named : is_candidate word p.entries ≡ true = ap (λ (w : List ℕ). is_candidate w p.entries) (sym c.as_bytes.ensures.value) ∙ sym c.is_mapped_name.ensures ∙ c.if-is_mapped_name.true in
    let number : c.loop-file.item + 1 ≡ k + 1 = ap (λ (n : ℕ). n + 1) c.loop-file.invariant.count in
    rw (e.1, e.2) (λ depth. unmade_as (λ (coming : Coming). IsOver p (c.loop-file.item + 1) (word, all_bytes c.mapped.result) coming) (ProcbacktraceComesIn depth (zip names (loaded_bytes files)) p)
    (λ coming h. over_at p (zip names (loaded_bytes files)) (k + 1) (word, read_bytes (get_or files k c.file-item.result).read) _ _ c.loop-file.named depth coming here named c.loop-file.invariant.reached
    (subst (λ (b : List ℕ). IsOver p (k + 1) (word, b) coming) bytes (subst (λ (n : ℕ). IsOver p n (word, all_bytes c.mapped.result) coming) number h)))
    c.in_err-add_file.field-0.0 c.in_err-add_file.ensures.over)

pub loop-file-preserved : goal.loop-file-preserved
loop-file-preserved c =
    let names = map string_bytes c.args.names.now in
    let files = c.args.files.now in
    let all = zip names (loaded_bytes files) in
    let k = c.loop-file.file-index in
    let p = process_view c.args.process.now in
    let word = c.in-Mapped.word.now in
    let is_mapped = ap (λ (l : Loaded). l.item) (sym c.file-item.is) ∙ c.in-Mapped.is in
    let here = mapped_turn names files k c.file-item.result c.in-Mapped.word c.requires.items c.loop-file-test.true is_mapped in
    let read = read_bytes (get_or files k c.file-item.result).read in
    let number : c.loop-file.item + 1 ≡ k + 1 = ap (λ (n : ℕ). n + 1) c.loop-file.invariant.count in
    let test : is_candidate word p.entries ≡ c.is_mapped_name.result = ap (λ (w : List ℕ). is_candidate w p.entries) (sym c.as_bytes.ensures.value) ∙ sym c.is_mapped_name.ensures in
    let so_far = c.loop-file.invariant.reached in
    elim c.if-is_mapped_name.branch [
      | then-is_mapped_name+in_ok-add_file w ↦
          let added = w.in_ok-add_file.ensures.added so_far.outcomes so_far.are in
          let bytes : all_bytes w.mapped.result ≡ read = w.mapped.ensures ∙ ap (λ (l : Loaded). read_bytes l.read) c.file-item.is in
          let comes = subst (λ (b : List ℕ). FileComes p (k + 1) (word, b) added.0) bytes (subst (λ (n : ℕ). FileComes p n (word, all_bytes w.mapped.result) added.0) number added.1) in
          record {
            count = number;
            reached =
                subst (λ (n : NamedFiles). Reached p all (k + 1 + 1) (left names files (k + 1)) n) (sym w.named-is)
                (one_read p all (k + 1) (word, read) _ _ c.loop-file.named _ added.0 here (test ∙ w.if-is_mapped_name.true) comes so_far added.2);
          }
      | else-is_mapped_name w ↦ record {
        count = number;
        reached =
            subst (λ (n : NamedFiles). Reached p all (k + 1 + 1) (left names files (k + 1)) n) (sym w.named-is)
            (skipped p all (k + 1) (word, read) _ _ c.loop-file.named here (test ∙ w.if-is_mapped_name.false) so_far);
      }
    ]

pub returns-clause-read : goal.returns-clause-read
returns-clause-read c =
    let names = map string_bytes c.args.names.now in
    let p = process_view c.args.process.now in
    all_read p (zip names (loaded_bytes c.args.files.now)) (c.loop-file.file-index + 1) (left names c.args.files.now c.loop-file.file-index) c.loop-file.named
    (none_left names c.args.files.now c.loop-file.file-index (omega (c.loop-file-test.false, arith))) c.loop-file.invariant.reached
