use Rattle.std.specs.List.{zip}
use Rattle.std.specs.String.{string_bytes}
use Rattle.std.proofs.Common.{◌≡◌, ◌<◌, ◌≤◌, ◌-◌, ℕ, All, List, [], map, length, take, drop, get_or, true, refl, ap, sym, subst, ◌∙◌, arith}
use Rattle.core_notes.specs.Checks.{core_check}
use Rattle.sf_words.specs.ItemRead.{is_read_whole, read_bytes}
use Rattle.sf_words.specs.declared.loaded.Loaded.{Loaded}
use Rattle.core_parts.specs.Loaded.{core_read_bytes}
use Rattle.sf_words.specs.Items.{Core, Mapped, is_core}
use Rattle.sf_words.specs.Loading.{loaded_bytes}
use Rattle.sf_words.proofs.Limits.{within_limits}
use Rattle.sf_words.proofs.WholeFiles.{first_tested}
use Rattle.section_commands.specs.Making.{MadeAs}
use Rattle.section_commands.specs.Process.{ProcessComes}
use Rattle.section_commands.specs.Procwalk.{ProcwalkComesIn, procwalk_files, procwalk_of}
use Rattle.section_commands.proofs.Lists.{as_many, bytes_at, later_bytes, later_files, later_items}
use Rattle.section_commands.proofs.Procwalks.{IsShort, loaded_short}
use Rattle.section_commands.proofs.procwalk.Procwalk.make.Goals as goal

pub core-requires : goal.core-requires
core-requires c = first_tested is_core true c.args.loaded.now _ _ c.core-item.result _ c.requires.items c.core-item.is refl

pub procwalk_made-requires-clause-few : goal.procwalk_made-requires-clause-few
procwalk_made-requires-clause-few c =
    let loaded = c.args.loaded.now in
    let names = map string_bytes c.args.self.now.files.now in
    let limits = within_limits (procwalk_files (procwalk_of c.args.self.now)) (loaded_bytes loaded) c.requires.within in
    let few : length (map Mapped names) ≤ 512 = limits.0 in
    let count : length (drop 1 loaded) ≡ length (map Mapped names) = as_many (drop 1 loaded) (map Mapped names) (later_items loaded (Core c.args.self.now.core.now) (map Mapped names) c.requires.items) in
    subst (λ (files : List Loaded). length files ≤ 512) (sym (later_files loaded)) (omega (arith, few, count))

pub procwalk_made-requires-clause-small : goal.procwalk_made-requires-clause-small
procwalk_made-requires-clause-small c =
    let loaded = c.args.loaded.now in
    let limits = within_limits (procwalk_files (procwalk_of c.args.self.now)) (loaded_bytes loaded) c.requires.within in
    let short = loaded_short c.args.self.now.core.now (map string_bytes c.args.self.now.files.now) loaded c.requires.items limits.1 in
    subst (λ (files : List Loaded). All IsShort (loaded_bytes files)) (sym (later_files loaded)) short

pub returns-clause-comes : goal.returns-clause-comes
returns-clause-comes c =
    let loaded = c.args.loaded.now in
    let bytes = loaded_bytes loaded in
    let names = map string_bytes c.args.self.now.files.now in
    let depth = c.args.self.now.depth in
    let some : 0 < length loaded = omega (arith, c.in-len1-up.len_at_least) in
    let read = core_read_bytes c.core.result.now in
    let core : read ≡ get_or bytes 0 [] = c.core.ensures.bytes ∙ ap (λ (l : Loaded). read_bytes l.read) c.core-item.is ∙ sym (bytes_at loaded 0 c.core-item.result some) in
    let files : loaded_bytes (take (length loaded - 1) (drop 1 loaded)) ≡ drop 1 bytes = ap loaded_bytes (later_files loaded) ∙ later_bytes loaded in
    subst (λ (b : List ℕ). MadeAs (ProcessComes b (ProcwalkComesIn depth (zip names (drop 1 bytes))) (core_check b)) c.procwalk_made.result) core
    (subst (λ (fs : List (List ℕ)). MadeAs (ProcessComes read (ProcwalkComesIn depth (zip names fs)) (core_check read)) c.procwalk_made.result) files c.procwalk_made.ensures.comes)

pub returns-clause-whole : goal.returns-clause-whole
returns-clause-whole c = λ whole.
    let some : 0 < length c.args.loaded.now = omega (arith, c.in-len1-up.len_at_least) in
    c.procwalk_made.ensures.whole (sym c.core.ensures.whole ∙ ap (λ (l : Loaded). is_read_whole l.read) c.core-item.is ∙ whole 0 _ some)
