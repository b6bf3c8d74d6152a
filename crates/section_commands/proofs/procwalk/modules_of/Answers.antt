use Rattle.std.specs.List.{zip}
use Rattle.std.specs.String.{string_bytes}
use Rattle.std.proofs.Common.{◌≡◌, ◌<◌, ◌^◌, ◌+◌, ℕ, List, [], map, length, get_or, true, false, ap, sym, subst, ◌∙◌, Ok, Err, arith}
use Rattle.std.proofs.lemmas.List.{length-map}
use Rattle.std.proofs.lemmas.List.Elements.{All-push}
use Rattle.elf_mapped.specs.Program.{all_bytes}
use Rattle.sf_modules.specs.declared.fault.ModuleFault.{ModuleFault}
use Rattle.sf_modules.specs.Fault.{IsFaultOf}
use Rattle.sf_modules.specs.Module.{module_view}
use Rattle.sf_modules.specs.declared.read_once.ReadFile.{ReadFile}
use Rattle.sf_modules.specs.Process.{process_view}
use Rattle.sf_modules.specs.ReadFile.{AreRead, IsRead}
use Rattle.sf_words.specs.ItemRead.{read_bytes}
use Rattle.sf_words.specs.declared.item.Item.{Item}
use Rattle.sf_words.specs.declared.loaded.Loaded.{Loaded}
use Rattle.sf_words.specs.Items.{is_mapped, item_of}
use Rattle.sf_words.specs.Loading.{loaded_bytes}
use Rattle.section_commands.specs.Process.{File}
use Rattle.section_commands.specs.Procwalk.{IsModuleOf, module_file_check}
use Rattle.section_commands.proofs.Lists.{a_mapped_file, bytes_at, mapped_turn, none_left}
use Rattle.section_commands.proofs.Processes.{is_final_fault}
use Rattle.section_commands.proofs.Procwalks.{unread}
use Rattle.section_commands.proofs.Reading.{all_fine, all_made, one_more_read}
use Rattle.section_commands.proofs.procwalk.modules_of.Goals as goal

pub unreachable-requires : goal.unreachable-requires
unreachable-requires c =
    let lt : c.loop-file.file-index < length c.args.files.now = omega arith in
    let name = a_mapped_file (map string_bytes c.args.names.now) c.args.files.now c.loop-file.file-index c.file-item.result c.requires.items lt in
    c.in_default.not-Mapped name.0 (ap (λ (l : Loaded). l.item) c.file-item.is ∙ name.1)

pub mapped-bytes-requires : goal.mapped-bytes-requires
mapped-bytes-requires c = ap (λ (i : Item). is_mapped (item_of i)) c.in-Mapped.is

pub read_module_once-requires-clause-small : goal.read_module_once-requires-clause-small
read_module_once-requires-clause-small c =
    let files = c.args.files.now in
    let k = c.loop-file.file-index in
    let lt : k < length files = omega arith in
    let count = length-map files (λ (l : Loaded). read_bytes l.read) in
    let short : length (get_or (loaded_bytes files) k []) < 2 ^ 32 = c.requires.small k [] (omega (arith, lt, count)) in
    let is : all_bytes c.mapped-bytes.result ≡ get_or (loaded_bytes files) k [] = c.mapped-bytes.ensures ∙ ap (λ (l : Loaded). read_bytes l.read) c.file-item.is ∙ sym (bytes_at files k c.file-item.result lt) in
    let long = ap length is in
    omega (arith, short, long)

pub loop-file-preserved : goal.loop-file-preserved
loop-file-preserved c =
    let names = map string_bytes c.args.names.now in
    let files = c.args.files.now in
    let k = c.loop-file.file-index in
    let lt : k < length files = omega arith in
    let p = process_view c.args.process.now in
    let here_mapped = ap (λ (l : Loaded). l.item) (sym c.file-item.is) ∙ c.in-Mapped.is in
    let here = mapped_turn names files k c.file-item.result c.in-Mapped.name c.requires.items lt here_mapped in
    let bytes = read_bytes (get_or files k c.file-item.result).read in
    let read : (c.as_bytes-word.result.now, all_bytes c.mapped-bytes.result) ≡ (c.in-Mapped.name.now, bytes) =
    ap (λ (b : List ℕ). (c.as_bytes-word.result.now, b)) (c.mapped-bytes.ensures ∙ ap (λ (l : Loaded). read_bytes l.read) c.file-item.is) ∙ ap (λ (n : List ℕ). (n, bytes)) c.as_bytes-word.ensures.value in
    let check = subst (λ (f : File). module_file_check p f ≡ Ok tt) read c.in-Ok.ensures.exact in
    let is = subst (λ (f : File). IsModuleOf p f (module_view c.in-Ok.module)) read c.in-Ok.ensures.sound in
    record {
      count = omega (arith, c.in_ok-push-in-Ok.ensures.len, c.push.new.self.ok.0, c.loop-file.modules.ok.0, c.loop-file.invariant.count);
      reading =
          one_more_read (module_file_check p) (IsModuleOf p) module_view 1 (zip names (loaded_bytes files)) (k + 1) _ c.loop-file.modules.items c.push.new.self.items c.in-Ok.module _ _ c.loop-file.invariant.reading here check is
          c.in_ok-push-in-Ok.ensures.items;
      read =
          subst (λ (fs : List ReadFile). AreRead p fs) (sym c.in_ok-push-in-Ok-2.ensures.items)
          (All-push (IsRead p) c.loop-file.read.items (record { word = c.as_bytes-word.result; bytes = c.mapped-bytes.result; «module» = c.in-Ok.module }) c.loop-file.invariant.read
          (record { fine = c.in-Ok.ensures.exact; is = c.in-Ok.ensures.sound }));
    }

pub returns-in-Err-clause-refused : goal.returns-in-Err-clause-refused
returns-in-Err-clause-refused c =
    let names = map string_bytes c.args.names.now in
    let files = c.args.files.now in
    let k = c.loop-file.file-index in
    let lt : k < length files = omega arith in
    let p = process_view c.args.process.now in
    let here_mapped = ap (λ (l : Loaded). l.item) (sym c.file-item.is) ∙ c.in-Mapped.is in
    let here = mapped_turn names files k c.file-item.result c.in-Mapped.name c.requires.items lt here_mapped in
    let bytes = read_bytes (get_or files k c.file-item.result).read in
    let read : (c.as_bytes-word.result.now, all_bytes c.mapped-bytes.result) ≡ (c.in-Mapped.name.now, bytes) =
    ap (λ (b : List ℕ). (c.as_bytes-word.result.now, b)) (c.mapped-bytes.ensures ∙ ap (λ (l : Loaded). read_bytes l.read) c.file-item.is) ∙ ap (λ (n : List ℕ). (n, bytes)) c.as_bytes-word.ensures.value in
    let found = subst (λ (f : File). IsFaultOf (module_file_check p f) c.in-Err.fault) read c.in-Err.ensures.exact in
    let number : c.len.result + 1 ≡ k + 1 = omega (arith, c.len.ensures, c.loop-file.modules.ok.0, c.loop-file.invariant.count) in
    unread p (zip names (loaded_bytes files)) (k + 1) (c.len.result + 1) _ (map module_view c.loop-file.modules.items) _ _ c.in-Err.fault c.unread_module.result c.loop-file.invariant.reading here found number
    c.unread_module.ensures.unfinished c.unread_module.ensures.is

pub returns-in-Err-clause-whole : goal.returns-in-Err-clause-whole
returns-in-Err-clause-whole c = λ whole.
    c.unread_module.ensures.last (is_final_fault c.in-Err.fault (λ address is. let no : true ≡ false = sym (c.in-Err.ensures.unread address (ap (λ (f : ModuleFault). Err f) is)) ∙ whole in cc))

pub returns-clause-checked : goal.returns-clause-checked
returns-clause-checked c =
    let names = map string_bytes c.args.names.now in
    let p = process_view c.args.process.now in
    all_fine (module_file_check p) (IsModuleOf p) 1 (zip names (loaded_bytes c.args.files.now)) (c.loop-file.file-index + 1) _ (map module_view c.loop-file.modules.items) c.loop-file.invariant.reading
    (none_left names c.args.files.now c.loop-file.file-index (omega arith))

pub returns-clause-are : goal.returns-clause-are
returns-clause-are c =
    let names = map string_bytes c.args.names.now in
    let p = process_view c.args.process.now in
    all_made (module_file_check p) (IsModuleOf p) 1 (zip names (loaded_bytes c.args.files.now)) (c.loop-file.file-index + 1) _ (map module_view c.loop-file.modules.items) c.loop-file.invariant.reading
    (none_left names c.args.files.now c.loop-file.file-index (omega arith))
