-- The text of a table, from the lines of its section and functions.
use Rattle.std.proofs.Common.{◌≡◌, ℕ, List, ◌++◌, length, ap, ◌∙◌}
use Rattle.std.specs.List.{flat_map}
use Rattle.sf_model.specs.declared.machine.Arch.{Arch}
use Rattle.sf_model.specs.declared.rows.Row.{Row}
use Rattle.sf_model.specs.declared.function.Func.{Func}
use Rattle.sf_model.specs.declared.function.FuncHead.{FuncHead}
use Rattle.sf_model.specs.Table.{Table, row_count}
use Rattle.sf_decode.specs.View.{head_of}
use Rattle.sf_text.specs.Dump.{dump_text, function_line, function_text, row_line, section_line}

pub function_text_is : (f : Func) (head : FuncHead) (rows : List Row) → head ≡ head_of f → rows ≡ f.rows → function_line head ++ flat_map row_line rows ≡ function_text f
unfolding function_text
function_text_is f head rows head_is rows_are =
    ap (λ (h : FuncHead). function_line h ++ flat_map row_line rows) head_is ∙ ap (λ (rs : List Row). function_line (head_of f) ++ flat_map row_line rs) rows_are

pub dump_text_is : (table : Table) (arch : Arch) (flags functions rows : ℕ) → arch ≡ table.arch → flags ≡ table.flags → functions ≡ length table.functions → rows ≡ row_count table.functions
    → section_line arch flags functions rows ++ flat_map function_text table.functions ≡ dump_text table
unfolding dump_text
dump_text_is table arch flags functions rows arch_is flags_are functions_are rows_are =
    ap (λ (a : Arch). section_line a flags functions rows ++ flat_map function_text table.functions) arch_is
    ∙ ap (λ (n : ℕ). section_line table.arch n functions rows ++ flat_map function_text table.functions) flags_are
    ∙ ap (λ (n : ℕ). section_line table.arch table.flags n rows ++ flat_map function_text table.functions) functions_are
    ∙ ap (λ (n : ℕ). section_line table.arch table.flags (length table.functions) n ++ flat_map function_text table.functions) rows_are
