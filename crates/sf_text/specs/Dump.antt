-- The text of an SFrame section: a line for the section, and for each function a line and the lines of its rows.
use Rattle.std.specs.Prelude.{◌++◌, ℕ, List, length, codes}
use Rattle.std.specs.List.{flat_map}
use Rattle.std.specs.Fmt.{decimal}
use Rattle.sf_model.specs.declared.machine.Arch.{Arch}
use Rattle.sf_model.specs.declared.machine.Arch.TheVariants.{Amd64, Aarch64}
use Rattle.sf_model.specs.declared.machine.Key.{Key}
use Rattle.sf_model.specs.declared.machine.Key.TheVariants.{A, B}
use Rattle.sf_model.specs.declared.rows.Row.{Row}
use Rattle.sf_model.specs.declared.function.Shape.{Shape}
use Rattle.sf_model.specs.declared.function.Shape.TheVariants.{Plain, Repeat}
use Rattle.sf_model.specs.declared.function.Func.{Func}
use Rattle.sf_model.specs.declared.function.FuncHead.{FuncHead}
use Rattle.sf_model.specs.Table.{Table, row_count}
use Rattle.sf_decode.specs.View.{head_of}
use Rattle.sf_text.specs.Number.{hexadecimal_text}
use Rattle.sf_text.specs.Content.{row_text}

-- the machine
abbrev pub arch_text : Arch → List ℕ
arch_text Amd64 = codes "amd64"
arch_text Aarch64 = codes "aarch64"

-- how rows are looked up, with the repeat size where they repeat
abbrev pub kind_text : Shape → List ℕ
kind_text Plain = codes "plain"
kind_text (Repeat size) = codes "repeat " ++ decimal size

-- the key of signed return addresses
abbrev pub key_text : Key → List ℕ
key_text A = codes "a"
key_text B = codes "b"

-- `sframe 2 ARCH flags FLAGS functions COUNT rows COUNT`
unfoldable pub section_line : Arch → (flags functions rows : ℕ) → List ℕ
section_line arch flags functions rows =
    codes "sframe 2 " ++ arch_text arch ++ codes " flags " ++ hexadecimal_text flags
    ++ codes " functions " ++ decimal functions ++ codes " rows " ++ decimal rows ++ codes "\n"

-- `func START size SIZE KIND key KEY rows COUNT`
unfoldable pub function_line : FuncHead → List ℕ
function_line head =
    codes "func " ++ hexadecimal_text head.start ++ codes " size " ++ decimal head.size ++ codes " " ++ kind_text head.shape
    ++ codes " key " ++ key_text head.key ++ codes " rows " ++ decimal head.rows ++ codes "\n"

-- two blanks, `+START`, a blank and the content
unfoldable pub row_line : Row → List ℕ
row_line row = codes "  " ++ row_text row ++ codes "\n"

-- a function's line, and its rows in order
unfoldable pub function_text : Func → List ℕ
function_text f = function_line (head_of f) ++ flat_map row_line f.rows

-- the section's line, and its functions in order
unfoldable pub dump_text : Table → List ℕ
dump_text table =
    section_line table.arch table.flags (length table.functions) (row_count table.functions) ++ flat_map function_text table.functions
