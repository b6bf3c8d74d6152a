-- The module of a file that was found and linked.
use Rattle.std.proofs.Common.{◌≡◌, ℕ, List, refl, sym, ap, subst}
use Rattle.sf_model.specs.Section.{Section}
use Rattle.sf_write.specs.Section.{table_of}
use Rattle.sf_plt.specs.Written.{written_functions}
use Rattle.sf_modules.specs.Mapped.{IsMapped, MappedView, mapped_view}
use Rattle.sf_modules.specs.Process.{ProcessView}
use Rattle.module_tables.specs.Table.{IsModuleTable}
use Rattle.process_tables.specs.declared.table.MappedTable.{MappedTable}
use Rattle.process_tables.specs.Modules.{IsMappedModule, MappedModule}
use Rattle.process_tables.specs.Views.{IsTableOf}

pub made : (p : ProcessView) (item : ℕ) (word file : List ℕ) (mapped : MappedView) (t : MappedTable) → item ≡ t.item → word ≡ t.word.now → mapped ≡ mapped_view t.mapped → IsMapped p word file mapped
    → IsModuleTable file mapped.base mapped.entry.start t.table.section.items t.table.signals.items → (m : MappedModule) × IsMappedModule p item word file m × IsTableOf m t
made p item word file mapped t number named same is table =
    let m : MappedModule = record {
      item = t.item;
      word = t.word.now;
      name = t.mapped.entry.name.now;
      base = t.mapped.base;
      machine = t.mapped.machine;
      functions = table.linked.functions;
      signals = t.table.signals.items;
      table = table_of table.linked.arch (written_functions table.linked.sorted);
    } in (
      m,
      record {
        mapped = mapped;
        is_mapped = is;
        section = t.table.section.items;
        is_table = table;
        item_is = sym number;
        word_is = sym named;
        name_is = sym (ap (λ (v : MappedView). v.entry.name) same);
        base_is = sym (ap (λ (v : MappedView). v.base) same);
        machine_is = sym (ap (λ (v : MappedView). v.machine) same);
        functions_are = refl;
        table_is = refl;
      },
      record {
        item = refl;
        word = refl;
        name = refl;
        base = refl;
        machine = refl;
        section = subst (λ (v : MappedView). Section t.table.section.items v.entry.start m.table) same table.linked.is;
        signals = refl;
        recovers = table.linked.recovers;
      },
    )
