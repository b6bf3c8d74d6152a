-- What `walk` comes to: one thing.
use Rattle.std.proofs.Common.{◌≡◌, ℕ, List, [], get_or, Result, Ok, Err, refl, ap, sym, ◌∙◌, arith}
use Rattle.sf_model.specs.Table.{Table}
use Rattle.sf_model.proofs.TableSame.{table_same}
use Rattle.sf_decode.specs.declared.fault.DecodeFault.{DecodeFault}
use Rattle.sf_decode.specs.Decoding.{section_check, table_in}
use Rattle.elf_read.specs.Header.{arch_of}
use Rattle.core_notes.specs.declared.fault.CoreFault.{CoreFault}
use Rattle.core_notes.specs.Checks.{core_check}
use Rattle.sf_merge.specs.Merging.{same_arch}
use Rattle.section_commands.specs.Coming.{Coming}
use Rattle.section_commands.specs.SectionComes.{coming_of_decoding}
use Rattle.section_commands.specs.Walk.{IsWalk, WalkComes, WalkComesFrom, WalkWords, coming_of_walks, walk_files}
use Rattle.section_commands.specs.Walks.{table_walks, coming_of_core}
use Rattle.sf_model.specs.Section.{AreBytes}
use Rattle.sf_decode.proofs.EntriesRead.{section_stands}
use Rattle.section_commands.proofs.ComesToOne.{ComesToOne, bytes_at}

one_walk : (at : ℕ) (section core : List ℕ) (depth : ℕ) (check : Result (Unit {0}) DecodeFault) (second : Result (Unit {0}) CoreFault) (c d : Coming) → WalkComesFrom at section core depth check second c → WalkComesFrom at section core depth check second d → c ≡ d
one_walk at section core depth (Err fault) second c d p q = p ∙ sym q
one_walk at section core depth (Ok u) (Err fault) c d p q = p ∙ sym q
one_walk at section core depth (Ok u) (Ok v) c d p q =
    let tables = table_same section at p.table q.table p.of_bytes q.of_bytes in
    p.is ∙ ap (λ (t : Table). coming_of_walks (same_arch t.arch (arch_of core)) (table_walks t core depth)) tables ∙ sym q.is

some_walk_from : (at : ℕ) (section core : List ℕ) (depth : ℕ) → AreBytes section → (check : Result (Unit {0}) DecodeFault) → section_check section at ≡ check → (core_fault : Result (Unit {0}) CoreFault)
    → (coming : Coming) × WalkComesFrom at section core depth check core_fault coming
some_walk_from at section core depth are (Err fault) e check = (coming_of_decoding 0 fault, refl)
some_walk_from at section core depth are (Ok u) e (Err fault) = (coming_of_core 1 fault, refl)
some_walk_from at section core depth are (Ok u) e (Ok v) = (_, record { table = table_in section at; of_bytes = section_stands section at are e; is = refl })

pub walk_comes_to_one : (walk : WalkWords) → ComesToOne (λ words. IsWalk words walk) (walk_files walk) (λ items coming. WalkComes walk items coming)
walk_comes_to_one walk = record {
  one = λ asked items count c d p q.
      one_walk walk.section.at (get_or items 0 []) (get_or items 1 []) walk.depth (section_check (get_or items 0 []) walk.section.at) (core_check (get_or items 1 [])) c d p q;
  some = λ asked items count bytes.
      some_walk_from walk.section.at (get_or items 0 []) (get_or items 1 []) walk.depth (bytes_at items 0 bytes (omega (count, arith))) (section_check (get_or items 0 []) walk.section.at) refl (core_check (get_or items 1 []));
}
