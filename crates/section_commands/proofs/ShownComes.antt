-- What `dump` and `lookup` come to, which show a section: one thing.
use Rattle.std.proofs.Common.{◌≡◌, ℕ, List, [], get_or, None, Result, Ok, Err, refl, ap, sym, ◌∙◌, arith}
use Rattle.sf_model.specs.Table.{Table}
use Rattle.sf_model.proofs.TableSame.{table_same}
use Rattle.sf_decode.specs.declared.fault.DecodeFault.{DecodeFault}
use Rattle.sf_decode.specs.Decoding.{section_check, table_in}
use Rattle.sf_words.specs.Words.{SectionWords}
use Rattle.section_commands.specs.Coming.{Coming, Makes}
use Rattle.section_commands.specs.Dump.{DumpComes, IsDump, dump_files, table_shown}
use Rattle.section_commands.specs.Lookup.{IsLookup, LookupComes, LookupWords, lookup_files, row_outcome}
use Rattle.section_commands.specs.SectionComes.{Showing, ShowingComesFrom, coming_of_decoding}
use Rattle.sf_model.specs.Section.{AreBytes}
use Rattle.sf_decode.proofs.EntriesRead.{section_stands}
use Rattle.section_commands.proofs.ComesToOne.{ComesToOne, bytes_at}

one_shown : (at : ℕ) (bytes : List ℕ) (show : Showing) (check : Result (Unit {0}) DecodeFault) (c d : Coming) → ShowingComesFrom at bytes show check c → ShowingComesFrom at bytes show check d → c ≡ d
one_shown at bytes show (Err fault) c d p q = p ∙ sym q
one_shown at bytes show (Ok u) c d p q =
    p.is ∙ ap (λ (t : Table). Makes (show t).0 None (show t).1) (table_same bytes at p.table q.table p.of_bytes q.of_bytes) ∙ sym q.is

pub some_shown : (at : ℕ) (bytes : List ℕ) (show : Showing) → AreBytes bytes → (check : Result (Unit {0}) DecodeFault) → section_check bytes at ≡ check → (coming : Coming) × ShowingComesFrom at bytes show check coming
some_shown at bytes show are (Err fault) e = (coming_of_decoding 0 fault, refl)
some_shown at bytes show are (Ok u) e = (_, record { table = table_in bytes at; of_bytes = section_stands bytes at are e; is = refl })

-- ---- each command
pub dump_comes_to_one : (section : SectionWords) → ComesToOne (λ words. IsDump words section) (dump_files section) (λ items coming. DumpComes section items coming)
dump_comes_to_one section = record {
  one = λ asked items count c d p q. one_shown section.at (get_or items 0 []) table_shown (section_check (get_or items 0 []) section.at) c d p q;
  some = λ asked items count bytes. some_shown section.at (get_or items 0 []) table_shown (bytes_at items 0 bytes (omega (count, arith))) (section_check (get_or items 0 []) section.at) refl;
}

pub lookup_comes_to_one : (lookup : LookupWords) → ComesToOne (λ words. IsLookup words lookup) (lookup_files lookup) (λ items coming. LookupComes lookup items coming)
lookup_comes_to_one lookup = record {
  one = λ asked items count c d p q. one_shown lookup.section.at (get_or items 0 []) (row_outcome lookup.pc) (section_check (get_or items 0 []) lookup.section.at) c d p q;
  some = λ asked items count bytes.
      some_shown lookup.section.at (get_or items 0 []) (row_outcome lookup.pc) (bytes_at items 0 bytes (omega (count, arith))) (section_check (get_or items 0 []) lookup.section.at) refl;
}
