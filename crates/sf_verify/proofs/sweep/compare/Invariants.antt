use Rattle.std.proofs.Common.{ℕ, ◌<◌, get_or, length}
use Rattle.sf_merge.specs.declared.located.Located.{Located}
use Rattle.sf_verify.specs.Asking.{IsReady, IsSame, contents_of}
use Rattle.sf_merge.specs.Located.{located_functions}
use Rattle.sf_verify.specs.SectionContent.{section_at}
use Rattle.sf_verify.proofs.Swept.{AgreeOver}
use Rattle.sf_verify.proofs.sweep.compare.Given as goal

abbrev pub invariant-loop-place : goal.invariant-loop-place
invariant-loop-place l = record {
  same : IsSame l.initial.dwarf l.dwarf;
  ready : (d : Located) → l.place < length l.functions → IsReady l.dwarf (get_or l.functions l.place d).func.start;
  agree : (i : ℕ) (d : Located) → i < l.place → i < length l.functions → AgreeOver (section_at (located_functions l.functions)) (contents_of l.initial.dwarf) (get_or l.functions i d).func;
}
