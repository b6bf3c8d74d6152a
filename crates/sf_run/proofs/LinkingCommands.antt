-- What the commands that link, and `verify`, come to: one thing.
use Rattle.std.proofs.Common.{◌≡◌, ◌<◌, ℕ, suc, List, [], ◌∷◌, codes, map, length, drop, get_or, None, refl, sym, subst, arith}
use Rattle.core_notes.specs.Checks.{core_check}
use Rattle.sf_decode.specs.Decoding.{section_check}
use Rattle.sf_words.specs.Forms.{SectionAndInputs}
use Rattle.sf_words.specs.Items.{Input as InputItem}
use Rattle.section_commands.proofs.ComesToOne.{ComesToOne, bytes_at}
use Rattle.sf_run.specs.Backtrace.{BacktraceComes, BacktraceWords, IsBacktrace, backtrace_files}
use Rattle.sf_run.specs.Inputs.{objects_in}
use Rattle.sf_run.specs.Link.{IsLink, LinkComes, link_files, section_and_report}
use Rattle.sf_run.specs.LinkPlt.{IsLinkPlt, LinkPltComes}
use Rattle.sf_run.specs.Object.{GenComes, IsGen, gen_files, made_object, summary_alone}
use Rattle.sf_run.specs.Verify.{IsVerify, VerifyComes, verify_files}
use Rattle.sf_run.proofs.Asked.{backtrace_inputs, named_inputs}
use Rattle.sf_run.proofs.OneLinked.{one_backtrace, one_link, one_plt_link, one_verified, some_objects}
use Rattle.sf_run.proofs.SomeLinked.{some_backtrace, some_linked}
use Rattle.sf_run.proofs.SomePlt.{some_plt}
use Rattle.sf_run.proofs.SomeVerified.{some_verified}

pub link_comes_to_one : (link : SectionAndInputs) → ComesToOne (λ words. IsLink words link) (link_files link) (λ items coming. LinkComes link items coming)
link_comes_to_one link = record {
  one = λ asked items count c d p q.
      let some = named_inputs (codes "link") asked.0 link asked.1 in
      one_link None (objects_in link.inputs items) link.section.at section_and_report c d (some_objects link.inputs items some count) p q;
  some = λ asked items count bytes. some_linked None (objects_in link.inputs items) link.section.at section_and_report;
}

pub link_plt_comes_to_one : (link : SectionAndInputs) → ComesToOne (λ words. IsLinkPlt words link) (link_files link) (λ items coming. LinkPltComes link items coming)
link_plt_comes_to_one link = record {
  one = λ asked items count c d p q.
      let some = named_inputs (codes "linkplt") asked.0 link asked.1 in
      one_plt_link (objects_in link.inputs items) link.section.at c d (some_objects link.inputs items some count) p q;
  some = λ asked items count bytes. some_plt (objects_in link.inputs items) link.section.at;
}

pub verify_comes_to_one : (verify : SectionAndInputs) → ComesToOne (λ words. IsVerify words verify) (verify_files verify) (λ items coming. VerifyComes verify items coming)
verify_comes_to_one verify = record {
  one = λ asked items count c d p q.
      one_verified verify.section.at (get_or items 0 []) (objects_in verify.inputs (drop 1 items)) (section_check (get_or items 0 []) verify.section.at) c d p q;
  some = λ asked items count bytes.
      let some : 0 < length items = subst (λ (n : ℕ). 0 < n) (sym count) (omega arith) in
      some_verified verify.section.at (get_or items 0 []) (objects_in verify.inputs (drop 1 items)) (bytes_at items 0 bytes some) (section_check (get_or items 0 []) verify.section.at) refl;
}

-- the items after the first
behind_first : (items : List (List ℕ)) (n : ℕ) → length items ≡ suc n → length (drop 1 items) ≡ n
behind_first [] n h = let none : ⊥ = omega (arith, h) in absurd none
behind_first (i ∷ is) n h = omega (arith, h)

pub backtrace_comes_to_one : (backtrace : BacktraceWords) → ComesToOne (λ words. IsBacktrace words backtrace) (backtrace_files backtrace) (λ items coming. BacktraceComes backtrace items coming)
backtrace_comes_to_one backtrace = record {
  one = λ asked items count c d p q.
      let some = backtrace_inputs asked.0 backtrace asked.1 in
      let later = behind_first items (length (map InputItem backtrace.inputs)) count in
      one_backtrace (objects_in backtrace.inputs (drop 1 items)) backtrace.out.at (get_or items 0 []) backtrace.depth (core_check (get_or items 0 [])) c d
      (some_objects backtrace.inputs (drop 1 items) some later) p q;
  some = λ asked items count bytes. some_backtrace _ backtrace.out.at (get_or items 0 []) backtrace.depth (core_check (get_or items 0 []));
}

pub gen_comes_to_one : (n : ℕ) → ComesToOne (λ words. IsGen words n) gen_files (λ items coming. GenComes n coming)
gen_comes_to_one n = record {
  one = λ asked items count c d p q. one_link None (made_object n ∷ []) 0x4000000 (summary_alone n) c d (omega arith) p q;
  some = λ asked items count bytes. some_linked None (made_object n ∷ []) 0x4000000 (summary_alone n);
}
