use Rattle.std.proofs.Common.{arith, refl}
use Rattle.frame_functions.specs.Descriptions.{described_function}
use Rattle.sf_verify.specs.Asking.{contents_of}
use Rattle.sf_verify.proofs.HolderContent.{lent_has, omitted_held}
use Rattle.sf_verify.proofs.dwarf_cursor.DwarfCursor.find_omitted.Goals as goal

pub hold_omitted-requires : goal.hold_omitted-requires
hold_omitted-requires c =
    let f = described_function c.get-description.result in
    let has = lent_has c.args.self.now.omitted.now.functions c.pass_omitted-self.result c.args.pc f (c.get-description.ensures f) (c.if-not-omitted_starts.ensures.starts f refl) (c.pass_omitted-self.ensures.after f (c.if-not-omitted_starts.ensures.within refl)) in
    let from = has.0 in
    let to = has.1 in
    omega (arith, from, to)

pub returns-clause-ready : goal.returns-clause-ready
returns-clause-ready c =
    let f = described_function c.get-description.result in
    record {
      holders = c.requires.holders;
      held = omitted_held c.args.self.now.arch (contents_of c.args.self.now) c.args.self.now.kept c.args.self.now.omitted.now.functions c.pass_omitted-self.result f c.in_ok-self.field-0
          c.requires.holders (c.if-not-omitted_starts.ensures.within refl) (c.get-description.ensures f) c.get-description.result.ends
          c.in_ok-self.ensures.start c.in_ok-self.ensures.size c.in_ok-self.ensures.key c.in_ok-self.ensures.ranges c.in_ok-self.ensures.says c.in_ok-self.ensures.fits;
      kept_passed = c.requires.kept_passed;
      omitted_passed = c.pass_omitted-self.ensures.passed;
    }

pub returns-clause-found : goal.returns-clause-found
returns-clause-found c =
    let f = described_function c.get-description.result in
    let has = lent_has c.args.self.now.omitted.now.functions c.pass_omitted-self.result c.args.pc f (c.get-description.ensures f) (c.if-not-omitted_starts.ensures.starts f refl) (c.pass_omitted-self.ensures.after f (c.if-not-omitted_starts.ensures.within refl)) in
    let from = has.0 in
    let to = has.1 in
    let start = c.in_ok-self.ensures.start in
    let size = c.in_ok-self.ensures.size in
    (omega (arith, from, start), omega (arith, to, start, size))
