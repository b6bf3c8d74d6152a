-- Contents that are equal, with equal keys where they are signed, are those that recover alike.
use Rattle.std.specs.Prelude.{◌&&◌, ◌||◌, not, IsTrue}
use Rattle.std.proofs.Common.{◌≡◌, Bool, true, false, List, [], Some, refl, ap, ◌∙◌, rules}
use Rattle.std.proofs.lemmas.Bool.{and_parts}
use Rattle.sf_model.specs.declared.machine.Arch.{Arch}
use Rattle.sf_model.specs.declared.machine.Key.{Key}
use Rattle.sf_model.specs.declared.machine.Key.TheVariants.{A, B}
use Rattle.sf_model.specs.declared.content.Content.{Content}
use Rattle.sf_model.specs.declared.recovery.Regs.{Regs}
use Rattle.sf_model.specs.Memory.{Region}
use Rattle.sf_model.specs.Recovery.{deciding_registers, key_if_signed, recovery}
use Rattle.sf_model.proofs.Recoveries.{same_contents}
use Rattle.sf_express.specs.Expressed.{same_content}
use Rattle.sf_express.proofs.Same.{content_same}
use Rattle.sf_express.proofs.Changes.{content_itself}
use Rattle.sf_verify.specs.Agreement.{IsFitting, RecoverSameFrame, agree, same_key}
use Rattle.frame_functions.specs.declared.keyed_content.KeyedContent.{KeyedContent}

key_same : (j k : Key) → same_key j k ≡ true → j ≡ k
key_same A A e = refl
key_same A B e = cc
key_same B A e = cc
key_same B B e = refl

key_itself : (k : Key) → same_key k k ≡ true
key_itself A = refl
key_itself B = refl

signed_same : (signed : Bool) (j k : Key) → (not signed || same_key j k) ≡ true → key_if_signed signed j ≡ key_if_signed signed k
signed_same true j k e = ap (λ (x : Key). Some x) (key_same j k e)
signed_same false j k e = refl

-- one content with keys that are equal where it is signed recovers alike
one_content : (c : Content) (j k : Key) (regs : Regs) (memory : List Region) → key_if_signed c.signed j ≡ key_if_signed c.signed k → recovery c j regs memory ≡ recovery c k regs memory
unfolding recovery
one_content c j k regs memory e = rw e refl

pub alike : (s d : KeyedContent) → agree s d ≡ true → RecoverSameFrame s d
alike s d e =
    let parts = and_parts (same_content s.content d.content) (not s.content.signed || same_key s.key d.key) e in
    let same = content_same s.content d.content parts.0 in
    let keys = signed_same s.content.signed s.key d.key parts.1 in
    λ regs memory. one_content s.content s.key d.key regs memory keys ∙ ap (λ (c : Content). recovery c d.key regs memory) same

tested : (c d : Content) (j k : Key) → c ≡ d → (IsTrue c.signed → j ≡ k) → (same_content c d && (not c.signed || same_key j k)) ≡ true
tested c d j k same keys = rw (← same, content_itself c) (by_sign c.signed keys)
  where
    by_sign : (b : Bool) → (IsTrue b → j ≡ k) → (not b || same_key j k) ≡ true
    by_sign true keys = let one : j ≡ k = keys (search rules) in rw one (key_itself k)
    by_sign false keys = refl

-- and it is exact for what fits
pub says_agree : (arch : Arch) (s d : KeyedContent) → IsFitting arch s → IsFitting arch d → RecoverSameFrame s d → agree s d ≡ true
says_agree arch s d f g e =
    let same = same_contents arch s.content d.content s.key d.key f.in_range g.in_range f.fits g.fits (e deciding_registers []) in
    tested s.content d.content s.key d.key same.0 same.1
