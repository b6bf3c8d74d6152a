-- A row of the default type, as one of the flexible type, recovers the same.
use Rattle.std.proofs.Common.{◌≡◌, ℕ, ℤ, Bool, true, false, IsTrue, List, Option, Some, None, refl}
use Rattle.sf_model.specs.declared.content.Content.{Content}
use Rattle.sf_model.specs.declared.content.Ra.{Ra}
use Rattle.sf_model.specs.declared.content.Ra.TheVariants.{Fixed, Link, At}
use Rattle.sf_model.specs.declared.machine.Arch.TheVariants.{Amd64}
use Rattle.sf_model.specs.declared.machine.Base.{Base}
use Rattle.sf_model.specs.declared.machine.Base.TheVariants.{Fp, Sp}
use Rattle.sf_model.specs.declared.machine.Key.{Key}
use Rattle.sf_model.specs.declared.recovery.Regs.{Regs}
use Rattle.sf_model.specs.Content.{content_fits}
use Rattle.sf_model.specs.Memory.{Region}
use Rattle.sf_model.specs.Recovery.{recovery}
use Rattle.sf3_model.specs.Flexible.{Registers, flexible_of, flexible_recovery}

abbrev content_of : Base → ℤ → Ra → Option ℤ → Bool → Content
content_of base cfa ra fp signed = record { base = base; cfa = cfa; ra = ra; fp = fp; signed = signed }

-- registers with the numbers 6 and 7
abbrev frame_registers : Registers → (lr : ℕ) → Regs
frame_registers registers lr = record { sp = registers 7; fp = registers 6; lr = lr }

by_parts : (base : Base) (cfa : ℤ) (ra : Ra) (fp : Option ℤ) (signed : Bool) (key : Key) (registers : Registers) (lr : ℕ) (memory : List Region) → IsTrue (content_fits Amd64 (content_of base cfa ra fp signed))
    → flexible_recovery (flexible_of (content_of base cfa ra fp signed)) registers memory ≡ Some (recovery (content_of base cfa ra fp signed) key (frame_registers registers lr) memory)
unfolding flexible_recovery recovery
by_parts Fp cfa Fixed None false key registers lr memory fits = refl
by_parts Sp cfa Fixed None false key registers lr memory fits = refl
by_parts Fp cfa Fixed (Some n) false key registers lr memory fits = refl
by_parts Sp cfa Fixed (Some n) false key registers lr memory fits = refl
by_parts base cfa Fixed fp true key registers lr memory fits = absurd (let no : false ≡ true = fits in cc)
by_parts base cfa Link fp signed key registers lr memory fits = absurd (let no : false ≡ true = fits in cc)
by_parts base cfa (At n) fp signed key registers lr memory fits = absurd (let no : false ≡ true = fits in cc)

pub flexible_alike : (content : Content) (key : Key) (registers : Registers) (lr : ℕ) (memory : List Region) → IsTrue (content_fits Amd64 content)
    → flexible_recovery (flexible_of content) registers memory ≡ Some (recovery content key (record { sp = registers 7; fp = registers 6; lr = lr }) memory)
flexible_alike content key registers lr memory fits = by_parts content.base content.cfa content.ra content.fp content.signed key registers lr memory fits
