-- What the rows of a function are: by rising start from 0 on, all below its size, so that there is no row exactly
-- where the size is 0. On AMD64 no return address is signed.
use Rattle.std.specs.Prelude.{◌≡◌, ◌+◌, ◌<◌, ◌≤◌, ℕ, Bool, true, not, List, [], ◌∷◌, length, IsTrue, All}
use Rattle.sf_model.specs.declared.machine.Arch.{Arch}
use Rattle.sf_model.specs.declared.machine.Arch.TheVariants.{Amd64, Aarch64}
use Rattle.cfa_machine.specs.declared.row.DwRow.{DwRow}

-- each start is at least the given one, and above the start before
abbrev pub RiseFrom : ℕ → List DwRow → Type 0
RiseFrom least [] = Unit {0}
RiseFrom least (r ∷ rows) = (least ≤ r.start) × RiseFrom (r.start + 1) rows

-- the first start is 0
abbrev pub BeginAtZero : List DwRow → Type 0
BeginAtZero [] = Unit {0}
BeginAtZero (r ∷ rows) = r.start ≡ 0

-- whether a return address may be signed: not on AMD64
abbrev pub sign_fits : Arch → Bool → Bool
sign_fits Amd64 signed = not signed
sign_fits Aarch64 signed = true

-- these can be the rows of a function of this size
pub record AreRows (arch : Arch) (size : ℕ) (rows : List DwRow) : Type 0 where
  pub some : 0 < size → 0 < length rows
  pub first : BeginAtZero rows
  pub rise : RiseFrom 0 rows
  pub below : All (λ (r : DwRow). r.start < size) rows
  pub signs : All (λ (r : DwRow). IsTrue (sign_fits arch r.signed)) rows
