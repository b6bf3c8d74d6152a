-- A cache of what is found at addresses. Each entry that is used says what is found at its address.
use Rattle.std.specs.Prelude.{◌≡◌, ℕ, ℤ, pos, zero, Bool, true, false, IsTrue, List, Option, Some, None, is_some, unwrap_or}
use Rattle.std.specs.List.{All}
use Rattle.sf_model.specs.declared.machine.Base.{Base}
use Rattle.sf_model.specs.declared.machine.Base.TheVariants.{Fp, Sp}
use Rattle.sf_model.specs.Walk.{LookUp}
use Rattle.sample_walk.specs.declared.rule.Rule.{Rule}
use Rattle.sample_walk.specs.declared.modules.Located.{Located}
use Rattle.sample_walk.specs.declared.cache.CacheEntry.{CacheEntry}
use Rattle.sample_walk.specs.Step.{rules_by}

-- what is found at an address: the index of its module, and what its row says
abbrev pub located_by : LookUp → (index : ℕ → ℕ) → (address : ℕ) → Located
located_by look_up index address = record { index = index address; rule = rules_by look_up address }

-- Inside the crate: a register as a test, and back
abbrev pub is_fp : Base → Bool
is_fp Fp = true
is_fp Sp = false

abbrev pub base_from_test : (counts_from_fp : Bool) → Base
base_from_test true = Fp
base_from_test false = Sp

-- an offset that may be missing, by a test and a number
abbrev pub offset_if : (is : Bool) → ℤ → Option ℤ
offset_if true offset = Some offset
offset_if false offset = None

-- the rule that an entry has, if it has one
abbrev pub rule_if : (has_row : Bool) → CacheEntry → Option Rule
rule_if true entry = Some (record {
  base = base_from_test entry.counts_from_fp;
  cfa = entry.cfa_offset;
  ra = offset_if entry.ra_saved entry.ra_offset;
  fp = offset_if entry.fp_saved entry.fp_offset;
  signed = entry.signed;
})
rule_if false entry = None

-- what an entry says
abbrev pub entry_located : CacheEntry → Located
entry_located entry = record { index = entry.index; rule = rule_if entry.has_row entry }

-- Inside the crate: an entry without a row
abbrev pub entry_without : (address index : ℕ) → (is_used : Bool) → CacheEntry
entry_without address index is_used = record {
  address = address;
  index = index;
  cfa_offset = pos zero;
  ra_offset = pos zero;
  fp_offset = pos zero;
  is_used = is_used;
  has_row = false;
  counts_from_fp = false;
  ra_saved = false;
  fp_saved = false;
  signed = false;
}

-- Inside the crate: the entry of what is found at an address
abbrev pub cached : (address index : ℕ) → Option Rule → CacheEntry
cached address index None = entry_without address index true
cached address index (Some rule) = record {
  address = address;
  index = index;
  cfa_offset = rule.cfa;
  ra_offset = unwrap_or rule.ra (pos zero);
  fp_offset = unwrap_or rule.fp (pos zero);
  is_used = true;
  has_row = true;
  counts_from_fp = is_fp rule.base;
  ra_saved = is_some rule.ra;
  fp_saved = is_some rule.fp;
  signed = rule.signed;
}

-- each entry of a cache that is used says what is found at its address
abbrev pub AreRight : LookUp → (index : ℕ → ℕ) → List CacheEntry → Type 0
AreRight look_up index entries = All (λ (entry : CacheEntry). IsTrue entry.is_used → entry_located entry ≡ located_by look_up index entry.address) entries
