-- What a call answers where a check finds a fault.
use Rattle.std.proofs.Common.{◌≡◌, Err}
use Rattle.sf_modules.specs.declared.fault.ModuleFault.{ModuleFault}
use Rattle.sf_modules.specs.declared.fault.ModuleFault.TheVariants.{NoFileNote, FileNote, Elf, NoSection, Segments, NotMapped, Mapping, Ambiguous, Build, Section, Unread, NoMemory}
use Rattle.sf_modules.specs.Fault.{Check, IsFaultOf}

pub answers_fault : (check : Check) (fault : ModuleFault) → check ≡ Err fault → IsFaultOf check fault
answers_fault check NoFileNote e = e
answers_fault check (FileNote place) e = e
answers_fault check (Elf fault) e = e
answers_fault check NoSection e = e
answers_fault check (Segments place) e = e
answers_fault check NotMapped e = e
answers_fault check Mapping e = e
answers_fault check Ambiguous e = e
answers_fault check Build e = e
answers_fault check (Section fault) e = e
answers_fault check (Unread address) e = tt
answers_fault check NoMemory e = tt

-- a call that fails by one check fails by another that has the same faults
pub fails_alike : (check other : Check) (fault : ModuleFault) → ((own : ModuleFault) → check ≡ Err own → other ≡ Err own) → IsFaultOf check fault → IsFaultOf other fault
fails_alike check other NoFileNote same h = same NoFileNote h
fails_alike check other (FileNote place) same h = same (FileNote place) h
fails_alike check other (Elf fault) same h = same (Elf fault) h
fails_alike check other NoSection same h = same NoSection h
fails_alike check other (Segments place) same h = same (Segments place) h
fails_alike check other NotMapped same h = same NotMapped h
fails_alike check other Mapping same h = same Mapping h
fails_alike check other Ambiguous same h = same Ambiguous h
fails_alike check other Build same h = same Build h
fails_alike check other (Section fault) same h = same (Section fault) h
fails_alike check other (Unread address) same h = tt
fails_alike check other NoMemory same h = tt
