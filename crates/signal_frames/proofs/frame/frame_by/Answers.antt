use Rattle.std.proofs.Common.{◌≡◌, None, Some, w64, FitsSigned, refl}
use Rattle.std.proofs.lemmas.Int.{to_z-of_z}
use Rattle.signal_frames.proofs.Frames.{saved_fits, value_fits}
use Rattle.signal_frames.proofs.frame.frame_by.Goals as goal

pub returns-in_err-frame_address-clause-only : goal.returns-in_err-frame_address-clause-only
returns-in_err-frame_address-clause-only c = λ f h. absurd (let no : None ≡ Some f.frame_address = c.in_err-frame_address.ensures.only f.frame_address h.frame_address in cc)

pub returns-in_err-return_address-clause-only : goal.returns-in_err-return_address-clause-only
returns-in_err-return_address-clause-only c = λ f h. absurd (let no : None ≡ Some f.return_address = c.in_err-return_address.ensures.only f.return_address h.return_address in cc)

pub returns-in_err-frame_pointer-clause-only : goal.returns-in_err-frame_pointer-clause-only
returns-in_err-frame_pointer-clause-only c = λ f h. absurd (let no : None ≡ Some f.frame_pointer = c.in_err-frame_pointer.ensures.only f.frame_pointer h.frame_pointer in cc)

pub returns-clause-only : goal.returns-clause-only
returns-clause-only c = λ f h.
    let a : Some c.in_ok-frame_address.frame_address ≡ Some f.frame_address = c.in_ok-frame_address.ensures.only f.frame_address h.frame_address in
    let b : Some c.in_ok-return_address.return_address ≡ Some f.return_address = c.in_ok-return_address.ensures.only f.return_address h.return_address in
    let d : Some c.in_ok-frame_pointer.frame_pointer ≡ Some f.frame_pointer = c.in_ok-frame_pointer.ensures.only f.frame_pointer h.frame_pointer in
    let same_a : c.in_ok-frame_address.frame_address ≡ f.frame_address = cc in
    let same_b : c.in_ok-return_address.return_address ≡ f.return_address = cc in
    let same_d : c.in_ok-frame_pointer.frame_pointer ≡ f.frame_pointer = cc in
    let fits_a : FitsSigned w64 f.frame_address = value_fits f.frame_address _ h.frame_address in
    let fits_b : FitsSigned w64 f.return_address = saved_fits f.return_address _ h.return_address in
    let fits_d : FitsSigned w64 f.frame_pointer = saved_fits f.frame_pointer _ h.frame_pointer in
    rw (same_a, same_b, same_d) (simp to_z-of_z refl)
