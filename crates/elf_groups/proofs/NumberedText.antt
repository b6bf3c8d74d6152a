-- Texts of whole blocks at the places of a file.
use Rattle.std.proofs.Common.{◌≡◌, ℕ, ◌+◌, ◌-◌, ◌*◌, ◌/◌, ◌%◌, ◌<◌, ◌≤◌, List, length, take, drop, sym, ap, ◌∙◌, arith}
use Rattle.std.proofs.lemmas.List.{drop-drop, drop-take, length-drop}
use Rattle.elf_read.specs.Number.{window, LiesAt}
use Rattle.elf_groups.specs.declared.text_numbers.TextNumbers.{TextNumbers}
use Rattle.elf_groups.specs.declared.file_strings.FileStrings.{FileStrings}
use Rattle.elf_groups.specs.declared.file_strings.NumberedText.{NumberedText}
use Rattle.elf_groups.specs.TextNumbers.{AreBlocks, KeepsNumbers, IsOfBlocks, Numbers}
use Rattle.elf_groups.specs.SeenSignatures.{AreKnown, IsKnown}
use Rattle.elf_groups.proofs.WholeBlocks.{numbered_is_whole}

numbers_same : (blocks : TextNumbers) (n : ℕ) (xs ys : List ℕ) → Numbers blocks n xs → xs ≡ ys → Numbers blocks n ys
numbers_same blocks n xs ys numbers same = record { below = numbers.below; text = numbers.text ∙ same }

-- the text without bytes
pub none_known : (file : List ℕ) (blocks : TextNumbers) (end : ℕ) → IsKnown file blocks (record { place = end; end = end; number = 0 })
unfolding IsKnown
none_known file blocks end =
    let nothing : end - end ≡ 0 = omega arith in
    record {
      below = omega arith;
      text = sym (ap (λ (n : ℕ). take n (drop end file)) nothing);
    }

-- what is left of a text of a file
end_of : (file text : List ℕ) (place from : ℕ) → LiesAt place text file → from ≤ length text → drop from text ≡ window (place + from) (length text - from) file
end_of file text place from stands upto =
    let all : length text ≡ from + (length text - from) = omega (arith, upto) in
    ap (drop from) (stands ∙ ap (λ (n : ℕ). take n (drop place file)) all)
    ∙ drop-take from (length text - from) (drop place file)
    ∙ ap (take (length text - from)) (drop-drop from place file)

windows : (file : List ℕ) (p q m n : ℕ) → p ≡ q → m ≡ n → window p m file ≡ window q n file
windows file p q m n at as_long = ap (λ (k : ℕ). window k m file) at ∙ ap (λ (k : ℕ). window q k file) as_long

-- and what follows the bytes before its blocks
pub blocks_stand : (file text front whole : List ℕ) (place : ℕ) → LiesAt place text file → length front ≡ length text % 256 → whole ≡ drop (length text % 256) text → LiesAt (place + length front) whole file
blocks_stand file text front whole place stands before behind =
    let upto : length text % 256 ≤ length text = omega arith in
    let len : length whole ≡ length text - length text % 256 = ap length behind ∙ length-drop (length text % 256) text in
    behind ∙ end_of file text place (length text % 256) stands upto ∙ windows file (place + length text % 256) (place + length front) (length text - length text % 256) (length whole) (omega (arith, before)) (sym len)

-- a known end of a text
pub known_end : (file text : List ℕ) (blocks : TextNumbers) (known : NumberedText) (place left : ℕ) → IsKnown file blocks known → LiesAt place text file → known.end ≡ place + length text → place ≤ known.place → known.place ≤ place + length text → left ≡ known.place - place
    → Numbers blocks known.number (drop left text)
unfolding IsKnown
known_end file text blocks known place left is stands end from upto back =
    numbers_same blocks known.number (window known.place (known.end - known.place) file) (drop left text) is
    (windows file known.place (place + left) (known.end - known.place) (length text - left) (omega (arith, from, back)) (omega (arith, end, from, upto, back))
    ∙ sym (end_of file text place left stands (omega (arith, upto, back))))

-- what follows a block
pub next_end : (blocks : TextNumbers) (text rest : List ℕ) (n left index start : ℕ) → Numbers blocks n (drop (left - index * 256) text) → index < left / 256 → start ≡ left - 256 - index * 256 → rest ≡ drop start text → Numbers blocks n (drop 256 rest)
next_end blocks text rest n left index start numbers below at is =
    let from : left - index * 256 ≡ start + 256 = omega (arith, below, at) in
    numbers_same blocks n (drop (left - index * 256) text) (drop 256 rest) numbers
    (ap (λ (k : ℕ). drop k text) from ∙ sym (ap (drop 256) is ∙ drop-drop 256 start text))

pub one_end_more : (blocks : TextNumbers) (text rest : List ℕ) (n left index start : ℕ) → Numbers blocks n rest → start ≡ left - 256 - index * 256 → rest ≡ drop start text → Numbers blocks n (drop (left - (index + 1) * 256) text)
one_end_more blocks text rest n left index start numbers at is =
    let from : start ≡ left - (index + 1) * 256 = omega (arith, at) in
    numbers_same blocks n rest (drop (left - (index + 1) * 256) text) numbers (is ∙ ap (λ (k : ℕ). drop k text) from)

pub is_known : (file text rest : List ℕ) (blocks : TextNumbers) (place start at end n : ℕ) → Numbers blocks n rest → rest ≡ drop start text → LiesAt place text file → start ≤ length text → at ≡ place + start → end ≡ place + length text
    → IsKnown file blocks (record { place = at; end = end; number = n })
unfolding IsKnown
is_known file text rest blocks place start at end n numbers is stands upto from all =
    numbers_same blocks n rest (window at (end - at) file) numbers
    (is ∙ end_of file text place start stands upto ∙ windows file (place + start) at (length text - start) (end - at) (sym from) (omega (arith, from, all, upto)))

pub still_known : (file : List ℕ) (old new : TextNumbers) (known : NumberedText) → KeepsNumbers old new → IsKnown file old known → IsKnown file new known
unfolding IsKnown
still_known file old new known grows is = grows known.number (window known.place (known.end - known.place) file) is

pub all_still_known : (file : List ℕ) (old new : TextNumbers) (texts : FileStrings) → KeepsNumbers old new → AreKnown file old texts → AreKnown file new texts
all_still_known file old new texts grows each k d low = still_known file old new _ grows (each k d low)

-- the whole text, once no block is left
pub all_numbered : (old new : TextNumbers) (text : List ℕ) (n m left index : ℕ) → AreBlocks old → Numbers old n (drop left text) → IsOfBlocks text → left ≤ length text → left / 256 ≤ index → Numbers new m (drop (left - index * 256) text) → Numbers new m text
all_numbered old new text n m left index blocks first whole upto past numbers =
    let end : IsOfBlocks (drop left text) = numbered_is_whole old n (drop left text) blocks first in
    let len : length (drop left text) ≡ length text - left = length-drop left text in
    let count : length text ≡ whole.0 * 256 = whole.1 in
    let count_end : length (drop left text) ≡ end.0 * 256 = end.1 in
    let none : left - index * 256 ≡ 0 = omega (arith, len, count, count_end, upto, past) in
    numbers_same new m (drop (left - index * 256) text) text numbers (ap (λ (k : ℕ). drop k text) none)
