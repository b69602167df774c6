-- What is left out of a line of a format, byte by byte.
use Rattle.std.proofs.Common.{◌≡◌, ℕ, ◌+◌, ◌<◌, ◌≤◌, Bool, true, false, List, [], ◌∷◌, ◌++◌, Option, Some, None, length, map, take, drop, get_or, refl, sym, ap, ◌∙◌, arith, append_assoc, length-append, if◌then◌else◌}
use Rattle.std.proofs.lemmas.List.{at_drop_more, map-append, take_more}
use Rattle.input_source.specs.Bytes.{newline}
use Rattle.tbl_format.specs.Format.{Format, format_byte, format_read, if_letter, left_out, left_out_at, left_out_behind, letters_left_out}
use Rattle.tbl_format.specs.FormatSteps.{again, step, step_of, widening, width_of}
use Rattle.tbl_options.specs.Notes.{left_out_message, left_out_note, told_at, told_of_all}
use Rattle.tbl_format.specs.declared.format.FormatPlace.{FormatPlace}
use Rattle.tbl_format.specs.declared.format.FormatPlace.TheVariants.{AtEnd, AtFault, InRows}
use Rattle.tbl_format.specs.declared.format.RowPart.{RowPart}
use Rattle.tbl_format.specs.declared.format.RowPart.TheVariants.{AtFont, AtKeys, AtMacro, AtSize, AtWidth, BehindFont, BehindKey, BehindMacro, Brackets, InFont, InMacro, Number, Signed, Sized, WidthDigits}
use Rattle.tbl_format.specs.declared.format_step.FormatStep.{FormatStep}
use Rattle.tbl_options.specs.declared.message.Told.{Told}
use Rattle.tbl_options.specs.declared.notes.KeptNote.{KeptNote}
use Rattle.tbl_format.proofs.FormatReading.{read-more}

-- one byte more
pub letters-more : (line : ℕ) (f : Format) (bytes : List ℕ) (at : ℕ) (place : FormatPlace) (kept new all : List KeptNote) → at < length bytes
    → (format_read f (take at bytes)).place ≡ place
    → new ≡ kept ++ map (left_out_note line) (if_letter (left_out_at place (take at bytes) (get_or bytes at 0)))
    → kept ++ map (left_out_note line) (left_out_behind (take at bytes) (format_read f (take at bytes)) (drop at bytes)) ≡ all
    → new ++ map (left_out_note line) (left_out_behind (take (at + 1) bytes) (format_read f (take (at + 1) bytes)) (drop (at + 1) bytes)) ≡ all
letters-more line f bytes at place kept new all more place_is said so_far =
    let front = take at bytes in
    let g = format_read f front in
    let b = get_or bytes at 0 in
    let rest = drop (at + 1) bytes in
    let here = if_letter (left_out_at g.place front b) in
    let later = left_out_behind (front ++ b ∷ []) (format_byte front g b) rest in
    let next : left_out_behind (take (at + 1) bytes) (format_read f (take (at + 1) bytes)) rest ≡ later =
    ap (λ (h : Format). left_out_behind (take (at + 1) bytes) h rest) (read-more f bytes at more)
    ∙ ap (λ (xs : List ℕ). left_out_behind xs (format_byte front g b) rest) (take_more bytes at 0 more) in
    let split : left_out_behind front g (drop at bytes) ≡ here ++ later = at_drop_more (left_out_behind front g) bytes at 0 more in
    ap (λ (t : List KeptNote). t ++ map (left_out_note line) (left_out_behind (take (at + 1) bytes) (format_read f (take (at + 1) bytes)) rest))
    (said ∙ ap (λ (p : FormatPlace). kept ++ map (left_out_note line) (if_letter (left_out_at p front b))) (sym place_is))
    ∙ ap (λ (ls : List ℕ). (kept ++ map (left_out_note line) here) ++ map (left_out_note line) ls) next
    ∙ append_assoc kept (map (left_out_note line) here) (map (left_out_note line) later)
    ∙ ap (λ (t : List KeptNote). kept ++ t) (sym (map-append (left_out_note line) here later))
    ∙ ap (λ (ls : List ℕ). kept ++ map (left_out_note line) ls) (sym split)
    ∙ so_far

-- there are no more than bytes
letter-few : (letter : Option ℕ) → length (if_letter letter) ≤ 1
letter-few None = omega arith
letter-few (Some letter) = omega arith

behind-few : (front : List ℕ) (f : Format) (bytes : List ℕ) → length (left_out_behind front f bytes) ≤ length bytes
behind-few front f [] = omega arith
behind-few front f (b ∷ bytes) =
    let here = if_letter (left_out_at f.place front b) in
    let later = left_out_behind (front ++ b ∷ []) (format_byte front f b) bytes in
    omega (arith, letter-few (left_out_at f.place front b), behind-few (front ++ b ∷ []) (format_byte front f b) bytes, length-append here later)

pub letters-few : (f : Format) (line : List ℕ) → length (letters_left_out f line) ≤ length line
letters-few f line = behind-few [] f line

-- a newline leaves nothing out
newline-none : (u : Bool) (s : FormatStep) (front : List ℕ) → left_out s.does ≡ None
    → left_out (if u then (step BehindKey front newline).does else s.does) ≡ None
unfolding step
newline-none true s front none = refl
newline-none false s front none = none

width-none : (asked : Option ℕ) → left_out (widening again asked).does ≡ None
width-none None = refl
width-none (Some n) = refl

step-none : (part : RowPart) (front : List ℕ) → left_out (step_of part front newline).does ≡ None
step-none AtKeys front = refl
step-none BehindKey front = refl
step-none (Number n) front = refl
step-none AtWidth front = refl
step-none (WidthDigits from) front = width-none (width_of (drop from front))
step-none (Brackets from depth) front = refl
step-none AtFont front = refl
step-none BehindFont front = refl
step-none InFont front = refl
step-none (AtMacro letter) front = refl
step-none (BehindMacro letter) front = refl
step-none (InMacro letter) front = refl
step-none AtSize front = refl
step-none Signed front = refl
step-none Sized front = refl

place-none : (place : FormatPlace) (front : List ℕ) → left_out_at place front newline ≡ None
unfolding step
place-none (InRows part) front =
    let s = step_of part front newline in newline-none s.is_again s front (step-none part front)
place-none AtEnd front = refl
place-none AtFault front = refl

behind-newline : (front : List ℕ) (f : Format) (bytes : List ℕ) → left_out_behind front f (bytes ++ newline ∷ []) ≡ left_out_behind front f bytes
behind-newline front f [] = ap (λ (letter : Option ℕ). if_letter letter ++ []) (place-none f.place front)
behind-newline front f (b ∷ bytes) =
    ap (λ (ls : List ℕ). if_letter (left_out_at f.place front b) ++ ls) (behind-newline (front ++ b ∷ []) (format_byte front f b) bytes)

pub letters-newline : (f : Format) (line : List ℕ) → letters_left_out f (line ++ newline ∷ []) ≡ letters_left_out f line
letters-newline f line = behind-newline [] f line

-- what they tell
pub told-letters : (block : List ℕ) (line : ℕ) (letters : List ℕ)
    → told_of_all block (map (left_out_note line) letters) ≡ map (λ (letter : ℕ). told_at line (left_out_message letter)) letters
told-letters block line [] = refl
told-letters block line (letter ∷ letters) = ap (λ (ts : List Told). told_at line (left_out_message letter) ∷ ts) (told-letters block line letters)
