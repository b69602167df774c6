-- Messages that are kept, where the bytes of the table grow.
use Rattle.std.proofs.Common.{◌≡◌, ℕ, zero, suc, ◌≤◌, List, [], ◌∷◌, ◌++◌, length, map, replicate, refl, ap, ◌∙◌, arith}
use Rattle.std.proofs.lemmas.List.{map-append}
use Rattle.tbl_options.specs.Notes.{IsWithin, NotesWithin, cut_note, ignored_message, left_out_note, told_at, told_of, told_of_all}
use Rattle.tbl_options.specs.declared.message.Told.{Told}
use Rattle.tbl_options.specs.declared.message.Message.TheVariants.{EntryCut as EntryCutMessage, LeftOut as LeftOutMessage}
use Rattle.tbl_options.specs.declared.notes.Cause.{Cause}
use Rattle.tbl_options.specs.declared.notes.Cause.TheVariants.{BadFormat, EntryCut, LeftOut, NotMeasured, OptionIgnored, RequestInTextBlock, TooManyFields}
use Rattle.tbl_options.specs.declared.notes.KeptNote.{KeptNote}
use Rattle.tbl_format.proofs.LeftOut.{told-letters}
use Rattle.tbl_format.proofs.Parts.{slice_range-append}

-- options within a text are within a longer one
IsWithin-more : (len more : ℕ) (cause : Cause) → len ≤ more → IsWithin len cause → IsWithin more cause
IsWithin-more len more BadFormat le within = tt
IsWithin-more len more TooManyFields le within = tt
IsWithin-more len more (OptionIgnored from to) le within = (within.0, omega (arith, le, within.1))
IsWithin-more len more (LeftOut letter) le within = tt
IsWithin-more len more (NotMeasured b) le within = tt
IsWithin-more len more RequestInTextBlock le within = tt
IsWithin-more len more EntryCut le within = tt

pub NotesWithin-more : (len more : ℕ) (notes : List KeptNote) → len ≤ more → NotesWithin len notes → NotesWithin more notes
NotesWithin-more len more [] le within = tt
NotesWithin-more len more (note ∷ notes) le within =
    (IsWithin-more len more note.cause le within.0, NotesWithin-more len more notes le within.1)

pub NotesWithin-append : (len : ℕ) (notes : List KeptNote) (note : KeptNote) → IsWithin len note.cause → NotesWithin len notes
    → NotesWithin len (notes ++ note ∷ [])
NotesWithin-append len [] note is within = (is, tt)
NotesWithin-append len (n ∷ notes) note is within = (within.0, NotesWithin-append len notes note is within.1)

pub NotesWithin-letters : (len line : ℕ) (notes : List KeptNote) (letters : List ℕ) → NotesWithin len notes
    → NotesWithin len (notes ++ map (left_out_note line) letters)
NotesWithin-letters len line [] [] within = tt
NotesWithin-letters len line [] (letter ∷ letters) within = (tt, NotesWithin-letters len line [] letters tt)
NotesWithin-letters len line (n ∷ notes) letters within = (within.0, NotesWithin-letters len line notes letters within.1)

-- and say the same
told_of-longer : (block more : List ℕ) (line : ℕ) (cause : Cause) → IsWithin (length block) cause
    → told_of (block ++ more) (record { line = line; cause = cause }) ≡ told_of block (record { line = line; cause = cause })
told_of-longer block more line BadFormat within = refl
told_of-longer block more line TooManyFields within = refl
told_of-longer block more line (LeftOut letter) within = refl
told_of-longer block more line (NotMeasured b) within = refl
told_of-longer block more line RequestInTextBlock within = refl
told_of-longer block more line EntryCut within = refl
told_of-longer block more line (OptionIgnored from to) within =
    ap (λ (word : List ℕ). told_at line (ignored_message word)) (slice_range-append block more from to within.0 within.1)

pub told-longer : (block more : List ℕ) (notes : List KeptNote) → NotesWithin (length block) notes
    → told_of_all (block ++ more) notes ≡ told_of_all block notes
told-longer block more [] within = refl
told-longer block more (note ∷ notes) within =
    ap (λ t. t ∷ told_of_all (block ++ more) notes) (told_of-longer block more note.line note.cause within.0)
    ∙ ap (λ ts. told_of block note ∷ ts) (told-longer block more notes within.1)

-- one message more
pub told-more : (block : List ℕ) (notes : List KeptNote) (note : KeptNote) (said : List Told) → told_of_all block notes ≡ said
    → told_of_all block (notes ++ note ∷ []) ≡ said ++ told_of block note ∷ []
told-more block notes note said is =
    map-append (told_of block) notes (note ∷ []) ∙ ap (λ (ts : List Told). ts ++ told_of block note ∷ []) is

-- and those of what is left out of the format
abbrev pub told_of_letters : ℕ → List ℕ → List Told
told_of_letters n letters = map (λ (letter : ℕ). told_at n (LeftOutMessage letter)) letters

pub letters-said : (block : List ℕ) (notes : List KeptNote) (line : ℕ) (letters : List ℕ) (said : List Told) → told_of_all block notes ≡ said
    → told_of_all block (notes ++ map (left_out_note line) letters) ≡ said ++ told_of_letters line letters
letters-said block notes line letters said is =
    map-append (told_of block) notes (map (left_out_note line) letters)
    ∙ ap (λ (ts : List Told). told_of_all block notes ++ ts) (told-letters block line letters)
    ∙ ap (λ (ts : List Told). ts ++ told_of_letters line letters) is

-- and those of entries that are cut
cuts-within : (len line count : ℕ) → NotesWithin len (replicate count (cut_note line))
cuts-within len line zero = tt
cuts-within len line (suc count) = (tt, cuts-within len line count)

pub NotesWithin-cuts : (len line count : ℕ) (notes : List KeptNote) → NotesWithin len notes → NotesWithin len (notes ++ replicate count (cut_note line))
NotesWithin-cuts len line count [] within = cuts-within len line count
NotesWithin-cuts len line count (n ∷ notes) within = (within.0, NotesWithin-cuts len line count notes within.1)

told-cuts : (block : List ℕ) (line count : ℕ) → told_of_all block (replicate count (cut_note line)) ≡ replicate count (told_at line EntryCutMessage)
told-cuts block line zero = refl
told-cuts block line (suc count) = ap (λ (ts : List Told). told_at line EntryCutMessage ∷ ts) (told-cuts block line count)

pub cuts-said : (block : List ℕ) (notes : List KeptNote) (line count : ℕ)
    → told_of_all block (notes ++ replicate count (cut_note line)) ≡ told_of_all block notes ++ replicate count (told_at line EntryCutMessage)
cuts-said block notes line count =
    map-append (told_of block) notes (replicate count (cut_note line))
    ∙ ap (λ (ts : List Told). told_of_all block notes ++ ts) (told-cuts block line count)
