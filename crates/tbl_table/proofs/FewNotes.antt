-- How many messages a table may have, line by line.
use Rattle.std.proofs.Common.{◌≡◌, ℕ, suc, ◌+◌, ◌-◌, ◌≤◌, Bool, true, false, List, [], ◌∷◌, ◌++◌, length, map, take, drop, Option, Some, None, refl, ap, arith, length-append, length-drop, if◌then◌else◌, length-take}
use Rattle.std.proofs.lemmas.List.{length-replicate}
use Rattle.input_source.specs.Bytes.{newline}
use Rattle.tbl_format.specs.Format.{Format, format_byte, format_read, if_letter, left_out_at, left_out_behind, letters_left_out}
use Rattle.tbl_options.specs.Notes.{ignored_message, told_at}
use Rattle.tbl_options.specs.Options.{ignored_options, options_end}
use Rattle.tbl_format.specs.declared.format.FormatPlace.{FormatPlace}
use Rattle.tbl_format.specs.declared.format.FormatPlace.TheVariants.{AtEnd, AtFault, InRows}
use Rattle.tbl_options.specs.declared.message.Message.TheVariants.{BadFormat, EntryCut, LeftOut}
use Rattle.tbl_options.specs.declared.message.Told.{Told}
use Rattle.tbl_layout.specs.Texts.{texts_of}
use Rattle.tbl_lines.specs.CutEntries.{cut_entries}
use Rattle.tbl_lines.proofs.CutEntries.{cut-few}
use Rattle.tbl_kept.specs.Joined.{Joined, behind_joined, ends_joined, goes_on}
use Rattle.tbl_data.specs.DataRead.{closed_block, whole_line, with_pending}
use Rattle.tbl_table.specs.MayTell.{fault_may_come, line_may_tell, may_cut, may_tell}
use Rattle.tbl_table.specs.Table.{behind_format, body_filled, closed, closed_line, cut_told, ended, ended_in, format_line, head_line, left_out_notes, line_in, line_read, notes, sheet_of, told_at_cut, with_options}
use Rattle.tbl_data.specs.TableRead.{RowBegun, TableRead, no_lines, with_notes}
use Rattle.tbl_data.specs.declared.phase.Phase.{Phase}
use Rattle.tbl_data.specs.declared.phase.Phase.TheVariants.{AtHead, Bad, InData, InFormat}
use Rattle.tbl_table.proofs.IgnoredOptions.{ignored-most}
use Rattle.tbl_table.proofs.FewFields.{whole_most, whole_pending}
use Rattle.tbl_table.proofs.FewTexts.{joined-len, joined-less, texts-filled, texts_closed}

-- a fault alone at first
pub one_at_first : may_tell no_lines ≡ 1
unfolding may_tell no_lines
one_at_first = refl

one-more : (ts : List Told) (t : Told) → length (ts ++ t ∷ []) ≡ length ts + 1
one-more ts t = length-append ts (t ∷ [])

-- of letters that are left out there are no more than bytes
letter-few : (letter : Option ℕ) → length (if_letter letter) ≤ 1
letter-few None = omega arith
letter-few (Some letter) = omega arith

letters-few : (front : List ℕ) (f : Format) (bytes : List ℕ) → length (left_out_behind front f bytes) ≤ length bytes
letters-few front f [] = omega arith
letters-few front f (b ∷ bytes) =
    let here = if_letter (left_out_at f.place front b) in
    let further = left_out_behind (front ++ b ∷ []) (format_byte front f b) bytes in
    omega (arith, letter-few (left_out_at f.place front b), letters-few (front ++ b ∷ []) (format_byte front f b) bytes, length-append here further)

letters-told : (n : ℕ) (letters : List ℕ) → length (map (λ (letter : ℕ). told_at n (LeftOut letter)) letters) ≡ length letters
letters-told n [] = refl
letters-told n (letter ∷ letters) = ap (λ (k : ℕ). suc k) (letters-told n letters)

-- options that are ignored
ignored-told : (n : ℕ) (words : List (List ℕ)) → length (map (λ (word : List ℕ). told_at n (ignored_message word)) words) ≡ length words
ignored-told n [] = refl
ignored-told n (word ∷ words) = ap (λ (k : ℕ). suc k) (ignored-told n words)

-- what may be told of a table where there is no fault yet
abbrev may-tell-yet : TableRead → ℕ
may-tell-yet t = length t.notes + line_may_tell t.pending + 1

fault-few : (phase : Phase) → fault_may_come phase ≤ 1
fault-few AtHead = omega arith
fault-few InFormat = omega arith
fault-few InData = omega arith
fault-few Bad = omega arith

-- behind a line of the format
place-few : (place : FormatPlace) (n : ℕ) (t : TableRead) → may_tell (behind_format place n t) ≤ may-tell-yet t
unfolding may_tell
place-few (InRows part) n t = omega arith
place-few AtEnd n t = omega arith
place-few AtFault n t = omega (arith, one-more t.notes (told_at n BadFormat))

format-few : (n : ℕ) (line : List ℕ) (t : TableRead) → may_tell (format_line n line t) ≤ may-tell-yet t + length line + 1
format-few n line t =
    let whole = line ++ newline ∷ [] in
    let told = left_out_notes n t.format whole in
    let f = format_read t.format whole in
    omega (arith, place-few f.place n (record (with_notes told t) { format = f }), length-append t.notes told, letters-told n (letters_left_out t.format whole), letters-few [] t.format whole, length-append line (newline ∷ []))

-- and of options
options-few : (n : ℕ) (text line : List ℕ) (t : TableRead)
    → may_tell (format_line n line (with_options n text t)) ≤ may-tell-yet t + length text + length line + 1
unfolding may_tell
options-few n text line t =
    let told = map (λ (word : List ℕ). told_at n (ignored_message word)) (ignored_options text) in
    omega (arith, format-few n line (with_options n text t), length-append t.notes told, ignored-told n (ignored_options text), ignored-most text)

length-parts : (end : ℕ) (line : List ℕ) → length (take end line) + length (drop (suc end) line) ≤ length line
length-parts end line = omega (arith, length-take end line, length-drop (suc end) line)

head-few : (end : Option ℕ) (n : ℕ) (line : List ℕ) (t : TableRead) → may_tell (head_line end n line t) ≤ may-tell-yet t + length line + 1
head-few None n line t = format-few n line t
head-few (Some end) n line t =
    omega (arith, options-few n (take end line) (drop (suc end) line) t, length-parts end line)

-- and of the data
data-few : (on : Bool) (n : ℕ) (line : List ℕ) (t : TableRead)
    → may_tell (if on then with_pending n line t else whole_line (ends_joined t.pending) n (behind_joined t.pending line) t) ≤ may-tell-yet t + length line + 1
unfolding may_tell
data-few true n line t =
    omega (arith, joined-less t.pending (take (length line - 1) line), fault-few t.phase, length-take (length line - 1) line)
data-few false n line t =
    let done = whole_line (ends_joined t.pending) n (behind_joined t.pending line) t in
    let none = ap line_may_tell (whole_pending (ends_joined t.pending) n (behind_joined t.pending line) t) in
    omega (arith, whole_most (ends_joined t.pending) n (behind_joined t.pending line) t, none, fault-few done.phase, joined-len t.pending line)

yet-now : (phase : Phase) (t : TableRead) → t.phase ≡ phase → fault_may_come phase ≡ 1 → may-tell-yet t ≡ may_tell t
unfolding may_tell
yet-now phase t is one = omega (arith, ap fault_may_come is, one)

line-few : (phase : Phase) (n : ℕ) (line : List ℕ) (t : TableRead) → t.phase ≡ phase → may_tell (line_in phase n line t) ≤ may_tell t + length line + 1
line-few AtHead n line t is = omega (arith, head-few (options_end line) n line t, yet-now AtHead t is refl)
line-few InFormat n line t is = omega (arith, format-few n line t, yet-now InFormat t is refl)
line-few InData n line t is = omega (arith, data-few (goes_on line) n line t, yet-now InData t is refl)
line-few Bad n line t is = omega arith

-- at most one more for each byte of a line, and one for its newline
pub few_behind_line : (line : ℕ) (bytes : List ℕ) (t : TableRead) → may_tell (line_read line bytes t) ≤ may_tell t + length bytes + 1
unfolding line_read
few_behind_line line bytes t = line-few t.phase line bytes t refl

-- no more where it is closed
closed-few : (pending : Option Joined) (t : TableRead) → length (closed_line pending t).notes ≤ length t.notes + line_may_tell pending
closed-few None t = omega arith
closed-few (Some j) t = omega (arith, whole_most j.ends 0 j.bytes t)

block-same : (begun : Option RowBegun) (t : TableRead) → length (closed_block begun t).notes ≡ length t.notes
block-same None t = refl
block-same (Some row) t = refl

pub few_closed : (t : TableRead) → length (notes (closed t)) ≤ may_tell t
unfolding notes closed may_tell
few_closed t =
    let whole = closed_line t.pending t in
    omega (arith, closed-few t.pending t, block-same whole.begun whole)

ended-most : (phase : Phase) (n line_length : ℕ) (t : TableRead) → length (ended_in phase n line_length t).notes ≤ length t.notes + texts_of t.body + 1
ended-most AtHead n line_length t = omega (arith, one-more t.notes (told_at n BadFormat))
ended-most InFormat n line_length t = omega (arith, one-more t.notes (told_at n BadFormat))
ended-most InData n line_length t =
    let sheet = sheet_of line_length t in
    let body = body_filled line_length t in
    let same = texts-filled sheet.bars line_length t.format.asked t.body in
    omega (arith, length-append t.notes (cut_told n line_length t), length-replicate (cut_entries sheet body) (told_at n EntryCut), cut-few sheet body, same)
ended-most Bad n line_length t = omega arith

-- one more at most at its end, and one for each text
pub few_at_end : (line line_length : ℕ) (t : TableRead) → length (notes (ended line line_length t)) ≤ may_tell t + may_cut t + 1
unfolding notes ended closed
few_at_end line line_length t =
    let whole = closed_line t.pending t in
    let done = closed_block whole.begun whole in
    omega (arith, ended-most done.phase line line_length done, few_closed t, texts_closed t)

-- no more where it is cut
pub few_at_cut : (t : TableRead) → length (told_at_cut t) ≤ may_tell t
unfolding told_at_cut notes may_tell
few_at_cut t = omega arith
