-- The first line of a table.
use Rattle.std.proofs.Common.{◌≡◌, ℕ, suc, ◌+◌, ◌-◌, ◌<◌, ◌≤◌, false, List, [], ◌∷◌, ◌++◌, length, take, drop, fold, Option, Some, None, refl, sym, ap, subst, ◌∙◌, arith, append-nil, length-append, length-drop, IfSome, unwrap_or}
use Rattle.std.specs.List.{slice_range}
use Rattle.std.proofs.lemmas.List.{drop-append-le, take-append-le}
use Rattle.input_source.specs.Bytes.{newline}
use Rattle.tbl_data.specs.declared.phase.Phase.{Phase}
use Rattle.tbl_data.specs.declared.phase.Phase.TheVariants.{AtHead}
use Rattle.tbl_data.specs.declared.table_data.TableData.{TableData}
use Rattle.tbl_format.specs.Format.{Format, format_read, letters_left_out, no_format}
use Rattle.tbl_format.specs.FormatLaws.{Line}
use Rattle.tbl_options.specs.Options.{bracketed, options_end}
use Rattle.tbl_format.specs.declared.limits.TblLimits.{TblLimits}
use Rattle.tbl_format.proofs.FormatReading.{columns-read-most, keys-read as keys-read-most, line-stands}
use Rattle.tbl_format.proofs.LeftOut.{letters-few}
use Rattle.tbl_format.proofs.Parts.{slice_range-rest}
use Rattle.tbl_kept.specs.Joined.{Joined, behind_joined}
use Rattle.tbl_kept.specs.TableText.{KeptText, block_of, text_ended}
use Rattle.tbl_table.specs.Begun.{head_begun}
use Rattle.tbl_table.specs.Kept.{NothingRead, PartsFit, PhaseFits}
use Rattle.tbl_table.specs.Steps.{head_letters, letters_noted, with_keys}
use Rattle.tbl_table.specs.Table.{columns_of, head_columns}
use Rattle.tbl_table.specs.declared.begun.Begun.{Begun}
use Rattle.tbl_table.specs.declared.begun.Begun.TheVariants.{Front}
use Rattle.tbl_table.proofs.BegunLines.{columns-some, columns-whole, newline-goes_on}
use Rattle.tbl_table.proofs.FormatEnds.{format-ended, format-extends, rows-keyed}
use Rattle.tbl_table.proofs.FormatLines.{format-behind, untold-behind}
use Rattle.tbl_table.proofs.FormatTaken.{made}
use Rattle.tbl_table.proofs.TableFits.{IsCounted}

-- the columns of a first line with its newline
pub columns-head-none : (line : List ℕ) → options_end line ≡ None
    → head_columns (options_end (line ++ newline ∷ [])) (line ++ newline ∷ []) ≡ columns_of (format_read no_format (line ++ newline ∷ []))
columns-head-none line none =
    let inside = fold bracketed false line in
    let begun : Front inside ≡ head_begun (options_end line) line = ap (λ (e : Option ℕ). head_begun e line) (sym none) in
    sym (columns-whole line inside begun newline refl (newline-goes_on inside))

pub columns-head-some : (line : List ℕ) (end : ℕ) → options_end line ≡ Some end
    → head_columns (options_end (line ++ newline ∷ [])) (line ++ newline ∷ []) ≡ columns_of (format_read no_format (drop (suc end) line ++ newline ∷ []))
columns-head-some line end is = columns-some line newline end is

module _ {l : TblLimits} {phase : Phase} {begun : Begun} {text : KeptText} {d : TableData} (fits : PartsFit l phase begun text d) where
  -- before the first line
  pub at-head : phase ≡ AtHead → NothingRead text.settled text.pending d
  at-head is = subst (λ (p : Phase). PhaseFits p text.settled text.pending d) is fits.by_phase

pub keys-format : (number : ℕ) (keys : List ℕ) (d : TableData) → (with_keys number keys d).format.format ≡ format_read d.format.format keys
keys-format number keys d =
    format-behind (format_read d.format.format keys).place number (letters_noted number (letters_left_out d.format.format keys) d.notes) (format_read d.format.format keys) d

pub keys-untold : (number : ℕ) (keys : List ℕ) (d : TableData) → (with_keys number keys d).notes.to_tell ≡ d.notes.to_tell
keys-untold number keys d =
    untold-behind (format_read d.format.format keys).place number (letters_noted number (letters_left_out d.format.format keys) d.notes) (format_read d.format.format keys) d

-- what is counted of keys
pub keys-counted : {l : TblLimits} {len : ℕ} {f : Format} (line : List ℕ) → IsCounted l len f → length (format_read f (line ++ newline ∷ [])).asked ≤ l.columns
    → IsCounted l (len + length line + 1) (format_read f (line ++ newline ∷ []))
keys-counted {l} {len} {f} line counted columns =
    let keys = line ++ newline ∷ [] in
    let one = length-append line (newline ∷ []) in
    record {
      keys = omega (arith, keys-read-most [] f keys, counted.keys, one);
      asked = omega (arith, columns-read-most [] f keys, counted.asked, one);
      columns = columns;
      rows = rows-keyed f (format_read f keys) (format-extends f keys) counted.rows;
      ended = format-ended f keys counted.ended;
      stands = line-stands f line;
      made = Line f keys counted.made;
    }

-- the block of a first line alone
pub head-settled : (text : KeptText) → text.settled ≡ [] → text.pending ≡ None → (text_ended text).settled ≡ text.line ++ newline ∷ []
head-settled text empty none =
    ap (λ (xs : List ℕ). xs ++ (behind_joined text.pending text.line ++ newline ∷ [])) empty
    ∙ ap (λ (p : Option Joined). behind_joined p text.line ++ newline ∷ []) none

pub head-block : (text : KeptText) → text.settled ≡ [] → text.pending ≡ None → block_of (text_ended text) ≡ text.line ++ newline ∷ []
head-block text empty none = append-nil (text_ended text).settled ∙ head-settled text empty none

pub head-keys : (line block : List ℕ) (end : ℕ) → block ≡ line ++ newline ∷ [] → end < length line
    → slice_range block (end + 1) (length block) ≡ drop (suc end) line ++ newline ∷ []
head-keys line block end is within =
    let same : end + 1 ≡ suc end = omega arith in
    slice_range-rest block (end + 1)
    ∙ ap (λ (n : ℕ). drop n block) same
    ∙ ap (λ (xs : List ℕ). drop (suc end) xs) is
    ∙ drop-append-le (suc end) line (newline ∷ []) (omega (arith, within))

pub head-options : (line block : List ℕ) (end : ℕ) → block ≡ line ++ newline ∷ [] → end < length line → slice_range block 0 end ≡ take end line
head-options line block end is within =
    let same : end - 0 ≡ end = omega arith in
    ap (λ (n : ℕ). take n block) same ∙ ap (λ (xs : List ℕ). take end xs) is ∙ take-append-le end line (newline ∷ []) (omega (arith, within))

pub head-letters-bound : (end : Option ℕ) (f : Format) (line : List ℕ) → IfSome end (λ e. e < length line) → length (head_letters end f line) + unwrap_or end 0 ≤ length line
head-letters-bound None f line within = omega (arith, letters-few f line)
head-letters-bound (Some end) f line within =
    omega (arith, within, letters-few f (drop (suc end) line), length-drop (suc end) line)
