-- What is known of a line of the options or the format before it has ended.
use Rattle.std.specs.Prelude.{ℕ, suc, ◌-◌, ◌≤◌, false, List, length, drop, fold, Option, None, Some}
use Rattle.tbl_format.specs.Format.{Format, columns_of_keys, format_read, has_some, no_format}
use Rattle.tbl_format.specs.KeyCounts.{IsCount}
use Rattle.tbl_options.specs.Options.{bracketed, options_end}
use Rattle.tbl_table.specs.declared.begun.Begun.{Begun}
use Rattle.tbl_table.specs.declared.begun.Begun.TheVariants.{Front, Keys, Nothing}
use Rattle.tbl_format.specs.declared.key_count.KeyCount.{KeyCount}
use Rattle.tbl_data.specs.declared.phase.Phase.{Phase}
use Rattle.tbl_data.specs.declared.phase.Phase.TheVariants.{AtHead, Bad, InData, InFormat}

-- what counts of a format's keys
abbrev pub count_of : Format → KeyCount
count_of f = record {
  place = f.place;
  is_further = has_some f.earlier;
  has_row = has_some f.rows;
  row = columns_of_keys f.row;
  bars = f.bars;
  columns = length f.asked;
}

-- of the first line, by where its options end
abbrev pub head_begun : Option ℕ → List ℕ → Begun
head_begun None line = Front (fold bracketed false line)
head_begun (Some end) line = Keys (suc end) (count_of (format_read no_format (drop (suc end) line)))

-- by what is read, of the format so far and the bytes of the line
abbrev pub begun_in : Phase → Format → List ℕ → Begun
begun_in AtHead f line = head_begun (options_end line) line
begun_in InFormat f line = Keys 0 (count_of (format_read f line))
begun_in InData f line = Nothing
begun_in Bad f line = Nothing

-- of so many bytes of the line the keys have a part, and there are at most so many columns
pub record KeysWithin (most len start : ℕ) (count : KeyCount) : Type 0 where
  pub starts : start ≤ len
  pub is : IsCount (len - start) count
  pub few : count.columns ≤ most

abbrev pub FewKeys : ℕ → ℕ → Begun → Type 0
FewKeys most len (Front inside) = Unit {0}
FewKeys most len (Keys start count) = KeysWithin most len start count
FewKeys most len Nothing = Unit {0}
